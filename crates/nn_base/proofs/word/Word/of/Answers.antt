-- The word lies at the front of the array.
use Rattle.std.proofs.Common.{◌≡◌, true, IsTrue, sym, subst, leb-true}
use Rattle.nn_base.specs.Limits.{most_word}
use Rattle.nn_base.specs.Words.{is_word}
use Rattle.std.proofs.lemmas.Bool.{and_parts}
use Rattle.nn_base.proofs.PaddedLemmas.{copied, text_of_copied}
use Rattle.nn_base.proofs.word.Word.of.Goals as goal

pub invariant_of-result : goal.invariant_of-result
invariant_of-result c =
    let word : is_word c.args.bytes.now ≡ true = sym c.if-not-is_word.ensures in
    let fits = leb-true _ _ (and_parts _ _ (and_parts _ _ word).1).0 in (
      copied most_word c.args.bytes.now _ c.copy_from_slice.ensures.after fits,
      subst (λ text. IsTrue (is_word text)) (sym (text_of_copied c.args.bytes.now _ _ c.copy_from_slice.ensures.after)) word,
    )
