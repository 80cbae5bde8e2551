use Rattle.std.proofs.Common.{◌≡◌, ◌≢◌, ℕ, ◌+◌, List, [], ◌∷◌, ◌++◌, length, true, sym, ap, subst, ◌∙◌, arith, ◌⊎◌, length-append}
use Rattle.std.specs.Prelude.{All, Err, bytes_eq}
use Rattle.nn_image.specs.declared.unmade.Unmade.TheVariants.{Tree}
use Rattle.std.specs.Borrow.{Bor}
use Rattle.std.specs.List.{IsDistinct, list_any}
use Rattle.std.proofs.lemmas.Option.{none-some, same_Some}
use Rattle.std.proofs.lemmas.List.Elements.{All-push}
use Rattle.nn_base.specs.Labels.{IsLabel}
use Rattle.nn_message.specs.Messages.{IsText}
use Rattle.nn_message.specs.Spelling.{delimited, string}
use Rattle.nn_message.specs.Views.{IsTextView}
use Rattle.nn_image.proofs.TakingLemmas.{takes_first, none_left, delimited_some, is_none, is_not_none}
use Rattle.nn_image.proofs.StringTableLemmas.{ToCome, none_yet, table_holds, refuses, comes_on, ends, stays_once}
use Rattle.nn_image.proofs.string_table.read_table.Goals as goal

nothing_twice : IsDistinct bytes_eq []
unfolding IsDistinct
nothing_twice = tt

pub texts-init : goal.texts-init
texts-init c = record {
  labels = subst (All IsLabel) (sym c.new-names.ensures) (λ k d within. absurd (omega arith));
  few = omega (arith, ap length c.new-names.ensures);
  once = subst (IsDistinct bytes_eq) (sym c.new-names.ensures) nothing_twice;
  to_come = λ entries all spelled. (entries, all, spelled, subst (λ names. ToCome names entries entries) (sym c.new-names.ensures) (none_yet entries));
}

pub returns-in_default-clause-tree : goal.returns-in_default-clause-tree
returns-in_default-clause-tree c = λ entries all spelled tree.
    let some = is_not_none c.texts.rest.now c.is_empty.result c.is_empty.ensures c.texts-test.true in
    let was = c.texts.invariant.to_come entries all spelled in
    let next = takes_first IsTextView IsText (λ t. delimited (string t)) was.0 c.take_string.result c.texts.rest.now c.take_string.new.rest.now was.1 was.2 some c.take_string.ensures in
    absurd (none-some _ (sym c.in_default.is ∙ next.is))

pub texts-preserved : goal.texts-preserved
texts-preserved c =
    let some = is_not_none c.texts.rest.now c.is_empty.result c.is_empty.ensures c.texts-test.true in
    let took = c.in-Some.ensures.some in
    let label : IsLabel c.in-Some.text.now = subst IsLabel (sym took.2.1) took.1.text in
    let added = c.in-Ok.ensures.added in
    record {
      labels = subst (All IsLabel) (sym added) (All-push IsLabel c.texts.names c.in-Some.text.now c.texts.invariant.labels label);
      few = omega (arith, c.texts.invariant.few, c.in-Some.ensures.shorter, ap length added, length-append c.texts.names (c.in-Some.text.now ∷ []));
      once = subst (IsDistinct bytes_eq) (sym added) (stays_once c.texts.names c.in-Some.text.now c.texts.invariant.once c.in-Ok.ensures.once);
      to_come = λ entries all spelled.
          let was = c.texts.invariant.to_come entries all spelled in
          let next = takes_first IsTextView IsText (λ t. delimited (string t)) was.0 c.take_string.result c.texts.rest.now c.take_string.new.rest.now was.1 was.2 some c.take_string.ensures in
          let shows = subst (λ (v : ℕ × Bor (List ℕ)). IsTextView v next.first) (same_Some _ _ (sym next.is ∙ c.in-Some.is)) next.shows in
          (next.rest, next.others, next.left, comes_on c.texts.names c.add_name.new.names entries was.0 next.first next.rest was.3 next.are (sym shows.0 ∙ c.in-Ok.ensures.number) (added ∙ ap (λ t. c.texts.names ++ t ∷ []) shows.1));
    }

pub returns-in-Err-clause-tree : goal.returns-in-Err-clause-tree
returns-in-Err-clause-tree c = λ entries all spelled tree.
    let some = is_not_none c.texts.rest.now c.is_empty.result c.is_empty.ensures c.texts-test.true in
    let was = c.texts.invariant.to_come entries all spelled in
    let next = takes_first IsTextView IsText (λ t. delimited (string t)) was.0 c.take_string.result c.texts.rest.now c.take_string.new.rest.now was.1 was.2 some c.take_string.ensures in
    let shows = subst (λ (v : ℕ × Bor (List ℕ)). IsTextView v next.first) (same_Some _ _ (sym next.is ∙ c.in-Some.is)) next.shows in
    let same : c.in-Err.unmade ≡ Tree = cc in
    refuses c.texts.names entries was.0 next.first next.rest was.3 next.are
    (subst (λ (t : List ℕ). (next.first.number ≢ length c.texts.names + 1) ⊎ (list_any (bytes_eq t) c.texts.names ≡ true)) shows.1
    (subst (λ (n : ℕ). (n ≢ length c.texts.names + 1) ⊎ (list_any (bytes_eq c.in-Some.text.now) c.texts.names ≡ true)) shows.0 (c.in-Err.ensures.tree (ap Err same))))

pub returns-clause-ok : goal.returns-clause-ok
returns-clause-ok c = λ entries all spelled.
    let was = c.texts.invariant.to_come entries all spelled in
    let none = is_none c.texts.rest.now c.is_empty.result c.is_empty.ensures c.texts-test.false in
    let end = none_left IsText (λ t. delimited (string t)) was.0 (λ t _. delimited_some (string t)) was.1 (sym (ap length was.2) ∙ none) in
    let ended = ends c.texts.names entries (subst (ToCome c.texts.names entries) end was.3) in
    (sym ended.0, table_holds entries ended.1 (subst (IsDistinct bytes_eq) (sym ended.0) c.texts.invariant.once))
