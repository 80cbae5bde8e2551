use Rattle.std.proofs.Common.{◌≡◌, ℕ, ◌<◌, ◌++◌, ◌∷◌, [], Some, sym, ◌∙◌, ap, subst, arith, rules}
use Rattle.std.proofs.lemmas.Option.{none-some, same_Some}
use Rattle.nn_base.specs.declared.file_name.FileName.TheVariants.{Image}
use Rattle.nn_ckpt.specs.Retention.{AreImagesOf}
use Rattle.nn_ckpt.proofs.RetentionLemmas.{newest_of, repeated_of, older_of}
use Rattle.nn_ckpt.proofs.retention.Retained.with.Goals as goal

pub returns-then-newest-id : goal.returns-then-newest-id
returns-then-newest-id c = λ names was.
    let less : c.in-Some.newest < c.args.id = search rules in
    newest_of names c.args.self was c.args.id (λ m e. let same = same_Some c.in-Some.newest m (sym c.in-Some.is ∙ e) in omega (arith, less, same))

pub returns-then-newest-id-2 : goal.returns-then-newest-id-2
returns-then-newest-id-2 c = λ names was.
    let same : c.in-Some.newest ≡ c.args.id = search rules in
    repeated_of names c.args.self was c.args.id (c.in-Some.is ∙ ap (λ (x : ℕ). Some x) same)

pub returns-else-newest-id-2 : goal.returns-else-newest-id-2
returns-else-newest-id-2 c = λ names was.
    let less : c.args.id < c.in-Some.newest = search rules in
    older_of names c.args.self was c.args.id c.in-Some.newest c.later.result c.in-Some.is less c.later.ensures.most c.later.ensures.either

pub returns-in-None : goal.returns-in-None
returns-in-None c = λ names was.
    subst (λ o. AreImagesOf (names ++ Image c.args.id ∷ []) (record { newest = Some c.args.id; older = o })) c.in-None.is (newest_of names c.args.self was c.args.id (λ m e. absurd (none-some m (sym c.in-None.is ∙ e))))
