use Rattle.std.proofs.Common.{◌≡◌, ℕ, ◌≤◌, true, sym, ◌∙◌, subst}
use Rattle.std.proofs.lemmas.Option.{same_Some}
use Rattle.nn_base.specs.declared.file_name.FileName.{FileName}
use Rattle.nn_ckpt.specs.Retention.{Goes}
use Rattle.nn_ckpt.proofs.retention.Retained.lets_go.Goals as goal

pub returns-in-Some : goal.returns-in-Some
returns-in-Some c = λ folder are. subst (λ (n : FileName). (c.ends_by.result ≡ true → Goes folder n) × (Goes folder n → c.ends_by.result ≡ true)) (sym c.in-Edits.is) (
  λ e. (c.in-Some.older, are.older c.in-Some.older c.in-Some.is, c.ends_by.ensures.0 e),
  λ goes. c.ends_by.ensures.1 (subst (λ (o : ℕ). c.in-Edits.span.1 ≤ o) (same_Some goes.0 c.in-Some.older (sym (are.is_older goes.0 goes.1) ∙ c.in-Some.is)) goes.2),
)
