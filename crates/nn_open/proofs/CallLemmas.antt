-- The calls of a format on one directory: what it is at each moment of them, and once they returned.
use Rattle.std.proofs.Common.{◌≡◌, ◌⊎◌, inl, inr, ⊎_elim, ℕ, Result, refl, ◌∙◌, subst}
use Rattle.nn_host.specs.Disk.{Settle}
use Rattle.nn_host.specs.Moments.{State, disk_at}
use Rattle.nn_host.specs.Calls.{Called}
use Rattle.nn_host.specs.Runs.{OnlyAt}
use Rattle.nn_host.proofs.WorkLemmas.{work_once, work_trans, work_weaker}
use Rattle.nn_state.specs.Typed.{FitsFresh}
use Rattle.nn_marks.specs.declared.version.Version.{Version}
use Rattle.nn_tree.specs.Namespace.{Namespace, empty_namespace}
use Rattle.nn_remake.specs.Made.{FreshOrMade}
use Rattle.nn_open.specs.Formatted.{FreshOrNew}
use Rattle.nn_open.specs.Answers.{settled_disk}

-- settled, and looked at

pub settled : {T E told : Type 0} {i : ℕ} {a b : State} {result : Result T E} → Called told i Settle a b result → OnlyAt told i a b (λ d. (d ≡ disk_at a i) ⊎ (d ≡ settled_disk a i))
settled called = work_once called (λ tells. inl refl) (λ tells part made. inr made)

pub seen : {told : Type 0} {i : ℕ} {a b c : State} → OnlyAt told i a b (λ d. (d ≡ disk_at a i) ⊎ (d ≡ settled_disk a i)) → OnlyAt told i b c (λ d. d ≡ disk_at b i) → OnlyAt told i a c (λ d. (d ≡ disk_at a i) ⊎ (d ≡ settled_disk a i))
seen p q = work_trans p (work_weaker q (λ tells d same. ⊎_elim (λ before. inl (same ∙ before)) (λ after. inr (same ∙ after)) (p.ends tells)))

-- made

pub work_cleared : {told : Type 0} {i : ℕ} {version : Version} {a b : State} → OnlyAt told i a b FitsFresh → OnlyAt told i a b (FreshOrNew version)
work_cleared p = work_weaker p (λ tells d fresh. inl fresh)

-- with the empty namespace
pub work_made : {told : Type 0} {i : ℕ} {version : Version} {ns : Namespace} {a b c : State} → ns ≡ empty_namespace → OnlyAt told i a b FitsFresh → OnlyAt told i b c (FreshOrMade version 0 ns) → OnlyAt told i a c (FreshOrNew version)
work_made {told} {i} {version} {ns} {a} {b} {c} empty p q = work_trans (work_cleared p) (subst (λ (n : Namespace). OnlyAt told i b c (FreshOrMade version 0 n)) empty q)
