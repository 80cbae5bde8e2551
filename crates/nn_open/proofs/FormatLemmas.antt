-- A survey, and then the making of all directories.
use Rattle.std.proofs.Common.{◌≡◌, ◌⊎◌, inl, ⊎_elim, ℕ, ◌<◌, sym, ◌∙◌, ap, subst}
use Rattle.nn_host.specs.Disk.{Disk}
use Rattle.nn_host.specs.Moments.{State, IsLawful, disk_at}
use Rattle.nn_host.proofs.RunsLemmas.{throughout_trans, throughout_weaker}
use Rattle.nn_state.specs.Table.{seven_of, table_of}
use Rattle.nn_state.specs.Typed.{FitsFresh}
use Rattle.nn_marks.specs.declared.version.Version.{Version}
use Rattle.nn_state.proofs.LeftLemmas.{seven_left}
use Rattle.nn_open.specs.Answers.{settled_disk, AllFresh, EachFreshOrNew, EachAsBefore}
use Rattle.nn_open.proofs.StepLemmas.{seven_settled}

-- a directory that read as not formatted, as it was or settled
still_fresh : (a : State) → IsLawful a → AllFresh a → (j : ℕ) → j < a.count → (d : Disk) → (d ≡ disk_at a j) ⊎ (d ≡ settled_disk a j) → FitsFresh d
still_fresh a lawful fresh j below d is = ap table_of (same ∙ sym (seven_left (disk_at a j) (a.reads j) (lawful.reads j))) ∙ fresh j below
  where
    same : seven_of d ≡ seven_of (disk_at a j)
    same = ⊎_elim (λ before. ap (λ (x : Disk). seven_of x) before) (λ settled. ap (λ (x : Disk). seven_of x) settled ∙ seven_settled (disk_at a j) (a.reads j) (lawful.reads j)) is

module _ {told : Type 0} {a b : State} (lawful : told → IsLawful a) (run : EachAsBefore told a b) where
  pub surveyed_fresh : (version : Version) → AllFresh a → EachFreshOrNew told version a b
  surveyed_fresh version fresh = throughout_weaker run (λ tells m each. record { at = λ j below. inl (still_fresh a (lawful tells) fresh j below (m.dirs j).disk (each.at j)) })

  pub fresh_after : told → AllFresh a → (j : ℕ) → j < b.count → FitsFresh (disk_at b j)
  fresh_after tells fresh j below = still_fresh a (lawful tells) fresh j (subst (λ (n : ℕ). j < n) run.count below) (disk_at b j) ((run.ends tells).at j)

-- what no host that tells does
pub never : {told : Type 0} {a b : State} → b.count ≡ a.count → (told → ⊥) → EachAsBefore told a b
never same none = record { count = same; later = λ tells. absurd (none tells); ends = λ tells. absurd (none tells); each = λ tells t m le since. absurd (none tells) }

pub then_made : {told : Type 0} {a b c : State} {version : Version} → b.count ≡ a.count → EachFreshOrNew told version a b → EachFreshOrNew told version b c → EachFreshOrNew told version a c
then_made same p q = throughout_trans p (throughout_weaker q (λ tells m each. record { at = λ j below. each.at j (subst (λ (n : ℕ). j < n) (sym same) below) }))
