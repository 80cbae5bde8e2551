-- What a stop leaves of a directory while it is formatted, and once it is.
use Rattle.std.proofs.Common.{◌≡◌, inl, inr, ⊎_elim, ℕ, ◌<◌, None, Result, Ok, Err, OnOk, sym, ◌∙◌, ap, subst}
use Rattle.nn_base.specs.Limits.{program_layout}
use Rattle.nn_host.specs.Disk.{Disk, Reads, Leaves}
use Rattle.nn_host.specs.Moments.{Moment, State, IsLawful, Left, moment, disk_at}
use Rattle.nn_host.proofs.RunsLemmas.{throughout_refl}
use Rattle.nn_host.proofs.LeftLemmas.{each_since}
use Rattle.nn_state.specs.Table.{table_of}
use Rattle.nn_state.specs.Typed.{FitsFresh}
use Rattle.nn_marks.specs.declared.version.Version.{Version}
use Rattle.nn_tree.specs.Namespace.{empty_namespace}
pub use Rattle.nn_remake.proofs.LeftLemmas.{fresh_left}
use Rattle.nn_state.proofs.LeftLemmas.{seven_left}
use Rattle.nn_remake.proofs.LeftLemmas.{made_left}
use Rattle.nn_open.specs.Formatted.{IsFormatted, ReadsFormatted, FreshOrNew, LeftFreshOrNew}
use Rattle.nn_open.specs.Answers.{AllFresh, AllFormatted, EachFreshOrNew, StopsFreshOrOpen, first_unformattable}
use Rattle.nn_open.proofs.OpeningLemmas.{formatted_opens, left_fresh_or_open, all_choices_open}

pub formatted_left : (d : Disk) (c : Reads) → Leaves d c → (version : Version) → IsFormatted version d → ReadsFormatted version c
formatted_left d c leaves version is = made_left version 0 empty_namespace d c is leaves

-- ---- what a stop leaves

module _ (d : Disk) (c : Reads) (leaves : Leaves d c) where
  pub left_fresh : FitsFresh c → FitsFresh d
  left_fresh fresh = ap table_of (sym (seven_left d c leaves)) ∙ fresh

  -- not formatted, or formatted
  pub fresh_or_new_left : (version : Version) → FreshOrNew version d → LeftFreshOrNew version c
  fresh_or_new_left version is = ⊎_elim (λ fresh. inl (fresh_left d c leaves fresh)) (λ new. inr (formatted_left d c leaves version new)) is

-- a stop at any moment since a format began, over directories none of which was formatted
pub left_by_format : {told : Type 0} {a b : State} (version : Version) → told → IsLawful a → AllFresh a → EachFreshOrNew told version a b
    → (c : ℕ → Reads) (m : Moment) → Left b (moment a) c m → (i : ℕ) → i < a.count → LeftFreshOrNew version (c i)
left_by_format {a = a} version tells lawful fresh run c m left i below = fresh_or_new_left (m.dirs i).disk (c i) (left.leaves i) version
    (each_since (λ j d. j < a.count → FreshOrNew version d) tells lawful
    (λ j under. inl (left_fresh (disk_at a j) (a.reads j) (lawful.reads j) (fresh j under))) run m left.since i below)

-- as long as nothing was done
pub none_made_yet : {told : Type 0} {a : State} (version : Version) → IsLawful a → AllFresh a → EachFreshOrNew told version a a
none_made_yet {a = a} version lawful fresh = throughout_refl (λ tells. record { at = λ j below. inl (left_fresh (disk_at a j) (a.reads j) (lawful.reads j) (fresh j below)) })

pub stops_fresh_or_open : {told : Type 0} {a b : State} (version : Version) → version.layout ≡ program_layout → told → IsLawful a → AllFresh a → EachFreshOrNew told version a b → StopsFreshOrOpen a b
stops_fresh_or_open {a = a} version layout tells lawful fresh run c m left = left_fresh_or_open version layout a.count c (left_by_format version tells lawful fresh run c m left)

-- where no directory was refused, and the disk of each is formatted
pub all_formatted : {T E : Type 0} (a b c : State) (version : Version) (result : Result T E) → version.layout ≡ program_layout → IsLawful c → b.count ≡ a.count → first_unformattable a.reads a.count ≡ None
    → OnOk result ((j : ℕ) → j < b.count → IsFormatted version (disk_at c j)) → OnOk result (AllFormatted version a c)
all_formatted a b c version (Err e) layout lawful same none disks = tt
all_formatted a b c version (Ok v) layout lawful same none disks = record {
  unrefused = none;
  reads = reads;
  disks = λ i below. disks i (inside i below);
  opens = λ i below. formatted_opens version layout (c.reads i) (reads i below);
  choices = all_choices_open version layout a.count c.reads reads;
}
  where
    inside : (i : ℕ) → i < a.count → i < b.count
    inside i below = subst (λ (n : ℕ). i < n) (sym same) below

    reads : (i : ℕ) → i < a.count → ReadsFormatted version (c.reads i)
    reads i below = formatted_left (disk_at c i) (c.reads i) (lawful.reads i) version (disks i (inside i below))
