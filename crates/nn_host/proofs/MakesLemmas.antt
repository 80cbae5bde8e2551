-- The disks that a call may make of one: done, broken off by a failure, or stopped inside.
use Rattle.std.proofs.Common.{◌≡◌, ◌⊎◌, inl, inr, ⊎_elim, ℕ, Ok, Err, Result, None, refl, sym, subst}
use Rattle.std.specs.Prelude.{false}
use Rattle.nn_base.specs.declared.sub.Sub.{Sub}
use Rattle.nn_base.proofs.NamesLemmas.{sub_tells}
use Rattle.nn_host.specs.Disk.{Disk, Reads, Call, Look, MakeSub, MakeFile, Append, Sync, RenameFile, RenameSub, RemoveFile, RemoveSub, Settle, InFlight, Broken, PartOf, disk_after, with_sub}
use Rattle.nn_host.specs.Moments.{State, disk_at}
use Rattle.nn_host.specs.Calls.{Effect}

-- a disk that the call may make of this one, other than leaving it as it is
abbrev pub Makes : Call → Reads → Disk → Disk → Type 0
Makes Look r d part = ⊥
Makes (RemoveSub s) r d part = PartOf s d part
Makes (MakeSub s) r d part = part ≡ disk_after (MakeSub s) r d
Makes (MakeFile s n) r d part = part ≡ disk_after (MakeFile s n) r d
Makes (Append s n bytes) r d part = part ≡ disk_after (Append s n bytes) r d
Makes (Sync s n) r d part = part ≡ disk_after (Sync s n) r d
Makes (RenameFile s a b) r d part = part ≡ disk_after (RenameFile s a b) r d
Makes (RenameSub a b) r d part = part ≡ disk_after (RenameSub a b) r d
Makes (RemoveFile s n) r d part = part ≡ disk_after (RemoveFile s n) r d
Makes Settle r d part = part ≡ disk_after Settle r d

pub flight_makes : (call : Call) (r : Reads) (d part : Disk) → InFlight call d part → Makes call r d part
flight_makes Look r d part h = h
flight_makes (MakeSub s) r d part h = h
flight_makes (MakeFile s n) r d part h = h
flight_makes (Append s n bytes) r d part h = h
flight_makes (Sync s n) r d part h = absurd h
flight_makes (RenameFile s a b) r d part h = h
flight_makes (RenameSub a b) r d part h = h
flight_makes (RemoveFile s n) r d part h = h
flight_makes (RemoveSub s) r d part h = h
flight_makes Settle r d part h = absurd h

pub removed_part : (s : Sub) (d : Disk) → PartOf s d (with_sub d s false (λ _. None))
removed_part s d = record {
  root = refl;
  other_subs = λ q ne. elim (sub_tells q s) [ inl same ↦ absurd (ne same.1) | inr other ↦ rw other.0 ];
  other_files = λ q n ne. elim (sub_tells q s) [ inl same ↦ absurd (ne same.1) | inr other ↦ rw other.0 ];
  sub = elim (sub_tells s s) [ inl same ↦ inl (rw same.0) | inr other ↦ absurd (other.1 refl) ];
  files = λ n. elim (sub_tells s s) [ inl same ↦ inl (rw same.0) | inr other ↦ absurd (other.1 refl) ];
  gone = λ n out. elim (sub_tells s s) [ inl same ↦ rw same.0 | inr other ↦ absurd (other.1 refl) ];
}

pub broken_makes : (call : Call) (r : Reads) (d part : Disk) → Broken call r d part → (part ≡ d) ⊎ Makes call r d part
broken_makes Look r d part h = ⊎_elim (λ same. inl same) (λ same. inl same) h
broken_makes (MakeSub s) r d part h = h
broken_makes (MakeFile s n) r d part h = h
broken_makes (Append s n bytes) r d part h = inr h
broken_makes (Sync s n) r d part h = h
broken_makes (RenameFile s a b) r d part h = h
broken_makes (RenameSub a b) r d part h = h
broken_makes (RemoveFile s n) r d part h = h
broken_makes (RemoveSub s) r d part h = inr h
broken_makes Settle r d part h = h

pub after_makes : (call : Call) (r : Reads) (d : Disk) → (disk_after call r d ≡ d) ⊎ Makes call r d (disk_after call r d)
after_makes Look r d = inl refl
after_makes (MakeSub s) r d = inr refl
after_makes (MakeFile s n) r d = inr refl
after_makes (Append s n bytes) r d = inr refl
after_makes (Sync s n) r d = inr refl
after_makes (RenameFile s a b) r d = inr refl
after_makes (RenameSub a b) r d = inr refl
after_makes (RemoveFile s n) r d = inr refl
after_makes (RemoveSub s) r d = inr (removed_part s d)
after_makes Settle r d = inr refl

-- the disk that stands after the call, whether it failed or not
pub now_makes : {T E : Type 0} (i : ℕ) (call : Call) (old new : State) (result : Result T E) → Effect i call old new result
    → (disk_at new i ≡ disk_at old i) ⊎ Makes call (old.reads i) (disk_at old i) (disk_at new i)
now_makes i call old new (Ok v) effect =
    subst (λ (x : Disk). (x ≡ disk_at old i) ⊎ Makes call (old.reads i) (disk_at old i) x) (sym effect.ok.disk) (after_makes call (old.reads i) (disk_at old i))
now_makes i call old new (Err e) effect = ⊎_elim (λ broken. broken_makes call (old.reads i) (disk_at old i) (disk_at new i) broken.disk) (λ unbegun. inl unbegun.disk) effect.err
