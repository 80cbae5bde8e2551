-- What a stop finds that comes since the beginning of a run: the disks as of then, or a moment of the run.
use Rattle.std.proofs.Common.{◌≡◌, ⊎_elim, ℕ, List, [], ◌∷◌, length, drop, refl, sym, ap, subst, arith}
use Rattle.nn_host.specs.Disk.{Disk}
use Rattle.nn_host.specs.Moments.{Moment, Entry, State, IsLawful, Within, Since, moment, disk_at}
use Rattle.nn_host.specs.Runs.{EachDir, Throughout}

drop_all : {A : Type 0} (xs : List A) → drop (length xs) xs ≡ []
drop_all [] = refl
drop_all (x ∷ xs) = drop_all xs

-- a stop that comes now finds the disks as they are
pub since_now : (s : State) → IsLawful s → (m : Moment) → Since s (moment s) m → (i : ℕ) → (m.dirs i).disk ≡ disk_at s i
since_now s lawful m since i = ⊎_elim
    (λ now. ap (λ (x : Moment). (x.dirs i).disk) now)
    (λ w. ⊎_elim (λ ended. subst (λ (x : Moment). (x.dirs i).disk ≡ disk_at s i) (sym ended) (lawful.ended i)) (λ within. absurd (subst (λ (l : List Entry). Within l m) (drop_all s.trace) within)) w)
    since

-- what each disk has at the beginning, and at each moment of the run, a stop since the beginning finds
pub each_since : {told : Type 0} {a b : State} (P : ℕ → Disk → Type 0) → told → IsLawful a → ((i : ℕ) → P i (disk_at a i))
    → Throughout told a b (EachDir (λ i d. P i d.disk)) → (m : Moment) → Since b (moment a) m → (i : ℕ) → P i (m.dirs i).disk
each_since {told} {a} {b} P tells lawful start run m since i = ⊎_elim
    (λ before. subst (P i) (sym (since_now a lawful m before i)) (start i))
    (λ here. here.at i)
    (run.each tells (moment a) m (omega arith) since)
