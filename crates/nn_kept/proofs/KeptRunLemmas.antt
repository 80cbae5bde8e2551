-- Runs of calls carry what is kept: one directory at work keeps it for all, and a stop since the beginning finds it.
use Rattle.std.proofs.Common.{◌≡◌, inl, inr, ℕ, ◌<◌, ◌≤◌, Bool, List, [], ◌∷◌, length, drop, refl, sym, subst, arith}
use Rattle.nn_host.specs.Disk.{Disk, Reads}
use Rattle.nn_host.specs.Moments.{Dir, Moment, Entry, State, Within, Left, moment, faults_at}
use Rattle.nn_host.specs.Runs.{OnlyAt, Throughout}
use Rattle.nn_host.proofs.WorkLemmas.{each_dir_work}
use Rattle.nn_chain.specs.Fair.{IsFairStop}
use Rattle.nn_pick.specs.Dirs.{choice}
use Rattle.nn_pick.specs.Opening.{Book}
use Rattle.nn_kept.specs.Kept.{Shared}
use Rattle.nn_kept.specs.Laws.{IsKeptDisk, AllKept, KeptInto, KeptRuns, SomeCounts, OpenInto}
use Rattle.nn_kept.proofs.KeptStopLemmas.{kept_stops}

-- a run on one directory keeps the others, and this one if what it makes of it is kept at each count that hasn't fallen
pub kept_work : {told : Type 0} {i : ℕ} {a b c : State} {P : Disk → Type 0} (shared : Shared) (count : ℕ) (run held : ℕ → Dir → Bool) → Throughout told a b (AllKept shared count run held) → OnlyAt told i b c P
    → (told → (d : Dir) → P d.disk → faults_at b i ≤ d.faults → i < count → IsKeptDisk shared (run i d) (held i d) d.disk) → Throughout told a c (AllKept shared count run held)
kept_work shared count run held p q here = each_dir_work p q here

drop_all : {A : Type 0} (xs : List A) → drop (length xs) xs ≡ []
drop_all [] = refl
drop_all (x ∷ xs) = drop_all xs

module _ (window : Moment → List Book) (count : ℕ) (run held : Moment → ℕ → Dir → Bool) where
  found : {told : Type 0} {a b : State} → told → KeptInto window count run held a.now → KeptInto window count run held a.ended → Throughout told a b (KeptInto window count run held)
      → (m : Moment) (contents : ℕ → Reads) → Left b (moment a) contents m → KeptInto window count run held m
  found {told} {a} {b} tells now ended through m contents left = elim (through.each tells (moment a) m (omega arith) left.since) [
    | inl before ↦ elim before [
      | inl is_now ↦ subst (KeptInto window count run held) (sym is_now) now
      | inr others ↦ elim others [
        | inl is_ended ↦ subst (KeptInto window count run held) (sym is_ended) ended
        | inr within ↦ absurd (subst (λ (l : List Entry). Within l m) (drop_all a.trace) within)
      ]
    ]
    | inr here ↦ here
  ]

  -- what a fair stop leaves that comes since then: each choice with a directory of the run opens into the window of that moment
  pub kept_left : {told : Type 0} {a b : State} → told → KeptInto window count run held a.now → KeptInto window count run held a.ended → Throughout told a b (KeptInto window count run held)
      → (m : Moment) (contents : ℕ → Reads) → Left b (moment a) contents m → IsFairStop count m contents
      → (n : ℕ) (numbers : ℕ → ℕ) → ((k : ℕ) → k < n → numbers k < count) → SomeCounts (run m) m n numbers → OpenInto (window m) (SomeCounts (held m) m n numbers) (choice contents n numbers)
  kept_left {told} {a} {b} tells now ended through m contents left fair n numbers bound some =
      let it = found {told = told} {a = a} {b = b} tells now ended through m contents left in
      kept_stops it.0 (window m) count (run m) (held m) m contents it.1 it.2 left.leaves fair n numbers bound some

pub kept_runs : KeptRuns
kept_runs window count run held old new now ended through m contents left fair n numbers bound some = kept_left window count run held {told = Unit {0}} {a = old} {b = new} tt now ended through m contents left fair n numbers bound some
