-- What a stop finds of a run, before it has begun and afterwards.
use Rattle.std.specs.Prelude.{◌≡◌, ◌⊎◌, ℕ, ◌<◌, Bool, List}
use Rattle.nn_host.specs.Disk.{Reads, Leaves}
use Rattle.nn_host.specs.Moments.{Moment, State, Left, IsLawful, moment}
use Rattle.nn_chain.specs.Fair.{IsFairStop}
use Rattle.nn_pick.specs.Dirs.{choice}
use Rattle.nn_pick.specs.Opening.{Opening}
use Rattle.nn_kept.specs.Laws.{SomeCounts, OpenInto}
use Rattle.nn_run.specs.Running.{Asked}
use Rattle.nn_run.specs.Window.{whole_in, said_since}
use Rattle.nn_run.specs.Course.{RunAsked, Course, course_of, commands, IsAsAtEntry, run_window, run_at, held_at, RunKept}

-- a stop at entry could leave these contents; in a fair way, where what reads at entry is fair
pub record IsLeftAtEntry (old : State) (contents : ℕ → Reads) : Type 0 where
  pub left : Left old (moment old) contents old.now
  pub fair : IsFairStop old.count old.now old.reads → IsFairStop old.count old.now contents

-- a stop that finds the disks as at entry or settled leaves what a stop at entry could leave
abbrev pub EntryIsLeft : Type 0
EntryIsLeft = (old : State) (m : Moment) (contents : ℕ → Reads) → IsLawful old → IsAsAtEntry old m → ((i : ℕ) → Leaves (m.dirs i).disk (contents i)) → IsFairStop old.count m contents → IsLeftAtEntry old contents

-- Each fair stop of a run leaves what one at entry could leave, and no command was answered by then; or directories of which every choice with one of the run opens into the window.
abbrev pub RunLeaves : Course → State → State → Type 0
RunLeaves course old new = (m : Moment) (contents : ℕ → Reads) → Left new (moment old) contents m → IsFairStop old.count m contents
    → ((whole_in (commands course) (said_since old m) ≡ 0) × IsLeftAtEntry old contents)
    ⊎ ((n : ℕ) (numbers : ℕ → ℕ) → ((k : ℕ) → k < n → numbers k < old.count) → SomeCounts (run_at course old m) m n numbers
    → OpenInto (run_window course old m) (SomeCounts (held_at course old m) m n numbers) (choice contents n numbers))

-- what each moment of a run keeps is what a stop leaves of it
abbrev pub RunKeptLeaves : Type 0
RunKeptLeaves = (asked : RunAsked) (ctime : ℕ) (opened : Opening) (seen : List Asked) (ahead : ℕ → Bool) (old new : State) → IsLawful old
    → RunKept (Unit {0}) (course_of asked old.count ctime opened seen ahead) old new → RunLeaves (course_of asked old.count ctime opened seen ahead) old new
