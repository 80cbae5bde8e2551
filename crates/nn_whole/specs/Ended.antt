-- What done work leaves: every choice with a directory of the run opens to the Book after all lines.
use Rattle.std.specs.Prelude.{◌≡◌, ℕ, ◌<◌, Bool, None, List}
use Rattle.nn_host.specs.Moments.{State, IsLawful}
use Rattle.nn_marks.specs.declared.version.Version.{Version}
use Rattle.nn_tree.specs.Namespace.{Namespace}
use Rattle.nn_chain.specs.Fair.{IsFairStop}
use Rattle.nn_pick.specs.declared.intent.Intent.TheVariants.{Start}
use Rattle.nn_pick.specs.Dirs.{Dirs, choice}
use Rattle.nn_pick.specs.Opening.{Book, Opening, AreSound}
use Rattle.nn_kept.specs.Laws.{SomeCounts}
use Rattle.nn_run.specs.Running.{Asked, after_asked}
use Rattle.nn_run.specs.Window.{is_unfailed_since, base_since}
use Rattle.nn_run.specs.Course.{RunAsked, first_of}
use Rattle.nn_run.specs.Loop.{AreAlive}
use Rattle.nn_run.specs.Steps.{BetweenLines}

-- they are sound, and open to just this Book
pub record OpenJustTo (book : Book) (dirs : Dirs) : Type 0 where
  pub sound : AreSound dirs Start
  pub is : sound.opened.book ≡ book

-- the Book after all of these lines
abbrev pub book_after : RunAsked → ℕ → Opening → List Asked → Book
book_after asked count opened lines = (after_asked count (first_of asked opened) lines).book

-- Where what reads is fair, every choice with a directory of the run, on which no call failed since the run began or since it was last taken back, opens to the Book after all lines.
abbrev pub OpensToLast : RunAsked → Opening → List Asked → State → State → Type 0
OpensToLast asked opened lines old new = IsFairStop old.count new.now new.reads → (n : ℕ) (numbers : ℕ → ℕ) → ((k : ℕ) → k < n → numbers k < old.count)
    → SomeCounts (λ i d. is_unfailed_since (base_since old lines i) d) new.now n numbers → OpenJustTo (book_after asked old.count opened lines) (choice new.reads n numbers)

-- So it is where all stand at that Book with nothing saved, and each directory of the run is live.
abbrev pub EndedOpens : Type 0
EndedOpens = (asked : RunAsked) (opened : Opening) (live holders : ℕ → Bool) (lines : List Asked) (version : Version) (list : ℕ → Namespace) (last : ℕ) (old new : State) → IsLawful new
    → (book_after asked old.count opened lines).saved ≡ None → BetweenLines version list old.count live holders (book_after asked old.count opened lines) last new.now
    → AreAlive old.count live new (λ i. base_since old lines i) → OpensToLast asked opened lines old new
