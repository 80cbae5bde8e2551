-- A start: what it leaves, and what each moment of it has.
use Rattle.std.specs.Prelude.{◌≡◌, ◌≢◌, ◌⊎◌, ◌↔◌, ℕ, ◌+◌, ◌<◌, Bool, true, List, None}
use Rattle.nn_base.specs.DirSets.{has}
use Rattle.nn_host.specs.Moments.{Dir, State, disk_at}
use Rattle.nn_host.specs.Runs.{Throughout}
use Rattle.nn_marks.specs.declared.version.Version.{Version}
use Rattle.nn_state.specs.declared.typed.Settled.{Settled}
use Rattle.nn_tree.specs.Namespace.{Namespace}
use Rattle.nn_journal.specs.declared.journal.JournalSet.{JournalSet}
use Rattle.nn_journal.specs.Places.{IsSteady}
use Rattle.nn_pick.specs.declared.intent.Intent.TheVariants.{Start}
use Rattle.nn_pick.specs.Dirs.{Dirs, IsAmongChosen}
use Rattle.nn_pick.specs.Refusing.{HasServingPrevious, spent_from}
use Rattle.nn_pick.specs.Opening.{Book, AreSound}
use Rattle.nn_kept.specs.Kept.{Shared}
use Rattle.nn_kept.specs.Laws.{KeptInto}
use Rattle.nn_kept.specs.First.{IsFirst}
use Rattle.nn_choose.specs.Looking.{dirs_read}
use Rattle.nn_choose.specs.Picking.{IsAhead}
use Rattle.nn_open.specs.Answers.{settled_disk}
use Rattle.nn_start.specs.Entry.{IsAsAtEntry, CountChosen}
use Rattle.nn_start.specs.Bringing.{IsAimedAt}
use Rattle.nn_start.specs.Keeping.{KeepsOwn}
use Rattle.nn_run.specs.Window.{is_unfailed}
use Rattle.nn_begin.specs.Begun.{IsBegun}

-- ---- how they are told at entry

-- The directories are sound at entry, and in the shared list nothing but marks of segments comes after their Book.
pub record StartsFrom (shared : Shared) (dirs : Dirs) (sound : AreSound dirs Start) : Type 0 where
  pub first : IsFirst shared dirs Start sound
  pub steady : IsSteady (shared.ns shared.floor.ctime) shared.floor.last

-- this is so of what is shared, however that is told
abbrev pub Starts : Dirs → (Shared → Type 0) → Type 0
Starts dirs P = (sound : AreSound dirs Start) (shared : Shared) → StartsFrom shared dirs sound → P shared

-- ---- what it leaves

-- Their Book is the one that was chosen, and a journal is begun behind it in each. Where something is saved, its holders are those of the greatest cTime that had a serving previous at entry; and what served in a chosen one is as it was.
pub record HasStarted (old : State) (shared : Shared) (version : Version) (id : ℕ) (ns : Namespace) (at : List Settled) (journal : JournalSet) (s : State) : Type 0 where
  pub aim : IsAimedAt shared version id ns
  pub begun : IsBegun shared version id ns at journal s
  pub ahead : shared.saved version.ctime ≢ None → (i : ℕ) → i < s.count → (has journal.holders i ≡ true) ↔ (IsAhead (dirs_read old) i × HasServingPrevious (dirs_read old) i)
  pub own : (i : ℕ) → IsAmongChosen (dirs_read old) i → KeepsOwn id (settled_disk old i) (disk_at s i)

-- ---- each moment

-- where something is saved, no call has failed on those that count as leaders
abbrev pub LeadersUnfailed : State → Book → (ℕ → Dir → Bool) → Type 0
LeadersUnfailed old book leaders = (i : ℕ) (d : Dir) → leaders i d ≡ true → (book.saved ≡ None) ⊎ (is_unfailed old i d ≡ true)

-- While ids are left, they are as at entry or settled, or each is kept: every choice of them with a chosen one is sound and opens to their Book, with what is saved kept where a leader is among them.
abbrev pub StartsKept : Type 0 → State → State → Type 0
StartsKept told old new = (sound : AreSound (dirs_read old) Start) (shared : Shared) (run leaders : ℕ → Dir → Bool) → StartsFrom shared (dirs_read old) sound → shared.floor.last + 64 < spent_from
    → CountChosen (dirs_read old) sound.opened.book run leaders → LeadersUnfailed old sound.opened.book leaders
    → Throughout told old new (λ m. IsAsAtEntry old m ⊎ KeptInto (λ _. shared.window) old.count (λ _. run) (λ _. leaders) m)
