-- A turn of the replay: one file, and what is left afterwards.
use Rattle.std.specs.Prelude.{◌≡◌, ◌+◌, ◌<◌, ◌≤◌, ℤ, true, false, List, length, Option, Some, None}
use Rattle.nn_base.specs.declared.file_name.FileName.{FileName}
use Rattle.nn_base.specs.declared.file_name.FileName.TheVariants.{InProgress}
use Rattle.nn_base.specs.FileText.{IsInRange}
use Rattle.nn_tree.specs.Namespace.{Namespace}
use Rattle.nn_record.specs.declared.transaction.Record.{Record}
use Rattle.nn_chain.specs.Folder.{Folder}
use Rattle.nn_chain.specs.Chain.{Reached, Leads, IsEnd}
use Rattle.nn_load.specs.declared.chain.Left.{Left}
use Rattle.nn_load.specs.declared.chain.Waiting.{Waiting}
use Rattle.nn_load.specs.declared.held.Held.{Held}
use Rattle.nn_load.specs.Held.{IsGoneOver, IsOf}
use Rattle.nn_load.specs.Queue.{StandsAt, AreLeft}

abbrev pub reached : Left → Namespace → Reached
reached left ns = record { last = left.last; ns = ns }

-- Records have led on. No further one comes, or the queues say what is left.
pub record IsTurn (folder : Folder) (layout : ℤ) (names : List FileName) (old new : Left) (before after : Namespace) : Type 0 where
  pub records : List Record
  pub leads : Leads folder layout (reached old before) records (reached new after)
  pub left : new.ended ≡ false → AreLeft folder layout names new.finalized new.in_progress new.last
  pub ends : new.ended ≡ true → IsEnd folder layout (reached new after)

-- both places are in the listing, or at its end
pub record IsInside (names : List FileName) (left : Left) : Type 0 where
  pub finalized : left.finalized ≤ length names
  pub in_progress : left.in_progress ≤ length names

-- a place, or the last id, is further on
pub record IsFurther (names : List FileName) (old new : Left) : Type 0 where
  pub inside : IsInside names new
  pub on : old.finalized + old.in_progress + old.last < new.finalized + new.in_progress + new.last

-- ---- a segment that is held

-- It is the first in progress that is left, and none beyond the next record was gone over.
abbrev pub IsHeldAt : List FileName → Left → Option Held → Type 0
IsHeldAt names left None = Unit {0}
IsHeldAt names left (Some held) = StandsAt names left.in_progress (InProgress held.first) × IsInRange (InProgress held.first) × (held.next ≤ left.last + 1) × IsGoneOver held

-- it was read from this folder
abbrev pub IsOfFolder : Folder → ℤ → Option Held → Type 0
IsOfFolder folder layout None = Unit {0}
IsOfFolder folder layout (Some held) = IsOf folder layout held

-- ---- between two turns

pub record IsWaiting (names : List FileName) (at : Waiting) : Type 0 where
  pub inside : IsInside names at.left
  pub held : IsHeldAt names at.left at.held

-- what is left of a folder
pub record IsLeft (folder : Folder) (layout : ℤ) (names : List FileName) (at : Waiting) : Type 0 where
  pub queues : AreLeft folder layout names at.left.finalized at.left.in_progress at.left.last
  pub held : IsOfFolder folder layout at.held

-- a turn, and what is held after it
pub record IsPlayed (folder : Folder) (layout : ℤ) (names : List FileName) (old : Left) (new : Waiting) (before after : Namespace) : Type 0 where
  pub turn : IsTurn folder layout names old new.left before after
  pub held : IsOfFolder folder layout new.held

-- there is a next turn
pub record GoesOn (names : List FileName) (old : Left) (new : Waiting) : Type 0 where
  pub further : IsFurther names old new.left
  pub held : IsHeldAt names new.left new.held
