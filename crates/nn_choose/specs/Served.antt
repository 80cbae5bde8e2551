-- What serves in each of several directories, as it was read: what sets one against the others, and the one of the greatest cTime.
use Rattle.std.specs.Prelude.{◌≡◌, ◌↔◌, ℕ, ℤ, ◌<◌, ◌≤◌, Bool, true, List, length, slice_index_or, int_lt, Option, Some, None, option_map, if◌then◌else◌}
use Rattle.nn_base.specs.Limits.{program_layout}
use Rattle.nn_base.specs.declared.ids.DirNo.{DirNo}
use Rattle.nn_host.specs.Disk.{Reads}
use Rattle.nn_state.specs.Seat.{serving}
use Rattle.nn_chain.specs.Folder.{folder_at, HasVersion}
use Rattle.nn_pick.specs.declared.refusal.Refusal.{Refusal}
use Rattle.nn_pick.specs.declared.refusal.Refusal.TheVariants.{Mismatch, FutureLayout, ForeignLayout}
use Rattle.nn_choose.specs.declared.served.Lead.{Lead}
use Rattle.nn_choose.specs.declared.served.Served.{Served}
use Rattle.nn_pick.specs.Dirs.{Dirs}
use Rattle.nn_pick.specs.Refusing.{first_difference}

-- the folder of a directory that serves as current, and what its VERSION says; none where the directory isn't formatted
abbrev pub ServesAs : Reads → Option Served → Type 0
ServesAs c None = serving c ≡ None
ServesAs c (Some it) = (serving c ≡ Some it.sub) × HasVersion (folder_at c it.sub) it.version

-- what was read of this directory
abbrev pub served_at : List (Option Served) → ℕ → Option Served
served_at served i = slice_index_or served i None

-- each directory serves so, in their order
pub record AreServed (dirs : Dirs) (served : List (Option Served)) : Type 0 where
  pub count : length served ≡ dirs.count
  pub each : (i : ℕ) → i < dirs.count → ServesAs (dirs.at i) (served_at served i)

-- ---- VERSIONs that don't go together

-- the lowest formatted directory; none where there is none
abbrev pub IsFirstOf : List (Option Served) → Option Lead → Type 0
IsFirstOf served None = (j : ℕ) → j < length served → served_at served j ≡ None
IsFirstOf served (Some first) = (served_at served first.dir.0 ≡ Some first.served) × ((j : ℕ) → j < first.dir.0 → served_at served j ≡ None)

-- what is refused of one directory, by what serves there: it differs from the first, or has a layout that isn't read

abbrev pub mismatch_in : Lead → ℕ → Option Served → Option Refusal
mismatch_in first i None = None
mismatch_in first i (Some it) = option_map (λ key. Mismatch first.dir (record { 0 = i }) key) (first_difference first.served.version it.version)

-- by its layout alone
abbrev pub layout_in : (ℤ → Bool) → (DirNo → ℤ → Refusal) → ℕ → Option Served → Option Refusal
layout_in test refusal i None = None
layout_in test refusal i (Some it) = if test it.version.layout then Some (refusal (record { 0 = i }) it.version.layout) else None

abbrev pub is_future : ℤ → Bool
is_future layout = int_lt layout program_layout

abbrev pub is_foreign : ℤ → Bool
is_foreign layout = int_lt program_layout layout

abbrev pub future_in : ℕ → Option Served → Option Refusal
future_in = layout_in is_future FutureLayout

abbrev pub foreign_in : ℕ → Option Served → Option Refusal
foreign_in = layout_in is_foreign ForeignLayout

-- ---- the greatest cTime

-- of the directories below n the lowest of the greatest cTime
pub record IsLead (served : List (Option Served)) (n : ℕ) (lead : Lead) : Type 0 where
  pub below : lead.dir.0 < n
  pub at : served_at served lead.dir.0 ≡ Some lead.served
  pub lower : (j : ℕ) (it : Served) → j < lead.dir.0 → served_at served j ≡ Some it → it.version.ctime < lead.served.version.ctime
  pub greatest : (j : ℕ) (it : Served) → j < n → served_at served j ≡ Some it → it.version.ctime ≤ lead.served.version.ctime

-- the same; none where none of them is formatted
abbrev pub IsLeadBelow : List (Option Served) → ℕ → Option Lead → Type 0
IsLeadBelow served n None = (j : ℕ) → j < n → served_at served j ≡ None
IsLeadBelow served n (Some lead) = IsLead served n lead

-- of the directories below n those of this cTime
abbrev pub AreOfCtime : List (Option Served) → ℕ → ℕ → (ℕ → Bool) → Type 0
AreOfCtime served ctime n are = (i : ℕ) → (are i ≡ true) ↔ ((it : Served) × (i < n) × (served_at served i ≡ Some it) × (it.version.ctime ≡ ctime))
