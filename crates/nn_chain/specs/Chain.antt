-- The chain of a folder: its newest intact image, and the records that are replayed over it.
use Rattle.std.specs.Prelude.{◌≡◌, ℕ, ℤ, ◌+◌, ◌^◌, ◌<◌, List, [], ◌∷◌, Some, None}
use Rattle.nn_base.specs.declared.file_name.FileName.{FileName}
use Rattle.nn_base.specs.declared.file_name.FileName.TheVariants.{Image}
use Rattle.nn_base.specs.FileText.{IsInRange}
use Rattle.nn_marks.specs.declared.version.Version.{Version}
use Rattle.nn_tree.specs.Namespace.{Namespace}
use Rattle.nn_record.specs.declared.transaction.Record.{Record}
use Rattle.nn_ops.specs.Step.{Fits}
use Rattle.nn_ops.specs.Effects.{effect}
use Rattle.nn_chain.specs.Folder.{Folder}
use Rattle.nn_chain.specs.Images.{IsIntact, IsNewest}
use Rattle.nn_chain.specs.Records.{first_in, IsRecordOf, HasNoRecord}

-- how far records have led: the last id, and the namespace after it
pub record Reached : Type 0 where
  pub last : ℕ
  pub ns : Namespace

abbrev pub after : Record → Reached → Reached
after r at = record { last = r.id; ns = effect r.op at.ns }

-- the record of the next id, which fits the namespace
pub record IsNextRecord (folder : Folder) (layout : ℤ) (at : Reached) (r : Record) : Type 0 where
  pub next : r.id ≡ at.last + 1
  pub its : IsRecordOf folder layout r
  pub fits : Fits at.ns r.op

-- the records of consecutive ids, each of which fits, lead from one place to another
abbrev pub Leads : Folder → ℤ → Reached → List Record → Reached → Type 0
Leads folder layout at [] end = end ≡ at
Leads folder layout at (r ∷ rs) end = IsNextRecord folder layout at r × Leads folder layout (after r at) rs end

-- A chain ends before the first id that has no record, or whose record doesn't fit.
abbrev pub IsEnd : Folder → ℤ → Reached → Type 0
IsEnd folder layout end = (r : Record) → ¬ IsNextRecord folder layout end r

-- a chain begun at the intact image of this id
pub record IsChainFrom (folder : Folder) (version : Version) (image : ℕ) (end : Reached) : Type 0 where
  pub base : Namespace
  pub intact : IsIntact folder version image base
  pub records : List Record
  pub leads : Leads folder version.layout (record { last = image; ns = base }) records end
  pub ends : IsEnd folder version.layout end

-- the chain: begun at the newest intact image
pub record IsChain (folder : Folder) (version : Version) (end : Reached) : Type 0 where
  pub image : ℕ
  pub newest : IsNewest folder version image
  pub from : IsChainFrom folder version image end

-- it ends before an id that has no record at all
abbrev pub EndsBare : Folder → Version → Reached → Type 0
EndsBare folder version end = HasNoRecord folder version.layout (end.last + 1)

-- ---- a folder without segments

-- no file is a segment
abbrev pub HasNoSegment : Folder → Type 0
HasNoSegment folder = (name : FileName) (first : ℕ) → IsInRange name → first_in name ≡ Some first → folder name ≡ None

-- no image file has a greater id
abbrev pub HasNoLater : Folder → ℕ → Type 0
HasNoLater folder id = (later : ℕ) → later < 2 ^ 63 → id < later → folder (Image later) ≡ None

-- Its chain is its last image alone, where that is intact, and no record comes after it.
abbrev pub BareChain : Type 0
BareChain = (folder : Folder) (version : Version) (id : ℕ) (ns : Namespace) → IsIntact folder version id ns → HasNoLater folder id → HasNoSegment folder
    → IsChain folder version (record { last = id; ns = ns }) × EndsBare folder version (record { last = id; ns = ns })
