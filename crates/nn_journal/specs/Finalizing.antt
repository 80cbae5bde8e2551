-- What a journal leaves of a segment that it has ended.
use Rattle.std.specs.Prelude.{◌≡◌, ℕ, ◌+◌, true, List, [], ◌∷◌, ◌++◌}
use Rattle.nn_base.specs.DirSets.{Members, has}
use Rattle.nn_host.specs.Moments.{State, disk_at}
use Rattle.nn_marks.specs.declared.version.Version.{Version}
use Rattle.nn_record.specs.declared.transaction.Record.{Record}
use Rattle.nn_segment_file.specs.Log.{Shared, IsFinalized}
use Rattle.nn_segment_file.specs.Stages.{Going}
use Rattle.nn_journal.specs.Among.{AllAt}
use Rattle.nn_journal.specs.Places.{Place, IsInProgress, end_record}

-- In each live directory the segment that was in progress is finalized: its records, and behind them its mark with the next id, stand whole under its last name.
abbrev pub Finalizes : Type 0 → Place → Members → Members → State → State → Type 0
Finalizes told old_place old_live live old new = (version : Version) (list : Shared) (base : ℕ) (kept : List Record) → IsInProgress version list base kept [] [] old_place → (told → AllAt version list (Going base kept) old_live old)
    → told → (j : ℕ) → has live j ≡ true → IsFinalized version.layout old_place.first (old_place.last + 1) (kept ++ end_record (old_place.last + 1) ∷ []) (disk_at new j)

-- the same where records were logged: they stand before its mark
abbrev pub FinalizesLogged : Type 0 → List ℕ → Place → Members → Members → State → State → Type 0
FinalizesLogged told bytes old_place old_live live old new = (version : Version) (list : Shared) (base : ℕ) (kept logged : List Record) → IsInProgress version list base kept logged bytes old_place → (told → AllAt version list (Going base kept) old_live old)
    → told → (j : ℕ) → has live j ≡ true → IsFinalized version.layout old_place.first (old_place.last + 1) ((kept ++ logged) ++ end_record (old_place.last + 1) ∷ []) (disk_at new j)
