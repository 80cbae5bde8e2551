-- The shared list grows while records are logged.
use Rattle.std.specs.Prelude.{◌≡◌, ℕ, ◌+◌, List, [], ◌∷◌, ◌++◌}
use Rattle.nn_base.specs.DirSets.{Members}
use Rattle.nn_host.specs.Moments.{State}
use Rattle.nn_marks.specs.declared.version.Version.{Version}
use Rattle.nn_record.specs.declared.op.Op.{Op}
use Rattle.nn_record.specs.declared.transaction.Record.{Record}
use Rattle.nn_record.specs.Spelling.{spelling, IsRecord}
use Rattle.nn_ops.specs.Step.{Fits}
use Rattle.nn_ops.specs.Effects.{effect}
use Rattle.nn_segment_file.specs.Log.{Shared, AgreeTo}
use Rattle.nn_segment_file.specs.Stages.{Stage, last_of}
use Rattle.nn_journal.specs.Among.{AllAt}
use Rattle.nn_journal.specs.Places.{Place, IsInProgress, IsSteady}

-- the place after one more id was given
abbrev pub one_more : Place → Place
one_more p = record { going = p.going; head = p.head; first = p.first; last = p.last + 1; size = p.size }

-- the next record, which does this
abbrev pub next_record : Place → Op → Record
next_record p op = record { id = p.last + 1; op = op }

-- A record that fits the namespace after the last id goes behind those that were logged, in a list that says what it leads to.
abbrev pub LoggingGoesOn : Type 0
LoggingGoesOn = (version : Version) (list longer : Shared) (base : ℕ) (kept logged : List Record) (bytes : List ℕ) (place : Place) (op : Op) → IsInProgress version list base kept logged bytes place
    → IsRecord (next_record place op) → Fits (list place.last) op → AgreeTo list longer place.last → longer (place.last + 1) ≡ effect op (list place.last) → IsSteady longer (place.last + 1)
    → IsInProgress version longer base kept (logged ++ next_record place op ∷ []) (bytes ++ spelling (next_record place op)) (one_more place)

-- Directories stand where they stood, by each list that says the same up to there.
abbrev pub LongerListKeeps : Type 0
LongerListKeeps = (version : Version) (list longer : Shared) (stage : Stage) (among : Members) (s : State) → AllAt version list stage among s → AgreeTo list longer (last_of stage) → AllAt version longer stage among s
