-- Which directories refuse a command, by what the table says of each, and which of them first.
use Rattle.std.specs.Prelude.{ℕ, zero, suc, Option, Some, None, Result, Ok, Err}
use Rattle.nn_state.specs.declared.state.StorageState.{StorageState}
use Rattle.nn_state.specs.declared.state.StorageState.TheVariants.{NonExistent, NotFormatted, Normal, CompleteUpgrade, RecoverUpgrade, CompleteFinalize, CompleteRollback, RecoverRollback, CompleteCheckpoint, RecoverCheckpoint}
use Rattle.nn_state.specs.declared.state.Why.{Why}
use Rattle.nn_pick.specs.declared.refusal.Refusal.{Refusal}
use Rattle.nn_pick.specs.declared.refusal.Refusal.TheVariants.{Missing, Inconsistent, Formatted}

-- directory i can't be worked on as it is: it is missing or inconsistent
abbrev pub unusable : ℕ → Result StorageState Why → Option Refusal
unusable i (Ok NonExistent) = Some (Missing (record { 0 = i }))
unusable i (Ok NotFormatted) = None
unusable i (Ok Normal) = None
unusable i (Ok CompleteUpgrade) = None
unusable i (Ok RecoverUpgrade) = None
unusable i (Ok CompleteFinalize) = None
unusable i (Ok CompleteRollback) = None
unusable i (Ok RecoverRollback) = None
unusable i (Ok CompleteCheckpoint) = None
unusable i (Ok RecoverCheckpoint) = None
unusable i (Err why) = Some (Inconsistent (record { 0 = i }) why)

-- directory i can't be formatted: it is missing, inconsistent, or holds a state already
abbrev pub unformattable : ℕ → Result StorageState Why → Option Refusal
unformattable i (Ok NonExistent) = Some (Missing (record { 0 = i }))
unformattable i (Ok NotFormatted) = None
unformattable i (Ok Normal) = Some (Formatted (record { 0 = i }))
unformattable i (Ok CompleteUpgrade) = Some (Formatted (record { 0 = i }))
unformattable i (Ok RecoverUpgrade) = Some (Formatted (record { 0 = i }))
unformattable i (Ok CompleteFinalize) = Some (Formatted (record { 0 = i }))
unformattable i (Ok CompleteRollback) = Some (Formatted (record { 0 = i }))
unformattable i (Ok RecoverRollback) = Some (Formatted (record { 0 = i }))
unformattable i (Ok CompleteCheckpoint) = Some (Formatted (record { 0 = i }))
unformattable i (Ok RecoverCheckpoint) = Some (Formatted (record { 0 = i }))
unformattable i (Err why) = Some (Inconsistent (record { 0 = i }) why)

abbrev pub or_else : Option Refusal → Option Refusal → Option Refusal
or_else None later = later
or_else (Some first) later = Some first

-- the refusal of the lowest of the first n directories that has one
abbrev pub first_refused : (ℕ → Option Refusal) → ℕ → Option Refusal
first_refused refusals zero = None
first_refused refusals (suc n) = or_else (first_refused refusals n) (refusals n)
