-- What a run of `format` did: a new namespace in each directory, or none where one of them can't be formatted.
use Rattle.std.specs.Prelude.{◌≡◌, ◌≢◌, ◌⊎◌, ◌<◌, ℕ, [], ◌++◌, Option, Some, None, codes}
use Rattle.std.specs.Fmt.{decimal}
use Rattle.nn_base.specs.Limits.{program_layout}
use Rattle.nn_base.specs.Paths.{Bytes}
use Rattle.nn_host.specs.Disk.{Disk, Reads}
use Rattle.nn_host.specs.Moments.{Moment, State, Left, moment}
use Rattle.nn_host.specs.Runs.{Throughout, EachDir}
use Rattle.nn_marks.specs.declared.version.Version.{Version}
use Rattle.nn_state.specs.Typed.{FitsFresh}
use Rattle.nn_pick.specs.declared.fault.OpenFault.{OpenFault}
use Rattle.nn_pick.specs.declared.fault.OpenFault.TheVariants as fault
use Rattle.nn_open.specs.Formatted.{IsFormatted, ReadsFormatted, OpensEmpty, EachChoiceOpensEmpty}
use Rattle.nn_open.specs.Answers.{AllFresh, AllFormatted, IsRefused, EachAsBefore, first_unformattable}
use Rattle.nn_server.specs.declared.status.Status.{Status}
use Rattle.nn_server.specs.declared.status.Status.TheVariants as status
use Rattle.nn_server.specs.declared.format_run.FormatEnd.{FormatEnd}
use Rattle.nn_server.specs.declared.format_run.FormatEnd.TheVariants.{Done, Refused, HostFault, Memory, OutFault}
use Rattle.nn_server.specs.Lines.{formatted_line}
use Rattle.nn_server.specs.Came.{Counts}

abbrev pub format_status : FormatEnd → Status
format_status Done = status.Ok
format_status (Refused refusal) = status.Refused refusal
format_status (HostFault i) = status.HostFault i
format_status Memory = status.Memory
format_status OutFault = status.OutFault

-- how a run ends whose formatting came to this
abbrev pub unformatted : OpenFault → FormatEnd
unformatted (fault.Refused refusal) = Refused refusal
unformatted (fault.Failed i) = HostFault i
unformatted fault.Memory = Memory

-- the VERSION of a new namespace with this cluster's id and this number: cTime 0, a block pool named after the number, and the
-- layout of this program
pub record IsNewVersion (id : Bytes) (number : ℕ) (version : Version) : Type 0 where
  pub namespace : version.namespace ≡ number
  pub cluster : version.cluster ≡ id
  pub ctime : version.ctime ≡ 0
  pub blockpool : version.blockpool ≡ codes "BP-" ++ decimal number
  pub layout : version.layout ≡ program_layout

-- ---- at each moment, and after a stop

-- the disk of a directory is not formatted, or holds the new namespace and nothing else
abbrev pub FreshOrAsked : Bytes → ℕ → Disk → Type 0
FreshOrAsked cluster namespace d = FitsFresh d ⊎ ((version : Version) × IsNewVersion cluster namespace version × IsFormatted version d)

-- from old to new each directory has that
abbrev pub EachFreshOrAsked : Type 0 → Bytes → ℕ → State → State → Type 0
EachFreshOrAsked told cluster namespace old new = Throughout told old new (EachDir (λ i d. i < old.count → FreshOrAsked cluster namespace d.disk))

-- what a stop leaves of a directory: it is not formatted, or has the new namespace and alone opens to it
abbrev pub LeftFreshOrAsked : Bytes → ℕ → Reads → Type 0
LeftFreshOrAsked cluster namespace dir = FitsFresh dir ⊎ ((version : Version) × IsNewVersion cluster namespace version × ReadsFormatted version dir × OpensEmpty dir)

-- of all directories: each is so, and each choice of them with one that is formatted opens to the new namespace
pub record LeftByFormat (cluster : Bytes) (namespace count : ℕ) (contents : ℕ → Reads) : Type 0 where
  pub each : (i : ℕ) → i < count → LeftFreshOrAsked cluster namespace (contents i)
  pub choices : EachChoiceOpensEmpty count contents

-- a stop at any moment since leaves them so
abbrev pub StopsFreshOrAsked : Bytes → ℕ → State → State → Type 0
StopsFreshOrAsked cluster namespace old new = (contents : ℕ → Reads) (m : Moment) → Left new (moment old) contents m → LeftByFormat cluster namespace old.count contents

-- ---- by the end

-- each directory holds the new namespace and nothing else, and alone opens to it, as each choice of one or more does
abbrev pub FormatsAsAsked : Bytes → ℕ → State → State → Type 0
FormatsAsAsked cluster namespace old new = (version : Version) × IsNewVersion cluster namespace version × AllFormatted version old new

-- all are formatted and their number was said, or a front of that where the output failed; else nothing was said, and where one
-- can't be formatted, each reads as before
abbrev pub FormatDid : Bytes → ℕ → State → State → Bytes → FormatEnd → Type 0
FormatDid cluster namespace old new lines Done = FormatsAsAsked cluster namespace old new × (lines ≡ formatted_line old.count)
FormatDid cluster namespace old new lines (Refused refusal) = IsRefused refusal old new × (lines ≡ [])
FormatDid cluster namespace old new lines (HostFault i) = lines ≡ []
FormatDid cluster namespace old new lines Memory = lines ≡ []
FormatDid cluster namespace old new lines OutFault = FormatsAsAsked cluster namespace old new × ((later : Bytes) × (formatted_line old.count ≡ lines ++ later))

-- the directory that failed
abbrev pub format_failed : FormatEnd → Option ℕ
format_failed (HostFault i) = Some i.0
format_failed end = None

-- a run over directories that are not formatted leaves each of them so, or new, at every moment; where one can't be formatted,
-- each is at every moment as it was, or settled
pub record FormatRan (told : Type 0) (cluster : Bytes) (namespace : ℕ) (old new : State) (lines : Bytes) (end : FormatEnd) : Type 0 where
  pub did : told → FormatDid cluster namespace old new lines end
  pub each_moment : told → AllFresh old → EachFreshOrAsked told cluster namespace old new
  pub any_stop : told → AllFresh old → StopsFreshOrAsked cluster namespace old new
  pub as_before : first_unformattable old.reads old.count ≢ None → EachAsBefore told old new
  pub counted : Counts (format_failed end) old new
