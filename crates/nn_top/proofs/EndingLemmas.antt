-- How a run over directories ends: its last lines, and what the last line leaves of its counts and its directories.
use Rattle.std.proofs.Common.{◌≡◌, inl, inr, ⊎_elim, ℕ, ◌+◌, ◌≤◌, Bool, false, List, refl, sym, ◌∙◌, ap, subst, if◌then◌else◌, arith}
use Rattle.std.specs.List.{Contains}
use Rattle.std.proofs.lemmas.Bool.{false≢true}
use Rattle.nn_base.specs.Paths.{Bytes}
use Rattle.nn_base.specs.declared.sub.Sub.TheVariants.{Current}
use Rattle.nn_base.specs.declared.file_name.FileName.TheVariants.{InProgress}
use Rattle.nn_host.specs.Moments.{Entry, Dir, State, faults_at}
use Rattle.nn_host.specs.Disk.{Reads}
use Rattle.nn_host.specs.Calls.{next_count}
use Rattle.nn_run.specs.Running.{Asked}
use Rattle.nn_run.specs.Window.{base_since}
use Rattle.nn_whole.specs.Closed.{closing_lines, IsEarlyLine}
use Rattle.nn_whole.specs.Counted.{IsPast, tries_of}
use Rattle.nn_server.specs.declared.status.Status.{Status}
use Rattle.nn_server.specs.declared.status.Status.TheVariants as outcome
use Rattle.nn_server.specs.Came.{Speaks}
use Rattle.nn_serve.specs.declared.ending.RunEnd.{RunEnd}
use Rattle.nn_serve.specs.declared.ending.RunEnd.TheVariants.{Ended, Refused, HostFault, NoneLeft, SourceFault, ScriptTooLong, Memory, OutFault}
use Rattle.nn_serve.specs.Ended.{run_status}
use Rattle.nn_serve.specs.Ran.{LeavesLast, CausedBy, FailOnce, BeginsSoundly, asked_at}
use Rattle.nn_top.specs.Lines.{last_line}
use Rattle.nn_top.specs.Closes.{is_made, IsLast, ClosesWhole, ClosesCut, Closes, Closing}

-- ---- last lines of a run

-- a status whose line needn't be made has just that line
just_last : {last : Status} (status : Status) → is_made status ≡ false → IsLast status last → last ≡ status
just_last status plain (inl is) = is
just_last status plain (inr memory) = absurd (false≢true (sym plain ∙ memory.1))

no_memory : Contains closing_lines (last_line outcome.Memory)
no_memory = (4, omega arith, refl)

pub says_stopped : {last : Status} → IsLast outcome.Stopped last → Contains closing_lines (last_line last)
says_stopped is = rw (just_last outcome.Stopped refl is) (0, omega arith, refl)

pub says_none_left : {last : Status} → IsLast outcome.NoneLeft last → Contains closing_lines (last_line last)
says_none_left is = rw (just_last outcome.NoneLeft refl is) (1, omega arith, refl)

pub says_source_fault : {last : Status} → IsLast outcome.SourceFault last → Contains closing_lines (last_line last)
says_source_fault is = rw (just_last outcome.SourceFault refl is) (2, omega arith, refl)

pub says_too_long : {last : Status} → IsLast outcome.ScriptTooLong last → Contains closing_lines (last_line last)
says_too_long is = rw (just_last outcome.ScriptTooLong refl is) (3, omega arith, refl)

pub says_memory : {last : Status} → IsLast outcome.Memory last → Contains closing_lines (last_line last)
says_memory is = rw (just_last outcome.Memory refl is) no_memory

-- a run that didn't start is refused, tells of a directory that failed, or of want of memory
pub says_early : {last : Status} (status : Status) → IsEarlyLine (last_line status) → IsLast status last → IsEarlyLine (last_line last)
says_early status early (inl is) = rw is early
says_early status early (inr memory) = rw memory.0 (inr (inr no_memory))

-- where the output failed before, nothing more is done
pub silent_same : {told : Type 0} {b c : State} {result : Status} → Closing told b c outcome.OutFault result → c ≡ b
silent_same closing = ⊎_elim (λ silent. silent.2) (λ said. absurd (false≢true (sym said.0))) closing.ends

-- ---- counts and reads

pub caused_on : (a b c : State) (answered : List Asked) (end : RunEnd) → ((j : ℕ) → faults_at c j ≡ faults_at b j) → CausedBy a b answered end → CausedBy a c answered end
caused_on a b c answered Ended same caused = (caused.0, caused.1, same caused.0 ∙ caused.2)
caused_on a b c answered (Refused refusal) same caused = record { faults = λ j. same j ∙ caused.faults j }
caused_on a b c answered (HostFault i) same caused = (caused.0, same i.0 ∙ caused.1)
caused_on a b c answered NoneLeft same caused = λ i below. subst (λ (n : ℕ). IsPast (base_since a answered i) n) (sym (same i)) (caused i below)
caused_on a b c answered SourceFault same caused = caused
caused_on a b c answered ScriptTooLong same caused = caused
caused_on a b c answered Memory same caused = caused
caused_on a b c answered OutFault same caused = caused

pub once_on : (a b c : State) (lines : List Asked) (end : RunEnd) → ((j : ℕ) → faults_at c j ≡ faults_at b j) → FailOnce a b lines end → FailOnce a c lines end
once_on a b c lines end same once never i below =
    subst (λ (n : ℕ). (faults_at a i ≤ n) × (n ≤ faults_at a i + 1 + tries_of lines i)) (sym (same i)) (once never i below)

-- whether the output failed by the command's end, where it hadn't by the return
pub out_before : {told : Type 0} {a b c : State} {text : Bytes} {result : Status} (status : Status) → Speaks told a b text status → Closing told b c status result → c.now.out_faults ≡ a.now.out_faults → b.now.out_faults ≡ a.now.out_faults
out_before {told} {a} {b} {c} {text} {result} status speaks closing same = ⊎_elim
    (λ silent. ap (λ (s : State). s.now.out_faults) (sym silent.2) ∙ same)
    (λ said. speaks.counted ∙ ap (λ (failed : Bool). if failed then next_count a.now.out_faults else a.now.out_faults) said.0)
    closing.ends

-- what was left of sound directories by done work
pub leaves_on : (at : ℕ) (a b c : State) (begins : BeginsSoundly a) (seen : List Asked) → c.now.dirs ≡ b.now.dirs → c.count ≡ b.count → ((i : ℕ) → c.reads i ≡ b.reads i) → LeavesLast (asked_at at) begins.sound.opened seen a b
    → LeavesLast (asked_at at) begins.sound.opened seen a c
leaves_on at a b c begins seen dirs count reads leaves = record {
  opens = λ after same listed lawful. leaves.opens after (same ∙ dirs) (listed ∙ count) lawful;
  ended = λ i first below fresh kept range.
      ap (λ (r : Reads). r.file Current (InProgress first)) (reads i) ∙ leaves.ended i first below fresh (subst (λ (n : ℕ). n ≤ base_since a seen i) (ap (λ (d : ℕ → Dir). (d i).faults) dirs) kept) range;
}

-- only done work stops
stopped_ended : (end : RunEnd) → run_status end ≡ outcome.Stopped → end ≡ Ended
stopped_ended Ended is = refl
stopped_ended (Refused refusal) is = cc
stopped_ended (HostFault i) is = cc
stopped_ended NoneLeft is = cc
stopped_ended SourceFault is = cc
stopped_ended ScriptTooLong is = cc
stopped_ended Memory is = cc
stopped_ended OutFault is = cc

pub stopped_so : {told : Type 0} {a c : State} {trace : List Entry} {lines : Bytes} {result : Status} (end : RunEnd) → Closes told trace a c lines (run_status end) result → result ≡ outcome.Stopped → end ≡ Ended
stopped_so {told} {a} {c} {trace} {lines} {result} end closes is = ⊎_elim
    (λ (all : ClosesWhole told trace a c lines (run_status end) result). ⊎_elim
    (λ same. stopped_ended end (sym same ∙ is))
    (λ memory. let no : outcome.Memory ≡ outcome.Stopped = sym memory.0 ∙ is in cc)
    all.is_last)
    (λ (front : ClosesCut told trace a c lines (run_status end) result). let no : outcome.OutFault ≡ outcome.Stopped = sym front.failed ∙ is in cc)
    closes
