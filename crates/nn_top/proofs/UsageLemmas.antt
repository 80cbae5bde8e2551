-- A command that was run doesn't end by the status of words without a reading.
use Rattle.std.proofs.Common.{◌≡◌, ◌≢◌, ◌⊎◌, inl, inr, ⊎_elim, true, false, List, [], sym, ◌∙◌}
use Rattle.std.proofs.lemmas.Bool.{false≢true}
use Rattle.nn_base.specs.Paths.{Bytes}
use Rattle.nn_host.specs.Moments.{Entry, State}
use Rattle.nn_server.specs.declared.state_run.StateEnd.{StateEnd}
use Rattle.nn_server.specs.declared.state_run.StateEnd.TheVariants as states
use Rattle.nn_server.specs.declared.format_run.FormatEnd.{FormatEnd}
use Rattle.nn_server.specs.declared.format_run.FormatEnd.TheVariants as format
use Rattle.nn_server.specs.declared.dry_run.DryEnd.{DryEnd}
use Rattle.nn_server.specs.declared.dry_run.DryEnd.TheVariants as dry
use Rattle.nn_server.specs.declared.status.Status.{Status}
use Rattle.nn_server.specs.declared.status.Status.TheVariants.{Usage, Memory, OutFault}
use Rattle.nn_server.specs.States.{state_status}
use Rattle.nn_server.specs.Format.{format_status}
use Rattle.nn_server.specs.Codes.{dry_status}
use Rattle.nn_generate.specs.declared.said.GenerateEnd.{GenerateEnd}
use Rattle.nn_generate.specs.declared.said.GenerateEnd.TheVariants as generate
use Rattle.nn_generate.specs.Said.{generate_status}
use Rattle.nn_top.specs.Closes.{ClosesWhole, ClosesCut}
use Rattle.nn_top.specs.Ended.{Ended}
use Rattle.nn_top.specs.Did.{Unread}

pub not_usage : {End : Type 0} {told : Type 0} {a b : State} {status_of : End → Status} {Ran : Bytes → List Entry → End → Type 0} {result : Status} → ((end : End) → status_of end ≢ Usage) → Ended told a b status_of Ran result → result ≢ Usage
not_usage {told = told} {a = a} {b = b} {status_of = status_of} {result = result} others ended is = ⊎_elim
    (λ (all : ClosesWhole told ended.trace a b ended.lines (status_of ended.end) result). ⊎_elim (λ same. others ended.end (sym same ∙ is)) (λ memory. let no : Memory ≡ Usage = sym memory.0 ∙ is in cc) all.is_last)
    (λ (front : ClosesCut told ended.trace a b ended.lines (status_of ended.end) result). let no : OutFault ≡ Usage = sym front.failed ∙ is in cc)
    ended.closes

pub state_not_usage : (end : StateEnd) → state_status end ≢ Usage
state_not_usage states.Done is = cc
state_not_usage (states.Refused refusal) is = cc
state_not_usage (states.HostFault i) is = cc
state_not_usage states.Memory is = cc
state_not_usage states.OutFault is = cc

pub format_not_usage : (end : FormatEnd) → format_status end ≢ Usage
format_not_usage format.Done is = cc
format_not_usage (format.Refused refusal) is = cc
format_not_usage (format.HostFault i) is = cc
format_not_usage format.Memory is = cc
format_not_usage format.OutFault is = cc

pub dry_not_usage : (end : DryEnd) → dry_status end ≢ Usage
dry_not_usage dry.Done is = cc
dry_not_usage dry.SourceFault is = cc
dry_not_usage dry.ScriptTooLong is = cc
dry_not_usage dry.Memory is = cc
dry_not_usage dry.OutFault is = cc

pub generate_not_usage : (end : GenerateEnd) → generate_status end ≢ Usage
generate_not_usage generate.Done is = cc
generate_not_usage generate.Memory is = cc
generate_not_usage generate.OutFault is = cc

-- words without a reading end by it, unless the output fails
pub unread_ends : {told : Type 0} {a b : State} {result : Status} → Unread told a b result → (result ≡ Usage) ⊎ (result ≡ OutFault)
unread_ends {told} {a} {b} {result} unread = ⊎_elim
    (λ (all : ClosesWhole told a.trace a b [] Usage result). ⊎_elim (λ same. inl same) (λ memory. let no : false ≡ true = memory.1 in absurd (false≢true no)) all.is_last)
    (λ (front : ClosesCut told a.trace a b [] Usage result). inr front.failed)
    unread.closes
