-- The record of a command, from the moment when it came to its end on to the return of the run.
use Rattle.std.proofs.Common.{◌≡◌, ◌⊎◌, ℕ, ◌<◌, List, Option, Some, None, sym, ◌∙◌, subst}
use Rattle.nn_base.specs.Paths.{Bytes}
use Rattle.nn_host.specs.Disk.{Disk, Reads}
use Rattle.nn_host.specs.Moments.{Entry, State, IsLawful, disk_at}
use Rattle.nn_host.specs.Runs.{Untouched, Throughout, EachDir}
use Rattle.nn_host.proofs.RunsLemmas.{throughout_trans, throughout_weaker, untouched_trans}
use Rattle.nn_marks.specs.declared.version.Version.{Version}
use Rattle.nn_pick.specs.declared.refusal.Refusal.{Refusal}
use Rattle.nn_pick.specs.Dirs.{EachChoice}
use Rattle.nn_open.specs.Formatted.{IsFormatted, ReadsFormatted, OpensEmpty, OpenEmptySoundly}
use Rattle.nn_open.specs.Answers.{AllFormatted, IsRefused, settled_disk}
use Rattle.nn_server.specs.declared.state_run.StateEnd.{StateEnd}
use Rattle.nn_server.specs.declared.dry_run.DryEnd.{DryEnd}
use Rattle.nn_server.specs.declared.format_run.FormatEnd.{FormatEnd}
use Rattle.nn_server.specs.declared.format_run.FormatEnd.TheVariants.{Done, Refused, HostFault, Memory, OutFault}
use Rattle.nn_server.specs.declared.status.Status.{Status}
use Rattle.nn_server.specs.Came.{Counts, TouchesNoDir, CameTo}
use Rattle.nn_server.specs.States.{StateRan, state_failed, state_status}
use Rattle.nn_server.specs.Dry.{DryRan}
use Rattle.nn_server.specs.Codes.{dry_status}
use Rattle.nn_server.specs.Format.{FreshOrAsked, FormatDid, FormatRan, format_failed, format_status}
use Rattle.nn_server.proofs.FormatLemmas.{asked_left}
use Rattle.nn_generate.specs.declared.said.GenerateEnd.{GenerateEnd}
use Rattle.nn_generate.specs.Said.{GenerateRan, generate_status}
use Rattle.nn_top.specs.Ended.{Ended}
use Rattle.nn_top.specs.Closes.{Closing}
use Rattle.nn_top.proofs.ClosesLemmas.{closes_after}

counts_on : {told : Type 0} (a b c : State) (failed : Option ℕ) → Counts failed a b → TouchesNoDir told b c → Counts failed a c
counts_on a b c None p q = record { faults = λ j. q.faults j ∙ p.faults j }
counts_on a b c (Some i) p q = record { below = p.below; rose = q.faults i ∙ p.rose; others = λ j other. q.faults j ∙ p.others j other }

touched_on : {told : Type 0} {a b c : State} → TouchesNoDir told a b → TouchesNoDir told b c → TouchesNoDir told a c
touched_on p q = record {
  kept = untouched_trans p.kept q.kept;
  faults = λ j. q.faults j ∙ p.faults j;
  reads = λ tells j. q.reads tells j ∙ p.reads tells j;
}

state_on : {told : Type 0} {a b c : State} {lines : Bytes} {trace : List Entry} (end : StateEnd) → StateRan told a b lines trace end → TouchesNoDir told b c → StateRan told a c lines trace end
state_on {a = a} {b = b} {c = c} end ran dirs = record {
  named = ran.named;
  said = ran.said;
  calls = ran.calls;
  kept = untouched_trans ran.kept dirs.kept;
  reads = λ tells j other. dirs.reads tells j ∙ ran.reads tells j other;
  counted = counts_on a b c (state_failed end) ran.counted dirs;
}

dry_on : {told told_source : Type 0} {script left : Bytes} {before after : ℕ} {a b c : State} {lines : Bytes} {trace : List Entry} (end : DryEnd) → DryRan told told_source script left before after a b lines trace end
    → TouchesNoDir told b c → DryRan told told_source script left before after a c lines trace end
dry_on end ran dirs = record { lines = ran.lines; read = ran.read; said = ran.said; dirs = touched_on ran.dirs dirs }

generate_on : {told : Type 0} {a b c : State} {lines : Bytes} {trace : List Entry} (count : ℕ) (end : GenerateEnd) → GenerateRan told count a b lines trace end → TouchesNoDir told b c → GenerateRan told count a c lines trace end
generate_on count end ran dirs = record { said = ran.said; dirs = touched_on ran.dirs dirs }

-- ---- `format`

-- what changes no directory keeps what the disk of each has
each_disk_on : {told : Type 0} {a b c : State} (P : ℕ → Disk → Type 0) → Throughout told a b (EachDir (λ i d. P i d.disk)) → Untouched told b c → Throughout told a c (EachDir (λ i d. P i d.disk))
each_disk_on P p q = throughout_trans p (throughout_weaker q (λ tells m same. record { at = λ j. subst (P j) (sym (same.disks j)) ((p.ends tells).at j) }))

formatted_on : {told : Type 0} {a b c : State} (version : Version) → told → AllFormatted version a b → TouchesNoDir told b c → AllFormatted version a c
formatted_on {a = a} {b = b} {c = c} version tells formatted dirs = record {
  unrefused = formatted.unrefused;
  reads = λ i below. subst (λ (r : Reads). ReadsFormatted version r) (sym (dirs.reads tells i)) (formatted.reads i below);
  disks = λ i below. subst (λ (d : Disk). IsFormatted version d) (sym ((dirs.kept.ends tells).disks i)) (formatted.disks i below);
  opens = λ i below. subst (λ (r : Reads). OpensEmpty r) (sym (dirs.reads tells i)) (formatted.opens i below);
  choices = subst (λ (r : ℕ → Reads). EachChoice a.count r (λ some. 0 < some.count → OpenEmptySoundly some)) (sym all) formatted.choices;
}
  where
    all : c.reads ≡ b.reads
    all = λ k. λ (j : ℕ). dirs.reads tells j k

refused_on : {told : Type 0} {a b c : State} (refusal : Refusal) → told → IsRefused refusal a b → TouchesNoDir told b c → IsRefused refusal a c
refused_on refusal tells refused dirs = record {
  first = refused.first;
  reads = λ i. dirs.reads tells i ∙ refused.reads i;
  settled = λ i below. (dirs.kept.ends tells).disks i ∙ refused.settled i below;
}

did_on : {told : Type 0} (a b c : State) (lines cluster : Bytes) (namespace : ℕ) (end : FormatEnd) → told → FormatDid cluster namespace a b lines end → TouchesNoDir told b c → FormatDid cluster namespace a c lines end
did_on a b c lines cluster namespace Done tells did dirs = let as_asked = did.0 in ((as_asked.0, as_asked.1, formatted_on as_asked.0 tells as_asked.2 dirs), did.1)
did_on a b c lines cluster namespace (Refused refusal) tells did dirs = (refused_on refusal tells did.0 dirs, did.1)
did_on a b c lines cluster namespace (HostFault i) tells did dirs = did
did_on a b c lines cluster namespace Memory tells did dirs = did
did_on a b c lines cluster namespace OutFault tells did dirs = let as_asked = did.0 in ((as_asked.0, as_asked.1, formatted_on as_asked.0 tells as_asked.2 dirs), did.1)

format_on : {told : Type 0} {a b c : State} {lines : Bytes} (cluster : Bytes) (namespace : ℕ) (end : FormatEnd) → (told → IsLawful a) → FormatRan told cluster namespace a b lines end → TouchesNoDir told b c
    → FormatRan told cluster namespace a c lines end
format_on {a = a} {b = b} {c = c} {lines = lines} cluster namespace end lawful ran dirs = record {
  did = λ tells. did_on a b c lines cluster namespace end tells (ran.did tells) dirs;
  each_moment = λ tells fresh. each_disk_on (λ (j : ℕ) (d : Disk). j < a.count → FreshOrAsked cluster namespace d) (ran.each_moment tells fresh) dirs.kept;
  any_stop = λ tells fresh. asked_left tells (lawful tells) fresh (each_disk_on (λ (j : ℕ) (d : Disk). j < a.count → FreshOrAsked cluster namespace d) (ran.each_moment tells fresh) dirs.kept);
  as_before = λ some. each_disk_on (λ (j : ℕ) (d : Disk). (d ≡ disk_at a j) ⊎ (d ≡ settled_disk a j)) (ran.as_before some) dirs.kept;
  counted = counts_on a b c (format_failed end) ran.counted dirs;
}

-- ---- from the command's end to the return

ended : {End : Type 0} {told : Type 0} {a b c : State} {status_of : End → Status} {Before After : Bytes → List Entry → End → Type 0} (end : End) (result : Status)
    → ((lines : Bytes) (trace : List Entry) → Before lines trace end → After lines trace end) → CameTo told a b status_of Before end → Closing told b c (status_of end) result → Ended told a c status_of After result
ended {b = b} {status_of = status_of} end result on came closing = record {
  end = end;
  lines = came.lines;
  trace = b.trace;
  ran = on came.lines b.trace came.ran;
  closes = closes_after (status_of end) result came.speaks closing;
}

pub state_ended : {told : Type 0} {a b c : State} (end : StateEnd) (result : Status) → CameTo told a b state_status (StateRan told a b) end → Closing told b c (state_status end) result
    → Ended told a c state_status (StateRan told a c) result
state_ended end result came closing = ended end result (λ lines trace ran. state_on end ran closing.dirs) came closing

pub format_ended : {told : Type 0} {a b c : State} (cluster : Bytes) (namespace : ℕ) (end : FormatEnd) (result : Status) → (told → IsLawful a)
    → CameTo told a b format_status (λ lines trace. FormatRan told cluster namespace a b lines) end → Closing told b c (format_status end) result
    → Ended told a c format_status (λ lines trace. FormatRan told cluster namespace a c lines) result
format_ended cluster namespace end result lawful came closing = ended end result (λ lines trace ran. format_on cluster namespace end lawful ran closing.dirs) came closing

pub dry_ended : {told told_source : Type 0} {script left : Bytes} {before after : ℕ} {a b c : State} (end : DryEnd) (result : Status) → CameTo told a b dry_status (DryRan told told_source script left before after a b) end
    → Closing told b c (dry_status end) result → Ended told a c dry_status (DryRan told told_source script left before after a c) result
dry_ended end result came closing = ended end result (λ lines trace ran. dry_on end ran closing.dirs) came closing

pub generate_ended : {told : Type 0} {a b c : State} (count : ℕ) (end : GenerateEnd) (result : Status) → CameTo told a b generate_status (GenerateRan told count a b) end → Closing told b c (generate_status end) result
    → Ended told a c generate_status (GenerateRan told count a c) result
generate_ended count end result came closing = ended end result (λ lines trace ran. generate_on count end ran closing.dirs) came closing
