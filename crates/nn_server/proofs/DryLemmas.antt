-- A run over the lines of a script, from line to line.
use Rattle.std.proofs.Common.{◌≡◌, ℕ, ◌+◌, List, [], ◌∷◌, ◌++◌, length, append_assoc, sym, ap, ◌∙◌, refl, subst, false}
use Rattle.std.specs.Prelude.{Err}
use Rattle.std.specs.List.{concat}
use Rattle.std.proofs.Math.Seq.{take-append_seam}
use Rattle.std.proofs.lemmas.List.{append-nil}
use Rattle.nn_base.specs.Paths.{Bytes}
use Rattle.nn_host.specs.Moments.{State as Host}
use Rattle.nn_host.specs.Calls.{next_count}
use Rattle.nn_script.specs.Answers.{State, answer_of, reply_by, answers, after_lines, first_state}
use Rattle.nn_server.specs.declared.dry_run.DryEnd.{DryEnd}
use Rattle.nn_server.specs.declared.dry_run.DryEnd.TheVariants as end
use Rattle.nn_server.specs.declared.session.Unsaid.{Unsaid}
use Rattle.nn_server.specs.declared.session.Unsaid.TheVariants as unsaid
use Rattle.nn_server.specs.Came.{is_out_fault, CameTo}
use Rattle.nn_server.specs.Codes.{dry_status}
use Rattle.nn_say.specs.Saying.{CutOff, SaysAll, BreaksOff, pieces_of}
use Rattle.nn_server.specs.Answered.{Answered}
use Rattle.nn_base.specs.Limits.{most_script}
use Rattle.nn_server.specs.Dry.{pieces_to, AnswersTo, DrySays, dry_end, dry_reached, DryRan}
use Rattle.nn_reader.specs.Reader.{EndedLine, LastLine, NoLine, PastBudget, Stopped}
use Rattle.nn_reader.specs.Script.{OnTheWay, ScriptRead}
use Rattle.nn_reader.proofs.ScriptLemmas.{SoFar, so_far_nothing, so_far_more, NextLine, line_next, last_next, none_read, past_read, failed_read, unread}
use Rattle.nn_server.proofs.CameLemmas.{said_since, since_is, speaks_whole, touches_none}
use Rattle.nn_say.proofs.SayingLemmas.{concat-append, concat_pieces, says_nothing, says_then, breaks_after}

-- ---- answers to lines, one behind another

after_more : (s : State) (lines : List Bytes) (line : Bytes) → after_lines s (lines ++ line ∷ []) ≡ (answer_of (after_lines s lines) line).after
after_more s [] line = refl
after_more s (first ∷ lines) line = after_more (answer_of s first).after lines line

pieces_append : (s : State) (lines more : List Bytes) → pieces_to s (lines ++ more) ≡ pieces_to s lines ++ pieces_to (after_lines s lines) more
pieces_append s [] more = refl
pieces_append s (line ∷ lines) more = ap (λ x. pieces_of (answer_of s line).text ++ x) (pieces_append (answer_of s line).after lines more)
    ∙ sym (append_assoc (pieces_of (answer_of s line).text) (pieces_to (answer_of s line).after lines) (pieces_to (after_lines (answer_of s line).after lines) more))

pieces_more : (s : State) (lines : List Bytes) (line : Bytes) → pieces_to s (lines ++ line ∷ []) ≡ pieces_to s lines ++ pieces_of (answer_of (after_lines s lines) line).text
pieces_more s lines line = pieces_append s lines (line ∷ []) ∙ ap (λ x. pieces_to s lines ++ x) (append-nil (pieces_of (answer_of (after_lines s lines) line).text))

pub concat_to : (s : State) (lines : List Bytes) → concat (pieces_to s lines) ≡ answers s lines
concat_to s [] = refl
concat_to s (line ∷ lines) =
    concat-append (pieces_of (answer_of s line).text) (pieces_to (answer_of s line).after lines)
    ∙ (λ i. concat_pieces (answer_of s line).text i ++ concat_to (answer_of s line).after lines i)

-- ---- what a run did that answered these lines, or whose output failed

ran : {told_host told_source : Type 0} {script left : Bytes} {old new : Host} {before after : ℕ} {lines : List Bytes} (result : DryEnd) (answered : List Bytes) → is_out_fault (dry_status result) ≡ false
    → SaysAll told_host old new (pieces_to first_state answered) → ScriptRead told_source script left before after (dry_reached result) lines
    → ((text : Bytes) (pieces : List Bytes) → AnswersTo answered text pieces → DrySays lines result text pieces) → CameTo told_host old new dry_status (DryRan told_host told_source script left before after old new) result
ran {old = old} {lines = lines} result answered unfailed says read so = record {
  lines = answers first_state answered;
  speaks = speaks_whole (dry_status result) unfailed says.answered.out says.answered.out_faults (λ tells. says.said tells ∙ ap (λ x. old.now.said ++ x) (concat_to first_state answered));
  ran = record {
    lines = lines;
    read = read;
    said = λ tells. (pieces_to first_state answered, says.calls tells, so (answers first_state answered) (pieces_to first_state answered) (record { are = refl; in_pieces = refl }));
    dirs = touches_none says.answered;
  };
}

ran_broken : {told_host told_source : Type 0} {script left : Bytes} {old new : Host} {before after : ℕ} (lines : List Bytes) → BreaksOff told_host old new (pieces_to first_state lines)
    → ScriptRead told_source script left before after OnTheWay lines → CameTo told_host old new dry_status (DryRan told_host told_source script left before after old new) end.OutFault
ran_broken {old = old} {new = new} lines broken read = record {
  lines = said_since old new;
  speaks = record {
    said = λ tells. let cut = broken.cut tells in cut.3 ∙ ap (λ x. old.now.said ++ x) (sym (since_is old new cut.0 cut.3));
    counted = broken.failed.out_faults;
    silent = broken.failed.silent;
    whole = λ is. cc;
  };
  ran = record {
    lines = lines;
    read = read;
    said = λ tells.
        let cut = broken.cut tells in
        (cut.1, cut.4, subst (λ (text : Bytes). CutOff (pieces_to first_state lines) text cut.1) (sym (since_is old new cut.0 cut.3)) cut.2);
    dirs = record { kept = broken.failed.untouched; faults = broken.failed.faults; reads = broken.failed.reads };
  };
}

-- ---- so far

-- whole lines of the script were answered, and nothing failed
pub record Answering (told_host told_source : Type 0) (script : Bytes) (old now : Host) (rest : Bytes) (budget : ℕ) (s : State) : Type 0 where
  pub lines : List Bytes
  pub so_far : SoFar told_source script rest budget lines
  pub scene : s ≡ after_lines first_state lines
  pub says : SaysAll told_host old now (pieces_to first_state lines)

pub answering_nothing : {told_host told_source : Type 0} {old : Host} {s : State} (script ahead : Bytes) (budget : ℕ) → ahead ≡ [] → budget ≡ most_script → s ≡ first_state
    → Answering told_host told_source script old old (ahead ++ script) budget s
answering_nothing script ahead budget none whole first = record { lines = []; so_far = so_far_nothing script ahead budget none whole; scene = first; says = says_nothing }

-- what the line is answered that is read next
answered_alike : {told_source : Type 0} {script left : Bytes} {lines : List Bytes} {s : State} {line : Bytes} → s ≡ after_lines first_state lines → (next : NextLine told_source script left lines line)
    → answer_of s line ≡ answer_of (after_lines first_state lines) next.whole
answered_alike {lines = lines} {line = line} scene next = (λ i. answer_of (scene i) line) ∙ ap (reply_by (after_lines first_state lines)) next.alike

-- the pieces up to and with its answer were said
says_due : {told_host told_source : Type 0} {script left : Bytes} {old mid new : Host} {lines : List Bytes} {s : State} {line : Bytes} → SaysAll told_host old mid (pieces_to first_state lines) → s ≡ after_lines first_state lines
    → (next : NextLine told_source script left lines line) → SaysAll told_host mid new (pieces_of (answer_of s line).text) → SaysAll told_host old new (pieces_to first_state (lines ++ next.whole ∷ []))
says_due {told_host = told_host} {old = old} {new = new} {lines = lines} says scene next said = subst (λ (pieces : List Bytes). SaysAll told_host old new pieces)
    (ap (λ r. pieces_to first_state lines ++ pieces_of r.text) (answered_alike scene next) ∙ sym (pieces_more first_state lines next.whole)) (says_then says said)

-- a line that ended was answered
pub answering_more : {told_host told_source : Type 0} {script : Bytes} {old mid new : Host} {rest : Bytes} {budget : ℕ} {s s_after : State} {line : Bytes} (ahead left : Bytes) (room : ℕ)
    → Answering told_host told_source script old mid rest budget s → EndedLine told_source rest (ahead ++ left) budget (length ahead + room) line
    → SaysAll told_host mid new (pieces_of (answer_of s line).text) × (s_after ≡ (answer_of s line).after)
    → Answering told_host told_source script old new (ahead ++ left) (length ahead + room) s_after
answering_more ahead left room now read answered =
    let next = line_next ahead left room now.so_far read in record {
      lines = now.lines ++ next.whole ∷ [];
      so_far = so_far_more ahead left room now.so_far read;
      scene = answered.1 ∙ ap (λ r. r.after) (answered_alike now.scene next) ∙ sym (after_more first_state now.lines next.whole);
      says = says_due now.says now.scene next answered.0;
    }

-- ---- how a run ends

-- the script was at its end
pub ending_done : {told_host told_source : Type 0} {script : Bytes} {old new : Host} {rest : Bytes} {budget before after : ℕ} {s : State} (ahead left : Bytes)
    → Answering told_host told_source script old new rest budget s → NoLine told_source rest (ahead ++ left) → after ≡ before
    → CameTo told_host old new dry_status (DryRan told_host told_source script left before after old new) end.Done
ending_done {before = before} {after = after} ahead left now none counted = ran end.Done now.lines refl now.says (none_read ahead left now.so_far none before after counted) (λ text pieces given. given)

-- its last line was answered
pub ending_last : {told_host told_source : Type 0} {script : Bytes} {old mid new : Host} {rest : Bytes} {budget budget_after before after : ℕ} {s : State} {line : Bytes} (ahead left : Bytes)
    → Answering told_host told_source script old mid rest budget s → LastLine told_source rest (ahead ++ left) budget budget_after line → SaysAll told_host mid new (pieces_of (answer_of s line).text) → after ≡ before
    → CameTo told_host old new dry_status (DryRan told_host told_source script left before after old new) end.Done
ending_last {before = before} {after = after} ahead left now last said counted =
    let it = last_next ahead left now.so_far last in
    ran end.Done (now.lines ++ it.next.whole ∷ []) refl (says_due now.says now.scene it.next said) (it.read before after counted) (λ text pieces given. given)

-- it has more bytes than it may have
pub ending_long : {told_host told_source : Type 0} {script : Bytes} {old new : Host} {rest : Bytes} {budget before after : ℕ} {s : State} (ahead left : Bytes)
    → Answering told_host told_source script old new rest budget s → PastBudget told_source rest (ahead ++ left) budget → ahead ≡ [] → after ≡ before
    → CameTo told_host old new dry_status (DryRan told_host told_source script left before after old new) end.ScriptTooLong
ending_long {before = before} {after = after} ahead left now past none counted = ran end.ScriptTooLong now.lines refl now.says (past_read ahead left now.so_far past none before after counted) (λ text pieces given. given)

-- the source failed
pub ending_failed : {told_host told_source : Type 0} {script : Bytes} {old new : Host} {rest : Bytes} {budget before after : ℕ} {s : State} (left : Bytes)
    → Answering told_host told_source script old new rest budget s → Stopped told_source rest left budget → after ≡ next_count before
    → CameTo told_host old new dry_status (DryRan told_host told_source script left before after old new) end.SourceFault
ending_failed {before = before} {after = after} left now stopped counted = ran end.SourceFault now.lines refl now.says (failed_read left now.so_far stopped before after counted) (λ text pieces given. given)

-- an answer wasn't said whole
fallen : {told_host told_source : Type 0} {script left : Bytes} {old mid new : Host} {lines : List Bytes} {before after : ℕ} {s : State} {line : Bytes} (s_after : State) (why : Unsaid) → SaysAll told_host old mid (pieces_to first_state lines)
    → s ≡ after_lines first_state lines → NextLine told_source script left lines line → Answered told_host mid new (answer_of s line) s_after (Err why) → after ≡ before
    → CameTo told_host old new dry_status (DryRan told_host told_source script left before after old new) (dry_end why)
fallen {told_host} {old = old} {new = new} {lines = lines} {before = before} {after = after} s_after unsaid.Memory says scene next nothing counted =
    let same = subst (λ (pieces : List Bytes). SaysAll told_host old new pieces) (append-nil (pieces_to first_state lines)) (says_then says nothing) in
    ran end.Memory lines refl same (next.read before after counted)
    (λ text pieces given. (length lines, subst (λ (first : List Bytes). AnswersTo first text pieces) (sym (take-append_seam lines (next.whole ∷ []))) given))
fallen {told_host} {old = old} {new = new} {lines = lines} {before = before} {after = after} s_after unsaid.Output says scene next broken counted =
    let all = subst (λ (pieces : List Bytes). BreaksOff told_host old new pieces)
    (ap (λ r. pieces_to first_state lines ++ pieces_of r.text) (answered_alike scene next) ∙ sym (pieces_more first_state lines next.whole)) (breaks_after says broken) in
    ran_broken (lines ++ next.whole ∷ []) all (next.read before after counted)

pub ending_unsaid : {told_host told_source : Type 0} {script left : Bytes} {old mid new : Host} {rest : Bytes} {budget before after : ℕ} {s : State} {line : Bytes} {result : DryEnd} (s_after : State) (why : Unsaid)
    → (now : Answering told_host told_source script old mid rest budget s) → NextLine told_source script left now.lines line → Answered told_host mid new (answer_of s line) s_after (Err why) → after ≡ before → result ≡ dry_end why
    → CameTo told_host old new dry_status (DryRan told_host told_source script left before after old new) result
ending_unsaid {told_host} {told_source} {script} {left} {old} {new = new} {before = before} {after = after} s_after why now next answered counted is =
    subst (λ (e : DryEnd). CameTo told_host old new dry_status (DryRan told_host told_source script left before after old new) e) (sym is) (fallen s_after why now.says now.scene next answered counted)

-- there was no memory to begin with
pub ending_unbegun : {told_host told_source : Type 0} {old : Host} {faults : ℕ} (script : Bytes) → CameTo told_host old old dry_status (DryRan told_host told_source script script faults faults old old) end.Memory
ending_unbegun {faults = faults} script = ran end.Memory [] refl says_nothing (unread script faults) (λ text pieces given. (0, given))
