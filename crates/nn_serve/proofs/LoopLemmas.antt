-- The lines of a script, from one to the next, and each way out.
use Rattle.std.proofs.Common.{◌≡◌, ℕ, ◌+◌, ◌≤◌, List, [], ◌∷◌, ◌++◌, length, Ok, Err, sym, subst, arith}
use Rattle.nn_base.specs.Limits.{most_script}
use Rattle.nn_base.specs.Paths.{Bytes}
use Rattle.nn_host.specs.Moments.{State}
use Rattle.nn_host.specs.Calls.{next_count}
use Rattle.nn_marks.specs.declared.version.Version.{Version}
use Rattle.nn_tree.specs.Namespace.{Namespace}
use Rattle.nn_journal.specs.declared.journal.JournalSet.{JournalSet}
use Rattle.nn_reader.specs.Reader.{EndedLine, LastLine, NoLine, PastBudget, Stopped}
use Rattle.nn_reader.specs.Script.{OnTheWay, AtEnd, ScriptRead}
use Rattle.nn_reader.proofs.ScriptLemmas.{SoFar, so_far_nothing, so_far_more, line_next, last_next, none_read, past_read, failed_read}
use Rattle.nn_run.specs.Running.{Asked}
use Rattle.nn_run.proofs.WindowLemmas.{some_length}
use Rattle.nn_core.specs.declared.event.End.{End}
use Rattle.nn_core.specs.declared.event.End.TheVariants as end
use Rattle.nn_server.specs.Came.{CameTo}
use Rattle.nn_serve.specs.declared.ending.RunEnd.{RunEnd}
use Rattle.nn_serve.specs.declared.ending.RunEnd.TheVariants.{SourceFault, ScriptTooLong}
use Rattle.nn_serve.specs.Ended.{run_status, run_end}
use Rattle.nn_serve.specs.Ran.{lines_of_all, RunRan}
use Rattle.nn_serve.specs.Serving.{IsServing, HasRoom, EndsSo}
use Rattle.nn_serve.specs.Turns.{Turns, Closes}
use Rattle.nn_serve.proofs.OutLemmas.{out_source, out_long}
use Rattle.nn_serve.proofs.ServeLemmas.{came_to, came_as, came_closed, lines_more}

-- these lines were answered, and so much of the script is to come
pub record Answering (told_host told_source : Type 0) (at count : ℕ) (version : Version) (ns : Namespace) (time : ℕ) (journal : JournalSet) (script rest : Bytes) (budget : ℕ) (old s : State) : Type 0 where
  pub seen : List Asked
  pub serving : IsServing told_host at count version ns time journal seen old s
  pub room : HasRoom told_host old journal budget
  pub so_far : SoFar told_source script rest budget (lines_of_all seen)

pub room_less : {told : Type 0} {old : State} {journal : JournalSet} {more : ℕ} (fewer : ℕ) → fewer ≤ more → HasRoom told old journal more → HasRoom told old journal fewer
room_less fewer le room = record { ids = omega (arith, le, room.ids); few = λ tells begins. omega (arith, le, room.few tells begins) }

pub answering_nothing : {told_host told_source : Type 0} {at count : ℕ} {version : Version} {ns : Namespace} {time : ℕ} {journal : JournalSet} {old s : State} (script ahead : Bytes) (budget : ℕ) → ahead ≡ [] → budget ≡ most_script
    → IsServing told_host at count version ns time journal [] old s → HasRoom told_host old journal most_script → Answering told_host told_source at count version ns time journal script (ahead ++ script) budget old s
answering_nothing script ahead budget none whole serving room = record { seen = []; serving = serving; room = room_less budget (omega (arith, whole)) room; so_far = so_far_nothing script ahead budget none whole }

-- a last line takes of it
pub last_budget : {told : Type 0} {before after line : Bytes} {budget budget_after : ℕ} → LastLine told before after budget budget_after line → 1 ≤ budget
last_budget read = omega (arith, read.budget, some_length read.body read.some)

-- over as many directories of the same VERSION
pub answering_as : {told_host told_source : Type 0} {at n m : ℕ} {version other : Version} {ns : Namespace} {time : ℕ} {journal : JournalSet} {script rest : Bytes} {budget : ℕ} {old s : State} → n ≡ m → version ≡ other
    → Answering told_host told_source at n version ns time journal script rest budget old s → Answering told_host told_source at m other ns time journal script rest budget old s
answering_as {told_host} {told_source} {at} {m = m} {version = version} {ns = ns} {time} {journal} {script} {rest} {budget} {old} {s} same alike is =
    subst (λ (v : Version). Answering told_host told_source at m v ns time journal script rest budget old s) alike (subst (λ k. Answering told_host told_source at k version ns time journal script rest budget old s) same is)

module _ {told_host told_source : Type 0} {at count : ℕ} {version : Version} {ns : Namespace} {time : ℕ} {journal : JournalSet} {script rest : Bytes} {budget : ℕ} {old s : State} (now : Answering told_host told_source at count version ns time journal script rest budget old s) where
  abbrev Came : Bytes → ℕ → ℕ → State → RunEnd → Type 0
  Came left before after new result = CameTo told_host old new run_status (λ lines trace. RunRan told_host told_source at script left before after old new lines) result

  -- ---- a line that ended

  pub answering_more : {ns_after : Namespace} {time_after : ℕ} {after : JournalSet} {new : State} {line : Bytes} (v : Unit {0}) (ahead left : Bytes) (room : ℕ) → EndedLine told_source rest (ahead ++ left) budget (length ahead + room) line
      → Turns told_host line count version ns ns_after time time_after journal after s new (Ok v) → Answering told_host told_source at count version ns_after time_after after script (ahead ++ left) (length ahead + room) old new
  answering_more v ahead left room read turns =
      let next = line_next ahead left room now.so_far read in
      let turn = turns at now.seen old next.whole (length ahead + room) next.alike now.serving (room_less (length ahead + room + 1) (omega (arith, read.budget)) now.room) in record {
        seen = now.seen ++ turn.0 ∷ [];
        serving = turn.2;
        room = turn.3;
        so_far = subst (λ (lines : List Bytes). SoFar told_source script (ahead ++ left) (length ahead + room) lines) (sym (lines_more now.seen turn.0 next.whole turn.1)) (so_far_more ahead left room now.so_far read);
      }

  came_ended : {left : Bytes} {before after : ℕ} {new : State} (seen : List Asked) (why : End) → EndsSo told_host at old new seen (run_end why) → ScriptRead told_source script left before after OnTheWay (lines_of_all seen) → Came left before after new (run_end why)
  came_ended {left} {before} {after} {new} seen end.NoneLeft so read = came_to at script left before after old new seen (run_end end.NoneLeft) so read
  came_ended {left} {before} {after} {new} seen end.Memory so read = came_to at script left before after old new seen (run_end end.Memory) so read
  came_ended {left} {before} {after} {new} seen end.OutFault so read = came_to at script left before after old new seen (run_end end.OutFault) so read

  -- it ended the run
  pub ends_line : (ns_after : Namespace) (time_after : ℕ) (log : JournalSet) {new : State} {line : Bytes} {before after : ℕ} {result : RunEnd} (why : End) (ahead left : Bytes) (room : ℕ) → EndedLine told_source rest (ahead ++ left) budget (length ahead + room) line
      → Turns told_host line count version ns ns_after time time_after journal log s new (Err why) → after ≡ before → result ≡ run_end why → Came left before after new result
  ends_line ns_after time_after log {before = before} {after = after} why ahead left room read turns counted is =
      let next = line_next ahead left room now.so_far read in
      let turn = turns at now.seen old next.whole (length ahead + room) next.alike now.serving (room_less (length ahead + room + 1) (omega (arith, read.budget)) now.room) in
      came_as is (came_ended (now.seen ++ turn.0 ∷ []) why turn.2
      (subst (λ (lines : List Bytes). ScriptRead told_source script left before after OnTheWay lines) (sym (lines_more now.seen turn.0 next.whole turn.1)) (next.read before after counted)))

  -- ---- the last line

  pub ends_last : {ns_after : Namespace} {time_after : ℕ} {log : JournalSet} {new newest : State} {line : Bytes} {before after budget_after : ℕ} {result : RunEnd} (v : Unit {0}) (ahead left : Bytes) → LastLine told_source rest (ahead ++ left) budget budget_after line
      → Turns told_host line count version ns ns_after time time_after journal log s new (Ok v) → Closes told_host count version ns_after time_after log new newest result → after ≡ before → Came left before after newest result
  ends_last {newest = newest} {before = before} {after = after} {result = result} v ahead left read turns closes counted =
      let last = last_next ahead left now.so_far read in
      let turn = turns at now.seen old last.next.whole 0 last.next.alike now.serving (room_less 1 (last_budget read) now.room) in
      came_closed at script left before after old newest (now.seen ++ turn.0 ∷ []) result closes.0 (closes.1 at (now.seen ++ turn.0 ∷ []) old 0 turn.2 turn.3)
      (subst (λ (lines : List Bytes). ScriptRead told_source script left before after AtEnd lines) (sym (lines_more now.seen turn.0 last.next.whole turn.1)) (last.read before after counted))

  pub ends_last_line : (ns_after : Namespace) (time_after : ℕ) (log : JournalSet) {new : State} {line : Bytes} {before after budget_after : ℕ} {result : RunEnd} (why : End) (ahead left : Bytes) → LastLine told_source rest (ahead ++ left) budget budget_after line
      → Turns told_host line count version ns ns_after time time_after journal log s new (Err why) → after ≡ before → result ≡ run_end why → Came left before after new result
  ends_last_line ns_after time_after log {before = before} {after = after} why ahead left read turns counted is =
      let last = last_next ahead left now.so_far read in
      let turn = turns at now.seen old last.next.whole 0 last.next.alike now.serving (room_less 1 (last_budget read) now.room) in
      came_as is (came_ended (now.seen ++ turn.0 ∷ []) why turn.2
      (subst (λ (lines : List Bytes). ScriptRead told_source script left before after OnTheWay lines) (sym (lines_more now.seen turn.0 last.next.whole turn.1)) (last.next.read before after counted)))

  -- ---- no line

  pub ends_none : {new : State} {before after : ℕ} {result : RunEnd} (ahead left : Bytes) → NoLine told_source rest (ahead ++ left) → Closes told_host count version ns time journal s new result → after ≡ before → Came left before after new result
  ends_none {new} {before} {after} {result} ahead left none closes counted =
      came_closed at script left before after old new now.seen result closes.0 (closes.1 at now.seen old budget now.serving now.room) (none_read ahead left now.so_far none before after counted)

  pub ends_long : {before after : ℕ} (ahead left : Bytes) → PastBudget told_source rest (ahead ++ left) budget → ahead ≡ [] → after ≡ before → Came left before after s ScriptTooLong
  ends_long {before} {after} ahead left past none counted =
      came_to at script left before after old s now.seen ScriptTooLong (out_long at count version ns time journal now.seen old s now.serving) (past_read ahead left now.so_far past none before after counted)

  pub ends_failed : {before after : ℕ} (left : Bytes) → Stopped told_source rest left budget → after ≡ next_count before → Came left before after s SourceFault
  ends_failed {before} {after} left stopped rose =
      came_to at script left before after old s now.seen SourceFault (out_source at count version ns time journal now.seen old s now.serving) (failed_read left now.so_far stopped before after rose)

pub closes_as : {told : Type 0} {n m : ℕ} {version other : Version} {ns : Namespace} {time : ℕ} {journal : JournalSet} {s new : State} {result : RunEnd} → n ≡ m → version ≡ other → Closes told n version ns time journal s new result → Closes told m other ns time journal s new result
closes_as {told} {m = m} {version = version} {ns = ns} {time} {journal} {s} {new} {result} same alike is = subst (λ (v : Version). Closes told m v ns time journal s new result) alike (subst (λ k. Closes told k version ns time journal s new result) same is)
