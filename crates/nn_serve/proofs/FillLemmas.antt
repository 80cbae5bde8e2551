-- One line of a run over generated files, and then the next.
use Rattle.std.proofs.Common.{◌≡◌, ⊎_elim, ℕ, ◌+◌, Bool, true, false, if◌then◌else◌, List, [], ◌∷◌, ◌++◌, length, Ok, Some, None, Option, Result, refl, sym, ◌∙◌, ap, subst, arith, length-append}
use Rattle.std.specs.Prelude.{is_none, nat_lt, ◌&&◌}
use Rattle.std.specs.List.{filter}
use Rattle.std.proofs.lemmas.List.{map-append}
use Rattle.std.proofs.lemmas.List.Elements.{filter-append}
use Rattle.nn_base.specs.DirSets.{has}
use Rattle.nn_base.specs.Paths.{Bytes}
use Rattle.nn_host.specs.Moments.{State}
use Rattle.nn_host.specs.Runs.{Unspoken}
use Rattle.nn_host.proofs.RunsLemmas.{throughout_told, throughout_weaker}
use Rattle.nn_marks.specs.declared.version.Version.{Version}
use Rattle.nn_tree.specs.Namespace.{Namespace}
use Rattle.nn_pick.specs.declared.intent.Intent.TheVariants.{Start}
use Rattle.nn_pick.specs.Opening.{Opening, Opens}
use Rattle.nn_ops.specs.declared.command.Command.{Command}
use Rattle.nn_ops.specs.declared.refusal.OpRefusal.{OpRefusal}
use Rattle.nn_script.specs.declared.command.ScriptCommand.TheVariants.{Namespace as Change}
use Rattle.nn_script.specs.Answers.{change_text}
use Rattle.nn_script.specs.Lines.{has_no_answer, lines_of}
use Rattle.nn_script.specs.Reading.{reading_of}
use Rattle.nn_generate.specs.Generated.{script_of}
use Rattle.nn_journal.specs.declared.journal.JournalSet.{JournalSet}
use Rattle.nn_journal.specs.Among.{EachCounted, StaysLive, IsDropped}
use Rattle.nn_run.specs.Running.{Running, Asked, RunReply, reply_at, after_asked, Back, restored_dir, back_of, back_at, base_by, base_after}
use Rattle.nn_run.specs.Window.{Answered, commands_of}
use Rattle.nn_run.specs.Course.{dirs_of, first_of}
use Rattle.nn_run.specs.Steps.{StepKept}
use Rattle.nn_run.proofs.LineLemmas.{commands_append}
use Rattle.nn_run.proofs.WindowLemmas.{if_false}
use Rattle.nn_fill.specs.Filled.{unseen, generated}
use Rattle.nn_fill.specs.Tally.{is_taken, taken_of, commands_by}
use Rattle.nn_fill.specs.Tallying.{Tallying, IsStillLive}
use Rattle.nn_fill.proofs.TallyLemmas.{step_keeps_books, tallying_next}
use Rattle.nn_core.specs.declared.event.End.{End}
use Rattle.nn_core.specs.Standing.{HasIds}
use Rattle.nn_core.specs.Events.{running}
use Rattle.nn_core.specs.Performed.{HasPerformed}
use Rattle.nn_core.proofs.LineLemmas.{has_answer}
use Rattle.nn_serve.specs.declared.tally.Tally.{Tally}
use Rattle.nn_serve.specs.Ran.{asked_at, BeginsSoundly}
use Rattle.nn_serve.specs.Filling.{unseen_at, Tallies, IsFilling}

-- ---- lines at which nothing is seen

pub unseen_append : (first later : List Bytes) → unseen_at (first ++ later) ≡ unseen_at first ++ unseen_at later
unseen_append first later = map-append (λ (line : Bytes). record { line = line; sight = unseen }) first later

pub after_append : (count : ℕ) (run : Running) (first later : List Asked) → after_asked count run (first ++ later) ≡ after_asked count (after_asked count run first) later
after_append count run [] later = refl
after_append count run (asked ∷ first) later = after_append count (reply_at count run asked).after first later

-- none of them takes a directory back
none_back : (count : ℕ) (dir : Option ℕ) → back_of count unseen dir ≡ None
none_back count None = refl
none_back count (Some dir) = by (nat_lt dir count)
  where
    it : Back
    it = record { dir = dir; faults = 0 }

    by : (listed : Bool) → (if listed && false then Some it else None) ≡ None
    by true = refl
    by false = refl

pub unseen_base : (count : ℕ) (base : ℕ → ℕ) (lines : List Bytes) (i : ℕ) → base_after count base (unseen_at lines) i ≡ base i
unseen_base count base [] i = refl
unseen_base count base (line ∷ lines) i =
    ap (λ back. base_after count (λ j. base_by base back j) (unseen_at lines) i) (none_back count (restored_dir (reading_of line))) ∙ unseen_base count base lines i

-- ---- who is live, by counts

pub still_live : (count : ℕ) (journal after : JournalSet) (s new : State) → EachCounted journal.live journal.live after.live s new → IsStillLive count (has journal.live) (has after.live) s new
still_live count journal after s new counted i below room = ⊎_elim
    (λ (stays : StaysLive journal.live after.live s new i). ((λ e. (stays.faults, sym stays.same_live ∙ e)), (λ both. stays.same_live ∙ both.1)))
    (λ (dropped : IsDropped journal.live after.live s new i). (
      (λ e. absurd (let apart = sym dropped.not_live ∙ e in cc)),
      (λ both. absurd (omega (arith, room, both.0, dropped.faults))),
    ))
    (counted i)

-- ---- a line that was done

module _ {told : Type 0} (at files count : ℕ) (version : Version) (ns : Namespace) (time : ℕ) (journal : JournalSet) (done : List Bytes) (tally : Tally) (old s : State) (filling : IsFilling told at files count version ns time journal done tally old s)
    (change : Command) (ns_after : Namespace) (after : JournalSet) (new : State) (result : Result (Option OpRefusal) End) (performed : HasPerformed told change count version ns ns_after time journal after s new result)
    (line : Bytes) (reads : reading_of line ≡ Ok (Some (Change change))) (later : List Bytes) (split : lines_of (script_of files) ≡ done ++ ((line ∷ []) ++ later)) where
  abbrev next : Asked
  next = record { line = line; sight = unseen }

  answers : has_no_answer line ≡ false
  answers = has_answer (Ok (Some (Change change))) (λ e. cc e) line reads

  lines_are : generated files ≡ unseen_at done ++ next ∷ unseen_at later
  lines_are = ap unseen_at split ∙ unseen_append done ((line ∷ []) ++ later)

  pub quietly : told → Unspoken (Unit {0}) s new
  quietly t = record { now = performed.quiet.now; each = throughout_told (λ (u : Unit {0}). t) performed.quiet.each }

  pub tallying_then : (ids : told → BeginsSoundly old → HasIds journal) → (t : told) (begins : BeginsSoundly old) (ahead : ℕ → Bool)
      → Tallying (asked_at at) begins.sound.opens.version.ctime begins.sound.opened ahead (has after.live) (λ i. true) (generated files) old new
  tallying_then ids t begins ahead =
      let opened = begins.sound.opened in
      let same = (filling.said t opened begins.sound.opens begins.unsaved).1 in
      let step = performed.kept t (ids t begins) (filling.stands t begins) line unseen reads in
      let moved = subst (λ (k : ℕ). StepKept (Unit {0}) k (after_asked old.count (first_of (asked_at at) opened) (unseen_at done)) (has journal.live) (λ i. true) next s new) (sym filling.listed)
      (subst (λ (r : Running). StepKept (Unit {0}) count r (has journal.live) (λ i. true) next s new) same step) in
      let keep = step_keeps_books (asked_at at) old.count opened (has journal.live) (λ i. true) (unseen_at done) (unseen_at later) (generated files) next s new lines_are answers moved in
      let rise = throughout_told (λ (u : Unit {0}). t) (throughout_weaker performed.left (λ t m is. is.grown)) in
      tallying_next (asked_at at) begins.sound.opens.version.ctime opened ahead (has journal.live) (has after.live) (λ i. true) (generated files) old s new (filling.tallying t begins ahead) (quietly t) rise keep
      (still_live old.count journal after s new performed.counted)

  module _ (t : told) (opened : Opening) (opens : Opens (dirs_of old) Start opened) (none : opened.book.saved ≡ None) where
    abbrev first : Running
    first = first_of (asked_at at) opened

    abbrev before : Running
    before = after_asked old.count first (unseen_at done)

    module _ (refusal : Option OpRefusal) (time_after : ℕ) (same_time : time_after ≡ time)
        (replied : reply_at count (running ns time) next ≡ record { text = change_text refusal; after = running ns_after time }) where
      reply_then : reply_at old.count before next ≡ record { text = change_text refusal; after = running ns_after time }
      reply_then = ap (λ (r : Running). reply_at old.count r next) (sym (filling.said t opened opens none).1) ∙ ap (λ k. reply_at k (running ns time) next) filling.listed ∙ replied

      pub run_then : running ns_after time_after ≡ after_asked old.count first (unseen_at (done ++ line ∷ []))
      run_then =
          ap (λ k. running ns_after k) same_time ∙ sym (ap (λ (r : RunReply). r.after) reply_then)
          ∙ sym (ap (λ l. after_asked old.count first l) (unseen_append done (line ∷ [])) ∙ after_append old.count first (unseen_at done) (next ∷ []))

      abbrev command : Answered
      command = record { text = (reply_at old.count before next).text; book = (reply_at old.count before next).after.book; back = back_at old.count next }

      commands_then : commands_by (asked_at at) old.count opened (unseen_at (done ++ line ∷ [])) ≡ commands_by (asked_at at) old.count opened (unseen_at done) ++ command ∷ []
      commands_then =
          ap (λ l. commands_of old.count first l) (unseen_append done (line ∷ [])) ∙ commands_append old.count first (unseen_at done) (next ∷ [])
          ∙ ap (λ cs. commands_of old.count first (unseen_at done) ++ cs) (if_false (has_no_answer line) [] (command ∷ []) answers)

      pub counted_then : (more : Tally) → more.commands ≡ tally.commands + 1 → more.taken ≡ (if is_none refusal then tally.taken + 1 else tally.taken) → Tallies at old.count opened (done ++ line ∷ []) more
      counted_then more commands taken =
          let before_it = (filling.said t opened opens none).2 in
          let cmds = commands_by (asked_at at) old.count opened (unseen_at done) in
          let taken_is : taken_of (commands_by (asked_at at) old.count opened (unseen_at (done ++ line ∷ []))) ≡ taken_of cmds + taken_of (command ∷ []) =
          ap taken_of commands_then ∙ ap length (filter-append is_taken cmds (command ∷ [])) ∙ length-append (filter is_taken cmds) (filter is_taken (command ∷ [])) in (
            omega (arith, commands, before_it.0, ap length commands_then, length-append cmds (command ∷ [])),
            taken ∙ by refusal (ap (λ (r : RunReply). r.text) reply_then) ∙ ap (λ k. k + taken_of (command ∷ [])) before_it.1 ∙ sym taken_is,
          )
        where
          by : (refusal : Option OpRefusal) → command.text ≡ change_text refusal → (if is_none refusal then tally.taken + 1 else tally.taken) ≡ tally.taken + taken_of (command ∷ [])
          by None is = ap (λ (text : Bytes). tally.taken + taken_of (record { text = text; book = command.book; back = command.back } ∷ [])) (sym is)
          by (Some why) is = omega (arith, ap (λ (text : Bytes). taken_of (record { text = text; book = command.book; back = command.back } ∷ [])) is)
