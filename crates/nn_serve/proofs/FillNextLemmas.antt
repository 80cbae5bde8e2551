-- A line of a run over generated files that was done, or that ended the run.
use Rattle.std.proofs.Common.{◌≡◌, ℕ, ◌+◌, Bool, true, false, if◌then◌else◌, List, [], ◌∷◌, ◌++◌, Ok, Err, Some, Option, Result, sym, ◌∙◌, ap, arith}
use Rattle.std.specs.Prelude.{is_none, not}
use Rattle.std.proofs.lemmas.List.{append-nil}
use Rattle.nn_base.specs.DirSets.{has}
use Rattle.nn_base.specs.Paths.{Bytes}
use Rattle.nn_host.specs.Moments.{State}
use Rattle.nn_host.proofs.RunsLemmas.{out_whole_unspoken, throughout_told, throughout_weaker}
use Rattle.nn_marks.specs.declared.version.Version.{Version}
use Rattle.nn_tree.specs.Namespace.{Namespace}
use Rattle.nn_ops.specs.declared.command.Command.{Command}
use Rattle.nn_ops.specs.declared.refusal.OpRefusal.{OpRefusal}
use Rattle.nn_script.specs.declared.command.ScriptCommand.TheVariants.{Namespace as Change}
use Rattle.nn_script.specs.Lines.{lines_of}
use Rattle.nn_script.specs.Reading.{reading_of}
use Rattle.nn_generate.specs.Generated.{script_of}
use Rattle.nn_journal.specs.declared.journal.JournalSet.{JournalSet}
use Rattle.nn_run.specs.Course.{started_line}
use Rattle.nn_whole.specs.Counted.{HasSeen}
use Rattle.nn_whole.proofs.CountedLemmas.{next_is_counted}
use Rattle.nn_fill.specs.Filled.{unseen}
use Rattle.nn_core.specs.declared.event.End.{End}
use Rattle.nn_core.specs.declared.event.End.TheVariants as end
use Rattle.nn_core.specs.Events.{running}
use Rattle.nn_core.specs.Performed.{HasPerformed}
use Rattle.nn_core.proofs.LineLemmas.{reply_is}
use Rattle.nn_serve.specs.declared.tally.Tally.{Tally}
use Rattle.nn_serve.specs.Ended.{run_end}
use Rattle.nn_serve.specs.Ran.{NoneFailed}
use Rattle.nn_serve.specs.Serving.{HasRoom}
use Rattle.nn_serve.specs.Filled.{CameFilled}
use Rattle.nn_serve.specs.Filling.{IsFilling}
use Rattle.nn_serve.proofs.SinceLemmas.{goes_on, step_counts, opening_on, starts_on, none_live}
use Rattle.nn_serve.proofs.TurnLemmas.{room_ids, room_after}
use Rattle.nn_serve.proofs.LoopLemmas.{room_less}
use Rattle.nn_serve.proofs.FillLemmas.{tallying_then, run_then, counted_then}
use Rattle.nn_serve.proofs.FillOutLemmas.{little_then, out_lost, out_starved}

-- it is none where it isn't some
pub none_is : (none some : Bool) → some ≡ not none → none ≡ not some
none_is true some e = ap not (sym e)
none_is false some e = ap not (sym e)

module _ {told : Type 0} (at files count : ℕ) (version : Version) (ns : Namespace) (time : ℕ) (journal : JournalSet) (done : List Bytes) (tally : Tally) (old s : State) (filling : IsFilling told at files count version ns time journal done tally old s)
    (change : Command) (ns_after : Namespace) (after : JournalSet) (new : State)
    (line : Bytes) (reads : reading_of line ≡ Ok (Some (Change change))) (later : List Bytes) (split : lines_of (script_of files) ≡ done ++ ((line ∷ []) ++ later)) (more : ℕ) (room : HasRoom told old journal (1 + more)) where
  sees_then : (result : Result (Option OpRefusal) End) → HasPerformed told change count version ns ns_after time journal after s new result → HasSeen (has after.live) [] old new
  sees_then result performed = next_is_counted (has journal.live) (has after.live) [] old s new filling.sees (step_counts journal after s new performed.counted)

  pub done_line : (refusal : Option OpRefusal) (time_after : ℕ) → time_after ≡ time → (tally_after : Tally) → tally_after.commands ≡ tally.commands + 1 → tally_after.taken ≡ (if is_none refusal then tally.taken + 1 else tally.taken)
      → HasPerformed told change count version ns ns_after time journal after s new (Ok refusal)
      → IsFilling told at files count version ns_after time_after after (done ++ line ∷ []) tally_after old new × HasRoom told old after more
  done_line refusal time_after same tally_after commands taken performed =
      let replied = reply_is (Ok (Some (Change change))) (λ e. cc e) line reads count (running ns time) unseen _ (performed.replied unseen) in
      let it : IsFilling told at files count version ns_after time_after after (done ++ line ∷ []) tally_after old new = record {
        listed = filling.listed;
        ready = performed.ready;
        sees = sees_then (Ok refusal) performed;
        some = λ there. performed.some (filling.some there);
        out = goes_on old s new filling.out (out_whole_unspoken performed.quiet, performed.quiet.now.out_faults);
        unrefused = filling.unrefused;
        grew = λ t. let grew = filling.grew t in (grew.0, performed.quiet.now.said ∙ grew.1);
        said = λ t opened opens none. (
          performed.quiet.now.said ∙ (filling.said t opened opens none).0,
          run_then at files count version ns time journal done tally old s filling change ns_after after new (Ok refusal) performed line reads later split t opened opens none refusal time_after same replied,
          counted_then at files count version ns time journal done tally old s filling change ns_after after new (Ok refusal) performed line reads later split t opened opens none refusal time_after same replied tally_after commands taken,
        );
        little = little_then at files count version ns time journal done tally old s filling new performed.quiet;
        opening = λ t opened opens none.
            opening_on (NoneFailed old) opened.last old s new (started_line opened.last) (filling.said t opened opens none).0 (omega arith) (filling.opening t opened opens none)
            (throughout_weaker (throughout_told (λ (u : Unit {0}). t) performed.quiet.each) (λ u m out. ([], out.said ∙ sym (append-nil s.now.said))));
        started = λ t begins.
            let opened = begins.sound.opened in
            starts_on opened.last opened.book.ns old s new (started_line opened.last) (filling.said t opened begins.sound.opens begins.unsaved).0 (omega arith) (filling.started t begins)
            (throughout_weaker (throughout_told (λ (u : Unit {0}). t) performed.quiet.each) (λ u m out. ([], out.said ∙ sym (append-nil s.now.said))));
        tallying = tallying_then at files count version ns time journal done tally old s filling change ns_after after new (Ok refusal) performed line reads later split (room_ids room);
        stands = λ t begins. performed.stands t (room_ids room t begins) (filling.stands t begins);
      } in
      (it, room_after more (room_less (more + 1) (omega arith) room) performed.last)

  pub ended_line : (why : End) → HasPerformed told change count version ns ns_after time journal after s new (Err why) → CameFilled told at files old new (run_end why)
  ended_line end.NoneLeft performed =
      let sees = sees_then (Err end.NoneLeft) performed in
      out_lost at files count version ns time journal done tally old s filling new performed.quiet
      (λ t begins ahead. (tallying_then at files count version ns time journal done tally old s filling change ns_after after new (Err end.NoneLeft) performed line reads later split (room_ids room) t begins ahead).kept)
      (has after.live) sees (none_live after [] old new sees.gone (λ j. (performed.ended j).0))
  ended_line end.Memory performed =
      out_starved at files count version ns time journal done tally old s filling new performed.quiet
      (λ t begins ahead. (tallying_then at files count version ns time journal done tally old s filling change ns_after after new (Err end.Memory) performed line reads later split (room_ids room) t begins ahead).kept)
      (has after.live) (sees_then (Err end.Memory) performed)
  ended_line end.OutFault performed = absurd performed.ended
