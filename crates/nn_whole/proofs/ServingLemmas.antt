-- What the loop of a run carries from line to line.
use Rattle.std.proofs.Common.{ℕ, ◌≤◌, Bool, List, [], ◌∷◌, ◌++◌, map, refl, sym, subst, arith, append_assoc}
use Rattle.nn_host.specs.Moments.{State}
use Rattle.nn_pick.specs.Opening.{Opening}
use Rattle.nn_run.specs.Running.{Asked, after_asked}
use Rattle.nn_run.specs.Course.{RunAsked, first_of, course_of, RunKept}
use Rattle.nn_run.specs.Loop.{HasCome}
use Rattle.nn_run.specs.Steps.{StepKept}
use Rattle.nn_run.proofs.LoopLemmas.{next_is_kept}
use Rattle.nn_whole.specs.Served.{Serving, ServingFirst, ServingNext, ServingSilent, ServingOut}
use Rattle.nn_whole.proofs.OpenedLemmas.{start_is_of_run, opening_is_said}
use Rattle.nn_whole.proofs.ServedLemmas.{first_is_said, next_is_said, silent_is_said}

pub serving_first : ServingFirst
serving_first asked ctime opened ahead live has holders version list last old s new least all_live same quiet through between held says whole =
    let opening = opening_is_said asked ctime opened ahead live has version list last in (
      record {
        said = first_is_said asked ctime opened live old s new all_live same quiet says whole;
        held = λ i below e still. (held i below e).1;
        kept = λ later. (opening (map (λ (a : Asked). a.line) later) old s new least (start_is_of_run asked ctime opened ahead (map (λ (a : Asked). a.line) later) old s least quiet through)
            quiet.now.said between all_live (λ i below e. (held i below e).0) says).0 later refl;
      },
      (opening [] old s new least (start_is_of_run asked ctime opened ahead [] old s least quiet through) quiet.now.said between all_live (λ i below e. (held i below e).0) says).1,
    )

pub come_of : (asked : RunAsked) (ctime : ℕ) (opened : Opening) (ahead live holders : ℕ → Bool) (done : List Asked) (old s : State) → 1 ≤ asked.batch → Serving asked ctime opened ahead live holders done old s
    → HasCome asked ctime opened ahead live holders done old s
come_of asked ctime opened ahead live holders done old s least serving = record {
  batch = least;
  said = serving.said.said;
  based = serving.said.based;
  alive = serving.said.alive;
  held = serving.held;
}

-- each moment of the next step is kept
kept_next : (asked : RunAsked) (ctime : ℕ) (opened : Opening) (ahead live holders : ℕ → Bool) (done : List Asked) (next : Asked) (later : List Asked) (old s new : State) → 1 ≤ asked.batch → Serving asked ctime opened ahead live holders done old s
    → StepKept (Unit {0}) old.count (after_asked old.count (first_of asked opened) done) live holders next s new → RunKept (Unit {0}) (course_of asked old.count ctime opened ((done ++ next ∷ []) ++ later) ahead) old new
kept_next asked ctime opened ahead live holders done next later old s new least serving step =
    next_is_kept asked ctime opened ahead live holders done next (map (λ (a : Asked). a.line) later) old s new (come_of asked ctime opened ahead live holders done old s least serving) (λ l e. serving.kept l) step later refl

pub serving_next : ServingNext
serving_next asked ctime opened ahead live live_after holders done next after old s new least serving step answered says rise narrow =
    let said = next_is_said asked ctime opened live live_after done next after old s new serving.said answered says rise narrow in (
      record {
        said = said.0;
        held = λ i below e still. serving.held i below e (omega (arith, still, rise i, (serving.said.based i).0, (serving.said.based i).1));
        kept = λ later. kept_next asked ctime opened ahead live holders done next later old s new least serving step;
      },
      said.1,
    )

pub serving_silent : ServingSilent
serving_silent asked ctime opened ahead live holders done next old s none sees_live sees_faults serving =
    let said = silent_is_said asked ctime opened live done next old s none sees_live sees_faults serving.said in (
      record {
        said = said.0;
        held = serving.held;
        kept = λ later. subst (λ l. RunKept (Unit {0}) (course_of asked old.count ctime opened l ahead) old s) (sym (append_assoc done (next ∷ []) later)) (serving.kept (next ∷ later));
      },
      said.1,
    )

pub serving_out : ServingOut
serving_out asked ctime opened ahead live holders done next later old s new least serving step =
    subst (λ l. RunKept (Unit {0}) (course_of asked old.count ctime opened l ahead) old new) (append_assoc done (next ∷ []) later) (kept_next asked ctime opened ahead live holders done next later old s new least serving step)
