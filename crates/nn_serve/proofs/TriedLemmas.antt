-- Lines that were to take a directory back: what came of one more.
use Rattle.std.proofs.Common.{◌≡◌, ◌≢◌, inl, inr, ℕ, ◌<◌, List, [], ◌∷◌, ◌++◌, length, true, false, if◌then◌else◌, Option, Some, None, Result, Ok, Err, refl, sym, ◌∙◌, ap, subst, arith}
use Rattle.std.proofs.lemmas.List.{length-append}
use Rattle.nn_base.specs.DirSets.{has}
use Rattle.nn_base.specs.Paths.{Bytes}
use Rattle.nn_host.specs.Moments.{State, IsLawful, disk_at, faults_at}
use Rattle.nn_host.proofs.CleanLemmas.{reading}
use Rattle.nn_marks.specs.declared.version.Version.{Version}
use Rattle.nn_tree.specs.Namespace.{Namespace}
use Rattle.nn_state.specs.Table.{table_of}
use Rattle.nn_state.proofs.LeftLemmas.{seven_left}
use Rattle.nn_steps.proofs.SeatLemmas.{reads_whole, reads_fair}
use Rattle.nn_kept.specs.Kept.{HasState}
use Rattle.nn_script.specs.declared.command.ScriptCommand.{ScriptCommand}
use Rattle.nn_script.specs.declared.command.ScriptCommand.TheVariants as command
use Rattle.nn_script.specs.declared.syntax.Syntax.{Syntax}
use Rattle.nn_script.specs.Lines.{has_no_answer}
use Rattle.nn_script.specs.Reading.{reading_of}
use Rattle.nn_journal.specs.declared.journal.JournalSet.{JournalSet}
use Rattle.nn_restore.specs.declared.restoring.Restored.{Restored as Came}
use Rattle.nn_restore.specs.declared.restoring.Restored.TheVariants as came
use Rattle.nn_restore.specs.Restored.{IsAnswered}
use Rattle.nn_run.specs.Running.{Sight, Asked, Restored, Missing, Inconsistent, restored_dir}
use Rattle.nn_whole.proofs.CountedLemmas.{rises_by_one}
use Rattle.nn_whole.proofs.ServedLemmas.{last_split}
use Rattle.nn_core.specs.Events.{asked_at as seen_at, seen_as, CameOf}
use Rattle.nn_core.specs.Standing.{Stands}
use Rattle.nn_serve.specs.Tried.{counts_by, IsTried, TriedTruly, NoneUnfit}

-- the last counts are those of the last line, if it has an answer
counts_more : (first : ℕ → ℕ) (done : List Asked) (next : Asked) (i : ℕ) → counts_by first (done ++ next ∷ []) i ≡ (if has_no_answer next.line then counts_by first done i else next.sight.faults i)
counts_more first [] next i = refl
counts_more first (asked ∷ done) next i = counts_more (λ j. if has_no_answer asked.line then first j else asked.sight.faults j) done next i

pub counts_next : (first : ℕ → ℕ) (done : List Asked) (next : Asked) (i : ℕ) → has_no_answer next.line ≡ false → counts_by first (done ++ next ∷ []) i ≡ next.sight.faults i
counts_next first done next i answers = counts_more first done next i ∙ ap (λ none. if none then counts_by first done i else next.sight.faults i) answers

-- or those before it, where it has no answer
pub counts_silent : (first : ℕ → ℕ) (done : List Asked) (next : Asked) (i : ℕ) → has_no_answer next.line ≡ true → counts_by first (done ++ next ∷ []) i ≡ counts_by first done i
counts_silent first done next i none = counts_more first done next i ∙ ap (λ none. if none then counts_by first done i else next.sight.faults i) none

pub none_tried : (count : ℕ) (first : ℕ → ℕ) → TriedTruly count first []
none_tried count first before asked later e = absurd (omega (arith, ap length e, length-append before (asked ∷ later)))

pub tried_next : (count : ℕ) (first : ℕ → ℕ) (done : List Asked) (next : Asked) → TriedTruly count first done
    → ((i : ℕ) → i < count → restored_dir (reading_of next.line) ≡ Some i → IsTried (λ j. counts_by first done j) next.sight i) → TriedTruly count first (done ++ next ∷ [])
tried_next count first done next all one before asked later e i below is = elim (last_split done next before asked later e) [
  | inl it ↦ subst (λ b. IsTried (λ j. counts_by first b j) asked.sight i) (sym it.0)
      (subst (λ (x : Asked). IsTried (λ j. counts_by first done j) x.sight i) (sym it.1) (one i below (ap (λ (x : Asked). restored_dir (reading_of x.line)) (sym it.1) ∙ is)))
  | inr it ↦ all before asked it.0 it.1 i below is
]

pub none_unfit : (count : ℕ) → NoneUnfit count []
none_unfit count before asked later e = absurd (omega (arith, ap length e, length-append before (asked ∷ later)))

pub fit_next : (count : ℕ) (done : List Asked) (next : Asked) → NoneUnfit count done
    → ((i : ℕ) → i < count → restored_dir (reading_of next.line) ≡ Some i → (next.sight.restored ≢ Missing) × (next.sight.restored ≢ Inconsistent)) → NoneUnfit count (done ++ next ∷ [])
fit_next count done next all one before asked later e i below is = elim (last_split done next before asked later e) [
  | inl it ↦ subst (λ (x : Asked). (x.sight.restored ≢ Missing) × (x.sight.restored ≢ Inconsistent)) (sym it.1) (one i below (ap (λ (x : Asked). restored_dir (reading_of x.line)) (sym it.1) ∙ is))
  | inr it ↦ all before asked it.0 it.1 i below is
]

-- ---- one line

-- it reads so
pub restore_is : (reading : Result (Option ScriptCommand) Syntax) (i : ℕ) → restored_dir reading ≡ Some i → reading ≡ Ok (Some (command.Restore i))
restore_is (Ok (Some (command.Restore dir))) i e = let same : dir ≡ i = cc e in ap (λ d. Ok (Some (command.Restore d))) same
restore_is (Ok (Some (command.Namespace change))) i e = absurd (cc e)
restore_is (Ok (Some (command.Clock time))) i e = absurd (cc e)
restore_is (Ok (Some (command.List path))) i e = absurd (cc e)
restore_is (Ok (Some command.Dirs)) i e = absurd (cc e)
restore_is (Ok (Some command.Roll)) i e = absurd (cc e)
restore_is (Ok (Some command.Checkpoint)) i e = absurd (cc e)
restore_is (Ok (Some command.Finalize)) i e = absurd (cc e)
restore_is (Ok None) i e = absurd (cc e)
restore_is (Err fault) i e = absurd (cc e)

-- by other counts that are the same for this directory
tried_from : {before other : ℕ → ℕ} {sight : Sight} {i : ℕ} → before i ≡ other i → IsTried before sight i → IsTried other sight i
tried_from same is = record {
  back = is.back;
  failed = λ room. (let it = is.failed (omega (arith, same, room)) in (λ e. omega (arith, same, it.0 e), λ rose. it.1 (omega (arith, same, rose))));
}

-- what came of it was seen so
pub came_tried : {told : Type 0} {dir : ℕ} {restored : Restored} {journal after : JournalSet} {s new : State} {before : ℕ → ℕ} (line : Bytes) → before dir ≡ faults_at s dir → CameOf told dir restored journal after s new
    → IsTried before (seen_at line restored after.live new).sight dir
came_tried {told} {dir} {restored} {journal} {after} {s} {new} {before} line same of = tried_from (sym same) (by_case of.it of.seen of.answered)
  where
    by_case : (it : Came) → restored ≡ seen_as it → IsAnswered told dir journal.live after.live s new (Ok it) → IsTried (λ j. faults_at s j) (seen_at line restored after.live new).sight dir
    by_case came.TakenBack e is = record {
      back = (λ taken. is.0, λ live. e);
      failed = λ room. (λ f. absurd (cc (f, e)), λ rose. absurd (omega (arith, rose, is.1)));
    }
    by_case came.Missing e is = record {
      back = (λ taken. absurd (cc (taken, e)), λ live. absurd (let same = is.1.same_live in cc (live, is.0, same)));
      failed = λ room. (λ f. absurd (cc (f, e)), λ rose. absurd (omega (arith, rose, is.1.counts.faults dir)));
    }
    by_case came.Inconsistent e is = record {
      back = (λ taken. absurd (cc (taken, e)), λ live. absurd (let same = is.1.same_live in cc (live, is.0, same)));
      failed = λ room. (λ f. absurd (cc (f, e)), λ rose. absurd (omega (arith, rose, is.1.counts.faults dir)));
    }
    by_case came.Failed e is = record {
      back = (λ taken. absurd (cc (taken, e)), λ live. absurd (cc (live, is.1)));
      failed = λ room. (λ f. omega (arith, is.2, rises_by_one (faults_at s dir) room), λ rose. e);
    }

-- ---- what the table says

-- a directory that was left behind has the state of what a fair stop leaves of it
pub stands_fit : {version : Version} {journal : JournalSet} {ns : Namespace} {s : State} → Stands version journal ns s → IsLawful s → (i : ℕ) → i < s.count → has journal.live i ≡ false → HasState (s.reads i)
stands_fit {s = s} stands lawful i below gone =
    let d = disk_at s i in
    let (state, fits, there) = ((stands.between.others i below gone).kept.kept (reading d) (reads_whole d) (reads_fair d)).state in
    (state, ap table_of (seven_left d (s.reads i) (lawful.reads i) ∙ sym (seven_left d (reading d) (reads_whole d))) ∙ fits, there)

-- so it was neither missing nor inconsistent
pub came_fit : {told : Type 0} {dir : ℕ} {restored : Restored} {journal after : JournalSet} {s new : State} → told → (has journal.live dir ≡ false → HasState (s.reads dir)) → CameOf told dir restored journal after s new
    → (restored ≢ Missing) × (restored ≢ Inconsistent)
came_fit {told} {dir} {restored} {journal} {after} {s} {new} tells fit of = by_case of.it of.seen of.answered
  where
    by_case : (it : Came) → restored ≡ seen_as it → IsAnswered told dir journal.live after.live s new (Ok it) → (restored ≢ Missing) × (restored ≢ Inconsistent)
    by_case came.TakenBack e is = ((λ f. cc (f, e)), (λ f. cc (f, e)))
    by_case came.Failed e is = ((λ f. cc (f, e)), (λ f. cc (f, e)))
    by_case came.Missing e is = absurd (let (state, fits, there) = fit is.0 in let none = is.2 tells in there (cc (fits, none)))
    by_case came.Inconsistent e is = absurd (let (state, fits, there) = fit is.0 in let bad = is.2 tells in cc (fits, bad.1))
