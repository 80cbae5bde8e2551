-- How such a run ends: while it is said how many commands there were, and as it is closed.
use Rattle.std.proofs.Common.{◌≡◌, inl, inr, ℕ, suc, zero, ◌+◌, ◌≤◌, Bool, false, ◌&&◌, ◌==◌, List, [], ◌∷◌, ◌++◌, length, take, drop, refl, sym, ◌∙◌, ap, subst, arith, append_assoc}
use Rattle.std.specs.Prelude.{Contains}
use Rattle.std.specs.Str.{bytes_eq}
use Rattle.std.proofs.lemmas.List.{append-nil}
use Rattle.std.proofs.lemmas.List.Elements.{All-head}
use Rattle.nn_base.specs.Paths.{Bytes}
use Rattle.nn_host.specs.Moments.{Dir, Moment, State, faults_at}
use Rattle.nn_host.proofs.RunsLemmas.{throughout_both, throughout_trans, throughout_weaker}
use Rattle.nn_pick.specs.Opening.{Opening}
use Rattle.nn_kept.specs.Laws.{IsKeptDisk, KeptInto}
use Rattle.nn_run.specs.Running.{Asked}
use Rattle.nn_run.specs.Window.{Answered, text_of, whole_in, window, begins_with, said_since}
use Rattle.nn_run.specs.Course.{RunAsked, Course, commands, first_of, opening_of, IsKeptInRun}
use Rattle.nn_run.specs.Steps.{is_of_step}
use Rattle.nn_run.proofs.LineLemmas.{last_is_reached}
use Rattle.nn_run.proofs.StopLemmas.{run_stops}
use Rattle.nn_whole.specs.Closed.{closing_lines}
use Rattle.nn_whole.specs.Ended.{book_after}
use Rattle.nn_whole.proofs.ClosedLemmas.{alike_kept}
use Rattle.nn_whole.proofs.LastLemmas.{early_answers_none, early_not_started}
use Rattle.nn_whole.proofs.OpenedLemmas.{is_opening, HasText}
use Rattle.nn_whole.proofs.ServedLemmas.{since_said}
use Rattle.nn_whole.proofs.StoppedLemmas.{entry_is_left}
use Rattle.nn_fill.specs.Tally.{tally_of, commands_by, tallied_course}
use Rattle.nn_fill.specs.Tallying.{Tallying, HasTold, TallyIsSaid, TallyIsClosed, EarlyTallyIsKept, TallyLeaves}
use Rattle.nn_fill.proofs.TogetherLemmas.{none_told, all_told, whole_append, begins_front, last_there}
use Rattle.nn_fill.proofs.TallyLemmas.{as_of_run}

-- what is in a list of one is that one
only_one : {A : Type 0} (P : A → Type 0) (x y : A) → P x → Contains (x ∷ []) y → P y
only_one P x y px (zero, below, is) = subst P is px
only_one P x y px (suc k, below, is) = absurd (omega (arith, below))

-- ---- while the line is said

module _ (asked : RunAsked) (ctime : ℕ) (opened : Opening) (ahead live holders : ℕ → Bool) (lines : List Asked) (old s : State) (tallying : Tallying asked ctime opened ahead live holders lines old s) where
  abbrev course : Course
  course = tallied_course asked old.count ctime opened lines ahead

  abbrev first_said : Bytes
  first_said = text_of (opening_of asked ctime opened)

  -- where the Book after all lines is kept, and behind the opening anything was said
  last_moment : (m : Moment) → ((i : ℕ) → faults_at s i ≤ (m.dirs i).faults) → (bytes : Bytes) → m.said ≡ old.now.said ++ (first_said ++ bytes)
      → KeptInto (λ _. book_after asked old.count opened lines ∷ []) old.count (λ _. is_of_step live s) (λ _ i d. holders i && is_of_step live s i d) m → IsKeptInRun course old m
  last_moment m counted bytes said kept =
      let since : said_since old m ≡ first_said ++ bytes = since_said old m (first_said ++ bytes) said in
      let last = subst (Contains (window course.batch opened.book (commands course) (first_said ++ bytes))) (sym (last_is_reached old.count (first_of asked opened) lines)) (last_there asked old.count ctime opened lines ahead bytes) in
      inr (
        kept.0,
        (λ b there. subst (λ x. Contains (window course.batch opened.book (commands course) x) b) (sym since) (only_one (Contains (window course.batch opened.book (commands course) (first_said ++ bytes))) (book_after asked old.count opened lines) b last (kept.1 b there))),
        as_of_run asked ctime opened ahead live holders lines old s tallying m counted kept.0 kept.2,
      )

  -- the same directories
  same_kept : (k m : Moment) → m.dirs ≡ k.dirs → KeptInto (λ _. book_after asked old.count opened lines ∷ []) old.count (λ _. is_of_step live s) (λ _ i d. holders i && is_of_step live s i d) k
      → KeptInto (λ _. book_after asked old.count opened lines ∷ []) old.count (λ _. is_of_step live s) (λ _ i d. holders i && is_of_step live s i d) m
  same_kept k m same kept = (
    kept.0,
    kept.1,
    record {
      at = λ j below.
          subst (λ (dirs : ℕ → Dir). IsKeptDisk kept.0 (is_of_step live s j (dirs j)) (holders j && is_of_step live s j (dirs j)) (dirs j).disk) (sym same) (kept.2.at j below);
    },
  )

pub tally_is_said : TallyIsSaid
tally_is_said asked ctime opened ahead live holders lines old s mid new tallying quiet rise keep says =
    let here = tallying.said in
    let first_said = text_of (opening_of asked ctime opened) in
    throughout_trans tallying.kept (throughout_trans
    (throughout_weaker (throughout_both quiet.each (throughout_both rise keep)) (λ t m is.
    last_moment asked ctime opened ahead live holders lines old s tallying m is.1.0 [] (is.0.said ∙ here ∙ ap (λ x. old.now.said ++ x) (sym (append-nil first_said))) is.1.1))
    (throughout_weaker says (λ t m is.
    last_moment asked ctime opened ahead live holders lines old s tallying m (λ i. subst (λ (dirs : ℕ → Dir). faults_at s i ≤ (dirs i).faults) (sym is.0) (rise.ends tt i))
    (take is.1 (tally_of (commands_by asked old.count opened lines)))
    (is.2 ∙ ap (λ x. x ++ take is.1 (tally_of (commands_by asked old.count opened lines))) (quiet.now.said ∙ here) ∙ append_assoc old.now.said first_said (take is.1 (tally_of (commands_by asked old.count opened lines))))
    (same_kept asked ctime opened ahead live holders lines old s tallying mid.now m is.0 (keep.ends tt)))))

-- ---- a last line

-- the tally begins with `c`, and no closing line does
other_begin : (rest more : Bytes) (c n : ℕ) → (c == 99) ≡ false → begins_with (99 ∷ rest) (take n (c ∷ more)) ≡ false
other_begin rest more c zero apart = refl
other_begin rest more c (suc n) apart = ap (λ x. x && bytes_eq (take (length rest) (take n more)) rest) apart

closing_untold : (rest text : Bytes) (n : ℕ) → Contains closing_lines text → begins_with (99 ∷ rest) (take n text) ≡ false
closing_untold rest text n (zero, below, is) = subst (λ t. begins_with (99 ∷ rest) (take n t) ≡ false) is (other_begin rest _ 115 n refl)
closing_untold rest text n (suc zero, below, is) = subst (λ t. begins_with (99 ∷ rest) (take n t) ≡ false) is (other_begin rest _ 110 n refl)
closing_untold rest text n (suc (suc zero), below, is) = subst (λ t. begins_with (99 ∷ rest) (take n t) ≡ false) is (other_begin rest _ 115 n refl)
closing_untold rest text n (suc (suc (suc zero)), below, is) = subst (λ t. begins_with (99 ∷ rest) (take n t) ≡ false) is (other_begin rest _ 115 n refl)
closing_untold rest text n (suc (suc (suc (suc zero))), below, is) = subst (λ t. begins_with (99 ∷ rest) (take n t) ≡ false) is (other_begin rest _ 110 n refl)
closing_untold rest text n (suc (suc (suc (suc (suc k)))), below, is) = absurd (omega (arith, below))

module _ (asked : RunAsked) (ctime : ℕ) (opened : Opening) (ahead : ℕ → Bool) (lines : List Asked) (old : State) where
  abbrev run_course : Course
  run_course = tallied_course asked old.count ctime opened lines ahead

  abbrev opening : List Answered
  opening = opening_of asked ctime opened

  abbrev tally : Bytes
  tally = tally_of (commands_by asked old.count opened lines)

  -- behind the opening and a text, as many are whole as in that text, and the run has started
  alike : (k m : Moment) → m.dirs ≡ k.dirs → (bytes more : Bytes) → k.said ≡ old.now.said ++ (text_of opening ++ bytes) → m.said ≡ k.said ++ more → whole_in run_course.script (bytes ++ more) ≡ whole_in run_course.script bytes
      → IsKeptInRun run_course old k → IsKeptInRun run_course old m
  alike k m same bytes more said front whole kept =
      let first = text_of opening in
      let now : said_since old k ≡ first ++ bytes = since_said old k (first ++ bytes) said in
      let behind : said_since old m ≡ first ++ (bytes ++ more) = since_said old m (first ++ (bytes ++ more)) (front ∙ ap (λ x. x ++ more) said ∙ append_assoc old.now.said (first ++ bytes) more ∙ ap (λ x. old.now.said ++ x) (append_assoc first bytes more)) in
      alike_kept run_course old k m same
      (ap (whole_in (commands run_course)) behind ∙ whole_append opening run_course.script (bytes ++ more) ∙ ap (λ j. length opening + j) whole ∙ sym (ap (whole_in (commands run_course)) now ∙ whole_append opening run_course.script bytes))
      (ap (begins_with first) behind ∙ begins_front first (bytes ++ more) ∙ sym (ap (begins_with first) now ∙ begins_front first bytes)) kept

  closed_moment : (text : Bytes) (mid : State) (m : Moment) → HasTold asked ctime opened lines old mid → Contains closing_lines text → m.dirs ≡ mid.now.dirs → (n : ℕ) → m.said ≡ mid.now.said ++ take n text
      → IsKeptInRun run_course old mid.now → IsKeptInRun run_course old m
  closed_moment text mid m (inl bare) there same n front kept =
      let cmds = commands_by asked old.count opened lines in
      alike mid.now m same [] (take n text) (bare ∙ ap (λ x. old.now.said ++ x) (sym (append-nil (text_of opening)))) front
      (none_told tally cmds (take n text) (closing_untold (drop 1 tally) text n there) ∙ sym (none_told tally cmds [] refl)) kept
  closed_moment text mid m (inr whole) there same n front kept =
      let cmds = commands_by asked old.count opened lines in
      alike mid.now m same tally (take n text) whole front
      (all_told tally cmds (take n text) ∙ sym (ap (whole_in run_course.script) (sym (append-nil tally)) ∙ all_told tally cmds [])) kept

pub tally_is_closed : TallyIsClosed
tally_is_closed asked ctime opened ahead lines text old mid new told there until says =
    throughout_trans until (throughout_weaker says (λ t m is. closed_moment asked ctime opened ahead lines old text mid m told there is.0 is.1 is.2 (until.ends tt)))

pub early_tally_is_kept : EarlyTallyIsKept
early_tally_is_kept asked ctime opened ahead lines text old mid new said early until says =
    throughout_trans until (throughout_weaker says (λ t m is.
    let course = tallied_course asked old.count ctime opened lines ahead in
    let opening = opening_of asked ctime opened in
    let now : said_since old mid.now ≡ take 0 text = since_said old mid.now [] (said ∙ sym (append-nil old.now.said)) in
    let here : said_since old m ≡ take is.1 text = since_said old m (take is.1 text) (is.2 ∙ ap (λ x. x ++ take is.1 text) said) in
    alike_kept course old mid.now m is.0
    (ap (whole_in (commands course)) here ∙ early_answers_none asked ctime opened course.script text is.1 early ∙ sym (ap (whole_in (commands course)) now ∙ early_answers_none asked ctime opened course.script text 0 early))
    (ap (begins_with (text_of opening)) here ∙ early_not_started asked ctime opened text is.1 early ∙ sym (ap (begins_with (text_of opening)) now ∙ early_not_started asked ctime opened text 0 early))
    (until.ends tt)))

-- ---- a stop

pub tally_leaves : TallyLeaves
tally_leaves asked ctime opened lines ahead old new lawful through m contents left fair =
    let is = is_opening asked ctime opened in
    let course = tallied_course asked old.count ctime opened lines ahead in
    elim (run_stops course is.first (is.others ++ course.script) old new (ap (λ (o : List Answered). o ++ course.script) is.are) (All-head HasText is.first is.others is.texts) lawful through m contents left fair) [
      | inl before ↦ inl (before.answered, entry_is_left old m contents lawful before.disks left.leaves fair)
      | inr opens ↦ inr opens
    ]
