-- How the lines of a run are left.
use Rattle.std.proofs.Common.{◌≡◌, inr, ℕ, ◌+◌, ◌-◌, ◌<◌, ◌≤◌, ◌^◌, nat_lt, nat_le, Bool, true, false, ◌&&◌, ◌||◌, List, [], ◌∷◌, ◌++◌, length, take, refl, sym, ◌∙◌, ap, subst, arith, append_assoc}
use Rattle.std.specs.Prelude.{Contains}
use Rattle.std.proofs.lemmas.List.{append-nil, length-append}
use Rattle.std.proofs.lemmas.Bool.{and_parts, and_from, leb-true}
use Rattle.std.proofs.lemmas.Bool.Decides.{nat_tests}
use Rattle.nn_base.specs.Paths.{Bytes}
use Rattle.nn_host.specs.Moments.{Moment, State, faults_at}
use Rattle.nn_host.proofs.RunsLemmas.{throughout_both, throughout_trans, throughout_weaker}
use Rattle.nn_pick.specs.Opening.{Book, Opening}
use Rattle.nn_kept.specs.Laws.{IsPartOf, KeptInto}
use Rattle.nn_run.specs.Running.{Asked, after_asked}
use Rattle.nn_run.specs.Window.{Answered, commands_of, text_of, last_book, window, whole_in, said_since, is_unfailed_since, base_behind, base_at, base_since, has_started}
use Rattle.nn_run.specs.Course.{RunAsked, Course, begun_book, commands, first_of, opening_of, answers_of, course_of, run_window, run_at, held_at, IsKeptInRun}
use Rattle.nn_run.specs.Steps.{is_of_step}
use Rattle.nn_run.specs.Loop.{HasCome}
use Rattle.nn_run.proofs.LineLemmas.{commands_append, commands_have_text, last_is_reached}
use Rattle.nn_run.proofs.StepLemmas.{fewer_kept}
use Rattle.nn_run.proofs.WindowLemmas.{none_whole, entry_in_window, window_behind}
use Rattle.nn_run.proofs.BaseLemmas.{base_past}
use Rattle.nn_run.proofs.LoopLemmas.{come_base}
use Rattle.nn_whole.specs.Served.{IsSeenAt}
use Rattle.nn_whole.specs.Ended.{book_after}
use Rattle.nn_whole.specs.Leaving.{AreTheLines, MoreIsSaid, EndingIsKept}
use Rattle.nn_whole.proofs.OpenedLemmas.{upgrading}
use Rattle.nn_whole.proofs.ServingLemmas.{come_of}
use Rattle.nn_whole.proofs.ServedLemmas.{answers_longer, since_said}

pub are_the_lines : AreTheLines
are_the_lines sight [] = refl
are_the_lines sight (line ∷ lines) = ap (λ l. line ∷ l) (are_the_lines sight lines)

-- ---- what was seen

-- behind all answers no part of one is being said
behind_seen : (asked : RunAsked) (ctime : ℕ) (opened : Opening) (done : List Asked) (text : Bytes) (old s : State) (m : Moment) (n : ℕ) → s.now.said ≡ old.now.said ++ answers_of asked old.count ctime opened done
    → m.said ≡ s.now.said ++ take n text → IsSeenAt (answers_of asked old.count ctime opened) done old m
behind_seen asked ctime opened done text old s m n said front before line later e low high =
    let all = answers_of asked old.count ctime opened done in
    let whole : m.said ≡ old.now.said ++ (all ++ take n text) = front ∙ ap (λ x. x ++ take n text) said ∙ append_assoc old.now.said all (take n text) in
    let long : length (said_since old m) ≡ length all + length (take n text) = ap length (since_said old m (all ++ take n text) whole) ∙ length-append all (take n text) in
    absurd (omega (arith, high, long, answers_longer asked old.count ctime opened before line later, ap (λ l. length (answers_of asked old.count ctime opened l)) e))

pub more_is_said : MoreIsSaid
more_is_said asked ctime opened done text old s new said seen says = record {
  live = seen.live;
  at = throughout_trans seen.at (throughout_weaker says (λ t m is. behind_seen asked ctime opened done text old s m is.0 said is.1));
}

-- ---- what was kept

last_append : (book : Book) (first later : List Answered) → last_book book (first ++ later) ≡ last_book (last_book book first) later
last_append book [] later = refl
last_append book (a ∷ first) later = last_append a.book first later

-- an opening comes to the Book that is begun
opening_last : (asked : RunAsked) (ctime : ℕ) (opened : Opening) → last_book opened.book (opening_of asked ctime opened) ≡ begun_book asked opened.book
opening_last asked ctime opened = by_upgrade asked.upgrade
  where
    by_upgrade : (upgrade : Bool) → last_book opened.book (opening_of (upgrading asked upgrade) ctime opened) ≡ begun_book (upgrading asked upgrade) opened.book
    by_upgrade true = refl
    by_upgrade false = refl

module _ (asked : RunAsked) (ctime : ℕ) (opened : Opening) (ahead live holders : ℕ → Bool) (done later : List Asked) (old s : State) (come : HasCome asked ctime opened ahead live holders done old s) where
  abbrev course : Course
  course = course_of asked old.count ctime opened (done ++ later) ahead

  abbrev first : List Answered
  first = opening_of asked ctime opened ++ commands_of old.count (first_of asked opened) done

  abbrev others : List Answered
  others = commands_of old.count (after_asked old.count (first_of asked opened) done) later

  book_is : book_after asked old.count opened done ≡ last_book opened.book first
  book_is = last_is_reached old.count (first_of asked opened) done ∙ ap (λ b. last_book b (commands_of old.count (first_of asked opened) done)) (sym (opening_last asked ctime opened))
      ∙ sym (last_append opened.book (opening_of asked ctime opened) (commands_of old.count (first_of asked opened) done))

  split : commands course ≡ first ++ others
  split = ap (λ cs. opening_of asked ctime opened ++ cs) (commands_append old.count (first_of asked opened) done later) ∙ sym (append_assoc (opening_of asked ctime opened) (commands_of old.count (first_of asked opened) done) others)

  module _ (m : Moment) (quiet : m.said ≡ s.now.said) (kept : KeptInto (λ _. book_after asked old.count opened done ∷ []) old.count (λ _. is_of_step live s) (λ _ i d. holders i && is_of_step live s i d) m)
      (counted : (i : ℕ) → faults_at s i ≤ (m.dirs i).faults) where
    since : said_since old m ≡ text_of first ++ []
    since = since_said old m (text_of first) (quiet ∙ come.said) ∙ sym (append-nil (text_of first))

    part : IsPartOf kept.0.window (run_window course old m)
    part b there =
        let one = kept.1 b there in
        let moved = subst (λ x. Contains (x ∷ []) b) book_is one in
        let here = entry_in_window asked.batch (last_book opened.book first) others (commands_have_text old.count (after_asked old.count (first_of asked opened) done) later) b moved in
        let whole = subst (λ w. Contains w b) (sym (window_behind asked.batch opened.book first others [])) here in
        subst (λ x. Contains (window asked.batch opened.book (commands course) x) b) (sym since) (subst (λ cs. Contains (window asked.batch opened.book cs (text_of first ++ [])) b) (sym split) whole)

    -- behind the answers to the lines so far the counts are those behind the lines
    based_here : (i : ℕ) → base_at (commands course) old m i ≡ base_since old done i
    based_here i =
        ap (λ bytes. base_behind (λ j. faults_at old j) (take (whole_in (commands course) bytes) (commands course)) i) since
        ∙ ap (λ cs. base_behind (λ j. faults_at old j) (take (whole_in cs (text_of first ++ [])) cs) i) split ∙ base_past (λ j. faults_at old j) first others [] i
        ∙ ap (λ k. base_behind (λ j. base_behind (λ n. faults_at old n) first j) (take k others) i) (none_whole others (commands_have_text old.count (after_asked old.count (first_of asked opened) done) later)) ∙ come_base asked ctime opened done old i

    is_step : (i : ℕ) → i < old.count → is_unfailed_since (base_since old done i) (m.dirs i) ≡ true → is_of_step live s i (m.dirs i) ≡ true
    is_step i below e =
        let parts = and_parts (nat_lt (base_since old done i) (2 ^ 64 - 1)) (nat_le (m.dirs i).faults (base_since old done i)) e in
        let room : base_since old done i < 2 ^ 64 - 1 = grind (parts.0, arith, nat_tests) in
        let few : (m.dirs i).faults ≤ base_since old done i = leb-true _ _ parts.1 in
        let same : faults_at s i ≡ base_since old done i = omega (arith, few, (come.based i).1, counted i) in
        and_from _ _ (come.alive i below room (omega (arith, same))) (subst (λ k. is_unfailed_since k (m.dirs i) ≡ true) (sym same) e)

    run_is_step : (i : ℕ) → i < old.count → run_at course old m i (m.dirs i) ≡ true → is_of_step live s i (m.dirs i) ≡ true
    run_is_step i below e =
        let unfailed = (and_parts (has_started course.opening old m || course.chosen i) (is_unfailed_since (base_at (commands course) old m i) (m.dirs i)) e).1 in
        is_step i below (subst (λ k. is_unfailed_since k (m.dirs i) ≡ true) (based_here i) unfailed)

    held_is_step : (i : ℕ) → i < old.count → held_at course old m i (m.dirs i) ≡ true → (holders i && is_of_step live s i (m.dirs i)) ≡ true
    held_is_step i below e =
        let parts = and_parts (course.ahead i) ((has_started course.opening old m || course.chosen i) && is_unfailed_since (faults_at old i) (m.dirs i)) e in
        let unfailed : is_unfailed_since (faults_at old i) (m.dirs i) ≡ true = (and_parts (has_started course.opening old m || course.chosen i) (is_unfailed_since (faults_at old i) (m.dirs i)) parts.1).1 in
        let low = and_parts (nat_lt (faults_at old i) (2 ^ 64 - 1)) (nat_le (m.dirs i).faults (faults_at old i)) unfailed in
        let few : (m.dirs i).faults ≤ faults_at old i = leb-true _ _ low.1 in
        let same : faults_at s i ≡ faults_at old i = omega (arith, few, (come.based i).0, (come.based i).1, counted i) in
        let level : base_since old done i ≡ faults_at old i = omega (arith, same, (come.based i).0, (come.based i).1) in
        and_from _ _ (come.held i below parts.0 same) (is_step i below (subst (λ k. is_unfailed_since k (m.dirs i) ≡ true) (sym level) unfailed))

    pub ending_moment : IsKeptInRun course old m
    ending_moment = inr (kept.0, part, fewer_kept kept.0 old.count (is_of_step live s) (λ i d. holders i && is_of_step live s i d) (run_at course old m) (held_at course old m) m kept.2 run_is_step held_is_step)

pub ending_is_kept : EndingIsKept
ending_is_kept asked ctime opened ahead live holders done later old s new least serving quiet rise kept =
    let come = come_of asked ctime opened ahead live holders done old s least serving in
    throughout_trans (serving.kept later) (throughout_weaker (throughout_both quiet.each (throughout_both rise kept)) (λ t m is. ending_moment asked ctime opened ahead live holders done later old s come m is.0.said is.1.1 is.1.0))
