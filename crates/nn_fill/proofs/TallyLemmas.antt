-- A run whose commands are answered together is kept while they are done.
use Rattle.std.proofs.Common.{◌≡◌, ◌≢◌, inl, inr, ℕ, suc, zero, ◌-◌, ◌<◌, ◌≤◌, ◌^◌, nat_lt, nat_le, Bool, true, false, ◌&&◌, ◌||◌, List, [], ◌∷◌, ◌++◌, length, take, drop, map, refl, sym, ◌∙◌, ap, subst, arith}
use Rattle.std.specs.Prelude.{Contains}
use Rattle.std.proofs.lemmas.List.{append-nil, length-drop, map-append}
use Rattle.std.proofs.lemmas.List.Elements.{Contains-append_right}
use Rattle.std.proofs.lemmas.Bool.{or_left, and_parts, and_from, leb-true}
use Rattle.std.proofs.lemmas.Bool.Decides.{nat_tests}
use Rattle.nn_base.specs.Paths.{Bytes}
use Rattle.nn_host.specs.Moments.{Moment, State, faults_at}
use Rattle.nn_host.specs.Runs.{Throughout}
use Rattle.nn_host.proofs.RunsLemmas.{throughout_both, throughout_trans, throughout_weaker}
use Rattle.nn_pick.specs.Opening.{Book, Opening}
use Rattle.nn_kept.specs.Kept.{Shared}
use Rattle.nn_kept.specs.Laws.{IsPartOf, AllKept, KeptInto}
use Rattle.nn_script.specs.Lines.{has_no_answer}
use Rattle.nn_run.specs.Running.{Asked, Running, reply_at, after_asked, back_at}
use Rattle.nn_run.specs.Window.{Answered, commands_of, text_of, books, whole_in, window, last_book, said_since, is_unfailed, has_started, base_at, is_unfailed_since}
use Rattle.nn_run.specs.Course.{RunAsked, Course, begun_book, commands, first_of, opening_of, course_of, run_window, run_at, held_at, IsKeptInRun, RunKept}
use Rattle.nn_run.specs.Steps.{is_of_step, is_of_line}
use Rattle.nn_run.proofs.BetweenLemmas.{is_first}
use Rattle.nn_run.proofs.LineLemmas.{commands_append, last_is_reached}
use Rattle.nn_run.proofs.StepLemmas.{fewer_kept}
use Rattle.nn_run.proofs.WindowLemmas.{not_begun, if_false}
use Rattle.nn_whole.proofs.ServedLemmas.{since_said}
use Rattle.nn_fill.specs.Tally.{tally_of, commands_by, tallied_course}
use Rattle.nn_fill.specs.Tallying.{Tallying, books_of, TallyingFirst, StepKeepsBooks, TallyingNext}
use Rattle.nn_fill.proofs.TogetherLemmas.{none_told, whole_same, drop_more, taken_there, all_in, books_length, all_there, entry_base, bare_base}

-- a line has a newline
pub tally_some : (commands : List Answered) → tally_of commands ≢ []
tally_some commands e = absurd (omega (arith, ap length e))

pub untold : (commands : List Answered) (asked : RunAsked) (count ctime : ℕ) (opened : Opening) (lines : List Asked) (ahead : ℕ → Bool) → commands ≡ commands_by asked count opened lines → whole_in (tallied_course asked count ctime opened lines ahead).script [] ≡ 0
untold commands asked count ctime opened lines ahead same = let cmds = commands_by asked count opened lines in none_told (tally_of cmds) cmds [] (not_begun (tally_of cmds) (tally_some cmds))

-- ---- the opening

module _ (asked : RunAsked) (ctime : ℕ) (opened : Opening) (ahead : ℕ → Bool) (lines : List Asked) (old : State) where
  abbrev course : Course
  course = tallied_course asked old.count ctime opened lines ahead

  abbrev bare : Course
  bare = course_of asked old.count ctime opened [] ahead

  abbrev opening : List Answered
  opening = opening_of asked ctime opened

  -- as many are whole, and the same Books are in the window
  as_bare : (m : Moment) → length (said_since old m) ≤ length (text_of opening) → whole_in (commands course) (said_since old m) ≡ whole_in (commands bare) (said_since old m)
  as_bare m few = whole_same opening course.script (said_since old m) few (untold (commands_by asked old.count opened lines) asked old.count ctime opened lines ahead refl)

  more_books : (m : Moment) → length (said_since old m) ≤ length (text_of opening) → IsPartOf (run_window bare old m) (run_window course old m)
  more_books m few b there =
      let j = whole_in (commands bare) (said_since old m) in
      let some = taken_there (suc asked.batch) (drop j (books opened.book (opening ++ []))) b there in
      let front = subst (λ cs. Contains (drop j (books opened.book cs)) b) (append-nil opening) some in
      subst (λ k. Contains (take (suc course.batch) (drop k (books opened.book (opening ++ course.script)))) b) (sym (as_bare m few)) (whole j b front)
    where
      whole : (j : ℕ) (b : Book) → Contains (drop j (books opened.book opening)) b → Contains (take (suc course.batch) (drop j (books opened.book (opening ++ course.script)))) b
      whole j b front =
          let longer = drop_more (books opened.book opening) (map (λ (a : Answered). a.book) course.script) j b front in
          let same : books opened.book opening ++ map (λ (a : Answered). a.book) course.script ≡ books opened.book (opening ++ course.script) = ap (λ bs. opened.book ∷ bs) (sym (map-append (λ (a : Answered). a.book) opening course.script)) in
          all_in asked old.count ctime opened lines ahead (drop j (books opened.book (opening ++ course.script))) b
          (omega (arith, length-drop j (books opened.book (opening ++ course.script)), books_length asked old.count ctime opened lines ahead opening opened.book))
          (subst (λ bs. Contains (drop j bs) b) same longer)

  opening_moment : (m : Moment) → length (said_since old m) ≤ length (text_of opening) → IsKeptInRun bare old m → IsKeptInRun course old m
  opening_moment m few is = elim is [
    | inl before ↦ inl (record { answered = as_bare m few ∙ before.answered; disks = before.disks })
    | inr kept ↦ inr (kept.0, (λ b there. more_books m few b (kept.1 b there)), fewer_kept kept.0 old.count (run_at bare old m) (held_at bare old m) (run_at course old m) (held_at course old m) m kept.2 run_is_bare (λ i below e. e))
  ]
    where
      run_is_bare : (i : ℕ) → i < old.count → run_at course old m i (m.dirs i) ≡ true → run_at bare old m i (m.dirs i) ≡ true
      run_is_bare i below e =
          let same : base_at (commands course) old m i ≡ base_at (commands bare) old m i = entry_base asked old.count ctime opened lines ahead old m i ∙ sym (bare_base asked old.count ctime opened ahead old m i) in
          subst (λ k. ((has_started course.opening old m || course.chosen i) && is_unfailed_since k (m.dirs i)) ≡ true) same e

-- what was kept of a run while no more than its opening was said is kept of any with these lines
pub opening_is_tallied : (asked : RunAsked) (ctime : ℕ) (opened : Opening) (ahead : ℕ → Bool) (lines : List Asked) (old s : State) → Throughout (Unit {0}) old s (λ m. length (said_since old m) ≤ length (text_of (opening_of asked ctime opened)))
    → RunKept (Unit {0}) (course_of asked old.count ctime opened [] ahead) old s → RunKept (Unit {0}) (tallied_course asked old.count ctime opened lines ahead) old s
opening_is_tallied asked ctime opened ahead lines old s few kept = throughout_weaker (throughout_both few kept) (λ t m is. opening_moment asked ctime opened ahead lines old m is.0 is.1)

pub tallying_first : TallyingFirst
tallying_first asked ctime opened ahead live holders lines old s serving =
    let opening = opening_of asked ctime opened in
    let bare : text_of (opening ++ []) ≡ text_of opening = ap text_of (append-nil opening) in record {
      said = serving.said.said ∙ ap (λ t. old.now.said ++ t) bare;
      grown = λ i. omega (arith, (serving.said.based i).0, (serving.said.based i).1);
      alive = λ i below same room. serving.said.alive i below room (omega (arith, same));
      held = serving.held;
      kept = opening_is_tallied asked ctime opened ahead lines old s (throughout_weaker serving.said.fronts (λ t m few. omega (arith, few, ap length bare))) (serving.kept []);
    }

-- ---- a step

dropped_there : {A : Type 0} (j : ℕ) (xs : List A) (x : A) → Contains (drop j xs) x → Contains xs x
dropped_there zero xs x there = there
dropped_there (suc j) [] x there = there
dropped_there (suc j) (y ∷ xs) x there = Contains-append_right (y ∷ []) xs x (dropped_there j xs x there)

-- the Books before and behind a command
before_it : (book : Book) (first : List Answered) (a : Answered) (later : List Answered) → Contains (books book (first ++ a ∷ later)) (last_book book first)
before_it book [] a later = is_first book (map (λ (c : Answered). c.book) (a ∷ later))
before_it book (c ∷ first) a later = Contains-append_right (book ∷ []) (books c.book (first ++ a ∷ later)) (last_book c.book first) (before_it c.book first a later)

behind_it : (book : Book) (first : List Answered) (a : Answered) (later : List Answered) → Contains (books book (first ++ a ∷ later)) a.book
behind_it book [] a later = Contains-append_right (book ∷ []) (books a.book later) a.book (is_first a.book (map (λ (c : Answered). c.book) later))
behind_it book (c ∷ first) a later = Contains-append_right (book ∷ []) (books c.book (first ++ a ∷ later)) a.book (behind_it c.book first a later)

of_two : {A : Type 0} (P : A → Type 0) (x y z : A) → P x → P y → Contains (x ∷ y ∷ []) z → P z
of_two P x y z px py (zero, below, is) = subst P is px
of_two P x y z px py (suc zero, below, is) = subst P is py
of_two P x y z px py (suc (suc k), below, is) = absurd (omega (arith, below))

module _ (asked : RunAsked) (count : ℕ) (opened : Opening) (done later lines : List Asked) (next : Asked) (split : lines ≡ done ++ next ∷ later) (answers : has_no_answer next.line ≡ false) where
  abbrev run : Running
  run = after_asked count (first_of asked opened) done

  abbrev it : Answered
  it = record { text = (reply_at count run next).text; book = (reply_at count run next).after.book; back = back_at count next }

  abbrev first : List Answered
  first = commands_by asked count opened done

  next_is : (rest : List Asked) → commands_of count run (next ∷ rest) ≡ it ∷ commands_of count (reply_at count run next).after rest
  next_is rest = if_false (has_no_answer next.line) (commands_of count run rest) (it ∷ commands_of count (reply_at count run next).after rest) answers

  all_are : commands_by asked count opened lines ≡ first ++ it ∷ commands_of count (reply_at count run next).after later
  all_are = ap (λ l. commands_of count (first_of asked opened) l) split ∙ commands_append count (first_of asked opened) done (next ∷ later) ∙ ap (λ cs. first ++ cs) (next_is later)

  step_books : (bytes : Bytes) → IsPartOf (window 1 run.book (commands_of count run (next ∷ [])) bytes) (books_of asked count opened lines)
  step_books bytes b there =
      let one = subst (λ cs. Contains (window 1 run.book cs bytes) b) (next_is []) there in
      let j = whole_in (it ∷ []) bytes in
      let two = dropped_there j (run.book ∷ it.book ∷ []) b (taken_there 2 (drop j (run.book ∷ it.book ∷ [])) b one) in
      let begun = begun_book asked opened.book in
      let rest = commands_of count (reply_at count run next).after later in
      subst (λ cs. Contains (books begun cs) b) (sym all_are)
      (of_two (Contains (books begun (first ++ it ∷ rest))) run.book it.book b
      (subst (Contains (books begun (first ++ it ∷ rest))) (sym (last_is_reached count (first_of asked opened) done)) (before_it begun first it rest)) (behind_it begun first it rest) two)

pub step_keeps_books : StepKeepsBooks
step_keeps_books asked count opened live holders done later lines next old new split answers step =
    let run = after_asked count (first_of asked opened) done in
    throughout_weaker step (λ t m is. (
      is.kept.0,
      (λ b there. step_books asked count opened done later lines next split answers (said_since old m) b (is.kept.1 b there)),
      fewer_kept is.kept.0 count (is_of_line live count run next old m) (λ i d. holders i && is_of_step live old i d) (is_of_step live old) (λ i d. holders i && is_of_step live old i d) m is.kept.2
          (λ i below e. or_left (is_of_step live old i (m.dirs i)) _ e) (λ i below e. e),
    ))

-- ---- while nothing is said

module _ (asked : RunAsked) (ctime : ℕ) (opened : Opening) (ahead live holders : ℕ → Bool) (lines : List Asked) (old s : State) (tallying : Tallying asked ctime opened ahead live holders lines old s) where
  abbrev here : Course
  here = tallied_course asked old.count ctime opened lines ahead

  abbrev first_said : Bytes
  first_said = text_of (opening_of asked ctime opened)

  module _ (m : Moment) (counted : (i : ℕ) → faults_at s i ≤ (m.dirs i).faults) where
    record Unfailed (i : ℕ) : Type 0 where
      same : faults_at s i ≡ faults_at old i
      alive : live i ≡ true
      still : is_unfailed s i (m.dirs i) ≡ true

    unfailed : (i : ℕ) → i < old.count → is_unfailed old i (m.dirs i) ≡ true → Unfailed i
    unfailed i below e =
        let parts = and_parts (nat_lt (faults_at old i) (2 ^ 64 - 1)) (nat_le (m.dirs i).faults (faults_at old i)) e in
        let room : faults_at old i < 2 ^ 64 - 1 = grind (parts.0, arith, nat_tests) in
        let few : (m.dirs i).faults ≤ faults_at old i = leb-true _ _ parts.1 in
        let same : faults_at s i ≡ faults_at old i = omega (arith, few, tallying.grown i, counted i) in
        record { same = same; alive = tallying.alive i below same room; still = subst (λ k. (nat_lt k (2 ^ 64 - 1) && nat_le (m.dirs i).faults k) ≡ true) (sym same) e }

    run_is_step : (i : ℕ) → i < old.count → run_at here old m i (m.dirs i) ≡ true → is_of_step live s i (m.dirs i) ≡ true
    run_is_step i below e =
        let counts = (and_parts (has_started here.opening old m || here.chosen i) (is_unfailed_since (base_at (commands here) old m i) (m.dirs i)) e).1 in
        let it = unfailed i below (subst (λ k. is_unfailed_since k (m.dirs i) ≡ true) (entry_base asked old.count ctime opened lines ahead old m i) counts) in
        and_from _ _ it.alive it.still

    held_is_step : (i : ℕ) → i < old.count → held_at here old m i (m.dirs i) ≡ true → (holders i && is_of_step live s i (m.dirs i)) ≡ true
    held_is_step i below e =
        let parts = and_parts (here.ahead i) ((has_started here.opening old m || here.chosen i) && is_unfailed old i (m.dirs i)) e in
        let it = unfailed i below (and_parts (has_started here.opening old m || here.chosen i) (is_unfailed old i (m.dirs i)) parts.1).1 in
        and_from _ _ (tallying.held i below parts.0 it.same) (and_from _ _ it.alive it.still)

    -- the directories of the run are those of the step
    pub as_of_run : (shared : Shared) → AllKept shared old.count (is_of_step live s) (λ i d. holders i && is_of_step live s i d) m → AllKept shared old.count (run_at here old m) (held_at here old m) m
    as_of_run shared all = fewer_kept shared old.count (is_of_step live s) (λ i d. holders i && is_of_step live s i d) (run_at here old m) (held_at here old m) m all run_is_step held_is_step

    quiet_moment : m.said ≡ s.now.said → KeptInto (λ _. books_of asked old.count opened lines) old.count (λ _. is_of_step live s) (λ _ i d. holders i && is_of_step live s i d) m → IsKeptInRun here old m
    quiet_moment quiet kept =
        let since : said_since old m ≡ first_said ++ [] = since_said old m first_said (quiet ∙ tallying.said) ∙ sym (append-nil first_said) in
        inr (
          kept.0,
          (λ b there. subst (λ x. Contains (window here.batch opened.book (commands here) x) b) (sym since)
              (all_there asked old.count ctime opened lines ahead [] (untold (commands_by asked old.count opened lines) asked old.count ctime opened lines ahead refl) b (kept.1 b there))),
          as_of_run kept.0 kept.2,
        )

pub tallying_next : TallyingNext
tallying_next asked ctime opened ahead live live_after holders lines old s new tallying quiet rise keep alive = record {
  said = quiet.now.said ∙ tallying.said;
  grown = λ i. omega (arith, tallying.grown i, rise.ends tt i);
  alive = λ i below same room.
      let was : faults_at s i ≡ faults_at old i = omega (arith, same, tallying.grown i, rise.ends tt i) in
      (alive i below (omega (arith, was, room))).1 (same ∙ sym was, tallying.alive i below was room);
  held = λ i below is same. tallying.held i below is (omega (arith, same, tallying.grown i, rise.ends tt i));
  kept = throughout_trans tallying.kept (throughout_weaker (throughout_both quiet.each (throughout_both rise keep)) (λ t m is. quiet_moment asked ctime opened ahead live holders lines old s tallying m is.1.0 is.0.said is.1.1));
}
