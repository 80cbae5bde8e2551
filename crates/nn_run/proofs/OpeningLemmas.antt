-- The moments of an opening are those of a run that has said nothing yet.
use Rattle.std.proofs.Common.{◌≡◌, ◌≢◌, inl, inr, ℕ, suc, zero, ◌<◌, ◌≤◌, true, false, ◌&&◌, List, [], ◌∷◌, ◌++◌, length, take, drop, map, sym, ◌∙◌, ap, subst, arith}
use Rattle.std.specs.Prelude.{Contains}
use Rattle.std.proofs.lemmas.List.{length-append, length-drop}
use Rattle.std.proofs.lemmas.List.Elements.{Contains-append_left}
use Rattle.nn_host.specs.Moments.{Moment, State, faults_at}
use Rattle.nn_host.proofs.RunsLemmas.{throughout_weaker, throughout_both}
use Rattle.nn_host.specs.Runs.{OutAsIn}
use Rattle.nn_pick.specs.Opening.{Book}
use Rattle.nn_kept.specs.Laws.{IsPartOf, AllKept}
use Rattle.nn_run.specs.Window.{begins_with, whole_in, Answered, text_of, books, window, said_since, base_behind, base_at, is_unfailed_since, is_of_run, is_held, has_started}
use Rattle.nn_run.specs.Course.{Course, commands, run_window, run_at, held_at}
use Rattle.nn_run.specs.Loop.{OpeningIsOfRun}
use Rattle.nn_run.proofs.StepLemmas.{fewer_kept}
use Rattle.nn_run.proofs.WindowLemmas.{nil_of, not_whole, not_begun, some_length}

-- as long as nothing is said, the first two Books are in the window
first_in_window : (batch : ℕ) (book : Book) (a : Answered) (rest later : List Answered) → 1 ≤ batch → a.text ≢ [] → IsPartOf (window 1 book (a ∷ rest) []) (window batch book ((a ∷ rest) ++ later) [])
first_in_window zero book a rest later least some = absurd (omega (arith, least))
first_in_window (suc k) book a rest later least some = λ b there.
    let both : Contains (book ∷ a.book ∷ []) b = subst (λ j. Contains (take 2 (drop j (books book (a ∷ rest)))) b) (not_whole a rest [] (not_begun a.text some)) there in
    subst (λ j. Contains (take (suc (suc k)) (drop j (books book (a ∷ (rest ++ later))))) b) (sym (not_whole a (rest ++ later) [] (not_begun a.text some))) (Contains-append_left (book ∷ a.book ∷ []) (take k (map (λ x. x.book) (rest ++ later))) b both)

module _ (course : Course) (a : Answered) (rest : List Answered) (old : State) (m : Moment) (begins : course.opening ≡ a ∷ rest) (some : a.text ≢ []) (least : 1 ≤ course.batch) (out : OutAsIn old m) where
  nothing_said : said_since old m ≡ []
  nothing_said = nil_of (said_since old m) (omega (arith, length-drop (length old.now.said) m.said, ap length out.said))

  not_started : has_started course.opening old m ≡ false
  not_started =
      let long : 0 < length (text_of (a ∷ rest)) = omega (arith, some_length a.text some, length-append a.text (text_of rest)) in
      let there : text_of (a ∷ rest) ≢ [] = λ e. absurd (omega (arith, long, ap length e)) in
      ap (begins_with (text_of course.opening)) nothing_said ∙ not_begun (text_of course.opening) (subst (λ o. text_of o ≢ []) (sym begins) there)

  unanswered : whole_in (commands course) (said_since old m) ≡ 0
  unanswered = ap (whole_in (commands course)) nothing_said ∙ ap (λ o. whole_in (o ++ course.script) []) begins ∙ not_whole a (rest ++ course.script) [] (not_begun a.text some)

  part : IsPartOf (window 1 course.entry course.opening []) (run_window course old m)
  part = λ b there.
      let here = first_in_window course.batch course.entry a rest course.script least some b (subst (λ o. Contains (window 1 course.entry o []) b) begins there) in
      let whole = subst (λ o. Contains (window course.batch course.entry (o ++ course.script) []) b) (sym begins) here in
      subst (λ x. Contains (window course.batch course.entry (commands course) x) b) (sym nothing_said) whole

  -- no directory was taken back yet
  unmoved : (i : ℕ) → base_at (commands course) old m i ≡ faults_at old i
  unmoved i = ap (λ k. base_behind (λ j. faults_at old j) (take k (commands course)) i) unanswered

  -- the directories of the opening are those of the run
  all_so : (shared : _) → AllKept shared old.count (is_of_run course.chosen false (λ i. faults_at old i)) (is_held course.ahead course.chosen false old) m → AllKept shared old.count (run_at course old m) (held_at course old m) m
  all_so shared all =
      let based : AllKept shared old.count (is_of_run course.chosen false (λ i. base_at (commands course) old m i)) (is_held course.ahead course.chosen false old) m = (
      fewer_kept shared old.count (is_of_run course.chosen false (λ i. faults_at old i)) (is_held course.ahead course.chosen false old) (is_of_run course.chosen false (λ i. base_at (commands course) old m i))
      (is_held course.ahead course.chosen false old) m all (λ i below e. subst (λ k. (course.chosen i && is_unfailed_since k (m.dirs i)) ≡ true) (unmoved i) e) (λ i below e. e)) in
      subst (λ started. AllKept shared old.count (is_of_run course.chosen started (λ i. base_at (commands course) old m i)) (is_held course.ahead course.chosen started old) m) (sym not_started) based

pub opening_is_of_run : OpeningIsOfRun
opening_is_of_run course a rest old s begins some least silent kept = throughout_weaker (throughout_both kept silent.each) (λ t m both. elim both.0 [
  | inl entry ↦ inl (record { answered = unanswered course a rest old m begins some least both.1; disks = entry })
  | inr here ↦ inr (here.0, (λ b there. part course a rest old m begins some least both.1 b (here.1 b there)), all_so course a rest old m begins some least both.1 here.0 here.2)
])
