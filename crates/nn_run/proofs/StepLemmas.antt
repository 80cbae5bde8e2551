-- A step carries on a run: its window is part of that of the run, and each directory of the run is one of the step.
use Rattle.std.proofs.Common.{◌≡◌, ◌≢◌, ◌⊎◌, inl, inr, ℕ, suc, ◌-◌, ◌<◌, ◌≤◌, ◌==◌, Bool, true, false, ◌&&◌, ◌||◌, ◌^◌, nat_le, nat_lt, if◌then◌else◌, List, [], ◌∷◌, ◌++◌, length, take, drop, Option, Ok, Some, None, refl, sym, ◌∙◌, ap, subst, arith, append_assoc}
use Rattle.std.specs.Prelude.{All, Contains}
use Rattle.std.proofs.lemmas.List.{length-take}
use Rattle.std.proofs.Math.Seq.{drop-append_seam}
use Rattle.std.proofs.lemmas.Bool.{cases_Bool, and_parts, and_from, or_left, or_right, leb-true}
use Rattle.std.proofs.lemmas.Bool.Decides.{nat_tests}
use Rattle.nn_base.specs.Paths.{Bytes}
use Rattle.nn_host.specs.Moments.{Dir, Moment, State, faults_at}
use Rattle.nn_host.proofs.RunsLemmas.{throughout_trans, throughout_weaker}
use Rattle.nn_kept.specs.Kept.{Shared}
use Rattle.nn_kept.specs.Laws.{IsPartOf, AllKept}
use Rattle.nn_script.specs.Lines.{has_no_answer}
use Rattle.nn_script.specs.Reading.{reading_of}
use Rattle.nn_run.specs.Running.{Running, Asked, Back, reply_at, reply_read, back_at, is_back, base_by}
use Rattle.nn_run.specs.Window.{Answered, commands_of, text_of, begins_with, whole_in, window, window_at, said_since, is_unfailed, is_unfailed_since, base_behind, base_at, has_started}
use Rattle.nn_run.specs.Course.{Course, commands, run_window, run_at, held_at, IsKeptInRun}
use Rattle.nn_run.specs.Steps.{is_of_step, is_of_back, is_of_line, IsStepMoment}
use Rattle.nn_run.specs.Loop.{GoesOnFrom, StepGoesOn}
use Rattle.nn_run.proofs.WindowLemmas.{if_true, nil_of, one_whole, not_whole, none_whole, past_front, window_behind, entry_in_window, step_in_window}
use Rattle.nn_run.proofs.BaseLemmas.{base_moves, base_past}

-- fewer directories count
pub fewer_kept : (shared : Shared) (count : ℕ) (run held fewer less : ℕ → Dir → Bool) (m : Moment) → AllKept shared count run held m
    → ((i : ℕ) → i < count → fewer i (m.dirs i) ≡ true → run i (m.dirs i) ≡ true) → ((i : ℕ) → i < count → less i (m.dirs i) ≡ true → held i (m.dirs i) ≡ true) → AllKept shared count fewer less m
fewer_kept shared count run held fewer less m all some one = record { at = λ i below. record { kept = (all.at i below).kept; run = λ e. (all.at i below).run (some i below e); led = λ e. (all.at i below).led (one i below e) } }

-- a line without an answer has none
read_none : (line : Bytes) → has_no_answer line ≡ true → reading_of line ≡ Ok None
unfolding reading_of
read_none line e = rw e refl

most_taken : (n : ℕ) (text : Bytes) → length (take n text) ≤ length text
most_taken n text = omega (arith, length-take n text)

module _ (batch : ℕ) (run : Running) (count : ℕ) (asked : Asked) (later : List Answered) (least : 1 ≤ batch) (texts : All (λ other. other.text ≢ []) later) (n : ℕ) where
  abbrev said_of : Bytes
  said_of = take n (reply_at count run asked).text

  by_answer : (none : Bool) → has_no_answer asked.line ≡ none
      → IsPartOf (window 1 run.book (if none then [] else record { text = (reply_at count run asked).text; book = (reply_at count run asked).after.book; back = back_at count asked } ∷ []) said_of)
      (window batch run.book ((if none then [] else record { text = (reply_at count run asked).text; book = (reply_at count run asked).after.book; back = back_at count asked } ∷ []) ++ later) said_of)
  by_answer true e =
      let none : (reply_at count run asked).text ≡ [] = ap (λ r. (reply_read count run asked.sight r).text) (read_none asked.line e) in
      let nothing : said_of ≡ [] = nil_of said_of (omega (arith, most_taken n (reply_at count run asked).text, ap length none)) in
      λ b there. subst (λ x. Contains (window batch run.book later x) b) (sym nothing) (entry_in_window batch run.book later texts b there)
  by_answer false e = step_in_window batch run.book (record { text = (reply_at count run asked).text; book = (reply_at count run asked).after.book; back = back_at count asked }) later n texts least

  part : IsPartOf (window 1 run.book (commands_of count run (asked ∷ [])) said_of) (window batch run.book (commands_of count run (asked ∷ []) ++ later) said_of)
  part = by_answer (has_no_answer asked.line) refl

-- the whole answer to a line that took a directory back is among these bytes, and this is the count of that directory then
record IsBackHere (count : ℕ) (run : Running) (asked : Asked) (bytes : Bytes) (base : ℕ → ℕ) (i k : ℕ) : Type 0 where
  whole : begins_with (reply_at count run asked).text bytes ≡ true
  is : is_back (back_at count asked) i ≡ true
  count_is : k ≡ base_by base (back_at count asked) i

-- one that a line took back counts, where no call on it failed since
back_counts : (base : ℕ → ℕ) (back : Option Back) (i : ℕ) (d : Dir) (k : ℕ) → is_back back i ≡ true → k ≡ base_by base back i → is_unfailed_since k d ≡ true → is_of_back back i d ≡ true
back_counts base None i d k is e unfailed = absurd (cc is)
back_counts base (Some back) i d k is e unfailed =
    let same : k ≡ back.faults = e ∙ if_true (i == back.dir) back.faults (base i) is in
    and_from _ _ is (subst (λ c. is_unfailed_since c d ≡ true) same unfailed)

module _ (count : ℕ) (run : Running) (asked : Asked) (later : List Answered) (texts : All (λ other. other.text ≢ []) later) (n : ℕ) (base : ℕ → ℕ) (i : ℕ) where
  abbrev bytes_of : Bytes
  bytes_of = take n (reply_at count run asked).text

  base_by_answer : (none : Bool) → has_no_answer asked.line ≡ none
      → (base_behind base (take (whole_in ((if none then [] else record { text = (reply_at count run asked).text; book = (reply_at count run asked).after.book; back = back_at count asked } ∷ []) ++ later) bytes_of)
      ((if none then [] else record { text = (reply_at count run asked).text; book = (reply_at count run asked).after.book; back = back_at count asked } ∷ []) ++ later)) i ≡ base i)
      ⊎ IsBackHere count run asked bytes_of base i (base_behind base (take (whole_in ((if none then [] else record { text = (reply_at count run asked).text; book = (reply_at count run asked).after.book; back = back_at count asked } ∷ []) ++ later) bytes_of)
      ((if none then [] else record { text = (reply_at count run asked).text; book = (reply_at count run asked).after.book; back = back_at count asked } ∷ []) ++ later)) i)
  base_by_answer true e =
      let none : (reply_at count run asked).text ≡ [] = ap (λ r. (reply_read count run asked.sight r).text) (read_none asked.line e) in
      let nothing : bytes_of ≡ [] = nil_of bytes_of (omega (arith, most_taken n (reply_at count run asked).text, ap length none)) in
      inl (ap (λ k. base_behind base (take k later) i) (ap (whole_in later) nothing ∙ none_whole later texts))
  base_by_answer false e =
      let it : Answered = record { text = (reply_at count run asked).text; book = (reply_at count run asked).after.book; back = back_at count asked } in
      elim (cases_Bool (begins_with (reply_at count run asked).text bytes_of)) [
        | inl whole ↦
            let past : whole_in (it ∷ later) bytes_of ≡ 1 = one_whole it later bytes_of whole ∙ ap (λ x. suc (whole_in later x)) (past_front n (reply_at count run asked).text) ∙ ap suc (none_whole later texts) in
            let here : base_behind base (take (whole_in (it ∷ later) bytes_of) (it ∷ later)) i ≡ base_by base (back_at count asked) i = ap (λ k. base_behind base (take k (it ∷ later)) i) past in
            elim (base_moves base (back_at count asked) i) [
              | inl stays ↦ inl (here ∙ stays)
              | inr is ↦ inr (record { whole = whole; is = is; count_is = here })
            ]
        | inr part ↦ inl (ap (λ k. base_behind base (take k (it ∷ later)) i) (not_whole it later bytes_of part))
      ]

module _ (course : Course) (run : Running) (live holders : ℕ → Bool) (before later : List Answered) (asked : Asked) (old s : State) (on : GoesOnFrom course run live holders before later asked old s) (m : Moment) (is : IsStepMoment old.count run live holders asked s m) where
  abbrev text : Bytes
  text = (reply_at old.count run asked).text

  abbrev said_here : Bytes
  said_here = take is.front.0 text

  all_said : m.said ≡ (old.now.said ++ text_of before) ++ said_here
  all_said = is.front.1 ∙ ap (λ x. x ++ said_here) on.said

  in_step : said_since s m ≡ said_here
  in_step = ap (drop (length s.now.said)) is.front.1 ∙ drop-append_seam s.now.said said_here

  in_run : said_since old m ≡ text_of before ++ said_here
  in_run = ap (drop (length old.now.said)) (all_said ∙ append_assoc old.now.said (text_of before) said_here) ∙ drop-append_seam old.now.said (text_of before ++ said_here)

  windows : IsPartOf (window_at 1 run.book (commands_of old.count run (asked ∷ [])) s m) (run_window course old m)
  windows = λ b there.
      let here = part course.batch run old.count asked later on.batch on.texts is.front.0 b (subst (λ x. Contains (window 1 run.book (commands_of old.count run (asked ∷ [])) x) b) in_step there) in
      let moved = subst (λ book. Contains (window course.batch book (commands_of old.count run (asked ∷ []) ++ later) said_here) b) on.book here in
      let whole = subst (λ w. Contains w b) (sym (window_behind course.batch course.entry before (commands_of old.count run (asked ∷ []) ++ later) said_here)) moved in
      subst (λ x. Contains (window course.batch course.entry (commands course) x) b) (sym in_run) (subst (λ cs. Contains (window course.batch course.entry cs (text_of before ++ said_here)) b) (sym on.commands_are) whole)

  abbrev base_before : ℕ → ℕ
  base_before i = base_behind (λ j. faults_at old j) before i

  -- the counts of the run at this moment go on from those behind the lines before it
  base_here : (i : ℕ) → base_at (commands course) old m i ≡ base_behind base_before (take (whole_in (commands_of old.count run (asked ∷ []) ++ later) said_here) (commands_of old.count run (asked ∷ []) ++ later)) i
  base_here i =
      ap (λ bytes. base_behind (λ j. faults_at old j) (take (whole_in (commands course) bytes) (commands course)) i) in_run
      ∙ ap (λ cs. base_behind (λ j. faults_at old j) (take (whole_in cs (text_of before ++ said_here)) cs) i) on.commands_are
      ∙ base_past (λ j. faults_at old j) before (commands_of old.count run (asked ∷ []) ++ later) said_here i

  base_is : (i : ℕ) → base_at (commands course) old m i ≡ base_before i ⊎ IsBackHere old.count run asked said_here base_before i (base_at (commands course) old m i)
  base_is i = subst (λ k. k ≡ base_before i ⊎ IsBackHere old.count run asked said_here base_before i k) (sym (base_here i)) (base_by_answer old.count run asked later on.texts is.front.0 base_before i (has_no_answer asked.line) refl)

  -- a directory on which no call failed since these counts has failed in no step
  is_step : (i : ℕ) → i < old.count → is_unfailed_since (base_before i) (m.dirs i) ≡ true → is_of_step live s i (m.dirs i) ≡ true
  is_step i below e =
      let parts = and_parts (nat_lt (base_before i) (2 ^ 64 - 1)) (nat_le (m.dirs i).faults (base_before i)) e in
      let room : base_before i < 2 ^ 64 - 1 = grind (parts.0, arith, nat_tests) in
      let few : (m.dirs i).faults ≤ base_before i = leb-true _ _ parts.1 in
      let same : faults_at s i ≡ base_before i = omega (arith, few, (on.based i).1, is.counted i) in
      and_from _ _ (on.alive i below room (omega (arith, same))) (subst (λ k. is_unfailed_since k (m.dirs i) ≡ true) (sym same) e)

  run_is_line : (i : ℕ) → i < old.count → run_at course old m i (m.dirs i) ≡ true → is_of_line live old.count run asked s m i (m.dirs i) ≡ true
  run_is_line i below e =
      let unfailed : is_unfailed_since (base_at (commands course) old m i) (m.dirs i) ≡ true = (and_parts (has_started course.opening old m || course.chosen i) (is_unfailed_since (base_at (commands course) old m i) (m.dirs i)) e).1 in
      elim (base_is i) [
        | inl stays ↦ or_left _ _ (is_step i below (subst (λ k. is_unfailed_since k (m.dirs i) ≡ true) stays unfailed))
        | inr back ↦ or_right _ _ (and_from _ _ (subst (λ bytes. begins_with text bytes ≡ true) (sym in_step) back.whole) (back_counts base_before (back_at old.count asked) i (m.dirs i) (base_at (commands course) old m i) back.is back.count_is unfailed))
      ]

  held_is_step : (i : ℕ) → i < old.count → held_at course old m i (m.dirs i) ≡ true → (holders i && (live i && is_unfailed s i (m.dirs i))) ≡ true
  held_is_step i below e =
      let parts = and_parts (course.ahead i) _ e in
      let unfailed : is_unfailed_since (faults_at old i) (m.dirs i) ≡ true = (and_parts (has_started course.opening old m || course.chosen i) (is_unfailed_since (faults_at old i) (m.dirs i)) parts.1).1 in
      let low = and_parts (nat_lt (faults_at old i) (2 ^ 64 - 1)) (nat_le (m.dirs i).faults (faults_at old i)) unfailed in
      let few : (m.dirs i).faults ≤ faults_at old i = leb-true _ _ low.1 in
      let same : faults_at s i ≡ faults_at old i = omega (arith, few, (on.based i).0, (on.based i).1, is.counted i) in
      let level : base_before i ≡ faults_at old i = omega (arith, same, (on.based i).0, (on.based i).1) in
      and_from _ _ (on.held i below parts.0 same) (is_step i below (subst (λ k. is_unfailed_since k (m.dirs i) ≡ true) (sym level) unfailed))

  pub step_in_run : IsKeptInRun course old m
  step_in_run = inr (is.kept.0, (λ b there. windows b (is.kept.1 b there)), fewer_kept is.kept.0 old.count _ _ (run_at course old m) (held_at course old m) m is.kept.2 run_is_line held_is_step)

pub step_goes_on : StepGoesOn
step_goes_on course run live holders before later asked old s new on until step = throughout_trans until (throughout_weaker step (λ t m is. step_in_run course run live holders before later asked old s on m is))
