-- A run that is closed is kept: a last line moves neither the window nor which directories are of the run.
use Rattle.std.proofs.Common.{◌≡◌, ◌⊎◌, inl, inr, ℕ, suc, ◌+◌, Bool, true, List, [], ◌∷◌, ◌++◌, length, take, drop, sym, ◌∙◌, ap, subst, arith, append_assoc}
use Rattle.std.specs.Prelude.{Contains}
use Rattle.std.proofs.Math.Seq.{take-append_seam}
use Rattle.std.proofs.lemmas.List.{append-nil}
use Rattle.std.proofs.lemmas.Slice.Eq.{bytes_eq-Decides}
use Rattle.nn_base.specs.Paths.{Bytes}
use Rattle.nn_host.specs.Disk.{Disk, Settle, disk_after}
use Rattle.nn_host.specs.Moments.{Dir, Moment, State, faults_at}
use Rattle.nn_host.proofs.RunsLemmas.{throughout_trans, throughout_weaker}
use Rattle.nn_pick.specs.Opening.{Opening}
use Rattle.nn_kept.specs.Kept.{Shared}
use Rattle.nn_kept.specs.Laws.{IsKeptDisk, AllKept}
use Rattle.nn_run.specs.Running.{Asked, after_asked}
use Rattle.nn_run.specs.Window.{Answered, commands_of, text_of, begins_with, whole_in, books, said_since, base_behind, base_at, is_of_run, is_held, has_started}
use Rattle.nn_run.specs.Course.{RunAsked, Course, commands, first_of, opening_of, answers_of, course_of, IsAsAtEntry, run_at, held_at, IsKeptInRun}
use Rattle.nn_run.proofs.LineLemmas.{commands_append, commands_have_text}
use Rattle.nn_run.proofs.WindowLemmas.{none_whole, whole_behind}
use Rattle.nn_whole.specs.Closed.{closing_lines, IsEarlyLine, ClosedIsKept, EarlyIsKept}
use Rattle.nn_whole.proofs.LastLemmas.{closing_answers_none, early_answers_none, early_not_started}
use Rattle.nn_whole.proofs.ServedLemmas.{text_append, since_said}

-- ---- moments that look alike

-- the same directories, as many answers said whole, and the opening said or not: then what holds at the one holds at the other
module _ (course : Course) (old : State) (other m : Moment) (same : m.dirs ≡ other.dirs) (whole : whole_in (commands course) (said_since old m) ≡ whole_in (commands course) (said_since old other))
    (started : has_started course.opening old m ≡ has_started course.opening old other) where
  entry_same : IsAsAtEntry old other → IsAsAtEntry old m
  entry_same entry = record { at = λ j. subst (λ (dirs : ℕ → Dir). IsAsAt j (dirs j).disk) (sym same) (entry.at j) }
    where
      IsAsAt : ℕ → Disk → Type 0
      IsAsAt j d = (d ≡ (old.now.dirs j).disk) ⊎ (d ≡ disk_after Settle (old.reads j) (old.now.dirs j).disk)

  kept_same : (shared : Shared) → AllKept shared old.count (run_at course old other) (held_at course old other) other → AllKept shared old.count (run_at course old m) (held_at course old m) m
  kept_same shared all = record {
    at = λ j below.
        subst (λ (s : Bool). IsKeptDisk shared (is_of_run course.chosen s (λ i. base_at (commands course) old m i) j (m.dirs j)) (is_held course.ahead course.chosen s old j (m.dirs j)) (m.dirs j).disk) (sym started)
        (subst (λ (k : ℕ). IsKeptDisk shared (is_of_run course.chosen (has_started course.opening old other) (λ i. base_behind (λ n. faults_at old n) (take k (commands course)) i) j (m.dirs j)) (held_at course old other j (m.dirs j)) (m.dirs j).disk) (sym whole)
        (subst (λ (dirs : ℕ → Dir). IsKeptDisk shared (run_at course old other j (dirs j)) (held_at course old other j (dirs j)) (dirs j).disk) (sym same) (all.at j below)));
  }

  pub alike_kept : IsKeptInRun course old other → IsKeptInRun course old m
  alike_kept is = elim is [
    | inl before ↦ inl (record { answered = whole ∙ before.answered; disks = entry_same before.disks })
    | inr kept ↦ inr (kept.0, (λ b there. subst (λ j. Contains (take (suc course.batch) (drop j (books course.entry (commands course)))) b) (sym whole) (kept.1 b there)), kept_same kept.0 kept.2)
  ]

-- ---- behind answers

-- behind the texts of some commands so many are whole, and of the others those that are among the rest of the bytes
whole_append : (first later : List Answered) (bytes : Bytes) → whole_in (first ++ later) (text_of first ++ bytes) ≡ length first + whole_in later bytes
whole_append [] later bytes = omega arith
whole_append (a ∷ first) later bytes = ap (whole_in (a ∷ (first ++ later))) (append_assoc a.text (text_of first) bytes) ∙ whole_behind a (first ++ later) (text_of first ++ bytes) ∙ omega (arith, whole_append first later bytes)

begins_front : (text bytes : Bytes) → begins_with text (text ++ bytes) ≡ true
begins_front text bytes = (bytes_eq-Decides (take (length text) (text ++ bytes)) text).1 (take-append_seam text bytes)

module _ (asked : RunAsked) (ctime : ℕ) (opened : Opening) (ahead : ℕ → Bool) (done rest : List Asked) (text : Bytes) (old mid : State)
    (said : mid.now.said ≡ old.now.said ++ answers_of asked old.count ctime opened done) (there : Contains closing_lines text) where
  abbrev course : Course
  course = course_of asked old.count ctime opened (done ++ rest) ahead

  abbrev opening : List Answered
  opening = opening_of asked ctime opened

  abbrev done_commands : List Answered
  done_commands = commands_of old.count (first_of asked opened) done

  abbrev later : List Answered
  later = commands_of old.count (after_asked old.count (first_of asked opened) done) rest

  split : commands course ≡ (opening ++ done_commands) ++ later
  split = ap (λ cs. opening ++ cs) (commands_append old.count (first_of asked opened) done rest) ∙ sym (append_assoc opening done_commands later)

  -- as many are whole behind the answers, whatever front of the last line follows
  whole_so : (bytes : Bytes) → whole_in later bytes ≡ 0 → whole_in (commands course) (text_of (opening ++ done_commands) ++ bytes) ≡ length (opening ++ done_commands)
  whole_so bytes none = ap (λ cs. whole_in cs (text_of (opening ++ done_commands) ++ bytes)) split ∙ whole_append (opening ++ done_commands) later bytes ∙ omega (arith, none)

  started_so : (bytes : Bytes) → begins_with (text_of opening) (text_of (opening ++ done_commands) ++ bytes) ≡ true
  started_so bytes = ap (begins_with (text_of opening)) (ap (λ t. t ++ bytes) (text_append opening done_commands) ∙ append_assoc (text_of opening) (text_of done_commands) bytes) ∙ begins_front (text_of opening) (text_of done_commands ++ bytes)

  pub closing_moment : (m : Moment) → m.dirs ≡ mid.now.dirs → (n : ℕ) → m.said ≡ mid.now.said ++ take n text → IsKeptInRun course old mid.now → IsKeptInRun course old m
  closing_moment m same n front =
      let now : said_since old mid.now ≡ text_of (opening ++ done_commands) ++ [] = since_said old mid.now (text_of (opening ++ done_commands)) said ∙ sym (append-nil (text_of (opening ++ done_commands))) in
      let here : said_since old m ≡ text_of (opening ++ done_commands) ++ take n text =
      since_said old m (text_of (opening ++ done_commands) ++ take n text) (front ∙ ap (λ x. x ++ take n text) said ∙ append_assoc old.now.said (text_of (opening ++ done_commands)) (take n text)) in
      let whole_now = ap (whole_in (commands course)) now ∙ whole_so [] (none_whole later (commands_have_text old.count (after_asked old.count (first_of asked opened) done) rest)) in
      let whole_here = ap (whole_in (commands course)) here ∙ whole_so (take n text) (closing_answers_none old.count (after_asked old.count (first_of asked opened) done) rest text n there) in
      let started_now = ap (begins_with (text_of opening)) now ∙ started_so [] in
      let started_here = ap (begins_with (text_of opening)) here ∙ started_so (take n text) in
      alike_kept course old mid.now m same (whole_here ∙ sym whole_now) (started_here ∙ sym started_now)

pub closed_is_kept : ClosedIsKept
closed_is_kept asked ctime opened ahead done rest text old mid new said there until says =
    throughout_trans until (throughout_weaker says (λ t m is. closing_moment asked ctime opened ahead done rest text old mid said there m is.0 is.1 is.2 (until.ends tt)))

-- ---- a run that has not started

module _ (asked : RunAsked) (ctime : ℕ) (opened : Opening) (ahead : ℕ → Bool) (seen : List Asked) (text : Bytes) (old mid : State) (said : mid.now.said ≡ old.now.said) (early : IsEarlyLine text) where
  pub early_moment : (m : Moment) → m.dirs ≡ mid.now.dirs → (n : ℕ) → m.said ≡ mid.now.said ++ take n text → IsKeptInRun (course_of asked old.count ctime opened seen ahead) old mid.now → IsKeptInRun (course_of asked old.count ctime opened seen ahead) old m
  early_moment m same n front =
      let script = commands_of old.count (first_of asked opened) seen in
      let now : said_since old mid.now ≡ take 0 text = since_said old mid.now [] (said ∙ sym (append-nil old.now.said)) in
      let here : said_since old m ≡ take n text = since_said old m (take n text) (front ∙ ap (λ x. x ++ take n text) said) in
      let opening = opening_of asked ctime opened in
      let whole = ap (whole_in (opening ++ script)) here ∙ early_answers_none asked ctime opened script text n early ∙ sym (ap (whole_in (opening ++ script)) now ∙ early_answers_none asked ctime opened script text 0 early) in
      let started = ap (begins_with (text_of opening)) here ∙ early_not_started asked ctime opened text n early ∙ sym (ap (begins_with (text_of opening)) now ∙ early_not_started asked ctime opened text 0 early) in
      alike_kept (course_of asked old.count ctime opened seen ahead) old mid.now m same whole started

pub early_is_kept : EarlyIsKept
early_is_kept asked ctime opened ahead seen text old mid new said early until says =
    throughout_trans until (throughout_weaker says (λ t m is. early_moment asked ctime opened ahead seen text old mid said early m is.0 is.1 is.2 (until.ends tt)))
