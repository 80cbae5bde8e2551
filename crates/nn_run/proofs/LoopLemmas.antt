-- A run goes on by one line more.
use Rattle.std.proofs.Common.{◌≡◌, ℕ, Bool, true, false, List, [], ◌∷◌, ◌++◌, refl, sym, ◌∙◌, ap, subst, append_assoc, arith}
use Rattle.nn_host.specs.Moments.{State, faults_at}
use Rattle.nn_pick.specs.Opening.{Book, Opening}
use Rattle.nn_run.specs.Running.{Running, Asked, after_asked}
use Rattle.nn_run.specs.Window.{Answered, commands_of, base_behind, base_since, last_book}
use Rattle.nn_run.specs.Course.{RunAsked, opening_of, begun_book, first_of, course_of, RunKept}
use Rattle.nn_run.specs.Loop.{GoesOnFrom, HasCome, NextIsKept}
use Rattle.nn_run.proofs.LineLemmas.{commands_append, last_is_reached, commands_have_text}
use Rattle.nn_run.proofs.BaseLemmas.{base_append, base_is_behind, opening_base}
use Rattle.nn_run.proofs.StepLemmas.{step_goes_on}

last_append : (book : Book) (first later : List Answered) → last_book book (first ++ later) ≡ last_book (last_book book first) later
last_append book [] later = refl
last_append book (a ∷ first) later = last_append a.book first later

-- the opening comes to the Book behind an upgrade, if one is asked for
opening_last : (wanted : RunAsked) (ctime : ℕ) (opened : Opening) → last_book opened.book (opening_of wanted ctime opened) ≡ begun_book wanted opened.book
opening_last wanted ctime opened = by_upgrade wanted.upgrade
  where
    by_upgrade : (upgrade : Bool) → last_book opened.book (opening_of (record wanted { upgrade = upgrade }) ctime opened) ≡ begun_book (record wanted { upgrade = upgrade }) opened.book
    by_upgrade true = refl
    by_upgrade false = refl

-- the counts behind the opening and the commands of lines are those behind the lines
pub come_base : (wanted : RunAsked) (ctime : ℕ) (opened : Opening) (done : List Asked) (old : State) (i : ℕ)
    → base_behind (λ j. faults_at old j) (opening_of wanted ctime opened ++ commands_of old.count (first_of wanted opened) done) i ≡ base_since old done i
come_base wanted ctime opened done old i =
    base_append (λ j. faults_at old j) (opening_of wanted ctime opened) (commands_of old.count (first_of wanted opened) done) i
    ∙ ap (λ b. base_behind b (commands_of old.count (first_of wanted opened) done) i) (λ k j. opening_base (λ n. faults_at old n) wanted ctime opened j k)
    ∙ base_is_behind old.count (λ j. faults_at old j) (first_of wanted opened) done i

module _ (wanted : RunAsked) (ctime : ℕ) (opened : Opening) (ahead live holders : ℕ → Bool) (done : List Asked) (asked : Asked) (old s : State) (come : HasCome wanted ctime opened ahead live holders done old s) (later : List Asked) where
  abbrev first : Running
  first = first_of wanted opened

  abbrev run : Running
  run = after_asked old.count first done

  abbrev opening : List Answered
  opening = opening_of wanted ctime opened

  abbrev behind : Running
  behind = after_asked old.count run (asked ∷ [])

  split : opening ++ commands_of old.count first (done ++ asked ∷ later) ≡ (opening ++ commands_of old.count first done) ++ (commands_of old.count run (asked ∷ []) ++ commands_of old.count behind later)
  split =
      let one = commands_append old.count first done (asked ∷ later) in
      let two = commands_append old.count run (asked ∷ []) later in
      ap (λ l. opening ++ l) (one ∙ ap (λ l. commands_of old.count first done ++ l) two) ∙ sym (append_assoc opening (commands_of old.count first done) _)

  goes_on : GoesOnFrom (course_of wanted old.count ctime opened (done ++ asked ∷ later) ahead) run live holders (opening ++ commands_of old.count first done) (commands_of old.count behind later) asked old s
  goes_on = record {
    batch = come.batch;
    commands_are = split;
    texts = commands_have_text old.count behind later;
    book = last_is_reached old.count first done ∙ ap (λ b. last_book b (commands_of old.count first done)) (sym (opening_last wanted ctime opened)) ∙ sym (last_append opened.book opening (commands_of old.count first done));
    said = come.said;
    based = λ i. let same = come_base wanted ctime opened done old i in (omega (arith, same, (come.based i).0), omega (arith, same, (come.based i).1));
    alive = λ i below room few. let same = come_base wanted ctime opened done old i in come.alive i below (omega (arith, same, room)) (omega (arith, same, few));
    held = come.held;
  }

pub next_is_kept : NextIsKept
next_is_kept wanted ctime opened ahead live holders done asked rest old s new come until step later lines =
    let before = until (asked ∷ later) (ap (λ l. asked.line ∷ l) lines) in
    let after = step_goes_on (course_of wanted old.count ctime opened (done ++ asked ∷ later) ahead) _ live holders _ _ asked old s new (goes_on wanted ctime opened ahead live holders done asked old s come later) before step in
    subst (λ l. RunKept (Unit {0}) (course_of wanted old.count ctime opened l ahead) old new) (sym (append_assoc done (asked ∷ []) later)) after
