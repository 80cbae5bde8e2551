-- The window of a run whose commands are answered together.
use Rattle.std.proofs.Common.{◌≡◌, ℕ, suc, zero, ◌+◌, ◌≤◌, Bool, true, false, if◌then◌else◌, List, [], ◌∷◌, ◌++◌, length, take, drop, map, refl, sym, ◌∙◌, ap, subst, arith, append_assoc}
use Rattle.std.specs.Prelude.{All, Contains, None}
use Rattle.std.proofs.Math.Seq.{take-append_seam}
use Rattle.std.proofs.lemmas.List.{length-append, length-drop, length-map, take_all}
use Rattle.std.proofs.lemmas.List.Elements.{All-append, All-cons, All-nil, All-head, All-tail, Contains-append_left, Contains-append_right}
use Rattle.std.proofs.lemmas.Slice.Eq.{bytes_eq-Decides}
use Rattle.nn_base.specs.Paths.{Bytes}
use Rattle.nn_host.specs.Moments.{Moment, State, faults_at}
use Rattle.nn_pick.specs.Opening.{Book, Opening}
use Rattle.nn_kept.specs.Laws.{IsPartOf}
use Rattle.nn_run.specs.Running.{Asked}
use Rattle.nn_run.specs.Running.{base_by}
use Rattle.nn_run.specs.Window.{Answered, text_of, begins_with, whole_in, books, window, last_book, said_since, base_behind, base_at}
use Rattle.nn_run.specs.Course.{RunAsked, Course, begun_book, commands, opening_of, course_of}
use Rattle.nn_run.proofs.BetweenLemmas.{is_first}
use Rattle.nn_run.proofs.WindowLemmas.{nil_of, not_whole, whole_behind, window_behind}
use Rattle.nn_whole.proofs.OpenedLemmas.{upgrading, says_upgraded, says_started}
use Rattle.nn_fill.specs.Tally.{silent, together, tally_of, commands_by, tallied_course}

-- ---- the same Books

silent_books : (commands : List Answered) → map (λ a. a.book) (silent commands) ≡ map (λ a. a.book) commands
silent_books [] = refl
silent_books (a ∷ later) = ap (λ bs. a.book ∷ bs) (silent_books later)

together_books : (text : Bytes) (commands : List Answered) → map (λ a. a.book) (together text commands) ≡ map (λ a. a.book) commands
together_books text [] = refl
together_books text (a ∷ later) = ap (λ bs. a.book ∷ bs) (silent_books later)

pub same_books : (text : Bytes) (commands : List Answered) (book : Book) → books book (together text commands) ≡ books book commands
same_books text commands book = ap (λ bs. book ∷ bs) (together_books text commands)

silent_length : (commands : List Answered) → length (silent commands) ≡ length commands
silent_length [] = refl
silent_length (a ∷ later) = omega (arith, silent_length later)

pub together_length : (text : Bytes) (commands : List Answered) → length (together text commands) ≡ length commands
together_length text [] = refl
together_length text (a ∷ later) = omega (arith, silent_length later)

-- ---- how many count as answered

-- none before the text was said
pub none_told : (text : Bytes) (commands : List Answered) (bytes : Bytes) → begins_with text bytes ≡ false → whole_in (together text commands) bytes ≡ 0
none_told text [] bytes e = refl
none_told text (a ∷ later) bytes e = not_whole (record { text = text; book = a.book; back = None }) (silent later) bytes e

silent_whole : (commands : List Answered) (bytes : Bytes) → whole_in (silent commands) bytes ≡ length commands
silent_whole [] bytes = refl
silent_whole (a ∷ later) bytes = whole_behind (record { text = []; book = a.book; back = None }) (silent later) bytes ∙ ap suc (silent_whole later bytes)

-- and all from then on
pub all_told : (text : Bytes) (commands : List Answered) (bytes : Bytes) → whole_in (together text commands) (text ++ bytes) ≡ length commands
all_told text [] bytes = refl
all_told text (a ∷ later) bytes = whole_behind (record { text = text; book = a.book; back = None }) (silent later) bytes ∙ ap suc (silent_whole later bytes)

-- never more than there are
most_whole : (commands : List Answered) (bytes : Bytes) → whole_in commands bytes ≤ length commands
most_whole [] bytes = omega arith
most_whole (a ∷ later) bytes = by (begins_with a.text bytes) (whole_in later (drop (length a.text) bytes)) (most_whole later (drop (length a.text) bytes))
  where
    by : (b : Bool) (k : ℕ) → k ≤ length later → (if b then suc k else 0) ≤ suc (length later)
    by true k few = omega (arith, few)
    by false k few = omega arith

-- behind the texts of some commands so many are whole, and of the others those that are among the rest of the bytes
pub whole_append : (first later : List Answered) (bytes : Bytes) → whole_in (first ++ later) (text_of first ++ bytes) ≡ length first + whole_in later bytes
whole_append [] later bytes = omega arith
whole_append (a ∷ first) later bytes = ap (whole_in (a ∷ (first ++ later))) (append_assoc a.text (text_of first) bytes) ∙ whole_behind a (first ++ later) (text_of first ++ bytes) ∙ omega (arith, whole_append first later bytes)

pub begins_front : (text bytes : Bytes) → begins_with text (text ++ bytes) ≡ true
begins_front text bytes = (bytes_eq-Decides (take (length text) (text ++ bytes)) text).1 (take-append_seam text bytes)

-- as long as no more than the first ones' texts was said, those behind them don't matter
pub whole_same : (first later : List Answered) (bytes : Bytes) → length bytes ≤ length (text_of first) → whole_in later [] ≡ 0 → whole_in (first ++ later) bytes ≡ whole_in (first ++ []) bytes
whole_same [] later bytes few none = ap (whole_in later) (nil_of bytes (omega (arith, few))) ∙ none
whole_same (a ∷ first) later bytes few none =
    ap (λ k. if begins_with a.text bytes then suc k else 0)
    (whole_same first later (drop (length a.text) bytes) (omega (arith, few, length-append a.text (text_of first), length-drop (length a.text) bytes)) none)

-- ---- none of them takes a directory back

abbrev pub TakesNone : Answered → Type 0
TakesNone a = a.back ≡ None

silent_takes_none : (commands : List Answered) → All TakesNone (silent commands)
silent_takes_none [] = All-nil TakesNone
silent_takes_none (a ∷ later) = All-cons TakesNone (record { text = []; book = a.book; back = None }) (silent later) refl (silent_takes_none later)

together_takes_none : (text : Bytes) (commands : List Answered) → All TakesNone (together text commands)
together_takes_none text [] = All-nil TakesNone
together_takes_none text (a ∷ later) = All-cons TakesNone (record { text = text; book = a.book; back = None }) (silent later) refl (silent_takes_none later)

same_base : (base : ℕ → ℕ) (commands : List Answered) (k i : ℕ) → All TakesNone commands → base_behind base (take k commands) i ≡ base i
same_base base commands zero i all = refl
same_base base [] (suc k) i all = refl
same_base base (a ∷ later) (suc k) i all =
    ap (λ back. base_behind (λ j. base_by base back j) (take k later) i) (All-head TakesNone a later all) ∙ same_base base later k i (All-tail TakesNone a later all)

opening_takes_none : (asked : RunAsked) (ctime : ℕ) (opened : Opening) → All TakesNone (opening_of asked ctime opened)
opening_takes_none asked ctime opened = by_upgrade asked.upgrade
  where
    started_takes : (book : Book) → All TakesNone (says_started opened book ∷ [])
    started_takes book = All-cons TakesNone (says_started opened book) [] refl (All-nil TakesNone)

    by_upgrade : (upgrade : Bool) → All TakesNone (opening_of (upgrading asked upgrade) ctime opened)
    by_upgrade true =
        let book = begun_book (upgrading asked true) opened.book in
        All-cons TakesNone (says_upgraded asked ctime book) (says_started opened book ∷ []) refl (started_takes book)
    by_upgrade false = started_takes opened.book

-- so directories are of the run by their counts at entry
pub entry_base : (asked : RunAsked) (count ctime : ℕ) (opened : Opening) (lines : List Asked) (ahead : ℕ → Bool) (old : State) (m : Moment) (i : ℕ) → base_at (commands (tallied_course asked count ctime opened lines ahead)) old m i ≡ faults_at old i
entry_base asked count ctime opened lines ahead old m i =
    let course = tallied_course asked count ctime opened lines ahead in
    same_base (λ j. faults_at old j) (commands course) (whole_in (commands course) (said_since old m)) i
    (All-append TakesNone course.opening course.script (opening_takes_none asked ctime opened) (together_takes_none (tally_of (commands_by asked count opened lines)) (commands_by asked count opened lines)))

-- and so they are while no command was answered
pub bare_base : (asked : RunAsked) (count ctime : ℕ) (opened : Opening) (ahead : ℕ → Bool) (old : State) (m : Moment) (i : ℕ) → base_at (commands (course_of asked count ctime opened [] ahead)) old m i ≡ faults_at old i
bare_base asked count ctime opened ahead old m i =
    let course = course_of asked count ctime opened [] ahead in
    same_base (λ j. faults_at old j) (commands course) (whole_in (commands course) (said_since old m)) i (All-append TakesNone course.opening [] (opening_takes_none asked ctime opened) (All-nil TakesNone))

-- ---- which Books are in the window

pub drop_more : {A : Type 0} (xs ys : List A) (j : ℕ) (x : A) → Contains (drop j xs) x → Contains (drop j (xs ++ ys)) x
drop_more xs ys zero x there = Contains-append_left xs ys x there
drop_more [] ys (suc j) x (k, below, is) = absurd (omega (arith, below))
drop_more (y ∷ xs) ys (suc j) x there = drop_more xs ys j x there

pub taken_there : {A : Type 0} (n : ℕ) (xs : List A) (x : A) → Contains (take n xs) x → Contains xs x
taken_there zero xs x (k, below, is) = absurd (omega (arith, below))
taken_there (suc n) [] x there = there
taken_there (suc n) (y ∷ xs) x (zero, below, is) = (zero, omega arith, is)
taken_there (suc n) (y ∷ xs) x (suc k, below, is) = Contains-append_right (y ∷ []) xs x (taken_there n xs x (k, omega (arith, below), is))

-- the last Book is behind any front of the others
last_dropped : (book : Book) (commands : List Answered) (j : ℕ) → j ≤ length commands → Contains (drop j (books book commands)) (last_book book commands)
last_dropped book [] zero few = is_first book []
last_dropped book [] (suc j) few = absurd (omega (arith, few))
last_dropped book (a ∷ later) zero few = Contains-append_right (book ∷ []) (books a.book later) (last_book a.book later) (last_dropped a.book later 0 (omega arith))
last_dropped book (a ∷ later) (suc j) few = last_dropped a.book later j (omega (arith, few))

opening_last : (asked : RunAsked) (ctime : ℕ) (opened : Opening) → last_book opened.book (opening_of asked ctime opened) ≡ begun_book asked opened.book
opening_last asked ctime opened = by_upgrade asked.upgrade
  where
    by_upgrade : (upgrade : Bool) → last_book opened.book (opening_of (upgrading asked upgrade) ctime opened) ≡ begun_book (upgrading asked upgrade) opened.book
    by_upgrade true = refl
    by_upgrade false = refl

module _ (asked : RunAsked) (count ctime : ℕ) (opened : Opening) (lines : List Asked) (ahead : ℕ → Bool) where
  abbrev course : Course
  course = tallied_course asked count ctime opened lines ahead

  abbrev cmds : List Answered
  cmds = commands_by asked count opened lines

  abbrev opening : List Answered
  opening = opening_of asked ctime opened

  -- a whole list is as long as the window may be
  pub all_in : (xs : List Book) (x : Book) → length xs ≤ suc course.batch → Contains xs x → Contains (take (suc course.batch) xs) x
  all_in xs x few there = subst (λ l. Contains l x) (sym (take_all (suc course.batch) xs few)) there

  pub books_length : (first : List Answered) (book : Book) → length (books book (first ++ course.script)) ≡ suc (length first + length cmds)
  books_length first book =
      omega (arith, length-map (first ++ course.script) (λ (a : Answered). a.book), length-append first course.script, together_length (tally_of cmds) cmds)

  module _ (bytes : Bytes) where
    -- behind the opening
    behind_opening : window course.batch opened.book (opening ++ course.script) (text_of opening ++ bytes) ≡ window course.batch (begun_book asked opened.book) course.script bytes
    behind_opening = window_behind course.batch opened.book opening course.script bytes ∙ ap (λ b. window course.batch b course.script bytes) (opening_last asked ctime opened)

    -- all Books, as long as the tally wasn't said
    pub all_there : whole_in course.script bytes ≡ 0 → IsPartOf (books (begun_book asked opened.book) cmds) (window course.batch opened.book (opening ++ course.script) (text_of opening ++ bytes))
    all_there none b there =
        let begun = begun_book asked opened.book in
        subst (λ w. Contains w b) (sym behind_opening)
        (subst (λ j. Contains (take (suc course.batch) (drop j (books begun course.script))) b) (sym none)
        (all_in (books begun course.script) b (omega (arith, books_length [] begun)) (subst (λ bs. Contains bs b) (sym (same_books (tally_of cmds) cmds begun)) there)))

    -- and the last one ever
    pub last_there : Contains (window course.batch opened.book (opening ++ course.script) (text_of opening ++ bytes)) (last_book (begun_book asked opened.book) cmds)
    last_there =
        let begun = begun_book asked opened.book in
        let j = whole_in course.script bytes in
        let few : j ≤ length cmds = omega (arith, most_whole course.script bytes, together_length (tally_of cmds) cmds) in
        let there = subst (λ bs. Contains (drop j bs) (last_book begun cmds)) (sym (same_books (tally_of cmds) cmds begun)) (last_dropped begun cmds j few) in
        subst (λ w. Contains w (last_book begun cmds)) (sym behind_opening)
        (all_in (drop j (books begun course.script)) (last_book begun cmds) (omega (arith, length-drop j (books begun course.script), books_length [] begun)) there)
