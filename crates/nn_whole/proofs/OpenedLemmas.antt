-- How a run begins: the opening is kept while it is said.
use Rattle.std.proofs.Common.{◌≡◌, ◌≢◌, inl, inr, ℕ, suc, zero, ◌+◌, ◌-◌, ◌<◌, ◌≤◌, max, Bool, true, false, ◌&&◌, ◌||◌, None, List, [], ◌∷◌, ◌++◌, length, take, drop, map, refl, sym, ◌∙◌, ap, subst, arith}
use Rattle.std.specs.Prelude.{All, Contains, is_none}
use Rattle.std.proofs.Math.Seq.{drop-append_seam, take-append-add}
use Rattle.std.proofs.lemmas.List.{length-take, append-nil}
use Rattle.std.proofs.lemmas.List.Elements.{All-cons, All-nil, All-head, All-tail, Contains-append_left, Contains-append_right}
use Rattle.std.proofs.lemmas.Bool.{cases_Bool, and_parts, and_from}
use Rattle.std.proofs.lemmas.Slice.Eq.{bytes_eq-Decides}
use Rattle.nn_base.specs.Paths.{Bytes}
use Rattle.nn_host.specs.Moments.{Moment, State}
use Rattle.nn_host.proofs.RunsLemmas.{throughout_trans, throughout_weaker}
use Rattle.nn_marks.specs.declared.version.Version.{Version}
use Rattle.nn_tree.specs.Namespace.{Namespace}
use Rattle.nn_pick.specs.Opening.{Book, Opening}
use Rattle.nn_kept.specs.Laws.{IsPartOf}
use Rattle.nn_run.specs.Running.{Asked}
use Rattle.nn_run.specs.Window.{Answered, text_of, begins_with, books, window, said_since}
use Rattle.nn_run.specs.Course.{RunAsked, Course, begun_book, first_of, opening_of, started_line, upgraded_line, course_of, run_window, run_at, held_at, IsKeptInRun}
use Rattle.nn_run.specs.Steps.{BetweenLines}
use Rattle.nn_run.proofs.BetweenLemmas.{is_first, between_is_kept}
use Rattle.nn_run.proofs.LineLemmas.{commands_have_text}
use Rattle.nn_run.proofs.OpeningLemmas.{opening_is_of_run}
use Rattle.nn_run.proofs.StepLemmas.{fewer_kept}
use Rattle.nn_run.proofs.SyncLemmas.{between_same}
use Rattle.nn_run.proofs.WindowLemmas.{nil_of, not_whole, entry_in_window, window_behind}
use Rattle.nn_whole.specs.Opened.{SharedAtFirst, StartIsOfRun, OpeningIsSaid}

-- ---- what is shared

pub shared_at_first : SharedAtFirst
shared_at_first dirs intent sound =
    let first = sound.opens.first in record {
      ids = (first.dir, first.folder, first.chosen.ahead.below, first.chosen.ahead.under);
      floor = refl;
      lead = refl;
      ns = refl;
      saved = refl;
      there = is_first sound.opened.book [];
    }

-- ---- what an opening is

-- it has a first command; each of them has a text and the same Book
pub record IsOpening (opening : List Answered) (book : Book) : Type 0 where
  pub first : Answered
  pub others : List Answered
  pub are : opening ≡ first ∷ others
  pub texts : All (λ a. a.text ≢ []) (first ∷ others)
  pub books : All (λ a. a.book ≡ book) (first ∷ others)

abbrev pub upgrading : RunAsked → Bool → RunAsked
upgrading asked upgrade = record { upgrade = upgrade; at = asked.at; batch = asked.batch }

abbrev pub says_upgraded : RunAsked → ℕ → Book → Answered
says_upgraded asked ctime book = record { text = upgraded_line (max asked.at (ctime + 1)); book = book; back = None }

abbrev pub says_started : Opening → Book → Answered
says_started opened book = record { text = started_line opened.last; book = book; back = None }

abbrev pub HasText : Answered → Type 0
HasText a = a.text ≢ []

abbrev pub HasBook : Book → Answered → Type 0
HasBook book a = a.book ≡ book

started_text : (opened : Opening) (book : Book) → All HasText (says_started opened book ∷ [])
started_text opened book = All-cons HasText (says_started opened book) [] (λ e. absurd (omega (arith, ap length e))) (All-nil HasText)

started_book : (opened : Opening) (book : Book) → All (HasBook book) (says_started opened book ∷ [])
started_book opened book = All-cons (HasBook book) (says_started opened book) [] refl (All-nil (HasBook book))

opening_by : (asked : RunAsked) (ctime : ℕ) (opened : Opening) (upgrade : Bool) → IsOpening (opening_of (upgrading asked upgrade) ctime opened) (begun_book (upgrading asked upgrade) opened.book)
opening_by asked ctime opened true =
    let book = begun_book (upgrading asked true) opened.book in record {
      first = says_upgraded asked ctime book;
      others = says_started opened book ∷ [];
      are = refl;
      texts = All-cons HasText (says_upgraded asked ctime book) (says_started opened book ∷ []) (λ e. absurd (omega (arith, ap length e))) (started_text opened book);
      books = All-cons (HasBook book) (says_upgraded asked ctime book) (says_started opened book ∷ []) refl (started_book opened book);
    }
opening_by asked ctime opened false = record { first = says_started opened opened.book; others = []; are = refl; texts = started_text opened opened.book; books = started_book opened opened.book }

pub is_opening : (asked : RunAsked) (ctime : ℕ) (opened : Opening) → IsOpening (opening_of asked ctime opened) (begun_book asked opened.book)
is_opening asked ctime opened = opening_by asked ctime opened asked.upgrade

-- ---- the Book begun is in the window while the opening is said

pub begins_take : (text bytes : Bytes) → begins_with text bytes ≡ true → take (length text) bytes ≡ text
begins_take text bytes e = (bytes_eq-Decides (take (length text) bytes) text).0 e

-- a front that begins with the first text is that text and a front of the others
front_past : (text more : Bytes) (n : ℕ) → begins_with text (take n (text ++ more)) ≡ true → take n (text ++ more) ≡ text ++ take (n - length text) more
front_past text more n e =
    let short : length text ≤ n = omega (arith, ap length (begins_take text (take n (text ++ more)) e), length-take (length text) (take n (text ++ more)), length-take n (text ++ more)) in
    let sum : n ≡ length text + (n - length text) = omega (arith, short) in
    ap (λ k. take k (text ++ more)) sum ∙ take-append-add text more (n - length text)

-- what holds behind the first of them holds of all
begun_by : (k : ℕ) (entry book : Book) (a : Answered) (rest later : List Answered) (n : ℕ) → a.book ≡ book → ((m : ℕ) → IsPartOf (book ∷ []) (window (suc k) a.book (rest ++ later) (take m (text_of rest))))
    → IsPartOf (book ∷ []) (window (suc k) entry ((a ∷ rest) ++ later) (take n (text_of (a ∷ rest))))
begun_by k entry book a rest later n level behind b there = elim (cases_Bool (begins_with a.text (take n (text_of (a ∷ rest))))) [
  | inl whole ↦
      let bytes : take n (text_of (a ∷ rest)) ≡ text_of (a ∷ []) ++ take (n - length a.text) (text_of rest) = front_past a.text (text_of rest) n whole ∙ ap (λ x. x ++ take (n - length a.text) (text_of rest)) (sym (append-nil a.text)) in
      let moved = window_behind (suc k) entry (a ∷ []) (rest ++ later) (take (n - length a.text) (text_of rest)) in
      subst (λ x. Contains (window (suc k) entry (a ∷ (rest ++ later)) x) b) (sym bytes) (subst (λ w. Contains w b) (sym moved) (behind (n - length a.text) b there))
  | inr part ↦
      let one : Contains (a.book ∷ []) b = subst (λ x. Contains (x ∷ []) b) (sym level) there in
      let two : Contains (a.book ∷ take k (map (λ x. x.book) (rest ++ later))) b = Contains-append_left (a.book ∷ []) (take k (map (λ x. x.book) (rest ++ later))) b one in
      subst (λ j. Contains (take (suc (suc k)) (drop j (books entry (a ∷ (rest ++ later))))) b) (sym (not_whole a (rest ++ later) (take n (text_of (a ∷ rest))) part))
      (Contains-append_right (entry ∷ []) (a.book ∷ take k (map (λ x. x.book) (rest ++ later))) b two)
]

begun_in_window : (batch : ℕ) (entry book : Book) (a : Answered) (rest later : List Answered) (n : ℕ) → 1 ≤ batch → All (HasBook book) (a ∷ rest) → All HasText later
    → IsPartOf (book ∷ []) (window batch entry ((a ∷ rest) ++ later) (take n (text_of (a ∷ rest))))
begun_in_window zero entry book a rest later n least same texts = absurd (omega (arith, least))
begun_in_window (suc k) entry book a [] later n least same texts =
    let level = All-head (HasBook book) a [] same in
    begun_by k entry book a [] later n level (λ m b there.
    let none : take m (text_of []) ≡ [] = nil_of (take m (text_of [])) (omega (arith, length-take m (text_of []))) in
    subst (λ x. Contains (window (suc k) a.book later x) b) (sym none) (entry_in_window (suc k) a.book later texts b (subst (λ x. Contains (x ∷ []) b) (sym level) there)))
begun_in_window (suc k) entry book a (x ∷ xs) later n least same texts =
    begun_by k entry book a (x ∷ xs) later n (All-head (HasBook book) a (x ∷ xs) same) (λ m. begun_in_window (suc k) a.book book x xs later m least (All-tail (HasBook book) a (x ∷ xs) same) texts)

-- ---- the start

pub start_is_of_run : StartIsOfRun
start_is_of_run asked ctime opened ahead rest old s least silent through later lines =
    let is = is_opening asked ctime opened in
    let some = All-head (λ a. a.text ≢ []) is.first is.others is.texts in
    let texts : All (λ a. a.text ≢ []) (opening_of asked ctime opened) = subst (All (λ a. a.text ≢ [])) (sym is.are) is.texts in
    opening_is_of_run (course_of asked old.count ctime opened later ahead) is.first is.others old s is.are some least silent (throughout_weaker through (λ t m either. elim either [
      | inl entry ↦ inl entry
      | inr kept ↦ inr (kept.0, (λ b there. entry_in_window 1 opened.book (opening_of asked ctime opened) texts b (kept.1 b there)), kept.2)
    ]))

-- ---- the opening is said

module _ (asked : RunAsked) (ctime : ℕ) (opened : Opening) (ahead live holders : ℕ → Bool) (version : Version) (list : ℕ → Namespace) (last : ℕ) (old s : State)
    (least : 1 ≤ asked.batch) (quiet : s.now.said ≡ old.now.said) (between : BetweenLines version list old.count live holders (begun_book asked opened.book) last s.now) (all_live : (i : ℕ) → i < old.count → live i ≡ true)
    (held : (i : ℕ) → i < old.count → ahead i ≡ true → (is_none (begun_book asked opened.book).saved || holders i) ≡ true) (lines : List Asked) where
  abbrev course : Course
  course = course_of asked old.count ctime opened lines ahead

  abbrev opening : List Answered
  opening = opening_of asked ctime opened

  in_window : (n : ℕ) → IsPartOf (begun_book asked opened.book ∷ []) (window asked.batch opened.book (opening ++ course.script) (take n (text_of opening)))
  in_window n b there =
      let is = is_opening asked ctime opened in
      let texts = commands_have_text old.count (first_of asked opened) lines in
      subst (λ o. Contains (window asked.batch opened.book (o ++ course.script) (take n (text_of o))) b) (sym is.are)
      (begun_in_window asked.batch opened.book (begun_book asked opened.book) is.first is.others course.script n least is.books texts b there)

  module _ (m : Moment) (same : m.dirs ≡ s.now.dirs) (n : ℕ) (front : m.said ≡ s.now.said ++ take n (text_of opening)) where
    here : BetweenLines version list old.count live holders (begun_book asked opened.book) last m
    here = between_same s.now m same between

    since : said_since old m ≡ take n (text_of opening)
    since = ap (drop (length old.now.said)) (front ∙ ap (λ x. x ++ take n (text_of opening)) quiet) ∙ drop-append_seam old.now.said (take n (text_of opening))

    part : IsPartOf here.shared.window (run_window course old m)
    part b there = subst (λ x. Contains (window asked.batch opened.book (opening ++ course.script) x) b) (sym since) (in_window n b (subst (λ w. Contains w b) here.window there))

    held_is : (i : ℕ) → i < old.count → held_at course old m i (m.dirs i) ≡ true → ((is_none (begun_book asked opened.book).saved || holders i) && live i) ≡ true
    held_is i below e = and_from _ _ (held i below (and_parts (ahead i) _ e).0) (all_live i below)

    kept : IsKeptInRun course old m
    kept = inr (
      here.shared,
      part,
      fewer_kept here.shared old.count (λ i d. live i) (λ i d. (is_none (begun_book asked opened.book).saved || holders i) && live i) (run_at course old m) (held_at course old m) m
          (between_is_kept version list old.count live holders (begun_book asked opened.book) last m here) (λ i below e. all_live i below) held_is,
    )

pub opening_is_said : OpeningIsSaid
opening_is_said asked ctime opened ahead live holders version list last rest old s new least until quiet between all_live held says = (
  λ later lines. throughout_trans (until later lines) (throughout_weaker says (λ t m is. kept asked ctime opened ahead live holders version list last old s least quiet between all_live held later m is.0 is.1 is.2)),
  between_same s.now new.now (says.ends tt).0 between,
)
