-- How answered lines add up: what was said, who is live, and what was seen.
use Rattle.std.proofs.Common.{◌≡◌, ◌⊎◌, inl, inr, ℕ, ◌+◌, ◌-◌, ◌<◌, ◌≤◌, ◌^◌, Bool, true, false, if◌then◌else◌, List, [], ◌∷◌, ◌++◌, length, take, drop, Some, None, refl, sym, ◌∙◌, ap, subst, arith, append_assoc}
use Rattle.std.proofs.Math.Seq.{drop-append_seam}
use Rattle.std.proofs.lemmas.List.{append-nil, length-append, length-take, length-drop}
use Rattle.std.proofs.lemmas.Grind.{flat_map-append}
use Rattle.nn_base.specs.Paths.{Bytes}
use Rattle.nn_host.specs.Moments.{Dir, Moment, State, faults_at}
use Rattle.nn_host.specs.Runs.{Throughout}
use Rattle.nn_host.proofs.RunsLemmas.{throughout_refl, throughout_both, throughout_trans, throughout_weaker}
use Rattle.nn_pick.specs.Opening.{Opening}
use Rattle.nn_script.specs.Lines.{has_no_answer}
use Rattle.nn_script.specs.Reading.{reading_of}
use Rattle.std.proofs.lemmas.Bool.{cases_Bool}
use Rattle.nn_run.specs.Running.{Running, Asked, SeesLive, SeeLive, reply_at, reply_read, after_asked, restored_dir, back_at, is_back}
use Rattle.nn_run.specs.Window.{Answered, commands_of, text_of, said_since, base_since}
use Rattle.nn_run.specs.Course.{RunAsked, first_of, opening_of, answers_of}
use Rattle.nn_run.specs.Steps.{HasAnswered}
use Rattle.nn_run.specs.Loop.{AreBased, AreAlive}
use Rattle.nn_run.proofs.LineLemmas.{read_none, commands_append}
use Rattle.nn_run.proofs.BaseLemmas.{base_next, base_stays, back_base, none_back}
use Rattle.nn_whole.specs.Served.{IsSeenAt, HasSaid, AreNarrowed, SaysLast, FirstIsSaid, NextIsSaid, SilentIsSaid}

-- ---- lists with one more

-- where a list and one more is split, the place is in the list or it is that one
pub last_split : {A : Type 0} (done : List A) (x : A) (before : List A) (y : A) (later : List A) → done ++ x ∷ [] ≡ before ++ y ∷ later
    → ((before ≡ done) × (y ≡ x)) ⊎ ((rest : List A) × (done ≡ before ++ y ∷ rest))
last_split [] x [] y later e = inl (refl, cc e)
last_split [] x (z ∷ []) y later e = absurd (omega (arith, ap length e))
last_split [] x (z ∷ w ∷ before) y later e = absurd (omega (arith, ap length e))
last_split (d ∷ done) x [] y later e = let same : y ≡ d = cc e in inr (done, ap (λ z. z ∷ done) (sym same))
last_split (d ∷ done) x (z ∷ before) y later e =
    let same : z ≡ d = cc e in
    let rest : done ++ x ∷ [] ≡ before ++ y ∷ later = cc e in
    elim (last_split done x before y later rest) [
      | inl it ↦ inl ((λ i. same i ∷ it.0 i), it.1)
      | inr it ↦ inr (it.0, λ i. sym same i ∷ it.1 i)
    ]

-- ---- texts

-- the texts of some commands and then others
pub text_append : (first later : List Answered) → text_of (first ++ later) ≡ text_of first ++ text_of later
text_append first later = flat_map-append (λ (a : Answered). a.text) first later

one_text : (count : ℕ) (run : Running) (asked : Asked) → text_of (commands_of count run (asked ∷ [])) ≡ (reply_at count run asked).text
one_text count run asked = by_answer (has_no_answer asked.line) refl
  where
    by_answer : (none : Bool) → has_no_answer asked.line ≡ none
        → text_of (if none then [] else record { text = (reply_at count run asked).text; book = (reply_at count run asked).after.book; back = back_at count asked } ∷ []) ≡ (reply_at count run asked).text
    by_answer true e = sym (ap (λ r. (reply_read count run asked.sight r).text) (read_none asked.line e))
    by_answer false e = append-nil (reply_at count run asked).text

module _ (asked : RunAsked) (count ctime : ℕ) (opened : Opening) where
  abbrev answers : List Asked → Bytes
  answers lines = answers_of asked count ctime opened lines

  abbrev run_at : List Asked → Running
  run_at lines = after_asked count (first_of asked opened) lines

  answers_append : (first later : List Asked) → answers (first ++ later) ≡ answers first ++ text_of (commands_of count (run_at first) later)
  answers_append first later =
      ap (λ cs. text_of (opening_of asked ctime opened ++ cs)) (commands_append count (first_of asked opened) first later)
      ∙ ap text_of (sym (append_assoc (opening_of asked ctime opened) (commands_of count (first_of asked opened) first) (commands_of count (run_at first) later)))
      ∙ text_append (opening_of asked ctime opened ++ commands_of count (first_of asked opened) first) (commands_of count (run_at first) later)

  pub answers_next : (done : List Asked) (next : Asked) → answers (done ++ next ∷ []) ≡ answers done ++ (reply_at count (run_at done) next).text
  answers_next done next = answers_append done (next ∷ []) ∙ ap (λ t. answers done ++ t) (one_text count (run_at done) next)

  -- more lines have no shorter answers
  pub answers_longer : (before : List Asked) (line : Asked) (rest : List Asked) → length (answers (before ++ line ∷ [])) ≤ length (answers (before ++ line ∷ rest))
  answers_longer before line rest =
      let joined : answers (before ++ line ∷ rest) ≡ answers ((before ++ line ∷ []) ++ rest) = ap answers (sym (append_assoc before (line ∷ []) rest)) in
      omega (arith, ap length (joined ∙ answers_append (before ++ line ∷ []) rest), length-append (answers (before ++ line ∷ [])) (text_of (commands_of count (run_at (before ++ line ∷ [])) rest)))

after_append : (count : ℕ) (run : Running) (done : List Asked) (next : Asked) → after_asked count run (done ++ next ∷ []) ≡ (reply_at count (after_asked count run done) next).after
after_append count run [] next = refl
after_append count run (line ∷ done) next = after_append count (reply_at count run line).after done next

-- ---- the opening

none_there : {A : Type 0} (before : List A) (y : A) (later : List A) → [] ≡ before ++ y ∷ later → ⊥
none_there before y later e = absurd (omega (arith, ap length e, length-append before (y ∷ later)))

pub since_said : (old : State) (m : Moment) (text : Bytes) → m.said ≡ old.now.said ++ text → said_since old m ≡ text
since_said old m text e = ap (drop (length old.now.said)) e ∙ drop-append_seam old.now.said text

nothing_since : (old : State) (m : Moment) → m.said ≡ old.now.said → length (said_since old m) ≡ 0
nothing_since old m e = omega (arith, length-drop (length old.now.said) m.said, ap length e)

pub first_is_said : FirstIsSaid
first_is_said asked ctime opened live old s new all_live same quiet says whole =
    let opening : text_of (opening_of asked ctime opened) ≡ answers_of asked old.count ctime opened [] = ap text_of (sym (append-nil (opening_of asked ctime opened))) in
    let moved : (i : ℕ) → faults_at new i ≡ faults_at old i = λ i. ap (λ (dirs : ℕ → Dir). (dirs i).faults) (says.ends tt).0 ∙ same i in
    let run : Throughout (Unit {0}) old new (λ m. (n : ℕ) × (m.said ≡ old.now.said ++ take n (text_of (opening_of asked ctime opened)))) = throughout_trans (throughout_weaker quiet.each (λ t m out. (0, out.said ∙ sym (append-nil old.now.said))))
    (throughout_weaker says (λ t m is. (is.1, is.2 ∙ ap (λ x. x ++ take is.1 (text_of (opening_of asked ctime opened))) quiet.now.said))) in record {
      said = whole ∙ ap (λ x. x ++ text_of (opening_of asked ctime opened)) quiet.now.said ∙ ap (λ t. old.now.said ++ t) opening;
      fronts = throughout_weaker run (λ t m is. omega (arith, ap length (since_said old m (take is.0 (text_of (opening_of asked ctime opened))) is.1), length-take is.0 (text_of (opening_of asked ctime opened)), ap length opening));
      based = λ i. (omega arith, omega (arith, moved i));
      counted = λ i below room e. moved i;
      alive = λ i below room e. all_live i below;
      seen = record {
        live = λ before line later e. absurd (none_there before line later e);
        at = throughout_weaker run (λ t m is before line later e low high i. absurd (none_there before line later e));
      };
    }

-- ---- one line more

module _ (asked : RunAsked) (ctime : ℕ) (opened : Opening) (live live_after : ℕ → Bool) (done : List Asked) (next : Asked) (after : Running) (old s new : State)
    (has : HasSaid asked ctime opened live done old s) (answered : HasAnswered (Unit {0}) old.count (after_asked old.count (first_of asked opened) done) after live live_after next s new)
    (says : SaysLast (reply_at old.count (after_asked old.count (first_of asked opened) done) next).text s new) (rise : (i : ℕ) → faults_at s i ≤ faults_at new i)
    (narrow : AreNarrowed old.count live live_after next s new) where
  abbrev all_of : List Asked → Bytes
  all_of lines = answers_of asked old.count ctime opened lines

  abbrev text : Bytes
  text = (reply_at old.count (after_asked old.count (first_of asked opened) done) next).text

  said_now : new.now.said ≡ old.now.said ++ all_of (done ++ next ∷ [])
  said_now = answered.said tt ∙ ap (λ x. x ++ text) has.said ∙ append_assoc old.now.said (all_of done) text ∙ ap (λ t. old.now.said ++ t) (sym (answers_next asked old.count ctime opened done next))

  long : length (all_of (done ++ next ∷ [])) ≡ length (all_of done) + length text
  long = ap length (answers_next asked old.count ctime opened done next) ∙ length-append (all_of done) text

  -- a moment of the step has the answers before it and a front of its own
  since_step : (m : Moment) (n : ℕ) → m.said ≡ s.now.said ++ take n text → length (said_since old m) ≡ length (all_of done) + length (take n text)
  since_step m n e =
      let whole : m.said ≡ old.now.said ++ (all_of done ++ take n text) = e ∙ ap (λ x. x ++ take n text) has.said ∙ append_assoc old.now.said (all_of done) (take n text) in
      ap length (since_said old m (all_of done ++ take n text) whole) ∙ length-append (all_of done) (take n text)

  since_done : (m : Moment) → m.said ≡ s.now.said → length (said_since old m) ≡ length (all_of done)
  since_done m e = ap length (since_said old m (all_of done) (e ∙ has.said))

  fronts_now : Throughout (Unit {0}) old new (λ m. length (said_since old m) ≤ length (all_of (done ++ next ∷ [])))
  fronts_now = throughout_trans (throughout_weaker has.fronts (λ t m short. omega (arith, short, long)))
      (throughout_weaker says (λ t m is. omega (arith, since_step m is.0.0 is.0.1, length-take is.0.0 text, long)))

  -- the count is moved for the directory that the line took back, to what was seen then, and for no other
  moves : (i : ℕ) → ((base_since old (done ++ next ∷ []) i ≡ base_since old done i) × (is_back (back_at old.count next) i ≡ false)) ⊎ ((base_since old (done ++ next ∷ []) i ≡ faults_at new i) × (is_back (back_at old.count next) i ≡ true))
  moves i = elim (cases_Bool (is_back (back_at old.count next) i)) [
    | inl back ↦ inr (base_next old done next i ∙ back_base old.count (λ j. base_since old done j) next i back ∙ answered.sees_faults i, back)
    | inr not ↦ inl (base_next old done next i ∙ base_stays (λ j. base_since old done j) (back_at old.count next) i not, not)
  ]

  based_now : AreBased old new (λ i. base_since old (done ++ next ∷ []) i)
  based_now i = elim (moves i) [
    | inl stays ↦ (omega (arith, stays.0, (has.based i).0), omega (arith, stays.0, (has.based i).1, rise i))
    | inr back ↦ (omega (arith, back.0, (has.based i).0, (has.based i).1, rise i), omega (arith, back.0))
  ]

  counted_now : (i : ℕ) → i < old.count → base_since old (done ++ next ∷ []) i < 2 ^ 64 - 1 → live_after i ≡ true → faults_at new i ≡ base_since old (done ++ next ∷ []) i
  counted_now i below room e = elim (moves i) [
    | inl stays ↦ elim (narrow i below e) [
      | inl was ↦ was.1 ∙ has.counted i below (omega (arith, stays.0, room)) was.0 ∙ sym stays.0
      | inr back ↦ absurd (cc (stays.1, back))
    ]
    | inr back ↦ sym back.0
  ]

  alive_now : AreAlive old.count live_after new (λ i. base_since old (done ++ next ∷ []) i)
  alive_now i below room few =
      let still : faults_at s i < 2 ^ 64 - 1 = omega (arith, few, rise i, room) in
      (answered.counted i below still).1 (elim (moves i) [
        | inl stays ↦ inl (omega (arith, few, rise i, stays.0, (has.based i).1), has.alive i below (omega (arith, stays.0, room)) (omega (arith, few, rise i, stays.0)))
        | inr back ↦ inr back.1
      ])

  -- ---- what was seen at it

  sees : SeesLive old.count (λ i. base_since old (done ++ next ∷ []) i) next.sight
  sees i below room = (
    λ e. omega (arith, answered.sees_faults i, counted_now i below room (sym (answered.sees_live i) ∙ e)),
    λ few. answered.sees_live i ∙ alive_now i below room (omega (arith, few, answered.sees_faults i)),
  )

  live_now : SeeLive old.count (λ i. faults_at old i) (done ++ next ∷ [])
  live_now before line later e = elim (last_split done next before line later e) [
    | inl it ↦ subst (λ b. SeesLive old.count (λ i. base_since old (b ++ line ∷ []) i) line.sight) (sym it.0)
        (subst (λ (x : Asked). SeesLive old.count (λ i. base_since old (done ++ x ∷ []) i) x.sight) (sym it.1) sees)
    | inr it ↦ has.seen.live before line it.0 it.1
  ]

  -- a moment before the step
  seen_before : (m : Moment) → length (said_since old m) ≤ length (all_of done) → IsSeenAt all_of done old m → IsSeenAt all_of (done ++ next ∷ []) old m
  seen_before m short seen before line later e low high i = elim (last_split done next before line later e) [
    | inl it ↦ absurd (omega (arith, low, short, ap (λ l. length (all_of l)) it.0))
    | inr it ↦ seen before line it.0 it.1 low high i
  ]

  -- a moment of the step
  seen_in : (m : Moment) (n : ℕ) → m.said ≡ s.now.said ++ take n text → (m.said ≡ s.now.said) ⊎ (m.dirs ≡ new.now.dirs) → IsSeenAt all_of (done ++ next ∷ []) old m
  seen_in m n front last before line later e low high i = elim (last_split done next before line later e) [
    | inl it ↦ elim last [
      | inl none ↦ absurd (omega (arith, low, since_done m none, ap (λ l. length (all_of l)) it.0))
      | inr same ↦ ap (λ (dirs : ℕ → Dir). (dirs i).faults) same ∙ sym (answered.sees_faults i) ∙ ap (λ (x : Asked). x.sight.faults i) (sym it.1)
    ]
    | inr it ↦ absurd (omega (arith, high, since_step m n front, answers_longer asked old.count ctime opened before line it.0, ap (λ l. length (all_of l)) it.1))
  ]

  seen_now : Throughout (Unit {0}) old new (IsSeenAt all_of (done ++ next ∷ []) old)
  seen_now = throughout_trans (throughout_weaker (throughout_both has.fronts has.seen.at) (λ t m is. seen_before m is.0 is.1)) (throughout_weaker says (λ t m is. seen_in m is.0.0 is.0.1 is.1))

pub next_is_said : NextIsSaid
next_is_said asked ctime opened live live_after done next after old s new has answered says rise narrow = (
  record {
    said = said_now asked ctime opened live live_after done next after old s new has answered says rise narrow;
    fronts = fronts_now asked ctime opened live live_after done next after old s new has answered says rise narrow;
    based = based_now asked ctime opened live live_after done next after old s new has answered says rise narrow;
    counted = counted_now asked ctime opened live live_after done next after old s new has answered says rise narrow;
    alive = alive_now asked ctime opened live live_after done next after old s new has answered says rise narrow;
    seen = record {
      live = live_now asked ctime opened live live_after done next after old s new has answered says rise narrow;
      at = seen_now asked ctime opened live live_after done next after old s new has answered says rise narrow;
    };
  },
  answered.goes_on ∙ sym (after_append old.count (first_of asked opened) done next),
)

-- ---- a line without an answer

pub silent_is_said : SilentIsSaid
silent_is_said asked ctime opened live done next old s none sees_live sees_faults has =
    let run = after_asked old.count (first_of asked opened) done in
    let text : (reply_at old.count run next).text ≡ [] = ap (λ r. (reply_read old.count run next.sight r).text) (read_none next.line none) in
    let after : (reply_at old.count run next).after ≡ run = ap (λ r. (reply_read old.count run next.sight r).after) (read_none next.line none) in
    let answered : HasAnswered (Unit {0}) old.count run run live live next s s = record {
      said = λ t. sym (ap (λ x. s.now.said ++ x) text ∙ append-nil s.now.said);
      goes_on = sym after;
      counted = λ i below room. (
        λ e. inl (refl, e),
        λ either. elim either [
          | inl both ↦ both.1
          | inr back ↦ absurd (none_taken i back)
        ],
      );
      sees_live = sees_live;
      sees_faults = sees_faults;
      sees_restored = λ i below e. absurd (none_asked i e);
    } in
    let both = next_is_said asked ctime opened live live done next run old s s has answered (throughout_refl (λ t. ((0, sym (append-nil s.now.said)), inl refl))) (λ i. omega arith) (λ i below e. inl (e, refl)) in
    (both.0, sym both.1)
  where
    none_taken : (i : ℕ) → is_back (back_at old.count next) i ≡ true → ⊥
    none_taken i e = absurd (cc (ap (λ back. is_back back i) (none_back old.count next none), e))

    none_asked : (i : ℕ) → restored_dir (reading_of next.line) ≡ Some i → ⊥
    none_asked i e = let no : None ≡ Some i = sym (ap restored_dir (read_none next.line none)) ∙ e in absurd (cc no)
