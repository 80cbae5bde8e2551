-- The counts from which on directories are of a run, behind commands and behind lines.
use Rattle.std.proofs.Common.{◌≡◌, ◌⊎◌, inl, inr, ℕ, ◌<◌, ◌==◌, ◌&&◌, nat_lt, Bool, true, false, if◌then◌else◌, List, [], ◌∷◌, ◌++◌, take, Option, Some, None, refl, sym, ◌∙◌, ap, subst, arith, append_assoc}
use Rattle.std.proofs.lemmas.Bool.{cases_Bool, and_parts, and_from, eqb-true, eq-eqb}
use Rattle.std.proofs.lemmas.Bool.Decides.{nat_tests}
use Rattle.nn_base.specs.Paths.{Bytes}
use Rattle.nn_host.specs.Moments.{State, faults_at}
use Rattle.nn_script.specs.Lines.{has_no_answer}
use Rattle.nn_script.specs.Reading.{reading_of}
use Rattle.nn_pick.specs.Opening.{Opening}
use Rattle.nn_run.specs.Running.{Running, Asked, Sight, Back, Restored, TakenBack, Missing, Inconsistent, Failed, reply_at, is_taken_back, restored_dir, back_of, back_at, is_back, base_by, base_after}
use Rattle.nn_run.specs.Window.{Answered, commands_of, text_of, whole_in, base_behind, base_since, BaseIsBehind}
use Rattle.nn_run.specs.Course.{RunAsked, opening_of}
use Rattle.nn_run.proofs.LineLemmas.{read_none}
use Rattle.nn_run.proofs.WindowLemmas.{if_true, if_false, whole_behind}

pub base_append : (base : ℕ → ℕ) (first later : List Answered) (i : ℕ) → base_behind base (first ++ later) i ≡ base_behind (λ j. base_behind base first j) later i
base_append base [] later i = refl
base_append base (a ∷ first) later i = base_append (λ j. base_by base a.back j) first later i

-- a line without an answer takes nothing back
pub none_back : (count : ℕ) (asked : Asked) → has_no_answer asked.line ≡ true → back_at count asked ≡ None
none_back count asked e = ap (λ reading. back_of count asked.sight (restored_dir reading)) (read_none asked.line e)

base_by_line : (count : ℕ) (base : ℕ → ℕ) (run : Running) (asked : Asked) (lines : List Asked) (i : ℕ) (none : Bool) → has_no_answer asked.line ≡ none
    → ((b : ℕ → ℕ) (r : Running) → base_behind b (commands_of count r lines) i ≡ base_after count b lines i)
    → base_behind base (if none then commands_of count run lines else record { text = (reply_at count run asked).text; book = (reply_at count run asked).after.book; back = back_at count asked } ∷ commands_of count (reply_at count run asked).after lines) i
    ≡ base_after count (λ j. base_by base (back_at count asked) j) lines i
base_by_line count base run asked lines i true e rest = rest base run ∙ ap (λ back. base_after count (λ j. base_by base back j) lines i) (sym (none_back count asked e))
base_by_line count base run asked lines i false e rest = rest (λ j. base_by base (back_at count asked) j) (reply_at count run asked).after

pub base_is_behind : BaseIsBehind
base_is_behind count base run [] i = refl
base_is_behind count base run (asked ∷ lines) i = base_by_line count base run asked lines i (has_no_answer asked.line) refl (λ b r. base_is_behind count b r lines i)

-- and lines behind others go on from the counts behind those
pub base_after_append : (count : ℕ) (base : ℕ → ℕ) (first later : List Asked) (i : ℕ) → base_after count base (first ++ later) i ≡ base_after count (λ j. base_after count base first j) later i
base_after_append count base [] later i = refl
base_after_append count base (asked ∷ first) later i = base_after_append count (λ j. base_by base (back_at count asked) j) first later i

-- an opening takes nothing back
pub opening_base : (base : ℕ → ℕ) (asked : RunAsked) (ctime : ℕ) (opened : Opening) (i : ℕ) → base_behind base (opening_of asked ctime opened) i ≡ base i
opening_base base asked ctime opened i = by_upgrade asked.upgrade
  where
    by_upgrade : (upgrade : Bool) → base_behind base (opening_of (record asked { upgrade = upgrade }) ctime opened) i ≡ base i
    by_upgrade true = refl
    by_upgrade false = refl

-- ---- a directory that is taken back

-- behind a line the count is as before it, unless it is that of the directory that the line took back
pub base_moves : (base : ℕ → ℕ) (back : Option Back) (i : ℕ) → (base_by base back i ≡ base i) ⊎ (is_back back i ≡ true)
base_moves base None i = inl refl
base_moves base (Some back) i = elim (cases_Bool (i == back.dir)) [
  | inl e ↦ inr e
  | inr e ↦ inl (if_false (i == back.dir) back.faults (base i) e)
]

-- for one that wasn't taken back it is the same
pub base_stays : (base : ℕ → ℕ) (back : Option Back) (i : ℕ) → is_back back i ≡ false → base_by base back i ≡ base i
base_stays base None i e = refl
base_stays base (Some back) i e = if_false (i == back.dir) back.faults (base i) e

-- behind one line more
pub base_next : (old : State) (done : List Asked) (next : Asked) (i : ℕ) → base_since old (done ++ next ∷ []) i ≡ base_by (λ j. base_since old done j) (back_at old.count next) i
base_next old done next i = base_after_append old.count (λ j. faults_at old j) done (next ∷ []) i

-- the count of one that was taken back is that which was seen then
back_sees : (count : ℕ) (base : ℕ → ℕ) (sight : Sight) (dir : Option ℕ) (i : ℕ) → is_back (back_of count sight dir) i ≡ true → base_by base (back_of count sight dir) i ≡ sight.faults i
back_sees count base sight None i e = absurd (cc e)
back_sees count base sight (Some dir) i e = by_listed (nat_lt dir count && is_taken_back sight.restored) e
  where
    by_listed : (listed : Bool) → is_back (if listed then Some (record { dir = dir; faults = sight.faults dir }) else None) i ≡ true
        → base_by base (if listed then Some (record { dir = dir; faults = sight.faults dir }) else None) i ≡ sight.faults i
    by_listed true e = if_true (i == dir) (sight.faults dir) (base i) e ∙ ap sight.faults (sym (eqb-true i dir e))
    by_listed false e = absurd (cc e)

pub back_base : (count : ℕ) (base : ℕ → ℕ) (asked : Asked) (i : ℕ) → is_back (back_at count asked) i ≡ true → base_by base (back_at count asked) i ≡ asked.sight.faults i
back_base count base asked i e = back_sees count base asked.sight (restored_dir (reading_of asked.line)) i e

-- it is the one of its line, which said that it was taken back
back_told : (count : ℕ) (sight : Sight) (dir : Option ℕ) (i : ℕ) → is_back (back_of count sight dir) i ≡ true → (dir ≡ Some i) × (sight.restored ≡ TakenBack)
back_told count sight None i e = absurd (cc e)
back_told count sight (Some dir) i e = by_listed (nat_lt dir count && is_taken_back sight.restored) refl e
  where
    taken_is : (restored : Restored) → is_taken_back restored ≡ true → restored ≡ TakenBack
    taken_is TakenBack e = refl
    taken_is Missing e = absurd (cc e)
    taken_is Inconsistent e = absurd (cc e)
    taken_is Failed e = absurd (cc e)

    by_listed : (listed : Bool) → (nat_lt dir count && is_taken_back sight.restored) ≡ listed → is_back (if listed then Some (record { dir = dir; faults = sight.faults dir }) else None) i ≡ true
        → (Some dir ≡ Some i) × (sight.restored ≡ TakenBack)
    by_listed true is e = (ap Some (sym (eqb-true i dir e)), taken_is sight.restored (and_parts (nat_lt dir count) (is_taken_back sight.restored) is).1)
    by_listed false is e = absurd (cc e)

pub back_is : (count : ℕ) (asked : Asked) (i : ℕ) → is_back (back_at count asked) i ≡ true → (restored_dir (reading_of asked.line) ≡ Some i) × (asked.sight.restored ≡ TakenBack)
back_is count asked i e = back_told count asked.sight (restored_dir (reading_of asked.line)) i e

-- a listed one of which the line said so was taken back
back_there : (count : ℕ) (sight : Sight) (dir : Option ℕ) (i : ℕ) → i < count → dir ≡ Some i → sight.restored ≡ TakenBack → is_back (back_of count sight dir) i ≡ true
back_there count sight dir i below e taken =
    let listed : nat_lt i count ≡ true = grind (below, arith, nat_tests) in
    subst (λ d. is_back (back_of count sight d) i ≡ true) (sym e)
    (subst (λ b. is_back (if b then Some (record { dir = i; faults = sight.faults i }) else None) i ≡ true) (sym (and_from (nat_lt i count) (is_taken_back sight.restored) listed (ap is_taken_back taken))) (eq-eqb i i refl))

pub is_back_there : (count : ℕ) (asked : Asked) (i : ℕ) → i < count → restored_dir (reading_of asked.line) ≡ Some i → asked.sight.restored ≡ TakenBack → is_back (back_at count asked) i ≡ true
is_back_there count asked i below e taken = back_there count asked.sight (restored_dir (reading_of asked.line)) i below e taken

-- ---- the commands whose whole answer was said

-- all of the first, and then those of the others
pub taken_past : (first later : List Answered) (bytes : Bytes) → take (whole_in (first ++ later) (text_of first ++ bytes)) (first ++ later) ≡ first ++ take (whole_in later bytes) later
taken_past [] later bytes = refl
taken_past (a ∷ first) later bytes =
    let whole = ap (whole_in (a ∷ (first ++ later))) (append_assoc a.text (text_of first) bytes) ∙ whole_behind a (first ++ later) (text_of first ++ bytes) in
    ap (λ k. take k (a ∷ (first ++ later))) whole ∙ ap (λ l. a ∷ l) (taken_past first later bytes)

-- so behind them the counts go on from those behind the first
pub base_past : (base : ℕ → ℕ) (first later : List Answered) (bytes : Bytes) (i : ℕ)
    → base_behind base (take (whole_in (first ++ later) (text_of first ++ bytes)) (first ++ later)) i ≡ base_behind (λ j. base_behind base first j) (take (whole_in later bytes) later) i
base_past base first later bytes i = ap (λ l. base_behind base l i) (taken_past first later bytes) ∙ base_append base first (take (whole_in later bytes) later) i
