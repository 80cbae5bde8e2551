-- A line whose records are synced, or that changes nothing, and is answered then: its step is kept.
use Rattle.std.proofs.Common.{◌≡◌, ◌≢◌, ◌⊎◌, inl, inr, ℕ, ◌-◌, ◌<◌, ◌≤◌, ◌^◌, nat_lt, nat_le, Bool, true, false, ◌&&◌, ◌||◌, ◌==◌, Option, Some, None, List, [], ◌∷◌, ◌++◌, length, take, drop, refl, sym, ◌∙◌, ap, subst, arith}
use Rattle.std.specs.Prelude.{Contains}
use Rattle.std.proofs.Math.Seq.{drop-append_seam}
use Rattle.std.proofs.lemmas.List.{append-nil, length-drop}
use Rattle.std.proofs.lemmas.Bool.{cases_Bool, and_parts, or_cases, leb-true}
use Rattle.std.proofs.lemmas.Bool.Decides.{nat_tests}
use Rattle.nn_base.specs.Paths.{Bytes}
use Rattle.nn_host.specs.Moments.{Dir, Moment, State, faults_at}
use Rattle.nn_host.specs.Runs.{Throughout, EachDir, Unspoken, OutAsIn}
use Rattle.nn_host.proofs.RunsLemmas.{throughout_both, throughout_trans, throughout_weaker}
use Rattle.nn_marks.specs.declared.version.Version.{Version}
use Rattle.nn_tree.specs.Namespace.{Namespace}
use Rattle.nn_pick.specs.Opening.{Book}
use Rattle.nn_kept.specs.Laws.{AllKept, IsPartOf}
use Rattle.nn_script.specs.Lines.{has_no_answer}
use Rattle.nn_run.specs.Running.{Running, Asked, Back, reply_at, back_at, is_back}
use Rattle.nn_run.specs.Window.{Answered, begins_with, commands_of, said_since, window, window_at, is_unfailed}
use Rattle.nn_run.specs.Steps.{Lives, LeftBehind, BetweenLines, IsStepMoment, StepKept, is_of_step, is_of_back, is_of_line}
use Rattle.nn_run.specs.Flights.{FliesAt, Flown, LeadsTo, OnlySays, IsBackIn, CountsRise, SayingIsKept, SyncingIsKept}
use Rattle.nn_run.proofs.WindowLemmas.{if_false, nil_of, not_begun, after_in_window, both_in_window}
use Rattle.nn_run.proofs.BetweenLemmas.{kept_whichever}
use Rattle.nn_run.proofs.LineLemmas.{read_some}
use Rattle.nn_run.proofs.FlightLemmas.{in_flight, each_kept, after_flight}

-- a directory that isn't live doesn't count
pub not_live : (live : ℕ → Bool) (old : State) (i : ℕ) (d : Dir) → live i ≡ false → is_of_step live old i d ≡ false
not_live live old i d e = ap (λ b. b && is_unfailed old i d) e

pub not_held : (live : ℕ → Bool) (old : State) (i : ℕ) (d : Dir) → live i ≡ false → (true && is_of_step live old i d) ≡ false
not_held live old i d e = not_live live old i d e

module _ (count : ℕ) (run : Running) (asked : Asked) (answers : has_no_answer asked.line ≡ false) where
  abbrev text : Bytes
  text = (reply_at count run asked).text

  abbrev after : Book
  after = (reply_at count run asked).after.book

  -- the one command of the line
  abbrev it : Answered
  it = record { text = text; book = after; back = back_at count asked }

  one_command : commands_of count run (asked ∷ []) ≡ it ∷ []
  one_command = if_false (has_no_answer asked.line) [] (it ∷ []) answers

  since_front : (old : State) (m : Moment) (n : ℕ) → m.said ≡ old.now.said ++ take n text → said_since old m ≡ take n text
  since_front old m n e = ap (drop (length old.now.said)) e ∙ drop-append_seam old.now.said (take n text)

  -- the window at a front of the answer
  window_here : (old : State) (m : Moment) (n : ℕ) → m.said ≡ old.now.said ++ take n text → window_at 1 run.book (commands_of count run (asked ∷ [])) old m ≡ window 1 run.book (it ∷ []) (take n text)
  window_here old m n e = ap (λ bytes. window 1 run.book (commands_of count run (asked ∷ [])) bytes) (since_front old m n e) ∙ ap (λ cs. window 1 run.book cs (take n text)) one_command

  -- the Book after the line is in it
  pub one_part : (old : State) (m : Moment) (n : ℕ) → m.said ≡ old.now.said ++ take n text → (books : List Book) → books ≡ after ∷ [] → IsPartOf books (window_at 1 run.book (commands_of count run (asked ∷ [])) old m)
  one_part old m n e books is b there = subst (λ w. Contains w b) (sym (window_here old m n e)) (after_in_window run.book it n b (subst (λ bs. Contains bs b) is there))

  -- and so is the one before it, as long as nothing is said
  pub both_part : (old : State) (m : Moment) → m.said ≡ old.now.said → text ≢ [] → IsPartOf (run.book ∷ after ∷ []) (window_at 1 run.book (commands_of count run (asked ∷ [])) old m)
  both_part old m e some b there = subst (λ w. Contains w b) (sym (window_here old m 0 (e ∙ sym (append-nil old.now.said)))) (both_in_window run.book it some b there)

  pub has_text : text ≢ []
  has_text = read_some count run asked.sight asked.line answers

-- who counts as one of a line counts as one of its step, or was taken back
pub line_parts : (live : ℕ → Bool) (count : ℕ) (run : Running) (asked : Asked) (old : State) (m : Moment) (i : ℕ) (d : Dir) → is_of_line live count run asked old m i d ≡ true
    → (is_of_step live old i d ≡ true) ⊎ (is_back (back_at count asked) i ≡ true)
line_parts live count run asked old m i d e = elim (or_cases (is_of_step live old i d) _ e) [
  | inl step ↦ inl step
  | inr taken ↦ inr (back_is (back_at count asked) i d (and_parts (begins_with (reply_at count run asked).text (said_since old m)) _ taken).1)
]
  where
    back_is : (back : Option Back) (i : ℕ) (d : Dir) → is_of_back back i d ≡ true → is_back back i ≡ true
    back_is None i d e = e
    back_is (Some back) i d e = (and_parts (i == back.dir) _ e).0

or_none : (b : Bool) → (b || false) ≡ b
or_none true = refl
or_none false = refl

-- as long as nothing is said, one counts as of a line where it counts as of its step
pub unsaid_line : (live : ℕ → Bool) (count : ℕ) (run : Running) (asked : Asked) → has_no_answer asked.line ≡ false → (old : State) (m : Moment) (i : ℕ) (d : Dir) → m.said ≡ old.now.said
    → is_of_line live count run asked old m i d ≡ is_of_step live old i d
unsaid_line live count run asked answers old m i d quiet =
    let nothing : said_since old m ≡ [] = nil_of (said_since old m) (omega (arith, length-drop (length old.now.said) m.said, ap length quiet)) in
    let unsaid : begins_with (reply_at count run asked).text (said_since old m) ≡ false = ap (begins_with (reply_at count run asked).text) nothing ∙ not_begun (reply_at count run asked).text (has_text count run asked answers) in
    ap (λ b. is_of_step live old i d || (b && is_of_back (back_at count asked) i d)) unsaid ∙ or_none (is_of_step live old i d)

-- and so one that isn't live doesn't
pub not_of_line : (live : ℕ → Bool) (count : ℕ) (run : Running) (asked : Asked) → has_no_answer asked.line ≡ false → (old : State) (m : Moment) (i : ℕ) (d : Dir) → m.said ≡ old.now.said → live i ≡ false
    → is_of_line live count run asked old m i d ≡ false
not_of_line live count run asked answers old m i d quiet e = unsaid_line live count run asked answers old m i d quiet ∙ not_live live old i d e

-- the disks between two lines are those of another moment with the same directories
pub between_same : {version : Version} {list : ℕ → Namespace} {count : ℕ} {live holders : ℕ → Bool} {book : Book} {last : ℕ} (m k : Moment) → k.dirs ≡ m.dirs → BetweenLines version list count live holders book last m → BetweenLines version list count live holders book last k
between_same {version} {list} {count} {live} {holders} {book} {last} m k same between = record {
  shared = between.shared;
  window = between.window;
  floor = between.floor;
  lead = between.lead;
  ours = between.ours;
  ns = between.ns;
  saved = between.saved;
  room = between.room;
  stands = between.stands;
  lives = λ i below e. subst (λ (dirs : ℕ → Dir). Lives version (holders i) book list last (dirs i).disk) (sym same) (between.lives i below e);
  others = λ i below e. subst (λ (dirs : ℕ → Dir). LeftBehind between.shared (dirs i).disk) (sym same) (between.others i below e);
}

module _ (version : Version) (list : ℕ → Namespace) (count : ℕ) (live : ℕ → Bool) (run : Running) (asked : Asked) (last : ℕ) (answers : has_no_answer asked.line ≡ false) where
  -- a moment of an answer that is said where all stand at the Book after the line
  pub moment_said : (start s : State) (live_start : ℕ → Bool) (m : Moment) → BetweenLines version list count live (λ i. false) (reply_at count run asked).after.book last s.now → (reply_at count run asked).after.book.saved ≡ None
      → s.now.said ≡ start.now.said → ((j : ℕ) → faults_at start j ≤ faults_at s j) → ((i : ℕ) → i < count → live_start i ≡ true → is_unfailed start i (s.now.dirs i) ≡ true → live i ≡ true)
      → IsBackIn count live asked → m.dirs ≡ s.now.dirs → (n : ℕ) → m.said ≡ s.now.said ++ take n (reply_at count run asked).text → IsStepMoment count run live_start (λ i. true) asked start m
  moment_said start s live_start m between unsaved quiet grown alive back same n said =
      let here = between_same s.now m same between in
      let front : m.said ≡ start.now.said ++ take n (reply_at count run asked).text = said ∙ ap (λ x. x ++ take n (reply_at count run asked).text) quiet in record {
        front = (n, front);
        counted = λ i. subst (λ (dirs : ℕ → Dir). faults_at start i ≤ (dirs i).faults) (sym same) (grown i);
        kept = (here.shared, one_part count run asked answers start m n front here.shared.window here.window, counts_fewer here);
      }
    where
      counts_fewer : (here : BetweenLines version list count live (λ i. false) (reply_at count run asked).after.book last m) → AllKept here.shared count (is_of_line live_start count run asked start m) (λ i d. true && is_of_step live_start start i d) m
      counts_fewer here = record {
        at = λ i below. (
            let kept = kept_whichever version list count live (λ i. false) (reply_at count run asked).after.book last m here (λ j d. live j) (λ j d. live j) unsaved (λ j d e. e) (λ j d e. e) in
            let one = kept.at i below in
            let fits : is_of_step live_start start i (m.dirs i) ≡ true → live i ≡ true = λ e. (
            let parts = and_parts (live_start i) _ e in
            alive i below parts.0 (subst (λ (dirs : ℕ → Dir). is_unfailed start i (dirs i) ≡ true) same parts.1)) in
            let counts : is_of_line live_start count run asked start m i (m.dirs i) ≡ true → live i ≡ true = λ e. elim (line_parts live_start count run asked start m i (m.dirs i) e) [
              | inl step ↦ fits step
              | inr taken ↦ back i below taken
            ] in
            record { kept = one.kept; run = λ e. one.run (counts e); led = λ e. one.led (fits e) });
      }

pub saying_is_kept : SayingIsKept
saying_is_kept version list count live run asked last old new between unsaved answers same back says = (
  throughout_weaker says (λ t m is. moment_said version list count live run asked last answers old old live m moved after_unsaved refl (λ j. omega arith) (λ i below e still. e) back is.0 is.1 is.2),
  between_same old.now new.now (says.ends tt).0 between,
)
  where
    moved : BetweenLines version list count live (λ i. false) (reply_at count run asked).after.book last old.now
    moved = subst (λ b. BetweenLines version list count live (λ i. false) b last old.now) (sym same) between

    after_unsaved : (reply_at count run asked).after.book.saved ≡ None
    after_unsaved = ap (λ (b : Book). b.saved) same ∙ unsaved

module _ (version : Version) (list : ℕ → Namespace) (count : ℕ) (live live_after : ℕ → Bool) (run : Running) (asked : Asked) (last after : ℕ) (old mid new : State)
    (between : BetweenLines version list count live (λ i. false) run.book last old.now) (answers : has_no_answer asked.line ≡ false)
    (leads : LeadsTo list run.book (reply_at count run asked).after.book last after)
    (flown : Flown (Unit {0}) version list live live_after last after old mid) (quiet : Unspoken (Unit {0}) old mid) (rise : CountsRise (Unit {0}) old mid) where
  landed : BetweenLines version list count live_after (λ i. false) (reply_at count run asked).after.book after mid.now
  landed = after_flight version list count live live_after run.book (reply_at count run asked).after.book last after old mid between leads flown

  -- while records are in flight nothing is said
  moment_flown : (m : Moment) → EachDir (FliesAt version list live last after old) m → OutAsIn old m → ((j : ℕ) → faults_at old j ≤ (m.dirs j).faults) → IsStepMoment count run live (λ i. true) asked old m
  moment_flown m flies out grown = record {
    front = (0, out.said ∙ sym (append-nil old.now.said));
    counted = grown;
    kept = (
      in_flight version list count live live_after run.book (reply_at count run asked).after.book last after old mid between leads flown,
      both_part count run asked answers old m out.said (has_text count run asked answers),
      each_kept version list count live live_after run.book (reply_at count run asked).after.book last after old mid between leads flown (is_of_line live count run asked old m) (λ i d. true && is_of_step live old i d) m
          (λ i d e. not_of_line live count run asked answers old m i d out.said e) (not_held live old) flies,
    );
  }

  in_flight_kept : StepKept (Unit {0}) count run live (λ i. true) asked old mid
  in_flight_kept = throughout_weaker (throughout_both flown.each (throughout_both quiet.each rise)) (λ t m is. moment_flown m is.0 is.1.0 is.1.1)

  -- a live directory on which no call failed was not dropped
  still_live : (i : ℕ) → live i ≡ true → is_unfailed old i (mid.now.dirs i) ≡ true → live_after i ≡ true
  still_live i e still = elim (cases_Bool (live_after i)) [
    | inl is ↦ is
    | inr not ↦
        let parts = and_parts (nat_lt (faults_at old i) (2 ^ 64 - 1)) (nat_le (faults_at mid i) (faults_at old i)) still in
        let room : faults_at old i < 2 ^ 64 - 1 = grind (parts.0, arith, nat_tests) in
        absurd (omega (arith, leb-true _ _ parts.1, flown.counted i e not room))
  ]

  -- then its answer is said
  said_kept : IsBackIn count live_after asked → OnlySays (Unit {0}) (reply_at count run asked).text mid new → Throughout (Unit {0}) mid new (IsStepMoment count run live (λ i. true) asked old)
  said_kept back says = throughout_weaker says (λ t m is. moment_said version list count live_after run asked after answers old mid live m landed leads.unsaved_after quiet.now.said (rise.ends tt) (λ i below. still_live i) back is.0 is.1 is.2)

pub syncing_is_kept : SyncingIsKept
syncing_is_kept version list count live live_after run asked last after old mid new between answers leads flown quiet rise back says = (
  throughout_trans (in_flight_kept version list count live live_after run asked last after old mid new between answers leads flown quiet rise)
      (said_kept version list count live live_after run asked last after old mid new between answers leads flown quiet rise back says),
  between_same mid.now new.now (says.ends tt).0 (landed version list count live live_after run asked last after old mid new between answers leads flown quiet rise),
)
