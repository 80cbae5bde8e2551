-- A dropped directory is emptied, or taken back: each moment of its line is kept.
use Rattle.std.proofs.Common.{◌≡◌, ◌≢◌, ◌⊎◌, inl, inr, ⊎_elim, ℕ, ◌-◌, ◌<◌, ◌≤◌, ◌^◌, nat_lt, nat_le, Bool, true, false, ◌&&◌, None, List, [], ◌∷◌, ◌++◌, take, sym, ◌∙◌, ap, subst, arith}
use Rattle.std.specs.Prelude.{Contains}
use Rattle.std.proofs.lemmas.List.{append-nil}
use Rattle.std.proofs.lemmas.List.Elements.{Contains-append_cases}
use Rattle.std.proofs.lemmas.Bool.{cases_Bool, and_parts, leb-true}
use Rattle.std.proofs.lemmas.Bool.Decides.{eqb_tells, nat_tests}
use Rattle.nn_host.specs.Disk.{Disk}
use Rattle.nn_host.specs.Moments.{Dir, Moment, State, disk_at, faults_at}
use Rattle.nn_host.specs.Runs.{Throughout, EachDir, Unspoken}
use Rattle.nn_host.proofs.RunsLemmas.{throughout_both, throughout_trans, throughout_weaker}
use Rattle.nn_marks.specs.declared.version.Version.{Version}
use Rattle.nn_tree.specs.Namespace.{Namespace}
use Rattle.nn_pick.specs.Opening.{Book}
use Rattle.nn_kept.specs.Kept.{Shared}
use Rattle.nn_kept.specs.Laws.{IsKeptDisk, AllKept, IsPartOf}
use Rattle.nn_kept.specs.Ends.{EndsBetween}
use Rattle.nn_script.specs.Lines.{has_no_answer}
use Rattle.nn_run.specs.Running.{Running, Asked, reply_at}
use Rattle.nn_run.specs.Window.{commands_of, window_at, is_unfailed}
use Rattle.nn_run.specs.Steps.{Lives, LeftBehind, BetweenLines, IsStepMoment, StepKept, is_of_step, is_of_line}
use Rattle.nn_run.specs.Flights.{Flies, FliesAt, LeadsTo, IsBackIn, CountsRise}
use Rattle.nn_run.specs.Restoring.{IsAside, StaysBehind, IsUnformatted, IsMadeAt, TakesBack, EmptyingIsKept, RestoringIsKept}
use Rattle.nn_run.proofs.BetweenLemmas.{uncounted, kept_whichever, ends_counted}
use Rattle.nn_run.proofs.FlightLemmas.{IsAloft, both_shared, aloft_kept, landed_behind, in_flight, each_kept, after_flight}
use Rattle.nn_run.proofs.SyncLemmas.{not_held, one_part, unsaid_line, not_of_line, line_parts, between_same, moment_said}

-- ---- one directory

-- one that isn't formatted is kept, and every floor leaves it behind
unformatted_behind : (shared : Shared) (d : Disk) → IsUnformatted d → LeftBehind shared d
unformatted_behind shared d is = record {
  kept = record {
    kept = λ c leaves fair. record { state = (is c leaves fair).0; formatted = inl (is c leaves fair).1 };
    run = λ e. absurd (cc e);
    led = λ e. absurd (cc e);
  };
  behind = λ c leaves fair v a under. absurd (let none = sym (is c leaves fair).1 ∙ under.serves.serves in cc);
}

-- fewer of them may count
fewer : {shared : Shared} {count : ℕ} {run held run_less held_less : ℕ → Dir → Bool} {m : Moment} → AllKept shared count run held m → ((j : ℕ) → j < count → run_less j (m.dirs j) ≡ true → run j (m.dirs j) ≡ true)
    → ((j : ℕ) → j < count → held_less j (m.dirs j) ≡ true → held j (m.dirs j) ≡ true) → AllKept shared count run_less held_less m
fewer all runs leads = record { at = λ j below. let one = all.at j below in record { kept = one.kept; run = λ e. one.run (runs j below e); led = λ e. one.led (leads j below e) } }

-- a Book twice is the Book
twice : (books : List Book) (book : Book) → IsPartOf (book ∷ []) books → IsPartOf (book ∷ book ∷ []) books
twice books book part other there = part other (⊎_elim (λ one. one) (λ two. two) (Contains-append_cases (book ∷ []) (book ∷ []) other there))

-- what holds between two lines holds while one that isn't live stays behind, and all others stay as they were
pub aside_between : {version : Version} {list : ℕ → Namespace} {count : ℕ} {live : ℕ → Bool} {book : Book} {last : ℕ} (i : ℕ) (old : State) (m : Moment) → live i ≡ false
    → BetweenLines version list count live (λ j. false) book last old.now → EachDir (IsAside i (StaysBehind (disk_at old i)) old) m → BetweenLines version list count live (λ j. false) book last m
aside_between {version} {list} {count} {live} {book} {last} i old m out between aside = record {
  shared = between.shared;
  window = between.window;
  floor = between.floor;
  lead = between.lead;
  ours = between.ours;
  ns = between.ns;
  saved = between.saved;
  room = between.room;
  stands = between.stands;
  lives = λ j below e. subst (λ (d : Dir). Lives version false book list last d.disk) (sym ((aside.at j).others (λ same. absurd (let apart = sym e ∙ ap live same ∙ out in cc)))) (between.lives j below e);
  others = λ j below e. elim (eqb_tells j i) [
    | inl is ↦ (aside.at j).own is.1 between.shared (subst (λ k. LeftBehind between.shared (disk_at old k)) is.1 (between.others j below e))
    | inr differs ↦ subst (λ (d : Dir). LeftBehind between.shared d.disk) (sym ((aside.at j).others differs.1)) (between.others j below e)
  ];
}

-- ---- the moments of a line

module _ (version : Version) (list : ℕ → Namespace) (count : ℕ) (live : ℕ → Bool) (run : Running) (asked : Asked) (last i : ℕ) (old : State) (out : live i ≡ false)
    (between : BetweenLines version list count live (λ j. false) run.book last old.now) (unsaved : run.book.saved ≡ None) (answers : has_no_answer asked.line ≡ false) (same_book : (reply_at count run asked).after.book ≡ run.book) where
  -- the one Book is in each window
  book_part : (m : Moment) (n : ℕ) → m.said ≡ old.now.said ++ take n (reply_at count run asked).text → IsPartOf (run.book ∷ []) (window_at 1 run.book (commands_of count run (asked ∷ [])) old m)
  book_part m n said = one_part count run asked answers old m n said (run.book ∷ []) (ap (λ b. b ∷ []) (sym same_book))

  unsaid : (m : Moment) → m.said ≡ old.now.said → m.said ≡ old.now.said ++ take 0 (reply_at count run asked).text
  unsaid m quiet = quiet ∙ sym (append-nil old.now.said)

  -- while it is emptied
  moment_emptied : (m : Moment) → EachDir (IsAside i (StaysBehind (disk_at old i)) old) m → m.said ≡ old.now.said → ((j : ℕ) → faults_at old j ≤ (m.dirs j).faults) → IsStepMoment count run live (λ j. true) asked old m
  moment_emptied m aside quiet grown =
      let here = aside_between i old m out between aside in record {
        front = (0, unsaid m quiet);
        counted = grown;
        kept = (
          here.shared,
          λ b there. book_part m 0 (unsaid m quiet) b (subst (λ w. Contains w b) here.window there),
          kept_whichever version list count live (λ j. false) run.book last m here (is_of_line live count run asked old m) (λ j d. true && is_of_step live old j d) unsaved
              (λ j d e. not_of_line live count run asked answers old m j d quiet e) (not_held live old),
        );
      }

pub emptying_is_kept : EmptyingIsKept
emptying_is_kept version list count live run asked last i old mid new out between unsaved answers same empties quiet rise back says =
    let here = aside_between i old mid.now out between (empties.ends tt) in
    let moved : BetweenLines version list count live (λ j. false) (reply_at count run asked).after.book last mid.now = subst (λ b. BetweenLines version list count live (λ j. false) b last mid.now) (sym same) here in (
      throughout_trans
          (throughout_weaker (throughout_both empties (throughout_both quiet.each rise)) (λ t m is. moment_emptied version list count live run asked last i old out between unsaved answers same m is.0 is.1.0.said is.1.1))
          (throughout_weaker says (λ t m is. moment_said version list count live run asked last answers old mid live m moved (ap (λ (b : Book). b.saved) same ∙ unsaved) quiet.now.said (rise.ends tt) (λ j below e still. e) back is.0 is.1 is.2)),
      between_same mid.now new.now (says.ends tt).0 here,
    )

-- ---- the four parts, of any line

module _ (version : Version) (list : ℕ → Namespace) (count : ℕ) (live live_after : ℕ → Bool) (book : Book) (last after i : ℕ) (old mid : State) (out : live i ≡ false)
    (between : BetweenLines version list count live (λ j. false) book last old.now) (leads : LeadsTo list book book last after) (back : TakesBack version list i live live_after last after old mid) where
  abbrev id : ℕ
  id = back.id

  at_book : (n : ℕ) → last ≤ n → n ≤ after → list n ≡ book.ns
  at_book n low high = ⊎_elim (λ one. one) (λ two. two) (leads.between n low high)

  leads_ending : LeadsTo list book book last id
  leads_ending = record {
    unsaved = leads.unsaved;
    unsaved_after = leads.unsaved;
    between = λ n low high. leads.between n low (omega (arith, high, back.beginning.onward));
    ends = at_book id back.ending.onward back.beginning.onward;
    room = omega (arith, leads.room, back.beginning.onward);
  }

  leads_beginning : LeadsTo list book book id after
  leads_beginning = record {
    unsaved = leads.unsaved;
    unsaved_after = leads.unsaved;
    between = λ n low high. leads.between n (omega (arith, low, back.ending.onward)) high;
    ends = leads.ends;
    room = leads.room;
  }

  -- what holds as it was emptied, and as the segment was ended
  emptied : BetweenLines version list count live (λ j. false) book last back.empty.now
  emptied = aside_between i old back.empty.now out between (back.emptying.ends tt)

  stopped : BetweenLines version list count back.rest (λ j. false) book id back.ended.now
  stopped = after_flight version list count live back.rest book book last id back.empty back.ended emptied leads_ending back.ending

  -- it isn't the one
  apart_from : (j : ℕ) → live j ≡ true → j ≢ i
  apart_from j e same = absurd (let apart = sym e ∙ ap live same ∙ out in cc)

  -- one of the step, as it is once the segment was ended, was live then
  still_there : (j : ℕ) (d : Dir) → d ≡ back.ended.now.dirs j → is_of_step live old j d ≡ true → back.rest j ≡ true
  still_there j d same e = elim (cases_Bool (back.rest j)) [
    | inl there ↦ there
    | inr gone ↦
        let parts = and_parts (live j) (is_unfailed old j d) e in
        let still = and_parts (nat_lt (faults_at old j) (2 ^ 64 - 1)) (nat_le d.faults (faults_at old j)) parts.1 in
        let as_before = ap (λ (x : Dir). x.faults) (((back.emptying.ends tt).at j).others (apart_from j parts.0)) in
        let room : faults_at back.empty j < 2 ^ 64 - 1 = grind (still.0, as_before, arith, nat_tests) in
        absurd (omega (arith, leb-true _ _ still.1, as_before, ap (λ (x : Dir). x.faults) same, back.ending.counted j parts.0 gone room))
  ]

  -- while it is made it is kept, as the others are
  made_kept : (d : Disk) → IsMadeAt version list id d → IsKeptDisk stopped.shared false false d
  made_kept d is = elim is [
    | inl none ↦ (unformatted_behind stopped.shared d none).kept
    | inr flies ↦ ends_counted version list count back.rest (λ j. false) book id back.ended.now stopped d false false false (λ e. absurd (cc e)) (subst (λ w. EndsBetween version false w list id id d) (sym leads.unsaved) flies.ends)
  ]

  others_kept : AllKept stopped.shared count (λ j d. back.rest j) (λ j d. back.rest j) back.ended.now
  others_kept = kept_whichever version list count back.rest (λ j. false) book id back.ended.now stopped (λ j d. back.rest j) (λ j d. back.rest j) leads.unsaved (λ j d e. e) (λ j d e. e)

  strays : (d : Disk) → IsMadeAt version list id d → LeftBehind stopped.shared d ⊎ (Unit {0} × Flies version list id id d)
  strays d is = elim is [
    | inl none ↦ inl (unformatted_behind stopped.shared d none)
    | inr flies ↦ inr (tt, flies)
  ]

  -- as the next segment is begun
  aloft : IsAloft version list count back.back book id (Unit {0}) back.made.now
  aloft = record {
    shared = stopped.shared;
    floor = stopped.floor;
    lead = stopped.lead;
    ours = stopped.ours;
    saved = stopped.saved;
    others = λ j below e. elim (eqb_tells j i) [
      | inl is ↦ strays (back.made.now.dirs j).disk (((back.making.ends tt).at j).own is.1)
      | inr differs ↦ inl (subst (λ (d : Dir). LeftBehind stopped.shared d.disk) (sym (((back.making.ends tt).at j).others differs.1)) (stopped.others j below (sym (back.with_it j differs.1) ∙ e)))
    ];
  }

  abbrev shared_then : Shared
  shared_then = both_shared version list count back.back live_after book book id after back.made mid (Unit {0}) aloft leads_beginning back.beginning

  late_kept : (m : Moment) → EachDir (FliesAt version list back.back id after back.made) m → AllKept shared_then count (λ j d. back.back j) (λ j d. back.back j) m
  late_kept m flies = aloft_kept version list count back.back live_after book book id after back.made mid (Unit {0}) aloft leads_beginning back.beginning (λ j d. back.back j) (λ j d. back.back j) m (λ j d e. e) (λ j d e. e) flies

  -- one of the step is written to
  still_back : (m : Moment) → EachDir (FliesAt version list back.back id after back.made) m → (j : ℕ) → is_of_step live old j (m.dirs j) ≡ true → back.back j ≡ true
  still_back m flies j e = elim (cases_Bool (back.back j)) [
    | inl there ↦ there
    | inr gone ↦ (
        let apart = apart_from j (and_parts (live j) (is_unfailed old j (m.dirs j)) e).0 in
        back.with_it j apart ∙ still_there j (m.dirs j) ((flies.at j).same gone ∙ ((back.making.ends tt).at j).others apart) e)
  ]

  pub begun : id < after → BetweenLines version list count live_after (λ j. false) book after mid.now
  begun higher = landed_behind version list count back.back live_after book book id after back.made mid (Unit {0}) aloft leads_beginning back.beginning (λ stray. higher)

-- ---- the moments of a line that does so

module _ (version : Version) (list : ℕ → Namespace) (count : ℕ) (live live_after : ℕ → Bool) (run : Running) (asked : Asked) (last after i : ℕ) (old mid : State) (out : live i ≡ false)
    (between : BetweenLines version list count live (λ j. false) run.book last old.now) (answers : has_no_answer asked.line ≡ false) (same_book : (reply_at count run asked).after.book ≡ run.book)
    (leads : LeadsTo list run.book run.book last after) (back : TakesBack version list i live live_after last after old mid) where
  -- the one Book is in the window at a front of the answer, and so it is twice
  one_book : (m : Moment) (n : ℕ) → m.said ≡ old.now.said ++ take n (reply_at count run asked).text → IsPartOf (run.book ∷ []) (window_at 1 run.book (commands_of count run (asked ∷ [])) old m)
  one_book m n said = book_part version list count live run asked last i old out between leads.unsaved answers same_book m n said

  front_of : (m : Moment) → m.said ≡ old.now.said → m.said ≡ old.now.said ++ take 0 (reply_at count run asked).text
  front_of m quiet = quiet ∙ sym (append-nil old.now.said)

  moment_ending : (m : Moment) → EachDir (FliesAt version list live last back.id back.empty) m → m.said ≡ old.now.said → ((j : ℕ) → faults_at old j ≤ (m.dirs j).faults) → IsStepMoment count run live (λ j. true) asked old m
  moment_ending m flies quiet grown = record {
    front = (0, front_of m quiet);
    counted = grown;
    kept = (
      in_flight version list count live back.rest run.book run.book last back.id back.empty back.ended (emptied version list count live live_after run.book last after i old mid out between leads back)
          (leads_ending version list count live live_after run.book last after i old mid out between leads back) back.ending,
      twice _ run.book (one_book m 0 (front_of m quiet)),
      each_kept version list count live back.rest run.book run.book last back.id back.empty back.ended (emptied version list count live live_after run.book last after i old mid out between leads back)
          (leads_ending version list count live live_after run.book last after i old mid out between leads back) back.ending (is_of_line live count run asked old m) (λ j d. true && is_of_step live old j d) m
          (λ j d e. not_of_line live count run asked answers old m j d quiet e) (not_held live old) flies,
    );
  }

  abbrev after_ending : BetweenLines version list count back.rest (λ j. false) run.book back.id back.ended.now
  after_ending = stopped version list count live live_after run.book last after i old mid out between leads back

  moment_making : (m : Moment) → EachDir (IsAside i (IsMadeAt version list back.id) back.ended) m → m.said ≡ old.now.said → ((j : ℕ) → faults_at old j ≤ (m.dirs j).faults) → IsStepMoment count run live (λ j. true) asked old m
  moment_making m aside quiet grown = record {
    front = (0, front_of m quiet);
    counted = grown;
    kept = (after_ending.shared, λ b there. one_book m 0 (front_of m quiet) b (subst (λ w. Contains w b) after_ending.window there), record { at = one_kept });
  }
    where
      beside : (j : ℕ) → j < count → j ≢ i → IsKeptDisk after_ending.shared (back.rest j) (back.rest j) (m.dirs j).disk
      beside j below apart = subst (λ (d : Dir). IsKeptDisk after_ending.shared (back.rest j) (back.rest j) d.disk) (sym ((aside.at j).others apart)) ((others_kept version list count live live_after run.book last after i old mid out between leads back).at j below)

      one_kept : (j : ℕ) → j < count → IsKeptDisk after_ending.shared (is_of_line live count run asked old m j (m.dirs j)) (true && is_of_step live old j (m.dirs j)) (m.dirs j).disk
      one_kept j below = elim (eqb_tells j i) [
        | inl is ↦ (
            let gone : live j ≡ false = ap live is.1 ∙ out in
            uncounted after_ending.shared (is_of_line live count run asked old m j (m.dirs j)) (true && is_of_step live old j (m.dirs j)) (m.dirs j).disk
            (not_of_line live count run asked answers old m j (m.dirs j) quiet gone) (not_held live old j (m.dirs j) gone) (made_kept version list count live live_after run.book last after i old mid out between leads back (m.dirs j).disk ((aside.at j).own is.1)))
        | inr differs ↦ (
            let one = beside j below differs.1 in
            let fits : is_of_step live old j (m.dirs j) ≡ true → back.rest j ≡ true = still_there version list count live live_after run.book last after i old mid out between leads back j (m.dirs j) ((aside.at j).others differs.1) in
            record { kept = one.kept; run = λ e. one.run (fits (sym (unsaid_line live count run asked answers old m j (m.dirs j) quiet) ∙ e)); led = λ e. one.led (fits e) })
      ]

  abbrev late : Shared
  late = shared_then version list count live live_after run.book last after i old mid out between leads back

  late_at : (m : Moment) → EachDir (FliesAt version list back.back back.id after back.made) m → AllKept late count (λ j d. back.back j) (λ j d. back.back j) m
  late_at m flies = late_kept version list count live live_after run.book last after i old mid out between leads back m flies

  steps_back : (m : Moment) → EachDir (FliesAt version list back.back back.id after back.made) m → (j : ℕ) → is_of_step live old j (m.dirs j) ≡ true → back.back j ≡ true
  steps_back m flies j e = still_back version list count live live_after run.book last after i old mid out between leads back m flies j e

  moment_beginning : (m : Moment) → EachDir (FliesAt version list back.back back.id after back.made) m → m.said ≡ old.now.said → ((j : ℕ) → faults_at old j ≤ (m.dirs j).faults) → IsStepMoment count run live (λ j. true) asked old m
  moment_beginning m flies quiet grown = record {
    front = (0, front_of m quiet);
    counted = grown;
    kept = (
      late,
      twice _ run.book (one_book m 0 (front_of m quiet)),
      fewer (late_at m flies) (λ j below e. steps_back m flies j (sym (unsaid_line live count run asked answers old m j (m.dirs j) quiet) ∙ e)) (λ j below e. steps_back m flies j e),
    );
  }

  -- while it is answered
  moment_answered : IsBackIn count live_after asked → mid.now.said ≡ old.now.said → ((j : ℕ) → faults_at old j ≤ faults_at mid j) → (m : Moment) → m.dirs ≡ mid.now.dirs → (n : ℕ) → m.said ≡ mid.now.said ++ take n (reply_at count run asked).text
      → IsStepMoment count run live (λ j. true) asked old m
  moment_answered taken quiet grown m same n said = record {
    front = (n, front);
    counted = λ j. subst (λ (dirs : ℕ → Dir). faults_at old j ≤ (dirs j).faults) (sym same) (grown j);
    kept = (late, twice _ run.book (one_book m n front), record { at = one_kept });
  }
    where
      front : m.said ≡ old.now.said ++ take n (reply_at count run asked).text
      front = said ∙ ap (λ x. x ++ take n (reply_at count run asked).text) quiet

      ends : EachDir (FliesAt version list back.back back.id after back.made) mid.now
      ends = back.beginning.each.ends tt

      fits : (j : ℕ) → is_of_step live old j (m.dirs j) ≡ true → back.back j ≡ true
      fits j e = steps_back mid.now ends j (subst (λ (dirs : ℕ → Dir). is_of_step live old j (dirs j) ≡ true) same e)

      counts : (j : ℕ) → j < count → is_of_line live count run asked old m j (m.dirs j) ≡ true → back.back j ≡ true
      counts j below e = elim (line_parts live count run asked old m j (m.dirs j) e) [
        | inl step ↦ fits j step
        | inr it ↦ back.beginning.alive j (taken j below it)
      ]

      one_kept : (j : ℕ) → j < count → IsKeptDisk late (is_of_line live count run asked old m j (m.dirs j)) (true && is_of_step live old j (m.dirs j)) (m.dirs j).disk
      one_kept j below =
          let one = subst (λ (dirs : ℕ → Dir). IsKeptDisk late (back.back j) (back.back j) (dirs j).disk) (sym same) ((late_at mid.now ends).at j below) in
          record { kept = one.kept; run = λ e. one.run (counts j below e); led = λ e. one.led (fits j e) }

  -- ---- all of them

  abbrev InPart : Moment → Type 0
  InPart m = EachDir (IsAside i (StaysBehind (disk_at old i)) old) m ⊎ (EachDir (FliesAt version list live last back.id back.empty) m ⊎ (EachDir (IsAside i (IsMadeAt version list back.id) back.ended) m ⊎ EachDir (FliesAt version list back.back back.id after back.made) m))

  in_parts : Throughout (Unit {0}) old mid InPart
  in_parts = throughout_trans (throughout_weaker back.emptying (λ t m is. inl is))
      (throughout_trans (throughout_weaker back.ending.each (λ t m is. inr (inl is)))
      (throughout_trans (throughout_weaker back.making (λ t m is. inr (inr (inl is)))) (throughout_weaker back.beginning.each (λ t m is. inr (inr (inr is))))))

  moment_of : (m : Moment) → InPart m → m.said ≡ old.now.said → ((j : ℕ) → faults_at old j ≤ (m.dirs j).faults) → IsStepMoment count run live (λ j. true) asked old m
  moment_of m part quiet grown = ⊎_elim
      (λ emptying. moment_emptied version list count live run asked last i old out between leads.unsaved answers same_book m emptying quiet grown)
      (λ later. ⊎_elim
      (λ ending. moment_ending m ending quiet grown)
      (λ last_two. ⊎_elim (λ making. moment_making m making quiet grown) (λ beginning. moment_beginning m beginning quiet grown) last_two)
      later)
      part

  parts_kept : Unspoken (Unit {0}) old mid → CountsRise (Unit {0}) old mid → StepKept (Unit {0}) count run live (λ j. true) asked old mid
  parts_kept quiet rise = throughout_weaker (throughout_both in_parts (throughout_both quiet.each rise)) (λ t m is. moment_of m is.0 is.1.0.said is.1.1)

pub restoring_is_kept : RestoringIsKept
restoring_is_kept version list count live live_after run asked last after i old mid new out between answers same leads back quiet rise taken says = (
  throughout_trans (parts_kept version list count live live_after run asked last after i old mid out between answers same leads back quiet rise)
      (throughout_weaker says (λ t m is. moment_answered version list count live live_after run asked last after i old mid out between answers same leads back taken quiet.now.said (rise.ends tt) m is.0 is.1 is.2)),
  λ higher. between_same mid.now new.now (says.ends tt).0 (begun version list count live live_after run.book last after i old mid out between leads back higher),
)
