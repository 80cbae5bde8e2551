-- How a record that is logged, or a roll, brings the live directories on.
use Rattle.std.proofs.Common.{◌≡◌, inl, inr, ⊎_elim, ℕ, zero, suc, ◌+◌, ◌-◌, ◌<◌, ◌≤◌, nat_le, if◌then◌else◌, Bool, true, false, None, List, [], ◌∷◌, ◌++◌, length, refl, sym, ◌∙◌, ap, subst, arith}
use Rattle.std.proofs.lemmas.Bool.{cases_lt}
use Rattle.std.proofs.lemmas.Bool.Decides.{nat_tests}
use Rattle.nn_base.specs.DirSets.{Members, has}
use Rattle.nn_host.specs.Moments.{Moment, State, disk_at}
use Rattle.nn_marks.specs.declared.version.Version.{Version}
use Rattle.nn_tree.specs.Namespace.{Namespace}
use Rattle.nn_record.specs.declared.op.Op.{Op}
use Rattle.nn_record.specs.declared.transaction.Record.{Record}
use Rattle.nn_record.specs.Spelling.{spelling, IsRecord}
use Rattle.nn_ops.specs.Step.{Fits}
use Rattle.nn_ops.specs.Effects.{effect}
use Rattle.nn_segment_file.specs.Log.{Shared, AgreeTo}
use Rattle.nn_segment_file.specs.Stages.{Stage, Ended, Going, base_of, last_of}
use Rattle.nn_journal.specs.Among.{AllAt, AllAlone, StaysLive, IsDropped}
use Rattle.nn_journal.specs.Carried.{Carried}
use Rattle.nn_journal.specs.declared.journal.JournalSet.{JournalSet}
use Rattle.nn_journal.specs.Places.{Place, place_of, Matches, IsInProgress, IsSteady, HasCome, BringsAhead, BringsLoggedAhead}
use Rattle.nn_journal.specs.Logging.{one_more, next_record}
use Rattle.nn_journal.proofs.CarriedLemmas.{carried_alone}
use Rattle.nn_journal.proofs.LoggingLemmas.{logging_goes_on, longer_list_keeps}
use Rattle.nn_pick.specs.Refusing.{spent_from}
use Rattle.nn_pick.specs.Opening.{Book}
use Rattle.nn_kept.specs.Kept.{Shared as Kept}
use Rattle.nn_kept.specs.Ends.{EndsAt, EndsBetween}
use Rattle.nn_kept.proofs.KeptEndsLemmas.{left_behind_is_kept}
use Rattle.nn_remake.specs.Publishing.{IsWhole}
use Rattle.nn_ckpt.specs.Checkpointed.{HasLastImage}
use Rattle.nn_ckpt.proofs.LoggingLemmas.{logging_keeps_image}
use Rattle.nn_run.specs.Steps.{BetweenLines}
use Rattle.nn_run.specs.Flights.{Flies, Flown, LeadsTo}
use Rattle.nn_core.specs.Standing.{unsaved, AllImaged, GoesFrom, NoneGoes, Stands, Comes}
use Rattle.nn_ckpt.proofs.FlownLemmas.{flown_of}

-- ---- lists

-- a list that goes on with another namespace behind this id
abbrev longer_by : Shared → ℕ → Namespace → Shared
longer_by list last ns = λ n. if nat_le n last then list n else ns

if_true : {A : Type 0} (b : Bool) (x y : A) → b ≡ true → (if b then x else y) ≡ x
if_true true x y e = refl
if_true false x y e = absurd (cc e)

if_false : {A : Type 0} (b : Bool) (x y : A) → b ≡ false → (if b then x else y) ≡ y
if_false true x y e = absurd (cc e)
if_false false x y e = refl

longer_front : (list : Shared) (last : ℕ) (ns : Namespace) (n : ℕ) → n ≤ last → longer_by list last ns n ≡ list n
longer_front list last ns n low = if_true (nat_le n last) (list n) ns (grind (arith, low, nat_tests))

longer_behind : (list : Shared) (last : ℕ) (ns : Namespace) (n : ℕ) → last < n → longer_by list last ns n ≡ ns
longer_behind list last ns n high = if_false (nat_le n last) (list n) ns (grind (arith, high, nat_tests))

-- a steady list has the same namespace from there on
steady_on : (list : Shared) (last : ℕ) → IsSteady list last → (more : ℕ) → list (last + more) ≡ list last
steady_on list last steady zero = let e : last + zero ≡ last = omega arith in ap list e
steady_on list last steady (suc more) = let e : last + suc more ≡ (last + more) + 1 = omega arith in ap list e ∙ steady (last + more) (omega arith) ∙ steady_on list last steady more

-- ---- between two lines by a longer list

-- what directories share, by another list
abbrev by_list : Kept → Shared → Kept
by_list shared list = record { window = shared.window; ids = shared.ids; ns = λ c. list; saved = shared.saved; floor = shared.floor; lead = shared.lead }

relisted : (version : Version) (list longer : Shared) (count : ℕ) (live holders : ℕ → Bool) (book : Book) (last : ℕ) (m : Moment) → AgreeTo list longer last → BetweenLines version list count live holders book last m → BetweenLines version longer count live holders book last m
relisted version list longer count live holders book last m agree between = record {
  shared = by_list between.shared longer;
  window = between.window;
  floor = between.floor;
  lead = between.lead;
  ours = record { namespace = between.ours.namespace; cluster = between.ours.cluster; blockpool = between.ours.blockpool; layout = between.ours.layout };
  ns = refl;
  saved = between.saved;
  room = between.room;
  stands = agree last (omega arith) ∙ between.stands;
  lives = λ i below e. let it = between.lives i below e in record {
    normal = it.normal;
    ends = λ c leaves fair. (let end = it.ends c leaves fair in (end.0, end.1, end.2, subst (λ ns. EndsAt c version (holders i) book.saved (record { last = end.0; ns = ns })) (sym (agree end.0 end.2)) end.3));
  };
  others = λ i below e. let it = between.others i below e in record {
    kept = left_behind_is_kept between.shared (by_list between.shared longer) false false (m.dirs i).disk (record { ids = refl; floor = inr (refl, omega arith); saved = λ c high. inl refl }) it.kept it.behind;
    behind = it.behind;
  };
}

-- ---- where a stage ends

stage_last : (version : Version) (list : Shared) (stage : Stage) (place : Place) → Matches version list stage place → place.last ≡ last_of stage
stage_last version list (Ended end) place is = is.last
stage_last version list (Going base kept) place is = omega (arith, is.last)

-- a live directory ends where its segment does
pub starts_at : (version : Version) (list : Shared) (count : ℕ) (live : ℕ → Bool) (ns : Namespace) (last from : ℕ) (s : State) → last ≡ from → BetweenLines version list count live (λ i. false) (unsaved ns) last s.now → (j : ℕ) → j < count → live j ≡ true → Flies version list from from (disk_at s j)
starts_at version list count live ns last from s same between j below e =
    let it = between.lives j below e in record {
      normal = it.normal;
      ends = subst (λ k. EndsBetween version false None list k k (disk_at s j)) same it.ends;
    }

-- ---- a journal's call

-- who is live behind it was live
carried_live : {told : Type 0} (version : Version) (list : Shared) (from to : Stage) (below : ℕ) (holders live after : Members) (a b : State) → Carried told version list from to below holders live after a b → (j : ℕ) → has after j ≡ true → has live j ≡ true
carried_live version list from to below holders live after a b carried j e = ⊎_elim
    (λ (stays : StaysLive live after a b j). sym stays.same_live ∙ e)
    (λ (dropped : IsDropped live after a b j). dropped.was_among)
    (carried.counted j)

module _ {told : Type 0} (tells : told) (version : Version) (list : Shared) (from : Stage) (journal after : JournalSet) (holders live : Members) (ns ns_after : Namespace) (below : ℕ) (a b : State)
    (come : HasCome told version list from (place_of after) below holders live after.live a b) (low : below < after.last) (same_live : live ≡ journal.live) (last : journal.last ≡ last_of from)
    (among : (j : ℕ) → has journal.live j ≡ true → j < a.count) (before : BetweenLines version list a.count (has journal.live) (λ i. false) (unsaved ns) journal.last a.now)
    (leads : LeadsTo list (unsaved ns) (unsaved ns_after) journal.last after.last) (alone : AllAlone from live a) (imaged : AllImaged version list journal.last journal a) where
  after_last : after.last ≡ last_of come.to
  after_last = stage_last version list come.to (place_of after) come.matches

  flight : Flown (Unit {0}) version list (has live) (has after.live) (last_of from) (last_of come.to) a b
  flight = flown_of tells version list from come.to below holders live after.live a b come.carried (omega (arith, low, after_last))
      (λ j e. let there : has journal.live j ≡ true = ap (λ (set : Members). has set j) (sym same_live) ∙ e in starts_at version list a.count (has journal.live) ns journal.last (last_of from) a last before j (among j there) there)

  -- the journal touches no image
  still_imaged : (j : ℕ) → has after.live j ≡ true → HasLastImage version list after.last (disk_at b j)
  still_imaged j e =
      let there = come_live j e in
      logging_keeps_image version list (base_of from) journal.last after.last (disk_at a j) (disk_at b j) (imaged j (ap (λ (set : Members). has set j) (sym same_live) ∙ there)) onward (((come.carried.any_moment.ends tells).at j).logged there).beside
    where
      come_live : (j : ℕ) → has after.live j ≡ true → has live j ≡ true
      come_live j e = carried_live version list from come.to below holders live after.live a b come.carried j e

      onward : journal.last ≤ after.last
      onward = let grows = come.carried.grows in omega (arith, last, after_last, grows)

  pub comes_by : Comes version journal after ns ns_after a b
  comes_by = record {
    list = list;
    goes = record {
      before = before;
      leads = leads;
      flown = subst (λ (set : Members). Flown (Unit {0}) version list (has set) (has after.live) journal.last after.last a b) same_live
          (subst (λ (k : ℕ). Flown (Unit {0}) version list (has live) (has after.live) k after.last a b) (sym last)
          (subst (λ (k : ℕ). Flown (Unit {0}) version list (has live) (has after.live) (last_of from) k a b) (sym after_last) flight));
    };
    stage = come.to;
    matches = come.matches;
    disks = come.carried.stands tells;
    alone = carried_alone come.carried tells alone;
    images = still_imaged;
  }

-- marks of segments alone: the list is steady
pub leads_steadily : (version : Version) (journal after : JournalSet) (a : State) (ns : Namespace) (stands : Stands version journal ns a) → journal.last ≤ after.last → after.last < spent_from → LeadsTo stands.list (unsaved ns) (unsaved ns) journal.last after.last
leads_steadily version journal after a ns stands rose room = record { unsaved = refl; unsaved_after = refl; between = λ n least most. inl (steady n least); ends = steady after.last rose; room = room }
  where
    is_steady : (stage : Stage) → Matches version stands.list stage (place_of journal) → IsSteady stands.list journal.last
    is_steady (Ended end) is = subst (IsSteady stands.list) (sym is.last) is.steady
    is_steady (Going base kept) is = is.steady

    steady : (n : ℕ) → journal.last ≤ n → stands.list n ≡ ns
    steady n least =
        let e : n ≡ journal.last + (n - journal.last) = omega (arith, least) in
        ap stands.list e ∙ steady_on stands.list journal.last (is_steady stands.stage stands.matches) (n - journal.last) ∙ stands.between.stands

pub rolls_by : {told : Type 0} (journal after : JournalSet) (a b : State) → BringsAhead told (place_of journal) (place_of after) journal.holders journal.live after.live a b → ((j : ℕ) → has journal.live j ≡ true → j < a.count) → journal.last < after.last → after.last < spent_from
    → told → (version : Version) (ns : Namespace) → Stands version journal ns a → Comes version journal after ns ns a b
rolls_by {told} journal after a b brought among rose room tells version ns stands =
    let it = brought version stands.list stands.stage stands.matches (λ t. stands.disks) in
    comes_by tells version stands.list stands.stage journal after journal.holders journal.live ns ns it.0 a b it.2 it.1 refl (stage_last version stands.list stands.stage (place_of journal) stands.matches) among stands.between
    (leads_steadily version journal after a ns stands (omega (arith, rose)) room) stands.alone stands.images

-- what is the same in a journal once a record was logged
pub record Logged (journal logged : JournalSet) (op : Op) : Type 0 where
  pub text : logged.buffer.items ≡ journal.buffer.items ++ spelling (next_record (place_of journal) op)
  pub formed : IsRecord (next_record (place_of journal) op)
  pub last : logged.last ≡ journal.last + 1
  pub live : logged.live ≡ journal.live
  pub going : logged.going ≡ journal.going
  pub first : logged.first ≡ journal.first
  pub size : logged.size ≡ journal.size
  pub header : logged.header ≡ journal.header

module _ {told : Type 0} (journal logged after : JournalSet) (op : Op) (a b : State) (is : Logged journal logged op) (empty : journal.buffer.items ≡ [])
    (brought : BringsLoggedAhead told logged.buffer.items (place_of logged) (place_of after) logged.holders logged.live after.live a b) (among : (j : ℕ) → has journal.live j ≡ true → j < a.count) (onward : logged.last ≤ after.last) (room : after.last < spent_from)
    (tells : told) (ns : Namespace) (fits : Fits ns op) where
  same_place : place_of logged ≡ one_more (place_of journal)
  same_place = λ k. record { going = is.going k; head = is.header k; first = is.first k; last = is.last k; size = is.size k }

  same_text : logged.buffer.items ≡ [] ++ spelling (next_record (place_of journal) op)
  same_text = is.text ∙ ap (λ x. x ++ spelling (next_record (place_of journal) op)) empty

  module _ (version : Version) (list : Shared) (base : ℕ) (kept : List Record) (matches : IsInProgress version list base kept [] [] (place_of journal)) (disks : AllAt version list (Going base kept) journal.live a)
      (alone : AllAlone (Going base kept) journal.live a) (imaged : AllImaged version list journal.last journal a) (between : BetweenLines version list a.count (has journal.live) (λ i. false) (unsaved ns) journal.last a.now) where
    abbrev longer : Shared
    longer = longer_by list journal.last (effect op ns)

    agree : AgreeTo list longer journal.last
    agree n low = longer_front list journal.last (effect op ns) n low

    behind : (n : ℕ) → journal.last < n → longer n ≡ effect op ns
    behind n high = longer_behind list journal.last (effect op ns) n high

    at_last : journal.last ≡ base + length kept
    at_last = omega (arith, matches.last)

    in_progress : IsInProgress version longer base kept (next_record (place_of journal) op ∷ []) logged.buffer.items (place_of logged)
    in_progress = subst (λ (bytes : List ℕ). IsInProgress version longer base kept (next_record (place_of journal) op ∷ []) bytes (place_of logged)) (sym same_text)
        (subst (λ (p : Place). IsInProgress version longer base kept (next_record (place_of journal) op ∷ []) ([] ++ spelling (next_record (place_of journal) op)) p) (sym same_place)
        (logging_goes_on version list longer base kept [] [] (place_of journal) op matches is.formed (subst (λ x. Fits x op) (sym between.stands) fits) agree
        (behind (journal.last + 1) (omega arith) ∙ ap (effect op) (sym between.stands)) (λ n least. behind (n + 1) (omega (arith, least)) ∙ sym (behind n (omega (arith, least))))))

    disks_longer : AllAt version longer (Going base kept) journal.live a
    disks_longer = longer_list_keeps version list longer (Going base kept) journal.live a disks (λ n low. agree n (omega (arith, low, at_last)))

    -- the lists agree up to the last id, and no image is later
    imaged_longer : AllImaged version longer journal.last journal a
    imaged_longer j e = let it = imaged j e in record { id = it.id; whole = subst (λ (n : Namespace). IsWhole version it.id n (disk_at a j)) (sym (agree it.id it.low)) it.whole; low = it.low; later = it.later }

    pub going_comes : Comes version journal after ns (effect op ns) a b
    going_comes =
        let it = brought version longer base kept (next_record (place_of journal) op ∷ []) in_progress (λ t. subst (λ (set : Members). AllAt version longer (Going base kept) set a) (sym is.live) disks_longer) in
        comes_by tells version longer (Going base kept) journal after logged.holders logged.live ns (effect op ns) it.0 a b it.2 it.1 is.live at_last among
        (relisted version list longer a.count (has journal.live) (λ i. false) (unsaved ns) journal.last a.now agree between)
        (record {
          unsaved = refl;
          unsaved_after = refl;
          between = λ n least most. elim (cases_lt journal.last n) [
            | inl past ↦ inr (behind n past)
            | inr front ↦ inl (agree n front ∙ (let e : n ≡ journal.last = omega (arith, front, least) in ap list e) ∙ between.stands)
          ];
          ends = behind after.last (omega (arith, onward, is.last));
          room = room;
        })
        (subst (λ (set : Members). AllAlone (Going base kept) set a) (sym is.live) alone) imaged_longer

  pub logs_by : journal.going ≡ true → (version : Version) → Stands version journal ns a → Comes version journal after ns (effect op ns) a b
  logs_by going version stands = by stands.stage stands.matches stands.disks stands.alone
    where
      by : (stage : Stage) → Matches version stands.list stage (place_of journal) → AllAt version stands.list stage journal.live a → AllAlone stage journal.live a → Comes version journal after ns (effect op ns) a b
      by (Ended end) ended disks alone = absurd (let apart = sym going ∙ ended.going in cc)
      by (Going base kept) matches disks alone = going_comes version stands.list base kept matches disks alone stands.images stands.between

-- ---- the segments of the live directories

-- where one is in progress, it is the only one, and seen_txid holds its first id
pub going_from : (version : Version) (list : Shared) (stage : Stage) (journal : JournalSet) (s : State) → Matches version list stage (place_of journal) → AllAt version list stage journal.live s → AllAlone stage journal.live s → journal.going ≡ true
    → (j : ℕ) → has journal.live j ≡ true → GoesFrom journal.first (disk_at s j)
going_from version list (Ended end) journal s matches disks alone going j e = absurd (let apart = sym going ∙ matches.going in cc)
going_from version list (Going base kept) journal s matches disks alone going j e =
    let is = disks j e in
    subst (λ (first : ℕ). GoesFrom first (disk_at s j)) (sym matches.first)
    (record { file = is.writes.file; stands = is.writes.stands; others = λ other ranged differs. alone j e other ranged differs; seen = is.seen })

-- where none is, there is none
pub going_none : (version : Version) (list : Shared) (stage : Stage) (journal : JournalSet) (s : State) → Matches version list stage (place_of journal) → AllAlone stage journal.live s → journal.going ≡ false
    → (j : ℕ) → has journal.live j ≡ true → NoneGoes (disk_at s j)
going_none version list (Ended end) journal s matches alone closed j e = λ first ranged. alone j e first ranged (λ begun. begun)
going_none version list (Going base kept) journal s matches alone closed j e = absurd (let apart = sym closed ∙ matches.going in cc)
