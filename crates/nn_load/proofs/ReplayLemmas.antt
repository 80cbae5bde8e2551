-- Records that are replayed one after the other, as they stand at the front of a segment.
use Rattle.std.proofs.Common.{◌≡◌, ◌⊎◌, inl, inr, ℕ, ◌+◌, ◌-◌, ◌<◌, ◌≤◌, true, false, Bool, List, [], ◌∷◌, ◌++◌, length, take, drop, Option, Some, None, ℤ, Result, Ok, Err, refl, sym, ◌∙◌, ap, subst, append_assoc, arith, length-append}
use Rattle.std.specs.Prelude.{Contains, IfOk}
use Rattle.std.proofs.lemmas.List.{append-nil, get_or_push}
use Rattle.std.proofs.lemmas.List.Elements.{Contains-append_left}
use Rattle.std.proofs.lemmas.Grind.{flat_map-append}
use Rattle.nn_record.specs.declared.transaction.Record.{Record}
use Rattle.nn_record.specs.Spelling.{spelling, IsRecord}
use Rattle.nn_record.proofs.RecordLemmas.{none_begins_another}
use Rattle.nn_ops.specs.Step.{Fits}
use Rattle.nn_segment.specs.Segment.{has_header, spelled, AreFrom, IsIntactRun}
use Rattle.nn_segment.specs.Reaching.{IsNext, NoneNext, BeginWith, IsWhole}
use Rattle.nn_segment.proofs.RunLemmas.{one_spelled, rest_is, id_at, whole_is_intact, nothing_is_intact}
use Rattle.nn_segment.proofs.ReachLemmas.{Reached as Read, nothing_reached, more_reached, whole_reached}
use Rattle.nn_chain.specs.Chain.{Reached, after}
use Rattle.nn_load.specs.Replaying.{Plays, Clashes, UpTo, AreReplayed, IsPassed, IsWanted, IsTried, Advances}

-- ---- replaying

pub plays_weaker : (P Q : Record → Type 0) (at end : Reached) (rs : List Record) → ((r : Record) → at.last < r.id → P r → Q r) → Plays P at rs end → Plays Q at rs end
plays_weaker P Q at end [] weaker p = p
plays_weaker P Q at end (r ∷ rs) weaker p =
    let lower : at.last < r.id = omega (arith, p.1) in
    (weaker r lower p.0, p.1, p.2, plays_weaker P Q (after r at) end rs (λ q above has. weaker q (omega (arith, lower, above)) has) p.3)

plays_more : (P : Record → Type 0) (start at : Reached) (rs : List Record) (r : Record) → Plays P start rs at → P r → r.id ≡ at.last + 1 → Fits at.ns r.op → Plays P start (rs ++ r ∷ []) (after r at)
plays_more P start at [] r p has next fits = (has, next ∙ ap (λ (x : Reached). x.last + 1) p, subst (λ (x : Reached). Fits x.ns r.op) p fits, ap (after r) p)
plays_more P start at (q ∷ rs) r p has next fits = (p.0, p.1, p.2, plays_more P (after q start) at rs r p.3 has next fits)

-- ---- records at the front

-- records from the first id on stand at the front, and this is one of them
pub record IsAtFront (bytes : List ℕ) (first : ℕ) (r : Record) : Type 0 where
  pub rs : List Record
  pub begin : BeginWith bytes first rs
  pub has : Contains rs r

from_more : (first : ℕ) (rs : List Record) (r : Record) → AreFrom first rs → IsRecord r → r.id ≡ first + length rs → AreFrom first (rs ++ r ∷ [])
from_more first [] r from is e = (omega (arith, e), is, tt)
from_more first (q ∷ rs) r from is e = (from.0, from.1, from_more (first + 1) rs r from.2 is (omega (arith, e)))

spelled-more : (rs : List Record) (r : Record) → spelled (rs ++ r ∷ []) ≡ spelled rs ++ spelling r
unfolding spelled
spelled-more rs r = flat_map-append spelling rs (r ∷ []) ∙ ap (λ t. spelled rs ++ t) (append-nil (spelling r))

-- the next record is one of them
next_at_front : (bytes : List ℕ) (first : ℕ) (seen : Option ℕ) (end next len : ℕ) (r : Record) → Read bytes first seen end next → IsNext (take (length bytes - end) (drop end bytes)) next r len → IsAtFront bytes first r
next_at_front bytes first seen end next len r read found =
    let at = subst (λ (t : List ℕ). IsNext t next r len) (rest_is bytes end) found in
    let rest = drop len (drop end bytes) in
    record {
      rs = read.rs ++ r ∷ [];
      begin = record {
        ids = from_more first read.rs r read.ids at.begins.formed (at.id_is ∙ read.count);
        after = rest;
        text = read.text ∙ ap (λ t. spelled read.rs ++ t) at.begins.text ∙ sym (append_assoc (spelled read.rs) (spelling r) rest) ∙ ap (λ t. t ++ rest) (sym (spelled-more read.rs r));
      };
      has = (length read.rs, omega (arith, length-append read.rs (r ∷ [])), get_or_push read.rs r r (length read.rs) refl);
    }

-- of two lists of records at the front the shorter is a front of the longer
front_of : (first : ℕ) (rs qs : List Record) (rest after : List ℕ) → AreFrom first rs → AreFrom first qs → spelled rs ++ rest ≡ spelled qs ++ after → length rs ≤ length qs → (more : List Record) × (qs ≡ rs ++ more)
front_of first [] qs rest after rs_from qs_from e few = (qs, refl)
front_of first (r ∷ rs) [] rest after rs_from qs_from e few = absurd (omega arith)
front_of first (r ∷ rs) (q ∷ qs) rest after rs_from qs_from e few =
    let same = none_begins_another r q (spelled rs ++ rest) (spelled qs ++ after) rs_from.1 qs_from.1 (sym (one_spelled r rs rest) ∙ e ∙ one_spelled q qs after) in
    let more = front_of (first + 1) rs qs rest after rs_from.2 qs_from.2 same.1 (omega arith) in
    (more.0, λ i. sym same.0 i ∷ more.1 i)

-- all that stand at the front are among the longest
pub in_whole : (bytes : List ℕ) (first : ℕ) (run : List Record) (r : Record) → IsWhole bytes first run → IsAtFront bytes first r → Contains run r
in_whole bytes first run r whole front =
    let part = front_of first front.rs run front.begin.after whole.begin.after front.begin.ids whole.begin.ids (sym front.begin.text ∙ whole.begin.text) (whole.longest front.rs front.begin) in
    subst (λ (rs : List Record). Contains rs r) (sym part.1) (Contains-append_left front.rs part.0 r front.has)

-- ---- the walk over the records of a segment

-- so far it has come, and so far they led
pub record Walk (bytes : List ℕ) (first until : ℕ) (start : Reached) (end next : ℕ) (at : Reached) (fit : Bool) : Type 0 where
  pub seen : Option ℕ
  pub read : Read bytes first seen end next
  pub records : List Record
  pub plays : Plays (UpTo (IsAtFront bytes first) until) start records at
  pub reach : fit ≡ true → (next ≤ at.last + 1) ⊎ (at.last ≡ until)
  pub clash : fit ≡ false → Clashes (UpTo (IsAtFront bytes first) until) at
  pub above : start.last ≤ at.last
  pub within : at.last ≤ until

pub walk_begins : (bytes : List ℕ) (first until : ℕ) (start : Reached) → first ≤ start.last + 1 → start.last < until → Walk bytes first until start 0 first start true
walk_begins bytes first until start begun room = record {
  seen = None;
  read = nothing_reached bytes first;
  records = [];
  plays = refl;
  reach = λ e. inl begun;
  clash = λ e. cc;
  above = omega arith;
  within = omega arith;
}

module _ (bytes : List ℕ) (first until : ℕ) (start : Reached) (end next : ℕ) (at : Reached) (fit : Bool) (walk : Walk bytes first until start end next at fit) where
  -- the next record wasn't wanted
  walk_passes : (len : ℕ) (r : Record) (to : Reached) (fit_then : Bool) → IsNext (take (length bytes - end) (drop end bytes)) next r len → IsPassed until r.id at to fit fit_then → Walk bytes first until start (end + len) (next + 1) at fit
  walk_passes len r to fit_then found passed = record {
    seen = Some next;
    read = more_reached bytes first walk.seen end next len r walk.read found;
    records = walk.records;
    plays = walk.plays;
    reach = λ e. elim passed.unwanted [
      | inl unfit ↦ cc
      | inr other ↦ elim other [
        | inl low ↦ inl (omega (arith, low, found.id_is))
        | inr high ↦ elim (walk.reach e) [ inl near ↦ inr (omega (arith, high, found.id_is, near, walk.within)) | inr full ↦ inr full ]
      ]
    ];
    clash = walk.clash;
    above = walk.above;
    within = walk.within;
  }

  -- the record that is wanted has the id that comes next
  wanted_next : (id : ℕ) → id ≡ next → IsWanted until id at fit → id ≡ at.last + 1
  wanted_next id is wanted = elim (walk.reach wanted.fit) [
    | inl near ↦ omega (arith, is, near, wanted.above)
    | inr full ↦ absurd (omega (arith, full, wanted.above, wanted.within))
  ]

  walk_tries : (len : ℕ) (r : Record) (to : Reached) (fits : Bool) → IsNext (take (length bytes - end) (drop end bytes)) next r len → IsWanted until r.id at fit → IsTried r at to fits → Walk bytes first until start (end + len) (next + 1) to fits
  walk_tries len r to true found wanted tried =
      let is = wanted_next r.id found.id_is wanted in
      let has : UpTo (IsAtFront bytes first) until r = (next_at_front bytes first walk.seen end next len r walk.read found, wanted.within) in
      let on : Walk bytes first until start (end + len) (next + 1) (after r at) true = record {
        seen = Some next;
        read = more_reached bytes first walk.seen end next len r walk.read found;
        records = walk.records ++ r ∷ [];
        plays = plays_more (UpTo (IsAtFront bytes first) until) start at walk.records r walk.plays has is tried.0;
        reach = λ e. inl (omega (arith, found.id_is));
        clash = λ e. cc;
        above = omega (arith, walk.above, wanted.above);
        within = wanted.within;
      } in
      subst (λ (x : Reached). Walk bytes first until start (end + len) (next + 1) x true) (sym tried.1) on
  walk_tries len r to false found wanted tried =
      let is = wanted_next r.id found.id_is wanted in
      let has : UpTo (IsAtFront bytes first) until r = (next_at_front bytes first walk.seen end next len r walk.read found, wanted.within) in
      let on : Walk bytes first until start (end + len) (next + 1) at false = record {
        seen = Some next;
        read = more_reached bytes first walk.seen end next len r walk.read found;
        records = walk.records;
        plays = walk.plays;
        reach = λ e. cc;
        clash = λ e. record { r = r; has = has; next = is; unfit = tried.0 };
        above = walk.above;
        within = walk.within;
      } in
      subst (λ (x : Reached). Walk bytes first until start (end + len) (next + 1) x false) (sym tried.1) on

  pub walk_goes_on : (len : ℕ) (r : Record) (to : Reached) (fit_then : Bool) → IsNext (take (length bytes - end) (drop end bytes)) next r len → Advances until r at to fit fit_then → Walk bytes first until start (end + len) (next + 1) to fit_then
  walk_goes_on len r to fit_then found advance = elim advance [
    | inl passed ↦
        let same = walk_passes len r to fit_then found passed in
        subst (λ (b : Bool). Walk bytes first until start (end + len) (next + 1) to b) (sym passed.same_fit) (subst (λ (x : Reached). Walk bytes first until start (end + len) (next + 1) x fit) (sym passed.same) same)
    | inr wanted ↦ walk_tries len r to fit_then found wanted.0 wanted.1
  ]

  -- no further record is there
  pub walk_ends : NoneNext (take (length bytes - end) (drop end bytes)) next → (run : List Record) × IsWhole bytes first run × AreReplayed (Contains run) until start at fit
  walk_ends none =
      let run = walk.read.rs in
      let whole = whole_reached bytes first walk.seen end next walk.read none in
      let inside : (r : Record) → UpTo (IsAtFront bytes first) until r → UpTo (Contains run) until r = λ r has. (in_whole bytes first run r whole has.0, has.1) in
      let low : (r : Record) → Contains run r → r.id < next = λ r has. omega (arith, id_at first run has.0 r walk.read.ids has.1, ap (λ (x : Record). x.id) has.2, has.1, walk.read.count) in (
        run,
        whole,
        record {
          records = walk.records;
          plays = plays_weaker (UpTo (IsAtFront bytes first) until) (UpTo (Contains run) until) start at walk.records (λ r above has. inside r has) walk.plays;
          all = λ e. elim (walk.reach e) [ inl near ↦ inl (λ r has. omega (arith, near, low r has)) | inr full ↦ inr full ];
          clash = λ e. let found = walk.clash e in record { r = found.r; has = inside found.r found.has; next = found.next; unfit = found.unfit };
        },
      )

-- ---- the run of a segment

-- there is nothing to replay
pub none_replayed : (P : Record → Type 0) (until : ℕ) (start : Reached) → ((r : Record) → ¬ P r) → AreReplayed P until start start true
none_replayed P until start none = record { records = []; plays = refl; all = λ e. inl (λ r has. absurd (none r has)); clash = λ e. cc }

pub no_run : (bytes : List ℕ) (layout : ℤ) (first until : ℕ) (start : Reached) → has_header bytes layout ≡ false → (run : List Record) × IsIntactRun bytes layout first run × AreReplayed (Contains run) until start start true
no_run bytes layout first until start unseen = ([], nothing_is_intact bytes layout first unseen, none_replayed (Contains []) until start (λ r has. omega (arith, has.1)))

pub run_behind_header : {E : Type 0} (bytes records : List ℕ) (layout : ℤ) (first : ℕ) {T : Type 0} (Q : List Record → T → Type 0) (result : Result T E) → has_header bytes layout ≡ true → records ≡ drop 8 bytes
    → IfOk result (λ x. (run : List Record) × IsWhole records first run × Q run x) → IfOk result (λ x. (run : List Record) × IsIntactRun bytes layout first run × Q run x)
run_behind_header bytes records layout first Q (Ok x) seen behind found = (found.0, whole_is_intact bytes layout first found.0 seen (subst (λ (t : List ℕ). IsWhole t first found.0) behind found.1), found.2)
run_behind_header bytes records layout first Q (Err e) seen behind found = tt
