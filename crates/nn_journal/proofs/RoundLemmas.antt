-- Rounds until no directory is dropped.
use Rattle.std.proofs.Common.{◌≡◌, ◌≢◌, ◌⊎◌, inl, inr, ⊎_elim, ℕ, suc, ◌+◌, ◌*◌, ◌<◌, ◌≤◌, ◌==◌, ◌&&◌, ◌||◌, not, Bool, true, false, cond, [], refl, sym, ◌∙◌, ap, subst, arith, vec_capacity}
use mathlib.Core.Bool.{beq}
use Rattle.std.specs.Cmp.Lexicographic.{pointwise}
use Rattle.std.proofs.Math.Bool.{or-false}
use Rattle.std.proofs.lemmas.Bool.{and_parts, cases_Bool}
use Rattle.std.proofs.lemmas.Bool.Decides.{eqb_tells}
use Rattle.nn_base.specs.DirSets.{Members, values, has, count_of}
use Rattle.nn_base.proofs.DirSetLemmas.{same_members, equal_sets, other_sets, fewer, not_more, at_most_eight}
use Rattle.nn_host.specs.Moments.{State, moment}
use Rattle.nn_journal.specs.Among.{EachCounted}
use Rattle.nn_journal.specs.Places.{Place, Brings, BringsAhead, Went, most_buffer, most_unended, full_segment, place_of}
use Rattle.nn_journal.specs.Finalizing.{Finalizes}
use Rattle.nn_journal.specs.Rolling.{CallsWithin, HasSettled}
use Rattle.nn_journal.specs.declared.journal.JournalSet.{JournalSet}
use Rattle.nn_journal.proofs.AllLemmas.{not_true}
use Rattle.nn_journal.proofs.CarriedLemmas.{still_live}
use Rattle.nn_journal.proofs.BringsLemmas.{brings_none, brings_both, brings_lower, brings_on, ahead_on, finalized_then, idle_base, going_base, went_refl, went_both}

-- ---- two sets are compared

not_false : (b : Bool) → not b ≡ false → b ≡ true
not_false true e = refl
not_false false e = cc

pub apart_sets : (a b : Members) (same : Bool) → same ≡ pointwise beq (values a) (values b) → not same ≡ true → a ≢ b
apart_sets a b same is apart = other_sets a b (sym is ∙ not_true same apart)

pub one_set : (a b : Members) (same : Bool) → same ≡ pointwise beq (values a) (values b) → not same ≡ false → a ≡ b
one_set a b same is one = equal_sets a b (sym is ∙ not_false same one)

-- two that are true together are the same
as_true : (x y : Bool) → (x ≡ true → y ≡ true) → (y ≡ true → x ≡ true) → x ≡ y
as_true true true up down = refl
as_true true false up down = sym (up refl)
as_true false true up down = down refl
as_true false false up down = refl

-- none was dropped in the end, so none was by the step
none_dropped : {live0 live1 live2 : Members} {a b c : State} → EachCounted live0 live0 live1 a b → EachCounted live1 live1 live2 b c → live2 ≡ live0 → live1 ≡ live0
none_dropped {live0} {live1} {live2} counted later same = same_members live1 live0 (λ j. as_true (has live1 j) (has live0 j) (still_live counted j) (λ is. still_live later j (ap (λ (s : Members). has s j) same ∙ is)))

-- ---- the rounds so far

-- how low the dropped ones are: strictly below the last id where no round follows
abbrev pub IsLow : Bool → ℕ → ℕ → Type 0
IsLow true below last = below ≤ last
IsLow false below last = below < last

-- no round was made yet
pub record HasBegun (p0 : Place) (live0 : Members) (p : Place) (live : Members) (a b : State) : Type 0 where
  pub same_place : p ≡ p0
  pub same_live : live ≡ live0
  pub same_state : b ≡ a

-- the first round has ended the segment that was in progress
pub record HasEndedFirst (told : Type 0) (p0 : Place) (live0 : Members) (p : Place) (live : Members) (a b : State) : Type 0 where
  pub later : p0.last < p.last
  pub begins : p.going ≡ true → p.first ≡ p.last
  pub ended : Finalizes told p0 live0 live a b

pub record Rolling (told : Type 0) (holders : Members) (p0 : Place) (live0 : Members) (again : Bool) (p : Place) (live : Members) (a b : State) : Type 0 where
  pub went : Went told live0 live a b
  pub since : p0.last ≤ p.last
  pub rose : again ≡ false → p0.last < p.last
  pub ids : p.last + 2 * count_of live ≤ p0.last + 2 + 2 * count_of live0
  pub ids_again : again ≡ true → p.last + 2 * count_of live ≤ p0.last + 2 * count_of live0
  pub low : (below : ℕ) × IsLow again below p.last × Brings told p0 p below holders live0 live a b
  pub ended : HasBegun p0 live0 p live a b ⊎ HasEndedFirst told p0 live0 p live a b
  pub calls : told → again ≡ false → moment b + 80 * count_of live ≤ moment a + 90 * count_of live0
  pub calls_again : told → again ≡ true → moment b + 90 * count_of live ≤ moment a + 90 * count_of live0

rolling_begins : {told : Type 0} {holders live : Members} {p : Place} {a : State} → Rolling told holders p live true p live a a
rolling_begins {told} {holders} {live} {p} {a} = record {
  went = went_refl;
  since = omega arith;
  rose = λ is. absurd (let apart = is in cc);
  ids = omega arith;
  ids_again = λ is. omega arith;
  low = (p.last, omega arith, brings_none p p.last);
  ended = inl (record { same_place = refl; same_live = refl; same_state = refl });
  calls = λ tells is. absurd (let apart = is in cc);
  calls_again = λ tells is. omega arith;
}

-- a round, with what it ends and how many calls it makes
record Rounds (told : Type 0) (holders : Members) (p : Place) (live : Members) (p2 : Place) (live2 : Members) (b c : State) : Type 0 where
  brings : Brings told p p2 p2.last holders live live2 b c
  went : Went told live live2 b c
  two : p2.last ≡ p.last + 2
  begins : p2.going ≡ true → p2.first ≡ p2.last
  ended : Finalizes told p live live2 b c
  calls : told → moment c ≤ moment b + 10 * count_of live

module _ {told : Type 0} {holders live0 live live2 : Members} {p0 p p2 : Place} {a b c : State} (before : Rolling told holders p0 live0 true p live a b) (round : Rounds told holders p live p2 live2 b c) (going : p.going ≡ p0.going) where
  ended_on : HasBegun p0 live0 p live a b ⊎ HasEndedFirst told p0 live0 p live a b → Finalizes told p0 live0 live2 a c
  ended_on (inl fresh) = subst (λ (x : Place). Finalizes told x live0 live2 a c) fresh.same_place (subst (λ (s : Members). Finalizes told p s live2 a c) fresh.same_live (subst (λ (x : State). Finalizes told p live live2 x c) fresh.same_state round.ended))
  ended_on (inr first) = finalized_then first.ended before.low.2 (brings_on p2.last round.brings)
      (λ version list stage m is order. let goes = going ∙ is in omega (arith, going_base version list p stage m goes, first.begins goes, first.later, order))

  first_ended : HasEndedFirst told p0 live0 p2 live2 a c
  first_ended = record { later = omega (arith, before.since, round.two); begins = round.begins; ended = ended_on before.ended }

  rolling_on : (again : Bool) → (again ≡ true → live2 ≢ live) → (again ≡ false → live2 ≡ live) → Rolling told holders p0 live0 again p2 live2 a c
  rolling_on true apart one =
      let less : count_of live2 < count_of live = fewer live live2 (still_live round.went.counted) (apart refl) in
      let low = before.ids_again refl in
      let two = round.two in
      record {
        went = went_both before.went round.went;
        since = omega (arith, before.since, two);
        rose = λ is. omega (arith, before.since, two);
        ids = omega (arith, less, low, two);
        ids_again = λ is. omega (arith, less, low, two);
        low = (p2.last, omega arith, brings_both p2.last (omega (arith, before.low.1, two)) (omega arith) before.low.2 round.brings);
        ended = inr first_ended;
        calls = λ tells is. absurd (let apart = is in cc);
        calls_again = λ tells is. omega (arith, less, at_most_eight live, round.calls tells, before.calls_again tells refl);
      }
  rolling_on false apart one =
      let same : live2 ≡ live = one refl in
      let low = before.ids_again refl in
      let two = round.two in
      record {
        went = went_both before.went round.went;
        since = omega (arith, before.since, two);
        rose = λ is. omega (arith, before.since, two);
        ids = omega (arith, ap count_of same, low, two);
        ids_again = λ is. absurd (let apart = is in cc);
        low = (before.low.0, omega (arith, before.low.1, two), brings_both before.low.0 (omega arith) (omega arith) before.low.2 (brings_lower before.low.0 same round.brings));
        ended = inr first_ended;
        calls = λ tells is. omega (arith, round.calls tells, before.calls_again tells refl, ap count_of same);
        calls_again = λ tells is. absurd (let apart = is in cc);
      }

-- ---- a journal in its rounds

pub record InRounds (told : Type 0) (j0 j : JournalSet) (again : Bool) (a b : State) : Type 0 where
  pub rolling : Rolling told j0.holders (place_of j0) j0.live again (place_of j) j.live a b
  pub empty : j.buffer.items ≡ []
  pub room : most_buffer ≤ vec_capacity j.buffer
  pub holders : j.holders ≡ j0.holders
  pub header : j.header ≡ j0.header
  pub going : j.going ≡ j0.going
  pub order : j.going ≡ true → j.first ≤ j.last
  pub small : j.size ≤ most_unended
  pub below : (i : ℕ) → has j.live i ≡ true → i < b.count
  pub placed : again ≡ false → (j.first ≤ j.last) × (j.size ≤ full_segment) × (j.going ≡ true → j.first ≡ j.last)

pub rounds_begin : {told : Type 0} {a : State} (j : JournalSet) → ((i : ℕ) → has j.live i ≡ true → i < a.count) → j.buffer.items ≡ [] → most_buffer ≤ vec_capacity j.buffer → (j.going ≡ true → j.first ≤ j.last) → j.size ≤ most_unended → InRounds told j j true a a
rounds_begin j below empty room order small = record {
  rolling = rolling_begins;
  empty = empty;
  room = room;
  holders = refl;
  header = refl;
  going = refl;
  order = order;
  small = small;
  below = below;
  placed = λ is. absurd (let apart = is in cc);
}

module _ {told : Type 0} {j0 j : JournalSet} {again : Bool} {a b c : State} (j2 : JournalSet) (before : InRounds told j0 j again a b) (is : again ≡ true) (round : Brings told (place_of j) (place_of j2) j2.last j.holders j.live j2.live b c) (went : Went told j.live j2.live b c)
    (place : (j2.going ≡ j.going) × (j2.last ≡ j.last + 2) × (j2.first ≤ j2.last) × (j2.size ≤ full_segment)) (begins : j2.going ≡ true → j2.first ≡ j2.last) (ended : Finalizes told (place_of j) j.live j2.live b c) (calls : told → moment c ≤ moment b + 10 * count_of j.live) where
  one_round : Rounds told j0.holders (place_of j) j.live (place_of j2) j2.live b c
  one_round = record { brings = subst (λ (h : Members). Brings told (place_of j) (place_of j2) j2.last h j.live j2.live b c) before.holders round; went = went; two = place.1; begins = begins; ended = ended; calls = calls }

  rolled : (next : Bool) → (next ≡ true → j2.live ≢ j.live) → (next ≡ false → j2.live ≡ j.live) → Rolling told j0.holders (place_of j0) j0.live next (place_of j2) j2.live a c
  rolled next apart one = rolling_on (subst (λ (x : Bool). Rolling told j0.holders (place_of j0) j0.live x (place_of j) j.live a b) is before.rolling) one_round before.going next apart one

  pub rounds_on : (next : Bool) → (next ≡ true → j2.live ≢ j.live) → (next ≡ false → j2.live ≡ j.live) → j2.buffer.items ≡ [] → most_buffer ≤ vec_capacity j2.buffer → (j2.holders ≡ j.holders) × (j2.header ≡ j.header)
      → ((i : ℕ) → has j2.live i ≡ true → i < c.count) → InRounds told j0 j2 next a c
  rounds_on next apart one empty room kept below = record {
    rolling = rolled next apart one;
    empty = empty;
    room = room;
    holders = kept.0 ∙ before.holders;
    header = kept.1 ∙ before.header;
    going = place.0 ∙ before.going;
    order = λ going. place.2;
    small = omega (arith, place.3);
    below = below;
    placed = λ done. (place.2, place.3, begins);
  }

-- the next round has fewer directories
pub falls : {told : Type 0} {live live2 : Members} {b c : State} {again : Bool} → again ≡ true → Went told live live2 b c → (next : Bool) → (next ≡ true → live2 ≢ live) → suc (cond next (count_of live2 + 1) 0) ≤ cond again (count_of live + 1) 0
falls {live = live} {live2 = live2} is went true apart =
    let less = fewer live live2 (still_live went.counted) (apart refl) in
    subst (λ (x : Bool). suc (count_of live2 + 1) ≤ cond x (count_of live + 1) 0) (sym is) (omega (arith, less))
falls {live = live} is went false apart = subst (λ (x : Bool). 1 ≤ cond x (count_of live + 1) 0) (sym is) (omega arith)

pub rounds_ahead : {told : Type 0} {holders live0 live : Members} {p0 p : Place} {again : Bool} {a b : State} → again ≡ false → Rolling told holders p0 live0 again p live a b → BringsAhead told p0 p holders live0 live a b
rounds_ahead {told} {holders} {live0} {live} {p0} {p} {again} {a} {b} is rolling version list from m start =
    let low = (subst (λ (x : Bool). Rolling told holders p0 live0 x p live a b) is rolling).low in (low.0, low.1, low.2 version list from m start)

module _ {told : Type 0} {holders live0 live : Members} {p0 p : Place} {again : Bool} {a b : State} (is : again ≡ false) (rolling : Rolling told holders p0 live0 again p live a b) where
  ended_by : HasBegun p0 live0 p live a b ⊎ HasEndedFirst told p0 live0 p live a b → Finalizes told p0 live0 live a b
  ended_by (inl fresh) = absurd (omega (arith, rolling.rose is, ap (λ (x : Place). x.last) fresh.same_place))
  ended_by (inr first) = first.ended

  pub rounds_ended : Finalizes told p0 live0 live a b
  rounds_ended = ended_by rolling.ended

  pub rounds_calls : CallsWithin told 10 live0 live a b
  rounds_calls tells = omega (arith, rolling.calls tells is)

-- ---- what follows a step

module _ {told : Type 0} {p1 p2 : Place} {holders live1 live2 : Members} {b c : State} where
  -- after a step that would have no round but for a drop
  pub settled_ids : {live0 : Members} {a : State} (again : Bool) → EachCounted live0 live0 live1 a b → (again ≡ true → live1 ≢ live0) → HasSettled again told p1 p2 holders live1 live2 b c → p2.last + 2 * count_of live2 ≤ p1.last + 2 * count_of live0
  settled_ids {live0} true counted apart settled = let less = fewer live0 live1 (still_live counted) (apart refl) in omega (arith, less, (settled.rolled refl).ids)
  settled_ids {live0} false counted apart settled = omega (arith, ap (λ (p : Place). p.last) (settled.stayed refl).0, ap count_of (settled.stayed refl).1, not_more live0 live1 (still_live counted))

  -- after one that may have one for another reason
  pub settled_ids_more : {live0 : Members} {a : State} (again : Bool) → EachCounted live0 live0 live1 a b → HasSettled again told p1 p2 holders live1 live2 b c → p2.last + 2 * count_of live2 ≤ p1.last + 2 + 2 * count_of live0
  settled_ids_more {live0} true counted settled = omega (arith, (settled.rolled refl).ids, not_more live0 live1 (still_live counted))
  settled_ids_more {live0} false counted settled = omega (arith, ap (λ (p : Place). p.last) (settled.stayed refl).0, ap count_of (settled.stayed refl).1, not_more live0 live1 (still_live counted))

  -- how many calls: a step that has a round only after a drop, or for another reason too
  module _ {live0 : Members} {a : State} (n : ℕ) (again : Bool) (made : told → moment b ≤ moment a + n) (counted : EachCounted live0 live0 live1 a b) where
    pub settled_calls : (again ≡ true → live1 ≢ live0) → HasSettled again told p1 p2 holders live1 live2 b c → told → moment c + 80 * count_of live2 ≤ moment a + n + 80 * count_of live0
    settled_calls apart settled tells = elim (cases_Bool again) [
      | inl is ↦ omega (arith, made tells, fewer live0 live1 (still_live counted) (apart is), at_most_eight live0, (settled.rolled is).calls tells)
      | inr is ↦ omega (arith, made tells, not_more live0 live1 (still_live counted), ap moment (settled.stayed is).2, ap count_of (settled.stayed is).1)
    ]

    pub settled_calls_more : HasSettled again told p1 p2 holders live1 live2 b c → told → moment c + 80 * count_of live2 ≤ moment a + n + 90 * count_of live0
    settled_calls_more settled tells = elim (cases_Bool again) [
      | inl is ↦ omega (arith, made tells, not_more live0 live1 (still_live counted), (settled.rolled is).calls tells)
      | inr is ↦ omega (arith, made tells, not_more live0 live1 (still_live counted), ap moment (settled.stayed is).2, ap count_of (settled.stayed is).1)
    ]

-- nothing was done after a step that dropped none and left no full segment
pub settled_none : {told : Type 0} {p1 p2 : Place} {holders live0 live1 live2 : Members} {a b c : State} (again : Bool) (size : ℕ) → (again ≡ true → (live1 ≢ live0) ⊎ (full_segment < size)) → size ≤ full_segment → EachCounted live0 live0 live1 a b → EachCounted live1 live1 live2 b c → live2 ≡ live0
    → HasSettled again told p1 p2 holders live1 live2 b c → (p2 ≡ p1) × (live2 ≡ live1) × (c ≡ b)
settled_none true size why small counted later same settled = absurd (⊎_elim (λ ne. ne (none_dropped counted later same)) (λ full. omega (arith, full, small)) (why refl))
settled_none false size why small counted later same settled = settled.stayed refl

module _ {told : Type 0} {p1 p2 : Place} {holders live1 live2 : Members} {b c : State} where
  pub settled_since : (again : Bool) → HasSettled again told p1 p2 holders live1 live2 b c → p1.last ≤ p2.last
  settled_since true settled = omega (arith, (settled.rolled refl).rose)
  settled_since false settled = omega (arith, ap (λ (p : Place). p.last) (settled.stayed refl).0)

  pub settled_begins : (again : Bool) → HasSettled again told p1 p2 holders live1 live2 b c → p1.first ≡ p1.last → p2.going ≡ true → p2.first ≡ p2.last
  settled_begins true settled begins going = (settled.rolled refl).begins going
  settled_begins false settled begins going = ap (λ (p : Place). p.first) (settled.stayed refl).0 ∙ begins ∙ sym (ap (λ (p : Place). p.last) (settled.stayed refl).0)

  -- the segment that was ended before stays so
  pub settled_ended : {p0 : Place} {b1 : ℕ} {live0 : Members} {a : State} (again : Bool) → p1.going ≡ false → p1.last ≡ p0.last + 1 → Finalizes told p0 live0 live1 a b → Brings told p0 p1 b1 holders live0 live1 a b → HasSettled again told p1 p2 holders live1 live2 b c → Finalizes told p0 live0 live2 a c
  settled_ended true idle next ended one settled = finalized_then ended one (ahead_on (settled.rolled refl).ahead) (λ version list stage m going order. omega (arith, idle_base version list p1 stage m idle, next, order))
  settled_ended {p0} {b1} {live0} {a} false idle next ended one settled =
      let same = settled.stayed refl in
      subst (λ (s : Members). Finalizes told p0 live0 s a c) (sym same.1) (subst (λ (x : State). Finalizes told p0 live0 live1 a x) (sym same.2) ended)

-- ---- directories are dropped

pub rest_sub : {rest : Members} (set gone : Members) → ((j : ℕ) → has rest j ≡ (has set j && not (has gone j))) → (j : ℕ) → has rest j ≡ true → has set j ≡ true
rest_sub {rest} set gone is j there = (and_parts (has set j) (not (has gone j)) (sym (is j) ∙ there)).0

pub rest_fewer : {rest : Members} (set gone : Members) → ((j : ℕ) → has rest j ≡ (has set j && not (has gone j))) → (i : ℕ) → has gone i ≡ true → has set i ≡ true → count_of rest < count_of set
rest_fewer {rest} set gone is i goes there = fewer set rest (rest_sub set gone is) (λ same.
    let lacks : has rest i ≡ false = is i ∙ ap (λ (x : Bool). x && not (has gone i)) there ∙ ap (λ (y : Bool). not y) goes in
    let apart = sym lacks ∙ ap (λ (s : Members). has s i) same ∙ there in
    cc)

-- a set of one
pub one_is : {none one : Members} (i : ℕ) → ((j : ℕ) → has none j ≡ false) → ((j : ℕ) → has one j ≡ ((j == i) || has none j)) → (j : ℕ) → has one j ≡ (j == i)
one_is {none} {one} i empty is j = is j ∙ ap (λ (x : Bool). (j == i) || x) (empty j) ∙ or-false (j == i)

pub has_it : {one : Members} (i : ℕ) → ((j : ℕ) → has one j ≡ (j == i)) → has one i ≡ true
has_it {one} i is = is i ∙ elim (eqb_tells i i) [ inl it ↦ it.0 | inr other ↦ absurd (other.1 refl) ]
