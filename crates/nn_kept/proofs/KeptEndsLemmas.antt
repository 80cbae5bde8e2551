-- When a directory that stands is kept, and what stops leave of its disk.
use Rattle.std.proofs.Common.{true, ◌≡◌, inl, inr, ℕ, ◌-◌, ◌<◌, ◌≤◌, true≢false, refl, sym, ◌∙◌, ap, subst, arith}
use Rattle.std.specs.Prelude.{Option, is_some, Contains, Bool}
use Rattle.std.proofs.lemmas.Option.{none-some}
use Rattle.nn_host.specs.Disk.{Disk, Reads, Leaves}
use Rattle.nn_marks.specs.declared.version.Version.{Version}
use Rattle.nn_state.specs.Seat.{saved}
use Rattle.nn_chain.specs.Folder.{Folder}
use Rattle.nn_chain.specs.Chain.{Reached, IsChain}
use Rattle.nn_chain.proofs.ChainLemmas.{one_chain}
use Rattle.nn_pick.specs.Dirs.{ServesPrevious}
use Rattle.nn_pick.specs.Refusing.{spent_from}
use Rattle.nn_kept.specs.Kept.{IsKept, IsLedOfRun, Rank, end_at, IsBelow, IsAtMost, Shared, IsOfWindow, book_at, IsOurs, Stands, IsBelowFloor, IsReached, HoldsSaved, IsKeptUnder, IsOfRun}
use Rattle.nn_kept.specs.Laws.{IsKeptDisk}
use Rattle.nn_kept.specs.Ends.{EndsAt, HasRoom, book_of, EndsBetween, BetweenIsKept, BetweenIsOutranked, LeftBehindIsKept, HeldImageEnds, HoldsThere, OfRunEnds}
use Rattle.nn_chain.specs.Fair.{IsFair}
use Rattle.nn_base.specs.declared.sub.Sub.{Sub}
use Rattle.nn_base.specs.declared.sub.Sub.TheVariants.{Current}
use Rattle.nn_state.specs.declared.state.StorageState.TheVariants.{Normal}
use Rattle.nn_pick.proofs.HoldsLemmas.{its_under, its_chain, ends_bare, saves_none}
use Rattle.nn_kept.proofs.KeptLemmas.{under_each}
use Rattle.nn_kept.proofs.KeptOpenLemmas.{there}
use Rattle.nn_kept.proofs.GreatestLemmas.{kept_under}
use Rattle.nn_kept.proofs.KeptOnwardLemmas.{outranked_is_kept}

-- ---- a directory that stands

module _ (shared : Shared) (c : Reads) (v : Version) (has : Bool) (n : ℕ) (is : EndsAt c v has (shared.saved v.ctime) (end_at shared (record { ctime = v.ctime; last = n }))) where
  rank : Rank
  rank = record { ctime = v.ctime; last = n }

  same_book : book_of has (shared.saved v.ctime) (shared.ns v.ctime n) ≡ book_at shared c rank
  unfolding rank
  same_book = ap (λ (there : Bool). book_of there (shared.saved v.ctime) (shared.ns v.ctime n)) (sym is.previous)

  module _ (ours : IsOurs shared v) (room : n < spent_from) (inside : IsOfWindow shared.window (book_at shared c rank)) (led : IsBelow shared.lead rank → Contains shared.window (book_at shared c rank)) where
    stands : Stands shared c v is.folder rank
    unfolding rank
    stands = record { ctime = refl; chain = is.chain; bare = is.bare; room = room; inside = inside; led = led }

    holds_saved : (previous : Folder) → ServesPrevious c previous → HoldsSaved shared c v is.folder previous
    holds_saved previous serves =
        let it = is.holds previous serves in
        record { sound = it.sound; own = it.own; end = it.end; chain = it.chain; is = it.is; reached = inl (end_at shared (record { ctime = v.ctime; last = n }), is.chain, it.low); bare = it.bare }

    ends_under : IsKeptUnder shared c v is.folder
    ends_under = record {
      under = is.under;
      ours = ours;
      place = inr (rank, stands);
      seen = λ late id says. (let few = is.seen id says in inl (end_at shared (record { ctime = v.ctime; last = n }), is.chain, omega (arith, few)));
      saves = λ late previous serves. inl (holds_saved previous serves);
    }

    ends_kept : IsKept shared c
    ends_kept = record { state = is.state; formatted = inr (v, is.folder, ends_under) }

    ends_of_run : IsAtMost shared.floor rank → IsOfRun shared c rank
    ends_of_run high = record { version = v; folder = is.folder; under = is.under; stands = stands; high = high }

    ends_holder : IsAtMost shared.floor rank → IsAtMost shared.lead rank → Contains shared.window (book_at shared c rank) → IsLedOfRun shared c
    ends_holder high low there = record { rank = rank; run = ends_of_run high; led = low; inside = there }

-- ---- whatever a stop leaves

-- what is known of a leaving that ends at this id
record LeftAt (shared : Shared) (c : Reads) (v : Version) (n : ℕ) (of_run holder : Bool) : Type 0 where
  kept : IsKept shared c
  run : of_run ≡ true → IsOfRun shared c (record { ctime = v.ctime; last = n })
  led : holder ≡ true → IsLedOfRun shared c

higher : (r : Rank) (ctime lo n : ℕ) → IsAtMost r (record { ctime = ctime; last = lo }) → lo ≤ n → IsAtMost r (record { ctime = ctime; last = n })
higher r ctime lo n (inl less) more = inl less
higher r ctime lo n (inr level) more = inr (level.0, omega (arith, level.1, more))

not_above : (r : Rank) (ctime hi n : ℕ) → IsAtMost (record { ctime = ctime; last = hi }) r → n ≤ hi → ¬ IsBelow r (record { ctime = ctime; last = n })
not_above r ctime hi n (inl less) few (inl over) = omega (arith, less, over)
not_above r ctime hi n (inl less) few (inr level) = omega (arith, less, level.0)
not_above r ctime hi n (inr same) few (inl over) = omega (arith, same.0, over)
not_above r ctime hi n (inr same) few (inr level) = omega (arith, same.1, level.1, few)

module _ (shared : Shared) (v : Version) (has : Bool) (lo hi : ℕ) (d : Disk) (of_run holder : Bool) (ends : EndsBetween v has (shared.saved v.ctime) (shared.ns v.ctime) lo hi d) (fits : HasRoom shared v has lo hi)
    (floor : of_run ≡ true → IsAtMost shared.floor (record { ctime = v.ctime; last = lo }))
    (held : holder ≡ true → IsAtMost shared.floor (record { ctime = v.ctime; last = lo }) × IsAtMost shared.lead (record { ctime = v.ctime; last = lo }) × ((n : ℕ) → lo ≤ n → n ≤ hi → Contains shared.window (book_of has (shared.saved v.ctime) (shared.ns v.ctime n)))) where
  left_at : (c : Reads) (n : ℕ) → lo ≤ n → n ≤ hi → EndsAt c v has (shared.saved v.ctime) (end_at shared (record { ctime = v.ctime; last = n })) → LeftAt shared c v n of_run holder
  unfolding rank
  left_at c n more few is =
      let book = same_book shared c v has n is in
      let inside = subst (IsOfWindow shared.window) book (fits.inside n more few) in
      let led : IsBelow shared.lead (record { ctime = v.ctime; last = n }) → Contains shared.window (book_at shared c (record { ctime = v.ctime; last = n })) = λ above. elim fits.led [
        | inl high ↦ absurd (not_above shared.lead v.ctime hi n high few above)
        | inr there ↦ subst (Contains shared.window) book (there n more few)
      ] in
      let room = fits.room in
      let small : n < spent_from = omega (arith, few, room) in
      record {
        kept = ends_kept shared c v has n is fits.ours small inside led;
        run = λ e. ends_of_run shared c v has n is fits.ours small inside led (higher shared.floor v.ctime lo n (floor e) more);
        led = λ e. (let h = held e in ends_holder shared c v has n is fits.ours small inside led (higher shared.floor v.ctime lo n h.0 more) (higher shared.lead v.ctime lo n h.1 more) (subst (Contains shared.window) book (h.2 n more few)));
      }

  left_of : (c : Reads) → Leaves d c → IsFair d c → (n : ℕ) × LeftAt shared c v n of_run holder
  left_of c leaves fair = let it = ends c leaves fair in (it.0, left_at c it.0 it.1 it.2 it.3)

  between_kept : IsKeptDisk shared of_run holder d
  between_kept = record {
    kept = λ c leaves fair. (left_of c leaves fair).1.kept;
    run = λ e c leaves fair. (let it = left_of c leaves fair in (record { ctime = v.ctime; last = it.0 }, it.1.run e));
    led = λ e c leaves fair. (left_of c leaves fair).1.led e;
  }

pub between_is_kept : BetweenIsKept
between_is_kept = between_kept

pub between_is_outranked : BetweenIsOutranked
between_is_outranked shared v has what list lo hi d ends low c leaves fair w b under =
    let it = ends c leaves fair in
    under_each c (IsBelowFloor shared) v w it.3.folder b it.3.under under (below_at it.3.folder it.0 it.2 it.3.chain low)
  where
    below_at : (a : Folder) (n : ℕ) → n ≤ hi → IsChain a v (record { last = n; ns = list n }) → IsBelow (record { ctime = v.ctime; last = hi }) shared.floor → IsBelowFloor shared v a
    below_at a n few chain (inl less) = inl less
    below_at a n few chain (inr level) = inr (
      level.0,
      λ end other. (
          let e = ap (λ (r : Reached). r.last) (one_chain a v end (record { last = n; ns = list n }) other chain).ends in
          omega (arith, e, few, level.1)
          ),
    )

pub left_behind_is_kept : LeftBehindIsKept
left_behind_is_kept old new of_run holder d on is low = record {
  kept = λ c leaves fair. outranked_is_kept old new c on (is.kept c leaves fair) (low c leaves fair);
  run = λ e. absurd (true≢false (sym e));
  led = λ e. absurd (true≢false (sym e));
}

-- ---- one image and no record

pub held_image_ends : HeldImageEnds
held_image_ends c v id ns what h = record {
  state = (Normal, h.normal, λ e. cc);
  folder = c.file Current;
  under = its_under h;
  chain = its_chain h;
  bare = ends_bare h v (c.file Current) (record { last = id; ns = ns }) (its_under h) (its_chain h);
  seen = λ seen has. h.seen seen has;
  previous = ap (λ (o : Option Sub). is_some o) (saves_none h);
  holds = λ previous serves. absurd (none-some serves.sub (sym (saves_none h) ∙ serves.serves));
}

-- ---- what a directory of the run has

module _ (shared : Shared) (c : Reads) (rank : Rank) (kept : IsKept shared c) (run : IsOfRun shared c rank) where
  its : IsKeptUnder shared c run.version run.folder
  its = kept_under shared c run.version run.folder kept run.under

  last_of : (end : Reached) → IsChain run.folder run.version end → end.last ≡ rank.last
  last_of end chain = ap (λ (r : Reached). r.last) (one_chain run.folder run.version end (end_at shared rank) chain run.stands.chain).ends

  not_low : ¬ IsBelowFloor shared run.version run.folder
  not_low (inl less) = elim run.high [ inl over ↦ omega (arith, less, over, run.stands.ctime) | inr level ↦ omega (arith, less, level.0, run.stands.ctime) ]
  not_low (inr is) = let less = is.1 (end_at shared rank) run.stands.chain in elim run.high [ inl over ↦ omega (arith, is.0, over, run.stands.ctime) | inr level ↦ omega (arith, less, level.1) ]

  reached_own : (id : ℕ) → IsReached shared run.version run.folder id → id ≤ rank.last
  reached_own id (inl own) = let e = last_of own.0 own.1 in omega (arith, e, own.2)
  reached_own id (inr level) = elim run.high [ inl over ↦ absurd (omega (arith, level.0, over, run.stands.ctime)) | inr high ↦ omega (arith, level.1, high.1) ]

  late : shared.floor.ctime ≤ run.version.ctime
  late = elim run.high [ inl over ↦ omega (arith, over, run.stands.ctime) | inr level ↦ omega (arith, level.0, run.stands.ctime) ]

  holds_there : (previous : Folder) → ServesPrevious c previous → HoldsThere c run.version previous rank.last (shared.saved rank.ctime)
  holds_there previous serves = elim (its.saves late previous serves) [
    | inl it ↦ record { sound = it.sound; own = it.own; end = it.end; chain = it.chain; is = ap shared.saved (sym run.stands.ctime) ∙ it.is; low = reached_own it.end.last it.reached; bare = it.bare }
    | inr none ↦ absurd (not_low none.1)
  ]

  run_ends : EndsAt c run.version (is_some (saved c)) (shared.saved rank.ctime) (end_at shared rank)
  run_ends = record {
    state = kept.state;
    folder = run.folder;
    under = run.under;
    chain = run.stands.chain;
    bare = run.stands.bare;
    seen = λ id says. (let few = reached_own (id - 1) (its.seen late id says) in omega (arith, few));
    previous = refl;
    holds = holds_there;
  }

pub of_run_ends : OfRunEnds
of_run_ends = run_ends
