-- Of kept directories with one of the run, one stands at the greatest rank, and those that are chosen are just those that stand at it.
use Rattle.std.proofs.Common.{◌≡◌, ◌⊎◌, inl, inr, ℕ, zero, suc, ◌<◌, ◌≤◌, sym, ◌∙◌, ap, subst, arith}
use Rattle.std.proofs.lemmas.Bool.{cases_eq}
use Rattle.std.proofs.lemmas.Bool.Decides.{eqb_tells}
use Rattle.nn_host.specs.Disk.{Reads}
use Rattle.nn_marks.specs.declared.version.Version.{Version}
use Rattle.nn_chain.specs.Folder.{Folder}
use Rattle.nn_chain.specs.Chain.{Reached, IsChain}
use Rattle.nn_chain.proofs.ChainLemmas.{one_chain}
use Rattle.nn_pick.specs.Dirs.{Dirs, ServesUnder, HasGreatestCtime, IsChosen, IsAmongChosen}
use Rattle.nn_kept.specs.Kept.{Rank, end_at, IsAtMost, Shared, Stands, IsBelowFloor, IsKeptUnder, IsKept, IsOfRun}
use Rattle.nn_pick.proofs.HoldsLemmas.{serves_formatted}
use Rattle.nn_kept.proofs.KeptLemmas.{IsWithin, under_each, at_most_both, within_more, stands_within, below_within}

-- ---- one directory

-- it is kept, and stands at this rank
pub record Standing (shared : Shared) (c : Reads) (rank : Rank) : Type 0 where
  pub version : Version
  pub folder : Folder
  pub kept : IsKeptUnder shared c version folder
  pub stands : Stands shared c version folder rank

unserved_within : (c : Reads) (rank : Rank) → ((v : Version) (a : Folder) → ¬ ServesUnder c v a) → IsWithin c rank
unserved_within c rank none = record { ctime = λ v a under. absurd (none v a under); last = λ v a end under same chain. absurd (none v a under) }

placed : (shared : Shared) (c : Reads) (v : Version) (a : Folder) → IsKeptUnder shared c v a → ((rank : Rank) × Standing shared c rank) ⊎ IsWithin c shared.floor
placed shared c v a kept = elim kept.place [
  | inl below ↦ inr (below_within shared c v a kept.under below)
  | inr stands ↦ inl (stands.0, record { version = v; folder = a; kept = kept; stands = stands.1 })
]

sorted : (shared : Shared) (c : Reads) → IsKept shared c → ((rank : Rank) × Standing shared c rank) ⊎ IsWithin c shared.floor
sorted shared c kept = elim kept.formatted [
  | inl none ↦ inr (unserved_within c shared.floor (λ v a under. serves_formatted c a under.serves none))
  | inr is ↦ placed shared c is.0 is.1 is.2
]

-- what is kept under one reading is so under each
pub kept_under : (shared : Shared) (c : Reads) (v : Version) (a : Folder) → IsKept shared c → ServesUnder c v a → IsKeptUnder shared c v a
kept_under shared c v a kept under = elim kept.formatted [
  | inl none ↦ absurd (serves_formatted c a under.serves none)
  | inr is ↦ under_each c (IsKeptUnder shared c) is.0 v is.1 a is.2.under under is.2
]

of_run : (shared : Shared) (c : Reads) (rank : Rank) → IsKept shared c → IsOfRun shared c rank → Standing shared c rank
of_run shared c rank kept run = record { version = run.version; folder = run.folder; kept = kept_under shared c run.version run.folder kept run.under; stands = run.stands }

one_rank : (shared : Shared) (c : Reads) (v : Version) (a : Folder) (r s : Rank) → Stands shared c v a r → Stands shared c v a s → r ≡ s
one_rank shared c v a r s p q =
    let last = ap (λ (x : Reached). x.last) (one_chain a v (record { last = r.last; ns = shared.ns r.ctime r.last }) (record { last = s.last; ns = shared.ns s.ctime s.last }) p.chain q.chain).ends in
    let ctime : r.ctime ≡ s.ctime = sym p.ctime ∙ q.ctime in
    λ k. record { ctime = ctime k; last = last k }

-- ---- the greatest rank

-- of the first n directories, none ranks above this one
pub record Top (shared : Shared) (dirs : Dirs) (n : ℕ) : Type 0 where
  pub dir : ℕ
  pub inside : dir < dirs.count
  pub rank : Rank
  pub standing : Standing shared (dirs.at dir) rank
  pub high : IsAtMost shared.floor rank
  pub within : (j : ℕ) → j < n → IsWithin (dirs.at j) rank

at_most_total : (a b : Rank) → IsAtMost a b ⊎ IsAtMost b a
at_most_total a b = grind arith

at_most_itself : (a : Rank) → IsAtMost a a
at_most_itself a = grind arith

all_more : (dirs : Dirs) (n : ℕ) (rank : Rank) → ((j : ℕ) → j < n → IsWithin (dirs.at j) rank) → IsWithin (dirs.at n) rank → (j : ℕ) → j < suc n → IsWithin (dirs.at j) rank
all_more dirs n rank all last j below = elim (eqb_tells j n) [
  | inl same ↦ subst (λ (k : ℕ). IsWithin (dirs.at k) rank) (sym same.1) last
  | inr apart ↦ all j (omega (arith, below, apart.1))
]

keep : (shared : Shared) (dirs : Dirs) (n : ℕ) (t : Top shared dirs n) → IsWithin (dirs.at n) t.rank → Top shared dirs (suc n)
keep shared dirs n t last = record { dir = t.dir; inside = t.inside; rank = t.rank; standing = t.standing; high = t.high; within = all_more dirs n t.rank t.within last }

raise : (shared : Shared) (dirs : Dirs) (n : ℕ) (t : Top shared dirs n) (rank : Rank) → n < dirs.count → Standing shared (dirs.at n) rank → IsAtMost t.rank rank → Top shared dirs (suc n)
raise shared dirs n t rank below is more = record {
  dir = n;
  inside = below;
  rank = rank;
  standing = is;
  high = at_most_both shared.floor t.rank rank t.high more;
  within = all_more dirs n rank (λ j lt. within_more (dirs.at j) t.rank rank more (t.within j lt)) (stands_within shared (dirs.at n) is.version is.folder is.kept.under rank is.stands);
}

further : (shared : Shared) (dirs : Dirs) (n : ℕ) (t : Top shared dirs n) (rank : Rank) → n < dirs.count → Standing shared (dirs.at n) rank → Top shared dirs (suc n)
further shared dirs n t rank below is = elim (at_most_total rank t.rank) [
  | inl low ↦ keep shared dirs n t (within_more (dirs.at n) rank t.rank low (stands_within shared (dirs.at n) is.version is.folder is.kept.under rank is.stands))
  | inr more ↦ raise shared dirs n t rank below is more
]

step : (shared : Shared) (dirs : Dirs) (n : ℕ) → n < dirs.count → IsKept shared (dirs.at n) → Top shared dirs n → Top shared dirs (suc n)
step shared dirs n below kept t = elim (sorted shared (dirs.at n) kept) [
  | inl is ↦ further shared dirs n t is.0 below is.1
  | inr low ↦ keep shared dirs n t (within_more (dirs.at n) shared.floor t.rank t.high low)
]

module _ (shared : Shared) (dirs : Dirs) (kept : (i : ℕ) → i < dirs.count → IsKept shared (dirs.at i)) (r : ℕ) (rank : Rank) (inside : r < dirs.count) (run : IsOfRun shared (dirs.at r) rank) where
  top_of : (n : ℕ) → n ≤ dirs.count → Top shared dirs n
  top_of zero le = record { dir = r; inside = inside; rank = rank; standing = of_run shared (dirs.at r) rank (kept r inside) run; high = run.high; within = λ j below. omega (arith, below) }
  top_of (suc n) le = step shared dirs n le (kept n le) (top_of n (omega (arith, le)))

  pub top : Top shared dirs dirs.count
  top = top_of dirs.count (omega arith)

-- ---- those that stand at it are chosen, and no others

-- what is known of a chosen directory
pub record ChosenSo (shared : Shared) (dirs : Dirs) (rank : Rank) (i : ℕ) (v : Version) (a : Folder) (end : Reached) : Type 0 where
  pub kept : IsKeptUnder shared (dirs.at i) v a
  pub stands : Stands shared (dirs.at i) v a rank
  pub is : end ≡ end_at shared rank

module _ (shared : Shared) (dirs : Dirs) (kept : (i : ℕ) → i < dirs.count → IsKept shared (dirs.at i)) (t : Top shared dirs dirs.count) where
  pub ahead_at : (i : ℕ) (v : Version) (a : Folder) → i < dirs.count → ServesUnder (dirs.at i) v a → v.ctime ≡ t.rank.ctime → HasGreatestCtime dirs i v a
  ahead_at i v a below under same = record { below = below; under = under; greatest = λ j w b inside is. (let low = (t.within j inside).ctime w b is in omega (arith, low, same)) }

  pub top_ahead : HasGreatestCtime dirs t.dir t.standing.version t.standing.folder
  top_ahead = ahead_at t.dir t.standing.version t.standing.folder t.inside t.standing.kept.under t.standing.stands.ctime

  pub ctime_is : (i : ℕ) (v : Version) (a : Folder) → HasGreatestCtime dirs i v a → v.ctime ≡ t.rank.ctime
  ctime_is i v a is =
      let low = (t.within i is.below).ctime v a is.under in
      let up = is.greatest t.dir t.standing.version t.standing.folder t.inside t.standing.kept.under in
      omega (arith, low, up, t.standing.stands.ctime)

  pub last_low : (i : ℕ) (v : Version) (a : Folder) (end : Reached) → HasGreatestCtime dirs i v a → IsChain a v end → end.last ≤ t.rank.last
  last_low i v a end is chain = (t.within i is.below).last v a end is.under (ctime_is i v a is) chain

  pub chosen_at : (i : ℕ) (v : Version) (a : Folder) → i < dirs.count → ServesUnder (dirs.at i) v a → Stands shared (dirs.at i) v a t.rank → IsChosen dirs i v a (end_at shared t.rank)
  chosen_at i v a below under stands = record { ahead = ahead_at i v a below under stands.ctime; chain = stands.chain; greatest = last_low }

  not_below : (v : Version) (a : Folder) (end : Reached) → v.ctime ≡ t.rank.ctime → IsChain a v end → t.rank.last ≤ end.last → ¬ IsBelowFloor shared v a
  not_below v a end same chain more (inl less) = elim t.high [ inl over ↦ omega (arith, less, over, same) | inr level ↦ omega (arith, less, level.0, same) ]
  not_below v a end same chain more (inr is) = let less = is.1 end chain in elim t.high [ inl over ↦ omega (arith, is.0, over, same) | inr level ↦ omega (arith, less, level.1, more) ]

  pub stands_high : (c : Reads) (v : Version) (a : Folder) → Stands shared c v a t.rank → ¬ IsBelowFloor shared v a
  stands_high c v a is = not_below v a (end_at shared t.rank) is.ctime is.chain (omega arith)

  at_rank : (i : ℕ) (v : Version) (a : Folder) (end : Reached) (rank : Rank) → IsChosen dirs i v a end → t.rank.last ≤ end.last → Stands shared (dirs.at i) v a rank → (rank ≡ t.rank) × (end ≡ end_at shared rank)
  at_rank i v a end rank is more stands =
      let ends = (one_chain a v end (end_at shared rank) is.chain stands.chain).ends in
      let low = last_low i v a end is.ahead is.chain in
      let e = ap (λ (x : Reached). x.last) ends in
      let last : rank.last ≡ t.rank.last = omega (arith, e, low, more) in
      let ctime : rank.ctime ≡ t.rank.ctime = sym stands.ctime ∙ ctime_is i v a is.ahead in
      (λ k. record { ctime = ctime k; last = last k }, ends)

  pub chosen_so : (i : ℕ) (v : Version) (a : Folder) (end : Reached) → IsChosen dirs i v a end → ChosenSo shared dirs t.rank i v a end
  chosen_so i v a end is =
      let its = kept_under shared (dirs.at i) v a (kept i is.ahead.below) is.ahead.under in
      let more : t.rank.last ≤ end.last = is.greatest t.dir t.standing.version t.standing.folder (end_at shared t.rank) top_ahead t.standing.stands.chain in
      elim its.place [
        | inl below ↦ absurd (not_below v a end (ctime_is i v a is.ahead) is.chain more below)
        | inr stands ↦ (
            let at = at_rank i v a end stands.0 is more stands.1 in
            record {
              kept = its;
              stands = subst (Stands shared (dirs.at i) v a) at.0 stands.1;
              is = subst (λ (r : Rank). end ≡ end_at shared r) at.0 at.1;
            }
            )
      ]

  -- it is decided which are chosen

  decided_under : (i : ℕ) (v : Version) (a : Folder) (rank : Rank) → i < dirs.count → IsKeptUnder shared (dirs.at i) v a → Stands shared (dirs.at i) v a rank → IsAmongChosen dirs i ⊎ (¬ IsAmongChosen dirs i)
  decided_under i v a rank below its stands = elim (cases_eq rank.last t.rank.last) [
    | inl last ↦ elim (cases_eq rank.ctime t.rank.ctime) [
      | inl ctime ↦ (
          let at : rank ≡ t.rank = λ k. record { ctime = ctime k; last = last k } in
          inl (v, a, end_at shared t.rank, chosen_at i v a below its.under (subst (Stands shared (dirs.at i) v a) at stands))
          )
      | inr apart ↦ inr (λ is. apart (ap (λ (r : Rank). r.ctime) (same is)))
    ]
    | inr apart ↦ inr (λ is. apart (ap (λ (r : Rank). r.last) (same is)))
  ] where
    same : IsAmongChosen dirs i → rank ≡ t.rank
    same is =
        let so = chosen_so i is.0 is.1 is.2 is.3 in
        one_rank shared (dirs.at i) v a rank t.rank stands (under_each (dirs.at i) (λ x f. Stands shared (dirs.at i) x f t.rank) is.0 v is.1 a is.3.ahead.under its.under so.stands)

  pub chosen_decided : (i : ℕ) → i < dirs.count → IsAmongChosen dirs i ⊎ (¬ IsAmongChosen dirs i)
  chosen_decided i below = elim (kept i below).formatted [
    | inl none ↦ inr (λ is. serves_formatted (dirs.at i) is.1 is.3.ahead.under.serves none)
    | inr it ↦ elim it.2.place [
      | inl low ↦ inr (λ is. (
          let so = chosen_so i is.0 is.1 is.2 is.3 in
          stands_high (dirs.at i) is.0 is.1 so.stands (under_each (dirs.at i) (IsBelowFloor shared) it.0 is.0 it.1 is.1 it.2.under is.3.ahead.under low)
          ))
      | inr stands ↦ decided_under i it.0 it.1 stands.0 below it.2 stands.1
    ]
  ]

  pub top_chosen : IsAmongChosen dirs t.dir
  top_chosen = (t.standing.version, t.standing.folder, end_at shared t.rank, chosen_at t.dir t.standing.version t.standing.folder t.inside t.standing.kept.under t.standing.stands)
