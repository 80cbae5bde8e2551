-- Records in flight keep all directories, and leave behind those that were dropped.
use Rattle.std.proofs.Common.{◌≡◌, ◌⊎◌, inl, inr, ℕ, ◌<◌, ◌≤◌, Bool, false, None, List, [], ◌∷◌, refl, sym, ◌∙◌, ap, subst, arith}
use Rattle.std.specs.Prelude.{Contains}
use Rattle.std.proofs.lemmas.Bool.{cases_Bool}
use Rattle.nn_host.specs.Disk.{Disk, Reads}
use Rattle.nn_host.specs.Moments.{Dir, Moment, State, disk_at}
use Rattle.nn_host.specs.Runs.{EachDir}
use Rattle.nn_marks.specs.declared.version.Version.{Version}
use Rattle.nn_tree.specs.Namespace.{Namespace}
use Rattle.nn_pick.specs.Opening.{Book}
use Rattle.nn_kept.specs.Kept.{Shared, IsOurs}
use Rattle.nn_kept.specs.Laws.{IsKeptDisk, IsOutranked, EachLeft, AllKept}
use Rattle.nn_kept.specs.Onward.{IsOnward}
use Rattle.nn_kept.specs.Ends.{EndsBetween, HasRoom, book_of}
use Rattle.nn_kept.proofs.KeptEndsLemmas.{between_is_kept as flight_is_kept, between_is_outranked, left_behind_is_kept}
use Rattle.nn_run.specs.Steps.{LeftBehind, BetweenLines}
use Rattle.nn_run.specs.Flights.{Flies, FliesAt, Flown, LeadsTo}
use Rattle.nn_run.proofs.BetweenLemmas.{is_first, uncounted, book_in}

-- the second of a list is in it
is_second : {A : Type 0} (a b : A) (rest : List A) → Contains (a ∷ b ∷ rest) b
is_second a b rest = (1, omega arith, refl)

-- What directories share before a flight of those that are live, whatever the window. The others are left behind; or, if any stray, they end where the live ones do.
pub record IsAloft (version : Version) (list : ℕ → Namespace) (count : ℕ) (live : ℕ → Bool) (book : Book) (last : ℕ) (stray : Type 0) (m : Moment) : Type 0 where
  pub shared : Shared
  pub floor : shared.floor ≡ record { ctime = version.ctime; last = last }
  pub lead : shared.lead ≡ record { ctime = version.ctime; last = last }
  pub ours : IsOurs shared version
  pub saved : shared.saved version.ctime ≡ book.saved
  pub others : (i : ℕ) → i < count → live i ≡ false → LeftBehind shared (m.dirs i).disk ⊎ (stray × Flies version list last last (m.dirs i).disk)

module _ (version : Version) (list : ℕ → Namespace) (count : ℕ) (live live_after : ℕ → Bool) (book book_after : Book) (last after : ℕ) (old new : State) (stray : Type 0)
    (aloft : IsAloft version list count live book last stray old.now) (leads : LeadsTo list book book_after last after)
    (flown : Flown (Unit {0}) version list live live_after last after old new) where
  abbrev before : Shared
  before = aloft.shared

  -- while records are in flight both Books are there
  abbrev pub both_shared : Shared
  both_shared = record { window = book ∷ book_after ∷ []; ids = before.ids; ns = λ c. list; saved = before.saved; floor = before.floor; lead = before.lead }

  -- once they are synced the second alone, and the floor is at the last of them
  abbrev synced : Shared
  synced = record { window = book_after ∷ []; ids = before.ids; ns = λ c. list; saved = before.saved; floor = record { ctime = version.ctime; last = after }; lead = record { ctime = version.ctime; last = after } }

  nothing_saved : before.saved version.ctime ≡ None
  nothing_saved = aloft.saved ∙ leads.unsaved

  -- each namespace on the way is that of one of the Books
  there : (n : ℕ) → last ≤ n → n ≤ after → Contains (book ∷ book_after ∷ []) (record { ns = list n; saved = before.saved version.ctime })
  there n low high = elim (leads.between n low high) [
    | inl same ↦ subst (Contains (book ∷ book_after ∷ [])) (sym (ap (λ ns. record { ns = ns; saved = before.saved version.ctime }) same ∙ ap (λ w. record { ns = book.ns; saved = w }) aloft.saved)) (is_first book (book_after ∷ []))
    | inr same ↦ subst (Contains (book ∷ book_after ∷ [])) (sym (ap (λ ns. record { ns = ns; saved = before.saved version.ctime }) same ∙ ap (λ w. record { ns = book_after.ns; saved = w }) (nothing_saved ∙ sym leads.unsaved_after))) (is_second book book_after [])
  ]

  whole : (ns : Namespace) → book_of false (before.saved version.ctime) ns ≡ record { ns = ns; saved = before.saved version.ctime }
  whole ns = ap (λ w. record { ns = ns; saved = w }) (sym nothing_saved)

  room : HasRoom both_shared version false last after
  room = record {
    ours = record { namespace = aloft.ours.namespace; cluster = aloft.ours.cluster; blockpool = aloft.ours.blockpool; layout = aloft.ours.layout };
    room = leads.room;
    inside = λ n low high. book_in (book ∷ book_after ∷ []) false (before.saved version.ctime) (list n) (there n low high);
    led = inr (λ n low high. subst (Contains (book ∷ book_after ∷ [])) (sym (whole (list n))) (there n low high));
  }

  live_kept : (d : Disk) (of_run holder : Bool) → Flies version list last after d → IsKeptDisk both_shared of_run holder d
  live_kept d of_run holder flies =
      let floor = inr (ap (λ r. r.ctime) aloft.floor, omega (arith, ap (λ r. r.last) aloft.floor)) in
      let lead = inr (ap (λ r. r.ctime) aloft.lead, omega (arith, ap (λ r. r.last) aloft.lead)) in
      flight_is_kept both_shared version false last after d of_run holder (subst (λ w. EndsBetween version false w list last after d) (sym nothing_saved) flies.ends) room
      (λ e. floor) (λ e. (floor, lead, λ n low high. subst (Contains (book ∷ book_after ∷ [])) (sym (whole (list n))) (there n low high)))

  stays : IsOnward before both_shared
  stays = record { ids = refl; floor = inr (refl, omega arith); saved = λ c high. inl refl }

  -- one that ends where the live ones begin is as one of them
  as_live : (d : Disk) → Flies version list last last d → Flies version list last after d
  as_live d is = record { normal = is.normal; ends = λ c leaves fair. let (n, low, high, at) = is.ends c leaves fair in (n, low, omega (arith, high, flown.onward), at) }

  other_kept : (d : Disk) → LeftBehind before d ⊎ (stray × Flies version list last last d) → IsKeptDisk both_shared false false d
  other_kept d is = elim is [
    | inl low ↦ left_behind_is_kept before both_shared false false d stays low.kept low.behind
    | inr level ↦ live_kept d false false (as_live d level.1)
  ]

  -- at each moment each directory is kept, whichever of the live ones count
  pub aloft_kept : (run held : ℕ → Dir → Bool) (m : Moment) → ((i : ℕ) (d : Dir) → live i ≡ false → run i d ≡ false) → ((i : ℕ) (d : Dir) → live i ≡ false → held i d ≡ false)
      → EachDir (FliesAt version list live last after old) m → AllKept both_shared count run held m
  aloft_kept run held m none none_held flies = record {
    at = λ i below. elim (cases_Bool (live i)) [
      | inl e ↦ live_kept (m.dirs i).disk (run i (m.dirs i)) (held i (m.dirs i)) ((flies.at i).flies e)
      | inr e ↦ uncounted both_shared (run i (m.dirs i)) (held i (m.dirs i)) (m.dirs i).disk (none i (m.dirs i) e) (none_held i (m.dirs i) e)
          (subst (λ (d : Dir). IsKeptDisk both_shared false false d.disk) (sym ((flies.at i).same e)) (other_kept (disk_at old i) (aloft.others i below e)))
    ];
  }

  -- ---- once they are synced

  onward : (shared : Shared) → shared.ids ≡ before.ids → shared.floor ≡ before.floor → shared.saved ≡ before.saved → IsOnward shared synced
  onward shared ids floor kept = record {
    ids = sym ids;
    floor = inr (ap (λ r. r.ctime) floor ∙ ap (λ r. r.ctime) aloft.floor, omega (arith, ap (λ r. r.last) floor, ap (λ r. r.last) aloft.floor, flown.onward));
    saved = λ c high. inl (ap (λ f. f c) (sym kept));
  }

  lower : (c : Reads) → IsOutranked before c → IsOutranked synced c
  lower c low v a under = elim (low v a under) [
    | inl less ↦ inl (omega (arith, less, ap (λ r. r.ctime) aloft.floor))
    | inr level ↦ inr (level.0 ∙ ap (λ r. r.ctime) aloft.floor, λ end chain. omega (arith, level.1 end chain, ap (λ r. r.last) aloft.floor, flown.onward))
  ]

  dropped_behind : (d : Disk) (most : ℕ) → most < after → Flies version list last most d → Flies version list last after d → LeftBehind synced d
  dropped_behind d most under low flies =
      let behind : EachLeft d (IsOutranked synced) = between_is_outranked synced version false None list last most d low.ends (inr (refl, under)) in
      record { kept = left_behind_is_kept both_shared synced false false d (onward both_shared refl refl refl) (live_kept d false false flies) behind; behind = behind }

  other_behind : (stray → last < after) → (d : Disk) → LeftBehind before d ⊎ (stray × Flies version list last last d) → LeftBehind synced d
  other_behind higher d is = elim is [
    | inl low ↦ (
        let behind : EachLeft d (IsOutranked synced) = λ c leaves fair. lower c (low.behind c leaves fair) in
        record { kept = left_behind_is_kept before synced false false d (onward before refl refl refl) low.kept behind; behind = behind })
    | inr level ↦ dropped_behind d last (higher level.0) level.1 (as_live d level.1)
  ]

  -- where the strays end below
  pub landed_behind : (stray → last < after) → BetweenLines version list count live_after (λ i. false) book_after after new.now
  landed_behind higher = record {
    shared = synced;
    window = refl;
    floor = refl;
    lead = refl;
    ours = record { namespace = aloft.ours.namespace; cluster = aloft.ours.cluster; blockpool = aloft.ours.blockpool; layout = aloft.ours.layout };
    ns = refl;
    saved = nothing_saved ∙ sym leads.unsaved_after;
    room = leads.room;
    stands = leads.ends;
    lives = λ i below e. let it = flown.stand tt i e in record { normal = it.normal; ends = subst (λ w. EndsBetween version false w list after after (disk_at new i)) (sym leads.unsaved_after) it.ends };
    others = λ i below e. elim (cases_Bool (live i)) [
      | inl was ↦ dropped_behind (disk_at new i) flown.most flown.below (flown.fall tt i was e) (((flown.each.ends tt).at i).flies was)
      | inr was ↦ subst (λ (d : Dir). LeftBehind synced d.disk) (sym (((flown.each.ends tt).at i).same was)) (other_behind higher (disk_at old i) (aloft.others i below was))
    ];
  }

-- ---- from what holds between two lines, none strays

pub aloft_between : {version : Version} {list : ℕ → Namespace} {count : ℕ} {live : ℕ → Bool} {book : Book} {last : ℕ} {m : Moment} → BetweenLines version list count live (λ i. false) book last m → IsAloft version list count live book last ⊥ m
aloft_between between = record {
  shared = between.shared;
  floor = between.floor;
  lead = between.lead;
  ours = between.ours;
  saved = between.saved;
  others = λ i below e. inl (between.others i below e);
}

module _ (version : Version) (list : ℕ → Namespace) (count : ℕ) (live live_after : ℕ → Bool) (book book_after : Book) (last after : ℕ) (old new : State)
    (between : BetweenLines version list count live (λ i. false) book last old.now) (leads : LeadsTo list book book_after last after)
    (flown : Flown (Unit {0}) version list live live_after last after old new) where
  abbrev pub in_flight : Shared
  in_flight = both_shared version list count live live_after book book_after last after old new ⊥ (aloft_between between) leads flown

  pub each_kept : (run held : ℕ → Dir → Bool) (m : Moment) → ((i : ℕ) (d : Dir) → live i ≡ false → run i d ≡ false) → ((i : ℕ) (d : Dir) → live i ≡ false → held i d ≡ false)
      → EachDir (FliesAt version list live last after old) m → AllKept in_flight count run held m
  each_kept run held m none none_held flies = aloft_kept version list count live live_after book book_after last after old new ⊥ (aloft_between between) leads flown run held m none none_held flies

  pub after_flight : BetweenLines version list count live_after (λ i. false) book_after after new.now
  after_flight = landed_behind version list count live live_after book book_after last after old new ⊥ (aloft_between between) leads flown (λ none. absurd none)
