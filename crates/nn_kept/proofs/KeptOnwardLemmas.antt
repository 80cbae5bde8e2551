-- Kept directories from one moment to the next.
use Rattle.std.proofs.Common.{◌≡◌, inl, inr, ℕ, ◌-◌, ◌≤◌, None, refl, sym, ◌∙◌, ap, subst, arith}
use Rattle.std.specs.Prelude.{is_some, Contains, Bool, if◌then◌else◌}
use Rattle.nn_base.specs.declared.file_name.FileName.TheVariants as name
use Rattle.nn_host.specs.Disk.{Reads}
use Rattle.nn_marks.specs.declared.version.Version.{Version}
use Rattle.nn_state.specs.Seat.{serving, saved}
use Rattle.nn_chain.specs.Folder.{Folder, HasVersion, HasSeen, folder_at}
use Rattle.nn_chain.specs.Chain.{Reached}
use Rattle.nn_chain.proofs.ChainLemmas.{one_chain}
use Rattle.nn_pick.specs.Dirs.{ServesCurrent, ServesPrevious, ServesUnder}
use Rattle.nn_kept.specs.Kept.{IsKept, Rank, end_at, IsBelow, IsAtMost, Shared, IsOfWindow, book_at, IsOurs, Stands, IsBelowFloor, IsReached, HoldsSaved, IsKeptUnder}
use Rattle.nn_kept.specs.Laws.{IsOutranked}
use Rattle.nn_kept.specs.Onward.{IsOnward, OutrankedIsKept, HigherFloorOutranks, HasSameSeat, SameSeatIsKept, IsCutFrom, IsUpToFloor, CutIsKept}
use Rattle.std.proofs.lemmas.Option.{none-some}
use Rattle.nn_kept.specs.Ends.{SameSeatEnds}
use Rattle.nn_pick.proofs.HoldsLemmas.{serves_formatted}
use Rattle.nn_pick.proofs.VersionLemmas.{one_current}
use Rattle.nn_kept.proofs.KeptOpenLemmas.{some_or_none, there}
use Rattle.nn_kept.proofs.GreatestLemmas.{kept_under}

-- ---- the floor rises

reached_onward : (old new : Shared) (v : Version) (a : Folder) (id : ℕ) → IsOnward old new → new.floor.ctime ≤ v.ctime → IsReached old v a id → IsReached new v a id
reached_onward old new v a id on late (inl own) = inl own
reached_onward old new v a id on late (inr level) = elim on.floor [
  | inl higher ↦ absurd (omega (arith, higher, late, level.0))
  | inr more ↦ inr (omega (arith, more.0, level.0), omega (arith, more.1, level.1))
]

late_before : (old new : Shared) (v : Version) → IsOnward old new → new.floor.ctime ≤ v.ctime → old.floor.ctime ≤ v.ctime
late_before old new v on late = elim on.floor [ inl higher ↦ omega (arith, higher, late) | inr more ↦ omega (arith, more.0, late) ]

holds_onward : (old new : Shared) (c : Reads) (v : Version) (a previous : Folder) → IsOnward old new → new.floor.ctime ≤ v.ctime → new.saved v.ctime ≡ old.saved v.ctime → HoldsSaved old c v a previous → HoldsSaved new c v a previous
holds_onward old new c v a previous on late same is = record {
  sound = is.sound;
  own = is.own;
  end = is.end;
  chain = is.chain;
  is = same ∙ is.is;
  reached = reached_onward old new v a is.end.last on late is.reached;
  bare = is.bare;
}

ours_onward : (old new : Shared) (v : Version) → IsOnward old new → IsOurs old v → IsOurs new v
ours_onward old new v on is = record {
  namespace = is.namespace ∙ ap (λ (w : Version). w.namespace) (sym on.ids);
  cluster = is.cluster ∙ ap (λ (w : Version). w.cluster) (sym on.ids);
  blockpool = is.blockpool ∙ ap (λ (w : Version). w.blockpool) (sym on.ids);
  layout = is.layout;
}

outranked_under : (old new : Shared) (c : Reads) (v : Version) (a : Folder) → IsOnward old new → IsKeptUnder old c v a → IsBelowFloor new v a → IsKeptUnder new c v a
outranked_under old new c v a on is below = record {
  under = is.under;
  ours = ours_onward old new v on is.ours;
  place = inl below;
  seen = λ late id has. reached_onward old new v a (id - 1) on late (is.seen (late_before old new v on late) id has);
  saves = λ late previous serves. elim (on.saved v.ctime late) [
    | inl same ↦ elim (is.saves (late_before old new v on late) previous serves) [
      | inl it ↦ inl (holds_onward old new c v a previous on late same it)
      | inr none ↦ inr (same ∙ none.0, below)
    ]
    | inr gone ↦ inr (gone, below)
  ];
}

pub outranked_is_kept : OutrankedIsKept
outranked_is_kept old new c on is low = record {
  state = is.state;
  formatted = elim is.formatted [
    | inl none ↦ inl none
    | inr it ↦ inr (it.0, it.1, outranked_under old new c it.0 it.1 on it.2 (low it.0 it.1 it.2.under))
  ];
}

below_before : (old new : Shared) (v : Version) (a : Folder) → IsBelow old.floor new.floor → IsBelowFloor old v a → IsBelowFloor new v a
below_before old new v a (inl higher) (inl less) = inl (omega (arith, higher, less))
below_before old new v a (inl higher) (inr level) = inl (omega (arith, higher, level.0))
below_before old new v a (inr more) (inl less) = inl (omega (arith, more.0, less))
below_before old new v a (inr more) (inr level) = inr (level.0 ∙ more.0, λ end chain. (let less = level.1 end chain in omega (arith, less, more.1)))

stands_below : (old new : Shared) (c : Reads) (v : Version) (a : Folder) (rank : Rank) → Stands old c v a rank → IsBelow rank new.floor → IsBelowFloor new v a
stands_below old new c v a rank is (inl less) = inl (omega (arith, less, is.ctime))
stands_below old new c v a rank is (inr level) = inr (
  is.ctime ∙ level.0,
  λ end chain. (
      let e = ap (λ (r : Reached). r.last) (one_chain a v end (end_at old rank) chain is.chain).ends in
      omega (arith, e, level.1)
      ),
)

below_below : (a b c : Rank) → IsAtMost a b → IsBelow b c → IsBelow a c
below_below a b c p q = grind arith

pub higher_floor_outranks : HigherFloorOutranks
higher_floor_outranks old new c most is higher low stands v a under =
    let it = kept_under old c v a is under in
    elim it.place [
      | inl below ↦ below_before old new v a higher below
      | inr at ↦ stands_below old new c v a at.0 at.1 (below_below at.0 most new.floor (stands v a at.0 under at.1) low)
    ]

-- ---- the seat stays

pub book_same : (shared : Shared) (old new : Reads) (rank : Rank) → is_some (saved new) ≡ is_some (saved old) → book_at shared old rank ≡ book_at shared new rank
book_same shared old new rank same = ap (λ (there : Bool). record { ns = shared.ns rank.ctime rank.last; saved = if there then shared.saved rank.ctime else None }) (sym same)

module _ (shared : Shared) (old new : Reads) (seat : HasSameSeat old new) where
  pub same_under : (v : Version) (a : Folder) → ServesUnder old v a → ServesUnder new v a
  same_under v a is = record { serves = seat.current a is.serves; says = is.says }

  pub same_stands : (v : Version) (a : Folder) (rank : Rank) → Stands shared old v a rank → Stands shared new v a rank
  same_stands v a rank is = record {
    ctime = is.ctime;
    chain = is.chain;
    bare = is.bare;
    room = is.room;
    inside = subst (IsOfWindow shared.window) (book_same shared old new rank seat.there) is.inside;
    led = λ above. subst (Contains shared.window) (book_same shared old new rank seat.there) (is.led above);
  }

  same_saved : (v : Version) (a previous : Folder) → ServesPrevious new previous → HoldsSaved shared old v a previous → HoldsSaved shared new v a previous
  same_saved v a previous serves is = record {
    sound = is.sound;
    own = is.own;
    end = is.end;
    chain = record { serves = serves; says = is.chain.says; chain = is.chain.chain };
    is = is.is;
    reached = is.reached;
    bare = is.bare;
  }

  same_kept_under : (v : Version) (a : Folder) → IsKeptUnder shared old v a → IsKeptUnder shared new v a
  same_kept_under v a is = record {
    under = same_under v a is.under;
    ours = is.ours;
    place = elim is.place [ inl below ↦ inl below | inr at ↦ inr (at.0, same_stands v a at.0 at.1) ];
    seen = is.seen;
    saves = λ late previous serves. elim (is.saves late previous (seat.previous previous serves)) [
      | inl it ↦ inl (same_saved v a previous serves it)
      | inr none ↦ inr none
    ];
  }

pub same_seat_is_kept : SameSeatIsKept
same_seat_is_kept shared old new seat is = record {
  state = seat.state;
  formatted = elim is.formatted [ inl none ↦ inl (seat.unserved none) | inr it ↦ inr (it.0, it.1, same_kept_under shared old new seat it.0 it.1 it.2) ];
}

pub same_seat_ends : SameSeatEnds
same_seat_ends old new v has what end seat is = record {
  state = seat.state;
  folder = is.folder;
  under = record { serves = seat.current is.folder is.under.serves; says = is.under.says };
  chain = is.chain;
  bare = is.bare;
  seen = is.seen;
  previous = seat.there ∙ is.previous;
  holds = λ previous serves. (
      let it = is.holds previous (seat.previous previous serves) in
      record { sound = it.sound; own = it.own; end = it.end; chain = record { serves = serves; says = it.chain.says; chain = it.chain.chain }; is = it.is; low = it.low; bare = it.bare }
      );
}

-- ---- what is left behind is cut down

pub version_there : (a b : Folder) (v : Version) → a name.Version ≡ b name.Version → HasVersion a v → HasVersion b v
version_there a b v same is = (is.0, sym same ∙ is.1, is.2)

pub seen_there : (a b : Folder) (id : ℕ) → a name.Seen ≡ b name.Seen → HasSeen a id → HasSeen b id
seen_there a b id same (inl says) = inl (says.0, sym same ∙ says.1, says.2)
seen_there a b id same (inr none) = inr (none.0, λ said says. none.1 said (says.0, same ∙ says.1, says.2))

-- what a directory below the floor reaches, the floor reaches
pub reached_by_floor : (shared : Shared) (v : Version) (a : Folder) (id : ℕ) → shared.floor.ctime ≤ v.ctime → IsBelowFloor shared v a → IsReached shared v a id → (v.ctime ≡ shared.floor.ctime) × (id ≤ shared.floor.last)
reached_by_floor shared v a id late below (inr level) = level
reached_by_floor shared v a id late (inl less) (inl own) = absurd (omega (arith, late, less))
reached_by_floor shared v a id late (inr is) (inl own) = (is.0, (let less = is.1 own.0 own.1 in omega (arith, less, own.2)))

module _ (shared : Shared) (old new : Reads) (cut : IsCutFrom old new) (kept : IsKept shared old) (low_before : IsOutranked shared old) (up : IsUpToFloor shared new) where
  cut_under : (v : Version) (b a : Folder) → ServesUnder new v a → IsKeptUnder shared old v b → a name.Seen ≡ b name.Seen → IsKeptUnder shared new v a
  cut_under v b a under its same = record {
    under = under;
    ours = its.ours;
    place = elim (up v a under) [ inl low ↦ inl low | inr at ↦ inr (shared.floor, at.0) ];
    seen = λ late id has. inr (reached_by_floor shared v b (id - 1) late (low_before v b its.under) (its.seen late id (seen_there a b id same has)));
    saves = λ late previous serves. elim (its.saves late previous (cut.previous previous serves)) [
      | inl it ↦ inl (record {
        sound = it.sound;
        own = it.own;
        end = it.end;
        chain = record { serves = serves; says = it.chain.says; chain = it.chain.chain };
        is = it.is;
        reached = inr (reached_by_floor shared v b it.end.last late (low_before v b its.under) it.reached);
        bare = it.bare;
      })
      | inr none ↦ elim (up v a under) [
        | inl low ↦ inr (none.0, low)
        | inr at ↦ absurd (at.1 (λ gone. none-some serves.sub (sym gone ∙ serves.serves)) none.0)
      ]
    ];
  }

  cut_from : (a : Folder) → ServesCurrent new a → (v : Version) × IsKeptUnder shared new v a
  cut_from a serves =
      let it = cut.current a serves in
      elim kept.formatted [
        | inl none ↦ absurd (serves_formatted old it.0 it.1 none)
        | inr is ↦ (
            let here : HasVersion it.0 is.0 = subst (λ (f : Folder). HasVersion f is.0) (one_current old is.1 it.0 is.2.under.serves it.1) is.2.under.says in
            let its = kept_under shared old is.0 it.0 kept (record { serves = it.1; says = here }) in
            (is.0, cut_under is.0 it.0 a (record { serves = serves; says = version_there it.0 a is.0 (sym it.2) here }) its it.3)
            )
      ]

  cut_kept : IsKept shared new
  cut_kept = record {
    state = cut.state;
    formatted = elim (some_or_none (serving new)) [
      | inl has ↦ (
          let sub = there (serving new) has in
          let it = cut_from (folder_at new sub.0) (record { sub = sub.0; serves = sub.1; is = refl }) in
          inr (it.0, folder_at new sub.0, it.1)
          )
      | inr none ↦ inl none
    ];
  }

pub cut_is_kept : CutIsKept
cut_is_kept = cut_kept
