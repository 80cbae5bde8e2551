-- Sound directories are kept, by the rank of those chosen for the floor.
use Rattle.std.proofs.Common.{Some, List, [], ◌∷◌, ◌++◌, length, append-nil, ◌≡◌, ◌⊎◌, inl, inr, ℕ, ◌<◌, ◌≤◌, Option, None, refl, sym, ◌∙◌, ap, subst, arith, true≢false}
use Rattle.std.specs.Prelude.{Contains}
use Rattle.std.proofs.lemmas.Bool.{cases_lt, cases_eq, cases_Bool}
use Rattle.std.proofs.lemmas.Option.{none-some}
use Rattle.nn_host.specs.Disk.{Disk, Reads, Leaves, LeavesFile, Settle, certain, disk_after}
use Rattle.nn_marks.specs.declared.version.Version.{Version}
use Rattle.nn_tree.specs.Namespace.{Namespace}
use Rattle.nn_state.specs.Seat.{saved}
use Rattle.nn_chain.specs.Folder.{Folder}
use Rattle.nn_chain.specs.Chain.{Reached, IsChain, EndsBare}
use Rattle.nn_pick.specs.declared.intent.Intent.{Intent}
use Rattle.nn_pick.specs.Dirs.{Dirs, ServesPrevious, ServesUnder, HasGreatestCtime, IsChosen, IsAmongChosen}
use Rattle.nn_pick.specs.Refusing.{spent_from, SomeChosen, IsChosenWithPrevious, HasServingPrevious}
use Rattle.nn_pick.specs.Opening.{Book, IsSaved, Unsaved, Lost, Kept, AgreesOnSaved, AreSound}
use Rattle.nn_kept.specs.Kept.{Rank, end_at, IsBelow, Shared, IsOfWindow, book_at, Stands, IsBelowFloor, HoldsSaved, IsKeptUnder, IsKept, IsOfRun, IsLedOfRun}
use Rattle.nn_kept.specs.First.{IsFirst, SoundIsKept, SettledIsKept}
use Rattle.nn_kept.specs.Laws.{IsOutranked}
use Rattle.nn_kept.proofs.KeptLemmas.{under_each}
use Rattle.nn_kept.proofs.KeptOpenLemmas.{lowest_of, there, some_or_none, book_empty, book_kept}
use Rattle.nn_kept.proofs.UnrefusedLemmas.{has_state, read, agree, ours, no_spent, no_gap}

not_below_itself : (a b : Rank) → a ≡ b → ¬ IsBelow a b
not_below_itself a b same (inl less) = let e = ap (λ (r : Rank). r.ctime) same in omega (arith, e, less)
not_below_itself a b same (inr more) = let e = ap (λ (r : Rank). r.last) same in omega (arith, e, more.1)

module _ (shared : Shared) (dirs : Dirs) (intent : Intent) (sound : AreSound dirs intent) (first : IsFirst shared dirs intent sound) where
  -- the lowest chosen directory

  low : IsChosen dirs sound.opens.first.dir sound.opens.version sound.opens.first.folder sound.opens.end
  low = sound.opens.first.chosen

  some_chosen : SomeChosen dirs sound.opens.version sound.opens.end
  some_chosen = record { dir = sound.opens.first.dir; folder = sound.opens.first.folder; chosen = low }

  ctime_is : shared.floor.ctime ≡ sound.opens.version.ctime
  ctime_is = ap (λ (r : Rank). r.ctime) first.floor

  last_is : shared.floor.last ≡ sound.opens.end.last
  last_is = ap (λ (r : Rank). r.last) first.floor ∙ sound.opens.last

  -- ---- which are chosen

  at_most : (i : ℕ) (v : Version) (a : Folder) → i < dirs.count → ServesUnder (dirs.at i) v a → v.ctime ≤ shared.floor.ctime
  at_most i v a below under = let most = low.ahead.greatest i v a below under in omega (arith, most, ctime_is)

  ahead_at : (i : ℕ) (v : Version) (a : Folder) → i < dirs.count → ServesUnder (dirs.at i) v a → v.ctime ≡ shared.floor.ctime → HasGreatestCtime dirs i v a
  ahead_at i v a below under same = record { below = below; under = under; greatest = λ j w b inside is. (let most = at_most j w b inside is in omega (arith, most, same)) }

  chosen_if : (i : ℕ) (v : Version) (a : Folder) (end : Reached) → HasGreatestCtime dirs i v a → IsChain a v end → shared.floor.last ≤ end.last → IsAmongChosen dirs i
  chosen_if i v a end ahead chain high = (
    v,
    a,
    end,
    record {
      ahead = ahead;
      chain = chain;
      greatest = λ j w b other is its. (let most = low.greatest j w b other is its in omega (arith, most, last_is, high));
    },
  )

  unchosen_below : (i : ℕ) (v : Version) (a : Folder) → HasGreatestCtime dirs i v a → v.ctime ≡ shared.floor.ctime → ¬ IsAmongChosen dirs i → IsBelowFloor shared v a
  unchosen_below i v a ahead same none = inr (
    same,
    λ end chain. elim (cases_lt end.last shared.floor.last) [
      | inl less ↦ less
      | inr high ↦ absurd (none (chosen_if i v a end ahead chain high))
    ],
  )

  chosen_decided : (i : ℕ) → IsAmongChosen dirs i ⊎ (¬ IsAmongChosen dirs i)
  chosen_decided i = elim (cases_Bool (sound.opened.chosen i)) [
    | inl so ↦ inl ((sound.opens.chosen i).1 so)
    | inr not_so ↦ inr (λ is. true≢false (sym ((sound.opens.chosen i).0 is) ∙ not_so))
  ]

  -- ---- what is saved

  holder_decided : (i : ℕ) → i < dirs.count → IsChosenWithPrevious dirs i ⊎ (¬ IsChosenWithPrevious dirs i)
  holder_decided i below = elim (chosen_decided i) [
    | inl is ↦ elim (some_or_none (saved (dirs.at i))) [ inl has ↦ inl (is, has) | inr none ↦ inr (λ h. h.1 none) ]
    | inr none ↦ inr (λ h. none h.0)
  ]

  unsaved : (what : Option Namespace) → IsSaved dirs what → ((i : ℕ) → i < dirs.count → ¬ IsChosenWithPrevious dirs i) → what ≡ None
  unsaved what (Unsaved none is) no_holder = is
  unsaved what (Lost i lowest lost is) no_holder = is
  unsaved what (Kept i folder own end lowest chain is) no_holder = absurd (no_holder i lowest.below lowest.holds)

  holds_by : (i : ℕ) (v : Version) (a previous : Folder) → HasGreatestCtime dirs i v a → v.ctime ≡ shared.floor.ctime → ServesPrevious (dirs.at i) previous → AgreesOnSaved dirs sound.opened → HoldsSaved shared (dirs.at i) v a previous
  holds_by i v a previous ahead same serves agrees =
      let it = agrees.chain i v a previous ahead serves in
      record {
        sound = λ reason. agrees.sound i v a previous reason ahead serves;
        own = it.0;
        end = it.1;
        chain = it.2;
        is = ap shared.saved same ∙ first.saved ∙ it.3;
        reached = inr (same, (let most = it.4 in omega (arith, most, last_is, sound.opens.last)));
        bare = it.5;
      }

  saves_at : (i : ℕ) (v : Version) (a previous : Folder) → HasGreatestCtime dirs i v a → v.ctime ≡ shared.floor.ctime → ServesPrevious (dirs.at i) previous → HoldsSaved shared (dirs.at i) v a previous ⊎ ((shared.saved v.ctime ≡ None) × IsBelowFloor shared v a)
  saves_at i v a previous ahead same serves = elim (lowest_of dirs.count (IsChosenWithPrevious dirs) holder_decided) [
    | inl found ↦ inl (holds_by i v a previous ahead same serves (sound.saved found.0 found.1.holds))
    | inr none ↦ inr (
      ap shared.saved same ∙ first.saved ∙ unsaved sound.opened.book.saved sound.opens.saved none,
      unchosen_below i v a ahead same (λ is. none i ahead.below (is, λ gone. none-some serves.sub (sym gone ∙ serves.serves))),
    )
  ]

  -- ---- those chosen stand

  the_end : (i : ℕ) (is : IsAmongChosen dirs i) → is.2 ≡ end_at shared shared.floor
  the_end i is =
      let up = is.3.greatest sound.opens.first.dir sound.opens.version sound.opens.first.folder sound.opens.end low.ahead low.chain in
      let down = low.greatest i is.0 is.1 is.2 is.3.ahead is.3.chain in
      let last : is.2.last ≡ shared.floor.last = omega (arith, up, down, last_is) in
      let ns : is.2.ns ≡ shared.ns shared.floor.ctime shared.floor.last = (sound.one i is.0 is.1 is.2 is.3).0 ∙ sym first.ns in
      λ k. record { last = last k; ns = ns k }

  ctime_chosen : (i : ℕ) (is : IsAmongChosen dirs i) → is.0.ctime ≡ shared.floor.ctime
  ctime_chosen i is =
      let most = at_most i is.0 is.1 is.3.ahead.below is.3.ahead.under in
      let least = is.3.ahead.greatest sound.opens.first.dir sound.opens.version sound.opens.first.folder low.ahead.below low.ahead.under in
      omega (arith, most, least, ctime_is)

  room : shared.floor.last < spent_from
  room = let few = no_spent dirs intent sound.opens.unrefused sound.opens.version sound.opens.end some_chosen in omega (arith, few, last_is)

  -- the Book that it alone opens to

  the_book : Book
  the_book = record { ns = shared.ns shared.floor.ctime shared.floor.last; saved = shared.saved shared.floor.ctime }

  same_book : the_book ≡ sound.opened.book
  unfolding the_book
  same_book = λ k. record { ns = first.ns k; saved = first.saved k }

  book_there : Contains shared.window the_book
  book_there = subst (Contains shared.window) (sym same_book) first.there

  inside_at : (i : ℕ) → IsOfWindow shared.window (book_at shared (dirs.at i) shared.floor)
  unfolding the_book
  inside_at i = elim (some_or_none (saved (dirs.at i))) [
    | inl has ↦ (
        let sub = there (saved (dirs.at i)) has in
        let e = book_kept shared (dirs.at i) shared.floor sub.0 (shared.saved shared.floor.ctime) sub.1 refl in
        subst (IsOfWindow shared.window) (sym e) (record { saved = shared.saved shared.floor.ctime; there = book_there; part = inl refl })
        )
    | inr none ↦ subst (IsOfWindow shared.window) (sym (book_empty shared (dirs.at i) shared.floor none)) (record { saved = shared.saved shared.floor.ctime; there = book_there; part = inr refl })
  ]

  stands_chosen : (i : ℕ) (is : IsAmongChosen dirs i) → Stands shared (dirs.at i) is.0 is.1 shared.floor
  stands_chosen i is = record {
    ctime = ctime_chosen i is;
    chain = subst (IsChain is.1 is.0) (the_end i is) is.3.chain;
    bare = subst (EndsBare is.1 is.0) (the_end i is) (sound.one i is.0 is.1 is.2 is.3).1;
    room = room;
    inside = inside_at i;
    led = λ above. absurd (not_below_itself shared.lead shared.floor first.lead above);
  }

  -- ---- so each is kept

  place_at : (i : ℕ) (v : Version) (a : Folder) → i < dirs.count → ServesUnder (dirs.at i) v a → IsBelowFloor shared v a ⊎ ((rank : Rank) × Stands shared (dirs.at i) v a rank)
  place_at i v a below under = elim (cases_eq v.ctime shared.floor.ctime) [
    | inl same ↦ elim (chosen_decided i) [
      | inl is ↦ inr (shared.floor, under_each (dirs.at i) (λ x f. Stands shared (dirs.at i) x f shared.floor) is.0 v is.1 a is.3.ahead.under under (stands_chosen i is))
      | inr none ↦ inl (unchosen_below i v a (ahead_at i v a below under same) same none)
    ]
    | inr apart ↦ (let most = at_most i v a below under in inl (inl (omega (arith, most, apart))))
  ]

  late : (i : ℕ) (v : Version) (a : Folder) → i < dirs.count → ServesUnder (dirs.at i) v a → shared.floor.ctime ≤ v.ctime → v.ctime ≡ shared.floor.ctime
  late i v a below under least = let most = at_most i v a below under in omega (arith, most, least)

  kept_at : (i : ℕ) (v : Version) (a : Folder) → i < dirs.count → ServesUnder (dirs.at i) v a → IsKeptUnder shared (dirs.at i) v a
  kept_at i v a below under =
      let same = agree dirs intent sound.opens.unrefused i first.ids.0 v shared.ids a first.ids.1 below first.ids.2 under first.ids.3 in
      record {
        under = under;
        ours = record { namespace = same.0; cluster = same.1; blockpool = same.2; layout = ours dirs intent sound.opens.unrefused i v a below under };
        place = place_at i v a below under;
        seen = λ least id has. (
            let level = late i v a below under least in
            let few = no_gap dirs intent sound.opens.unrefused sound.opens.version sound.opens.end some_chosen i v a id (ahead_at i v a below under level) has in
            inr (level, omega (arith, few, last_is))
            );
        saves = λ least previous serves. (let level = late i v a below under least in saves_at i v a previous (ahead_at i v a below under level) level serves);
      }

  is_kept : (i : ℕ) → i < dirs.count → IsKept shared (dirs.at i)
  is_kept i below = record {
    state = has_state dirs intent sound.opens.unrefused i below;
    formatted = elim (read dirs intent sound.opens.unrefused i below) [ inl none ↦ inl none | inr it ↦ inr (it.0, it.1, kept_at i it.0 it.1 below it.2) ];
  }

  of_run : (i : ℕ) → IsAmongChosen dirs i → IsOfRun shared (dirs.at i) shared.floor
  of_run i is = record { version = is.0; folder = is.1; under = is.3.ahead.under; stands = stands_chosen i is; high = inr (refl, omega arith) }

  its_book : (i : ℕ) → HasServingPrevious dirs i ⊎ (sound.opened.book.saved ≡ None) → book_at shared (dirs.at i) shared.floor ≡ the_book
  unfolding the_book
  its_book i either = elim (some_or_none (saved (dirs.at i))) [
    | inl has ↦ (let sub = there (saved (dirs.at i)) has in book_kept shared (dirs.at i) shared.floor sub.0 (shared.saved shared.floor.ctime) sub.1 refl)
    | inr none ↦ elim either [
      | inl has ↦ absurd (has none)
      | inr empty ↦ book_empty shared (dirs.at i) shared.floor none ∙ (λ k. record { ns = shared.ns shared.floor.ctime shared.floor.last; saved = (sym empty ∙ sym first.saved) k })
    ]
  ]

  holder : (i : ℕ) → IsAmongChosen dirs i → HasServingPrevious dirs i ⊎ (sound.opened.book.saved ≡ None) → IsLedOfRun shared (dirs.at i)
  holder i is either = record {
    rank = shared.floor;
    run = of_run i is;
    led = inr (ap (λ (r : Rank). r.ctime) first.lead, (let e = ap (λ (r : Rank). r.last) first.lead in omega (arith, e)));
    inside = subst (Contains shared.window) (sym (its_book i either)) book_there;
  }

  behind : (i : ℕ) → i < dirs.count → ¬ IsAmongChosen dirs i → IsOutranked shared (dirs.at i)
  behind i below none v a under = elim (cases_eq v.ctime shared.floor.ctime) [
    | inl same ↦ unchosen_below i v a (ahead_at i v a below under same) same none
    | inr apart ↦ (let most = at_most i v a below under in inl (omega (arith, most, apart)))
  ]

pub sound_is_kept : SoundIsKept
sound_is_kept shared dirs intent sound first = record {
  kept = is_kept shared dirs intent sound first;
  run = of_run shared dirs intent sound first;
  led = holder shared dirs intent sound first;
  behind = behind shared dirs intent sound first;
}

-- ---- a settled disk

settled_file : (f : Option (List ℕ)) (g : Option (List ℕ)) → LeavesFile (certain f) g → g ≡ f
settled_file None None is = refl
settled_file None (Some bytes) is = absurd is
settled_file (Some bytes) None is = absurd is
settled_file (Some bytes) (Some other) is = ap (λ (b : List ℕ). Some b) (is.split ∙ ap (λ (tail : List ℕ). bytes ++ tail) (empty is.tail is.short) ∙ append-nil bytes)
  where
    empty : (tail : List ℕ) → length tail ≤ 0 → tail ≡ []
    empty [] none = refl
    empty (x ∷ xs) some = absurd (omega (arith, some))

pub settled_reads : (d : Disk) (r c : Reads) → Leaves d r → Leaves (disk_after Settle r d) c → c ≡ r
settled_reads d r c before left = λ k. record {
  root = (left.root ∙ sym before.root) k;
  has = λ s. (left.subs s ∙ sym (before.subs s)) k;
  file = λ s n. settled_file (r.file s n) (c.file s n) (left.files s n) k;
}

pub settled_is_kept : SettledIsKept
settled_is_kept shared of_run holder d r leaves kept run held = record {
  kept = λ c left fair. subst (IsKept shared) (sym (settled_reads d r c leaves left)) kept;
  run = λ e c left fair. (let it = run e in (it.0, subst (λ (x : Reads). IsOfRun shared x it.0) (sym (settled_reads d r c leaves left)) it.1));
  led = λ e c left fair. subst (IsLedOfRun shared) (sym (settled_reads d r c leaves left)) (held e);
}
