-- Kept directories with one of the run are not refused; they open to a Book of the window, and are sound.
use Rattle.std.proofs.Common.{◌≡◌, ◌⊎◌, inl, inr, ℕ, zero, suc, ℤ, ◌-◌, ◌<◌, ◌≤◌, Bool, true, false, Option, Some, None, Ok, refl, sym, ◌∙◌, ap, subst, arith, true≢false}
use Rattle.std.specs.Prelude.{◌≢◌, ◌↔◌, ◌<ℤ◌, is_some, if◌then◌else◌, Contains, Result}
use Rattle.std.proofs.lemmas.Bool.{cases_lt, cases_eq}
use Rattle.std.proofs.lemmas.Bool.Decides.{eqb_tells}
use Rattle.std.proofs.lemmas.Int.{ints}
use Rattle.std.proofs.lemmas.Option.{none-some}
use Rattle.nn_base.specs.Limits.{program_layout}
use Rattle.nn_base.specs.declared.sub.Sub.{Sub}
use Rattle.nn_host.specs.Disk.{Reads}
use Rattle.nn_marks.specs.declared.version.Version.{Version}
use Rattle.nn_state.specs.declared.state.StorageState.{StorageState}
use Rattle.nn_state.specs.declared.state.StorageState.TheVariants.{NonExistent, NotFormatted, Normal, CompleteUpgrade, RecoverUpgrade, CompleteFinalize, CompleteRollback, RecoverRollback, CompleteCheckpoint, RecoverCheckpoint}
use Rattle.nn_state.specs.declared.state.Why.{Why}
use Rattle.nn_state.specs.Table.{seven_of, table_of}
use Rattle.nn_state.specs.Seat.{saved}
use Rattle.nn_tree.specs.Namespace.{Namespace}
use Rattle.nn_chain.specs.Folder.{Folder, HasVersion, folder_at}
use Rattle.nn_chain.specs.Chain.{Reached, EndsBare}
use Rattle.nn_pick.specs.declared.intent.Intent.TheVariants.{Start}
use Rattle.nn_pick.specs.declared.refusal.Refusal.{Refusal}
use Rattle.nn_pick.specs.declared.refusal.Refusal.TheVariants as refusal
use Rattle.nn_pick.specs.Refused.{unusable, first_refused}
use Rattle.nn_pick.specs.Dirs.{choice, Dirs, IsLowest, ServesCurrent, ServesPrevious, ServesUnder, HasGreatestCtime, IsChosen, IsAmongChosen, version_fault, fault_in}
use Rattle.nn_pick.specs.Refusing.{Applies, SomeChosen, IsChosenWithPrevious, first_difference}
use Rattle.nn_pick.specs.Opening.{Book, Opening, Opens, IsSaved, Unsaved, Kept, AgreesOnSaved, AreSound}
use Rattle.nn_kept.specs.Kept.{Rank, end_at, IsBelow, IsAtMost, Shared, IsOfWindow, book_at, HasState, IsOurs, Stands, IsReached, HoldsSaved, IsKeptUnder, IsKept, IsLedOfRun}
use Rattle.nn_kept.specs.Laws.{OpenInto, HasOfRun, HasLedOfRun, ChosenAreHigh, KeptOpen}
use Rattle.nn_pick.proofs.VersionLemmas.{one_current, same_namespace, same_word}
use Rattle.nn_pick.proofs.HoldsLemmas.{serves_formatted}
use Rattle.nn_pick.proofs.OneImageLemmas.{none_refused}
use Rattle.nn_kept.proofs.GreatestLemmas.{Top, top, ChosenSo, kept_under, top_ahead, ctime_is, last_low, chosen_at, chosen_so, chosen_decided, top_chosen, stands_high}

-- ---- what is decided below a bound

-- the lowest number of which P holds, or there is none
pub lowest_of : (n : ℕ) (P : ℕ → Type 0) → ((i : ℕ) → i < n → P i ⊎ (¬ P i)) → ((k : ℕ) × IsLowest n P k) ⊎ ((i : ℕ) → i < n → ¬ P i)
lowest_of zero P decided = inr (λ i below is. omega (arith, below))
lowest_of (suc n) P decided = elim (lowest_of n P (λ i below. decided i (omega (arith, below)))) [
  | inl found ↦ (let below = found.1.below in inl (found.0, record { below = omega (arith, below); holds = found.1.holds; least = found.1.least }))
  | inr none ↦ elim (decided n (omega arith)) [
    | inl holds ↦ inl (n, record { below = omega arith; holds = holds; least = λ j lt. none j lt })
    | inr fails ↦ inr (λ i below. elim (eqb_tells i n) [
      | inl last ↦ subst (λ (k : ℕ). ¬ P k) (sym last.1) fails
      | inr before ↦ none i (omega (arith, below, before.1))
    ])
  ]
]

-- the answer as a truth value
told : (n : ℕ) (P : ℕ → Type 0) → ((i : ℕ) → P i → i < n) → ((i : ℕ) → i < n → P i ⊎ (¬ P i)) → (i : ℕ) → (b : Bool) × (P i ↔ (b ≡ true))
told n P bound decided i = elim (cases_lt i n) [
  | inl below ↦ elim (decided i below) [
    | inl is ↦ (true, (λ it. refl, λ e. is))
    | inr not_so ↦ (false, (λ it. absurd (not_so it), λ e. absurd (true≢false (sym e))))
  ]
  | inr above ↦ (false, (λ it. (let below = bound i it in absurd (omega (arith, below, above))), λ e. absurd (true≢false (sym e))))
]

pub there : {A : Type 0} (o : Option A) → o ≢ None → (a : A) × (o ≡ Some a)
there None not_none = absurd (not_none refl)
there (Some a) not_none = (a, refl)

pub some_or_none : {A : Type 0} (o : Option A) → (o ≢ None) ⊎ (o ≡ None)
some_or_none None = inr refl
some_or_none (Some a) = inl (λ e. none-some a (sym e))

-- ---- one directory

state_usable : (i : ℕ) (state : StorageState) → state ≢ NonExistent → unusable i (Ok state) ≡ None
state_usable i NonExistent there = absurd (there refl)
state_usable i NotFormatted there = refl
state_usable i Normal there = refl
state_usable i CompleteUpgrade there = refl
state_usable i RecoverUpgrade there = refl
state_usable i CompleteFinalize there = refl
state_usable i CompleteRollback there = refl
state_usable i RecoverRollback there = refl
state_usable i CompleteCheckpoint there = refl
state_usable i RecoverCheckpoint there = refl

kept_usable : (c : Reads) (i : ℕ) → HasState c → unusable i (table_of (seven_of c)) ≡ None
kept_usable c i state = ap (λ (r : Result StorageState Why). unusable i r) state.1 ∙ state_usable i state.0 state.2

kept_current : (shared : Shared) (c : Reads) (a : Folder) → IsKept shared c → ServesCurrent c a → (v : Version) × ServesUnder c v a
kept_current shared c a kept serves = elim kept.formatted [
  | inl none ↦ absurd (serves_formatted c a serves none)
  | inr is ↦ (is.0, record { serves = serves; says = under_current is.2.under })
] where
  under_current : {v : Version} {b : Folder} → ServesUnder c v b → HasVersion a v
  under_current {v} {b} under = subst (λ (f : Folder). HasVersion f v) (one_current c b a under.serves serves) under.says

sound_version : (a : Folder) (v : Version) → HasVersion a v → version_fault a ≡ None
sound_version a v has = ap fault_in has.1 ∙ has.2.sound

ours_agree : (shared : Shared) (v w : Version) → IsOurs shared v → IsOurs shared w → first_difference v w ≡ None
ours_agree shared v w p q = rw (same_namespace v.namespace w.namespace (p.namespace ∙ sym q.namespace), same_word v.cluster w.cluster (p.cluster ∙ sym q.cluster), same_word v.blockpool w.blockpool (p.blockpool ∙ sym q.blockpool))

-- ---- nothing refuses

module _ (shared : Shared) (dirs : Dirs) (kept : (i : ℕ) → i < dirs.count → IsKept shared (dirs.at i)) (t : Top shared dirs dirs.count) where
  late : (v : Version) → v.ctime ≡ t.rank.ctime → shared.floor.ctime ≤ v.ctime
  late v same = elim t.high [ inl over ↦ omega (arith, over, same) | inr level ↦ omega (arith, level.0, same) ]

  -- the chosen end at or above what is reached
  reached_low : (i : ℕ) (v : Version) (a : Folder) (id : ℕ) → HasGreatestCtime dirs i v a → IsReached shared v a id → id ≤ t.rank.last
  reached_low i v a id is (inl own) = let low = last_low shared dirs kept t i v a own.0 is own.1 in omega (arith, low, own.2)
  reached_low i v a id is (inr level) =
      let same = ctime_is shared dirs kept t i v a is in
      elim t.high [ inl over ↦ absurd (omega (arith, over, same, level.0)) | inr high ↦ omega (arith, high.1, level.1) ]

  under_kept : (i : ℕ) (v : Version) (a : Folder) → i < dirs.count → ServesUnder (dirs.at i) v a → IsKeptUnder shared (dirs.at i) v a
  under_kept i v a below under = kept_under shared (dirs.at i) v a (kept i below) under

  none_unusable : first_refused (λ j. unusable j (table_of (seven_of (dirs.at j)))) dirs.count ≡ None
  none_unusable = none_refused (λ j. unusable j (table_of (seven_of (dirs.at j)))) dirs.count (λ i below. kept_usable (dirs.at i) i (kept i below).state)

  some_last : (v : Version) (end : Reached) → SomeChosen dirs v end → end.last ≡ t.rank.last
  some_last v end is = ap (λ (r : Reached). r.last) (chosen_so shared dirs kept t is.dir v is.folder end is.chosen).is

  unrefused : (r : Refusal) → ¬ Applies dirs Start r
  unrefused (refusal.Missing i) is = none-some _ (sym none_unusable ∙ is)
  unrefused (refusal.Inconsistent i why) is = none-some _ (sym none_unusable ∙ is)
  unrefused (refusal.Formatted i) is = is
  unrefused refusal.NotFormatted is = is t.dir t.inside (serves_formatted (dirs.at t.dir) t.standing.folder t.standing.kept.under.serves)
  unrefused (refusal.BadVersion i fault) is =
      let read = kept_current shared (dirs.at i.0) is.1 (kept i.0 is.0.below) is.2 in
      none-some fault (sym (sound_version is.1 read.0 read.1.says) ∙ is.3)
  unrefused (refusal.Mismatch first dir key) is =
      let one = under_kept first.0 is.1 is.2 is.0.below is.3 in
      let other = under_kept dir.0 is.5.other is.5.folder is.4.below is.5.under in
      none-some key (sym (ours_agree shared is.1 is.5.other one.ours other.ours) ∙ is.5.by)
  unrefused (refusal.FutureLayout i found) is =
      let its = under_kept i.0 is.1.version is.1.folder is.0.below is.1.under in
      let before : program_layout <ℤ program_layout = subst (λ (layout : ℤ). layout <ℤ program_layout) (sym is.1.is ∙ its.ours.layout) is.1.so in
      omega (arith, ints, before)
  unrefused (refusal.ForeignLayout i found) is =
      let its = under_kept i.0 is.1.version is.1.folder is.0.below is.1.under in
      is.1.so.1 (sym is.1.is ∙ its.ours.layout)
  unrefused (refusal.NoImage i why) is =
      let newest = t.standing.stands.chain.newest in
      is.1 t.dir t.standing.version t.standing.folder t.standing.stands.chain.image (top_ahead shared dirs kept t) newest.intact
  unrefused (refusal.Gap seen last) is =
      let e = some_last is.0 is.1 is.2 in
      let said = is.4.said in
      let its = under_kept said.0 said.1 said.2 said.3.below said.3.under in
      let low = reached_low said.0 said.1 said.2 (seen - 1) said.3 (its.seen (late said.1 (ctime_is shared dirs kept t said.0 said.1 said.2 said.3)) seen said.4) in
      omega (arith, e, is.3, low, is.5)
  unrefused (refusal.Spent last) is =
      let e = some_last is.0 is.1 is.2 in
      let room = t.standing.stands.room in
      omega (arith, e, is.3, is.4, room)
  unrefused (refusal.PreviousExists i) is = cc
  unrefused (refusal.CtimeSpent old) is = cc
  unrefused refusal.NoPrevious is = cc
  unrefused (refusal.BadPrevious i why) is = cc

-- ---- what is saved

-- the Book of this rank with this saved part
abbrev book_with : Shared → Rank → Option Namespace → Book
book_with shared rank what = record { ns = shared.ns rank.ctime rank.last; saved = what }

pub book_kept : (shared : Shared) (c : Reads) (rank : Rank) (sub : Sub) (what : Option Namespace) → saved c ≡ Some sub → shared.saved rank.ctime ≡ what → book_at shared c rank ≡ book_with shared rank what
book_kept shared c rank sub what has is = ap (λ (o : Option Sub). book_with shared rank (if is_some o then shared.saved rank.ctime else None)) has ∙ ap (book_with shared rank) is

pub book_empty : (shared : Shared) (c : Reads) (rank : Rank) → saved c ≡ None → book_at shared c rank ≡ book_with shared rank None
book_empty shared c rank none = ap (λ (o : Option Sub). book_with shared rank (if is_some o then shared.saved rank.ctime else None)) none

-- what is saved, with a chosen directory that shows it: each holder holds it, or there is none
record SavedSo (shared : Shared) (dirs : Dirs) (rank : Rank) (what : Option Namespace) : Type 0 where
  is : IsSaved dirs what
  dir : ℕ
  chosen : IsAmongChosen dirs dir
  shows : book_at shared (dirs.at dir) rank ≡ book_with shared rank what
  kind : ((what ≢ None) × (shared.saved rank.ctime ≡ what)) ⊎ ((what ≡ None) × ((i : ℕ) → ¬ IsChosenWithPrevious dirs i))

module _ (shared : Shared) (dirs : Dirs) (kept : (i : ℕ) → i < dirs.count → IsKept shared (dirs.at i)) (t : Top shared dirs dirs.count) where
  previous_of : (i : ℕ) → saved (dirs.at i) ≢ None → (folder : Folder) × ServesPrevious (dirs.at i) folder
  previous_of i has = let sub = there (saved (dirs.at i)) has in (folder_at (dirs.at i) sub.0, record { sub = sub.0; serves = sub.1; is = refl })

  holds : (i : ℕ) (v : Version) (a : Folder) (end : Reached) → IsChosen dirs i v a end → (previous : Folder) → ServesPrevious (dirs.at i) previous → HoldsSaved shared (dirs.at i) v a previous
  holds i v a end is previous serves =
      let so = chosen_so shared dirs kept t i v a end is in
      elim (so.kept.saves (late shared dirs kept t v so.stands.ctime) previous serves) [
        | inl it ↦ it
        | inr none ↦ absurd (stands_high shared dirs kept t (dirs.at i) v a so.stands none.1)
      ]

  saved_is : (i : ℕ) (v : Version) (a : Folder) (end : Reached) → IsChosen dirs i v a end → (previous : Folder) (it : HoldsSaved shared (dirs.at i) v a previous) → shared.saved t.rank.ctime ≡ Some it.end.ns
  saved_is i v a end is previous it = ap shared.saved (sym (ctime_is shared dirs kept t i v a is.ahead)) ∙ it.is

  holder_decided : (i : ℕ) → i < dirs.count → IsChosenWithPrevious dirs i ⊎ (¬ IsChosenWithPrevious dirs i)
  holder_decided i below = elim (chosen_decided shared dirs kept t i below) [
    | inl is ↦ elim (some_or_none (saved (dirs.at i))) [ inl has ↦ inl (is, has) | inr none ↦ inr (λ h. h.1 none) ]
    | inr not_so ↦ inr (λ h. not_so h.0)
  ]

  saved_by : (h : ℕ) → IsLowest dirs.count (IsChosenWithPrevious dirs) h → (what : Option Namespace) × SavedSo shared dirs t.rank what
  saved_by h low =
      let chosen = low.holds.0 in
      let previous = previous_of h low.holds.1 in
      let it = holds h chosen.0 chosen.1 chosen.2 chosen.3 previous.0 previous.1 in
      let is = saved_is h chosen.0 chosen.1 chosen.2 chosen.3 previous.0 it in (
        Some it.end.ns,
        record {
          is = Kept h previous.0 it.own it.end low it.chain refl;
          dir = h;
          chosen = chosen;
          shows = book_kept shared (dirs.at h) t.rank previous.1.sub (Some it.end.ns) previous.1.serves is;
          kind = inl (λ e. none-some it.end.ns (sym e), is);
        },
      )

  none_there : ((i : ℕ) → i < dirs.count → ¬ IsChosenWithPrevious dirs i) → (i : ℕ) → ¬ IsChosenWithPrevious dirs i
  none_there none i is = none i is.0.3.ahead.below is

  unsaved : (i : ℕ) → IsAmongChosen dirs i → ¬ IsChosenWithPrevious dirs i → saved (dirs.at i) ≡ None
  unsaved i chosen none = elim (some_or_none (saved (dirs.at i))) [ inl has ↦ absurd (none (chosen, has)) | inr is ↦ is ]

  saved_so : (what : Option Namespace) × SavedSo shared dirs t.rank what
  saved_so = elim (lowest_of dirs.count (IsChosenWithPrevious dirs) holder_decided) [
    | inl found ↦ saved_by found.0 found.1
    | inr none ↦ (
      None,
      record {
        is = Unsaved (none_there none) refl;
        dir = t.dir;
        chosen = top_chosen shared dirs kept t;
        shows = book_empty shared (dirs.at t.dir) t.rank (unsaved t.dir (top_chosen shared dirs kept t) (none t.dir t.inside));
        kind = inr (refl, none_there none);
      },
    )
  ]

-- ---- so they open

module _ (shared : Shared) (dirs : Dirs) (kept : (i : ℕ) → i < dirs.count → IsKept shared (dirs.at i)) (t : Top shared dirs dirs.count) (what : Option Namespace) (part : SavedSo shared dirs t.rank what) where
  tells : (i : ℕ) → (b : Bool) × (IsAmongChosen dirs i ↔ (b ≡ true))
  tells = told dirs.count (IsAmongChosen dirs) (λ i is. is.3.ahead.below) (chosen_decided shared dirs kept t)

  opened : Opening
  opened = record { chosen = λ i. (tells i).0; last = t.rank.last; book = book_with shared t.rank what }

  first : (k : ℕ) × IsLowest dirs.count (IsAmongChosen dirs) k
  first = elim (lowest_of dirs.count (IsAmongChosen dirs) (chosen_decided shared dirs kept t)) [ inl found ↦ found | inr none ↦ absurd (none t.dir t.inside (top_chosen shared dirs kept t)) ]

  so_of : (i : ℕ) (is : IsAmongChosen dirs i) → ChosenSo shared dirs t.rank i is.0 is.1 is.2
  so_of i is = chosen_so shared dirs kept t i is.0 is.1 is.2 is.3

  opens : Opens dirs Start opened
  unfolding opened
  opens =
      let is = first.1.holds in
      record {
        unrefused = unrefused shared dirs kept t;
        chosen = λ i. (tells i).1;
        version = is.0;
        end = end_at shared t.rank;
        first = record { dir = first.0; folder = is.1; chosen = subst (λ (e : Reached). IsChosen dirs first.0 is.0 is.1 e) (so_of first.0 is).is is.3; lowest = first.1 };
        last = refl;
        namespace = refl;
        saved = part.is;
      }

  -- each previous of the greatest cTime holds what is saved

  held : (i : ℕ) → IsChosenWithPrevious dirs i → (j : ℕ) (v : Version) (a previous : Folder) → HasGreatestCtime dirs j v a → ServesPrevious (dirs.at j) previous → HoldsSaved shared (dirs.at j) v a previous
  held i holder j v a previous ahead serves =
      let its = under_kept shared dirs kept t j v a ahead.below ahead.under in
      let same = ctime_is shared dirs kept t j v a ahead in
      let other = previous_of shared dirs kept t i holder.1 in
      let it = holds shared dirs kept t i holder.0.0 holder.0.1 holder.0.2 holder.0.3 other.0 other.1 in
      let is = saved_is shared dirs kept t i holder.0.0 holder.0.1 holder.0.2 holder.0.3 other.0 it in
      elim (its.saves (late shared dirs kept t v same) previous serves) [
        | inl here ↦ here
        | inr none ↦ absurd (none-some it.end.ns (sym none.0 ∙ ap shared.saved same ∙ is))
      ]

  saved_same : (i : ℕ) → IsChosenWithPrevious dirs i → what ≡ shared.saved t.rank.ctime
  saved_same i holder = elim part.kind [ inl some ↦ sym some.1 | inr none ↦ absurd (none.1 i holder) ]

  agrees : (i : ℕ) → IsChosenWithPrevious dirs i → AgreesOnSaved dirs opened
  unfolding opened
  agrees i holder = record {
    sound = λ j v a previous reason ahead serves. (held i holder j v a previous ahead serves).sound reason;
    chain = λ j v a previous ahead serves. (
        let it = held i holder j v a previous ahead serves in
        let same = ctime_is shared dirs kept t j v a ahead in
        (it.own, it.end, it.chain, saved_same i holder ∙ ap shared.saved (sym same) ∙ it.is, reached_low shared dirs kept t j v a it.end.last ahead it.reached, it.bare)
        );
  }

  sound : AreSound dirs Start
  unfolding opened
  sound = record {
    opened = opened;
    opens = opens;
    one = λ i v a end is. (
        let so = chosen_so shared dirs kept t i v a end is in
        (ap (λ (r : Reached). r.ns) so.is, subst (EndsBare a v) (sym so.is) so.stands.bare)
        );
    saved = agrees;
  }

  -- ---- and into the window

  stands_part : Stands shared (dirs.at part.dir) part.chosen.0 part.chosen.1 t.rank
  stands_part = (so_of part.dir part.chosen).stands

  inside : IsOfWindow shared.window (book_with shared t.rank what)
  inside = subst (IsOfWindow shared.window) part.shows stands_part.inside

  above_lead : IsBelow shared.lead t.rank → Contains shared.window (book_with shared t.rank what)
  above_lead above = subst (Contains shared.window) part.shows (stands_part.led above)

  -- what is saved and kept or emptied is kept
  kept_part : what ≢ None → Contains shared.window (book_with shared t.rank what)
  kept_part some = elim inside.part [
    | inl same ↦ subst (λ (w : Option Namespace). Contains shared.window (book_with shared t.rank w)) (sym same) inside.there
    | inr none ↦ absurd (some none)
  ]

  -- a holder that stands at the greatest rank
  at_top : (i : ℕ) → i < dirs.count → (h : IsLedOfRun shared (dirs.at i)) → h.rank ≡ t.rank → Contains shared.window (book_with shared t.rank what)
  at_top i below h same =
      let stands = subst (Stands shared (dirs.at i) h.run.version h.run.folder) same h.run.stands in
      let chosen = chosen_at shared dirs kept t i h.run.version h.run.folder below h.run.under stands in
      elim part.kind [
        | inl some ↦ kept_part some.0
        | inr none ↦ (
            let empty = unsaved shared dirs kept t i (h.run.version, h.run.folder, end_at shared t.rank, chosen) (none.1 i) in
            let shows = ap (book_at shared (dirs.at i)) (sym same) in
            let is = book_empty shared (dirs.at i) t.rank empty ∙ ap (book_with shared t.rank) (sym none.0) in
            subst (Contains shared.window) (sym shows ∙ is) h.inside
            )
      ]

  at_most_top : (i : ℕ) → i < dirs.count → (h : IsLedOfRun shared (dirs.at i)) → IsBelow h.rank t.rank ⊎ (h.rank ≡ t.rank)
  at_most_top i below h =
      let within = t.within i below in
      let low = within.ctime h.run.version h.run.folder h.run.under in
      let stands = h.run.stands in
      elim (cases_eq h.rank.ctime t.rank.ctime) [
        | inl same ↦ (
            let last = within.last h.run.version h.run.folder (end_at shared h.rank) h.run.under (stands.ctime ∙ same) stands.chain in
            elim (cases_eq h.rank.last t.rank.last) [
              | inl even ↦ inr (λ k. record { ctime = same k; last = even k })
              | inr apart ↦ inl (inr (same, omega (arith, last, apart)))
            ]
            )
        | inr apart ↦ inl (inl (omega (arith, low, apart, stands.ctime)))
      ]

  below_too : (a b c : Rank) → IsAtMost a b → IsBelow b c → IsBelow a c
  below_too a b c p q = grind arith

  kept_whole : (i : ℕ) → i < dirs.count → IsLedOfRun shared (dirs.at i) → Contains shared.window (book_with shared t.rank what)
  kept_whole i below h = elim (at_most_top i below h) [
    | inl less ↦ above_lead (below_too shared.lead h.rank t.rank h.led less)
    | inr same ↦ at_top i below h same
  ]

  held_kept : HasLedOfRun shared dirs → Contains shared.window (book_with shared t.rank what)
  held_kept holder = kept_whole holder.0 holder.1 holder.2

  open_into : (held : Type 0) → (held → HasLedOfRun shared dirs) → OpenInto shared.window held dirs
  unfolding opened sound
  open_into held is = record { sound = sound; inside = inside; kept = λ h. held_kept (is h) }

-- each of them is kept, and one is of the run
pub open_held : (shared : Shared) (dirs : Dirs) (held : Type 0) → ((i : ℕ) → i < dirs.count → IsKept shared (dirs.at i)) → HasOfRun shared dirs → (held → HasLedOfRun shared dirs) → OpenInto shared.window held dirs
open_held shared dirs held kept run is =
    let t = top shared dirs kept run.0 run.1 run.2 run.3 in
    let part = saved_so shared dirs kept t in
    open_into shared dirs kept t part.0 part.1 held is

pub chosen_are_high : ChosenAreHigh
chosen_are_high shared dirs kept run i is low =
    let t = top shared dirs kept run.0 run.1 run.2 run.3 in
    let so = chosen_so shared dirs kept t i is.0 is.1 is.2 is.3 in
    stands_high shared dirs kept t (dirs.at i) is.0 is.1 so.stands (low is.0 is.1 is.3.ahead.under)

pub kept_open : KeptOpen
kept_open shared count contents kept n numbers bound run = open_held shared (choice contents n numbers) (HasLedOfRun shared (choice contents n numbers)) (λ k lt. kept (numbers k) (bound k lt)) run (λ h. h)
