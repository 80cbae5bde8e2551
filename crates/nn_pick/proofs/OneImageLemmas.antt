-- Directories that hold one image and no record, or aren't formatted: they open to that image's namespace, and are sound.
use Rattle.std.proofs.Common.{◌≡◌, ◌⊎◌, inl, inr, ℕ, zero, suc, ℤ, ◌<◌, Bool, Option, Some, None, refl, sym, ◌∙◌, ap, ap₂, subst, arith, Decides}
use Rattle.std.proofs.lemmas.Bool.{cases_lt}
use Rattle.std.specs.Prelude.{◌≢◌, ◌<ℤ◌, is_some, nat_lt}
use Rattle.std.proofs.lemmas.Bool.{cases_Bool}
use Rattle.std.proofs.lemmas.Bool.Decides.{Decides-ltb, Decides-and, not_from_Decides, eqb_tells}
use Rattle.std.proofs.lemmas.Int.{ints}
use Rattle.std.proofs.lemmas.Option.{none-some}
use Rattle.nn_base.specs.Limits.{program_layout}
use Rattle.nn_base.specs.declared.sub.Sub.TheVariants.{Current}
use Rattle.nn_marks.specs.declared.version.Version.{Version}
use Rattle.nn_state.specs.Table.{seven_of, table_of}
use Rattle.nn_state.specs.Seat.{serving}
use Rattle.nn_tree.specs.Namespace.{Namespace}
use Rattle.nn_chain.specs.Folder.{Folder}
use Rattle.nn_chain.specs.Chain.{Reached, IsChain}
use Rattle.nn_pick.specs.declared.intent.Intent.TheVariants.{Start}
use Rattle.nn_pick.specs.declared.refusal.Refusal.{Refusal}
use Rattle.nn_pick.specs.declared.refusal.Refusal.TheVariants.{Missing, Inconsistent, Formatted, NotFormatted, BadVersion, Mismatch, FutureLayout, ForeignLayout, NoImage, Gap, Spent, PreviousExists, CtimeSpent, NoPrevious, BadPrevious}
use Rattle.nn_pick.specs.Refused.{unusable, first_refused, or_else}
use Rattle.nn_pick.specs.Dirs.{Dirs, IsLowest, IsFormatted, ServesCurrent, ServesUnder, HasGreatestCtime, IsChosen, IsAmongChosen, formatted_in}
use Rattle.nn_pick.specs.Refusing.{Applies, SomeChosen, IsChosenWithPrevious}
use Rattle.nn_pick.specs.Opening.{Opens, AreSound, Unsaved}
use Rattle.nn_pick.specs.Laws.{HoldsImage, HoldOneImage, OneImageIsSound}
use Rattle.nn_pick.proofs.VersionLemmas.{SaysTheSame, same_turned, same_as_well, no_difference}
use Rattle.nn_pick.proofs.HoldsLemmas.{serves_formatted, fresh_serves, fresh_usable, saves_none, holds_usable, its_under, same, no_fault, few_seen, its_chain, its_end, ends_bare}

-- ---- what is decided has a lowest number

is_lowest : (n : ℕ) (p : ℕ → Bool) (P : ℕ → Type 0) → ((i : ℕ) → Decides (p i) (P i)) → ((k : ℕ) × IsLowest n P k) ⊎ ((i : ℕ) → i < n → ¬ P i)
is_lowest zero p P decides = inr (λ i below is. omega (arith, below))
is_lowest (suc n) p P decides = elim (is_lowest n p P decides) [
  | inl found ↦ (let below = found.1.below in inl (found.0, record { below = omega (arith, below); holds = found.1.holds; least = found.1.least }))
  | inr none ↦ elim (cases_Bool (p n)) [
    | inl holds ↦ inl (n, record { below = omega arith; holds = (decides n).0 holds; least = none })
    | inr fails ↦ inr (λ i below. elim (eqb_tells i n) [
      | inl last ↦ subst (λ (k : ℕ). ¬ P k) (sym last.1) (not_from_Decides (p n) (decides n) fails)
      | inr before ↦ none i (omega (arith, below, before.1))
    ])
  ]
]

the_first : (n : ℕ) (p : ℕ → Bool) (P : ℕ → Type 0) → ((i : ℕ) → Decides (p i) (P i)) → (i : ℕ) → i < n → P i → (k : ℕ) × IsLowest n P k
the_first n p P decides i below is = elim (is_lowest n p P decides) [ inl found ↦ found | inr none ↦ absurd (none i below is) ]

some_decides : {A : Type 0} (o : Option A) → Decides (is_some o) (o ≢ None)
some_decides None = (λ e. cc, λ is. absurd (is refl))
some_decides (Some x) = (λ e gone. none-some x (sym gone), λ is. refl)

pub none_refused : (f : ℕ → Option Refusal) (n : ℕ) → ((i : ℕ) → i < n → f i ≡ None) → first_refused f n ≡ None
none_refused f zero all = refl
none_refused f (suc n) all = ap₂ or_else (none_refused f n (λ i below. all i (omega (arith, below)))) (all n (omega arith))

-- where none is refused, each isn't
pub each_unrefused : (f : ℕ → Option Refusal) (n : ℕ) → first_refused f n ≡ None → (i : ℕ) → i < n → f i ≡ None
each_unrefused f zero e i below = absurd (omega (arith, below))
each_unrefused f (suc n) e i below = elim (cases_lt i n) [
  | inl before ↦ each_unrefused f n (neither (first_refused f n) (f n) e).0 i before
  | inr last ↦ subst (λ (k : ℕ). f k ≡ None) (omega (arith, below, last)) (neither (first_refused f n) (f n) e).1
]
  where
    neither : (first later : Option Refusal) → or_else first later ≡ None → (first ≡ None) × (later ≡ None)
    neither None later is = (refl, is)
    neither (Some first) later is = cc

module _ (dirs : Dirs) (version : Version) (id : ℕ) (ns : Namespace) (h : HoldOneImage dirs version id ns) where
  -- ---- those that are formatted hold the image

  held : (i : ℕ) → i < dirs.count → IsFormatted (dirs.at i) → HoldsImage (dirs.at i) version id ns
  held i below is = elim (h.each i below) [ inl fresh ↦ absurd (is (fresh_serves (dirs.at i) fresh)) | inr holds ↦ holds ]

  served : (i : ℕ) (folder : Folder) → i < dirs.count → ServesCurrent (dirs.at i) folder → HoldsImage (dirs.at i) version id ns
  served i folder below is = held i below (serves_formatted (dirs.at i) folder is)

  says : (i : ℕ) (other : Version) (its : Folder) → i < dirs.count → ServesUnder (dirs.at i) other its → SaysTheSame other version
  says i other its below is = same (served i its below is.serves) other its is

  usable : (i : ℕ) → i < dirs.count → unusable i (table_of (seven_of (dirs.at i))) ≡ None
  usable i below = elim (h.each i below) [ inl fresh ↦ fresh_usable (dirs.at i) fresh i | inr holds ↦ holds_usable holds i ]

  -- ---- and are chosen

  ahead : (i : ℕ) → i < dirs.count → HoldsImage (dirs.at i) version id ns → HasGreatestCtime dirs i version ((dirs.at i).file Current)
  ahead i below holds = record { below = below; under = its_under holds; greatest = λ j other its inside is. (let e = (says j other its inside is).ctime in omega (arith, e)) }

  ends_at : (j : ℕ) (other : Version) (its : Folder) (end : Reached) → HasGreatestCtime dirs j other its → IsChain its other end → end ≡ record { last = id; ns = ns }
  ends_at j other its end is chain = its_end (served j its is.below is.under.serves) other its end is.under chain

  last_at : (j : ℕ) (other : Version) (its : Folder) (end : Reached) → HasGreatestCtime dirs j other its → IsChain its other end → end.last ≡ id
  last_at j other its end is chain = ap (λ (r : Reached). r.last) (ends_at j other its end is chain)

  chosen : (i : ℕ) → i < dirs.count → (holds : HoldsImage (dirs.at i) version id ns) → IsChosen dirs i version ((dirs.at i).file Current) (record { last = id; ns = ns })
  chosen i below holds = record {
    ahead = ahead i below holds;
    chain = its_chain holds;
    greatest = λ j other its end is chain. (let e = last_at j other its end is chain in omega (arith, e));
  }

  among : (i : ℕ) → i < dirs.count → IsFormatted (dirs.at i) → IsAmongChosen dirs i
  among i below is = (version, (dirs.at i).file Current, record { last = id; ns = ns }, chosen i below (held i below is))

  decides : (i : ℕ) → Decides (formatted_in dirs i) (IsAmongChosen dirs i)
  decides i =
      let formatted = Decides-and (nat_lt i dirs.count) (is_some (serving (dirs.at i))) (Decides-ltb i dirs.count) (some_decides (serving (dirs.at i))) in
      (λ e. among i (formatted.0 e).0 (formatted.0 e).1, λ is. formatted.1 (is.3.ahead.below, serves_formatted (dirs.at i) is.1 is.3.ahead.under.serves))

  -- ---- nothing refuses

  none_unusable : first_refused (λ j. unusable j (table_of (seven_of (dirs.at j)))) dirs.count ≡ None
  none_unusable = none_refused (λ j. unusable j (table_of (seven_of (dirs.at j)))) dirs.count usable

  some_last : (other : Version) (end : Reached) → SomeChosen dirs other end → end.last ≡ id
  some_last other end is = last_at is.dir other is.folder end is.chosen.ahead is.chosen.chain

  unrefused : (refusal : Refusal) → ¬ Applies dirs Start refusal
  unrefused (Missing i) is = none-some _ (sym none_unusable ∙ is)
  unrefused (Inconsistent i why) is = none-some _ (sym none_unusable ∙ is)
  unrefused (Formatted i) is = is
  unrefused NotFormatted is = is h.some.0 h.some.1 h.some.2
  unrefused (BadVersion i fault) is = none-some fault (sym (no_fault (served i.0 is.1 is.0.below is.2) is.1 is.2) ∙ is.3)
  unrefused (Mismatch first dir key) is =
      let one = says first.0 is.1 is.2 is.0.below is.3 in
      let other = says dir.0 is.5.other is.5.folder is.4.below is.5.under in
      none-some key (sym (no_difference is.1 is.5.other (same_as_well is.1 version is.5.other one (same_turned is.5.other version other))) ∙ is.5.by)
  unrefused (FutureLayout i found) is =
      let holds = served i.0 is.1.folder is.0.below is.1.under.serves in
      let found_is : found ≡ program_layout = sym is.1.is ∙ (same holds is.1.version is.1.folder is.1.under).layout ∙ holds.ours in
      let before : program_layout <ℤ program_layout = subst (λ (layout : ℤ). layout <ℤ program_layout) found_is is.1.so in
      omega (arith, ints, before)
  unrefused (ForeignLayout i found) is =
      let holds = served i.0 is.1.folder is.0.below is.1.under.serves in
      is.1.so.1 (sym is.1.is ∙ (same holds is.1.version is.1.folder is.1.under).layout ∙ holds.ours)
  unrefused (NoImage i why) is =
      let holds = held h.some.0 h.some.1 h.some.2 in
      is.1 h.some.0 version ((dirs.at h.some.0).file Current) id (ahead h.some.0 h.some.1 holds) (ns, holds.intact)
  unrefused (Gap seen last) is =
      let e = some_last is.0 is.1 is.2 in
      let said = is.4.said in
      let few = few_seen (served said.0 said.2 said.3.below said.3.under.serves) said.2 seen said.3.under.serves said.4 in
      omega (arith, e, is.3, few, is.5)
  unrefused (Spent last) is =
      let e = some_last is.0 is.1 is.2 in
      let room = (held h.some.0 h.some.1 h.some.2).room in
      omega (arith, e, is.3, is.4, room)
  unrefused (PreviousExists i) is = cc
  unrefused (CtimeSpent old) is = cc
  unrefused NoPrevious is = cc
  unrefused (BadPrevious i why) is = cc

  -- ---- so they open

  none_with_previous : (i : ℕ) → ¬ IsChosenWithPrevious dirs i
  none_with_previous i is = is.1 (saves_none (served i is.0.1 is.0.3.ahead.below is.0.3.ahead.under.serves))

  lowest : (k : ℕ) × IsLowest dirs.count (IsAmongChosen dirs) k
  lowest = the_first dirs.count (formatted_in dirs) (IsAmongChosen dirs) decides h.some.0 h.some.1 (among h.some.0 h.some.1 h.some.2)

  opens : Opens dirs Start (record { chosen = formatted_in dirs; last = id; book = record { ns = ns; saved = None } })
  opens =
      let first = lowest in
      let is = first.1.holds in
      record {
        unrefused = unrefused;
        chosen = λ i. ((decides i).1, (decides i).0);
        version = version;
        end = record { last = id; ns = ns };
        first = record {
          dir = first.0;
          folder = (dirs.at first.0).file Current;
          chosen = chosen first.0 first.1.below (served first.0 is.1 is.3.ahead.below is.3.ahead.under.serves);
          lowest = first.1;
        };
        last = refl;
        namespace = refl;
        saved = Unsaved none_with_previous refl;
      }

  sound : AreSound dirs Start
  sound = record {
    opened = record { chosen = formatted_in dirs; last = id; book = record { ns = ns; saved = None } };
    opens = opens;
    one = λ i other its end is. (
      ap (λ (r : Reached). r.ns) (ends_at i other its end is.ahead is.chain),
      ends_bare (served i its is.ahead.below is.ahead.under.serves) other its end is.ahead.under is.chain,
    );
    saved = λ i has. absurd (none_with_previous i has);
  }

pub one_image_is_sound : OneImageIsSound
one_image_is_sound dirs version id ns h = record { opens = opens dirs version id ns h; sound = sound dirs version id ns h }
