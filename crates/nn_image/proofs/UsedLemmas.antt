-- Names of a string table in the order of their first use: what a use by number says, and which number the next use has.
use Rattle.std.proofs.Common.{◌≡◌, ℕ, zero, suc, ◌+◌, ◌<◌, ◌≤◌, Bool, true, false, cond, not, ◌||◌, List, [], ◌∷◌, ◌++◌, take, length, inl, inr, Option, Some, None, refl, sym, ap, subst, ◌∙◌, arith, max, if◌then◌else◌}
use Rattle.std.specs.Prelude.{slice_get, nat_le, option_map}
use Rattle.std.specs.List.{list_any, position_or_len, IsDistinct, AllByRecursion}
use Rattle.std.specs.Str.{bytes_eq}
use Rattle.std.specs.Cmp.Lexicographic.{bytes_decides}
use Rattle.std.proofs.lemmas.Bool.{false≢true, cases_lt, leb-true, le-leb, or_from}
use Rattle.std.proofs.lemmas.Option.{none-some, same_Some, some_pair_parts, slice_get_within, get_or_from_slice_get}
use Rattle.std.proofs.lemmas.List.{take_more, length-take}
use Rattle.nn_base.specs.Paths.{Bytes}
use Rattle.nn_strtab.specs.Numbers.{number_in, name_at, with_use}
use Rattle.nn_image.specs.Assembly.{use_name}

pub itself : (name : Bytes) → bytes_eq name name ≡ true
itself name = (bytes_decides name name).1 refl

pub turned : (a b : Bytes) → bytes_eq a b ≡ false → bytes_eq b a ≡ false
turned a b h = by (bytes_eq b a) refl
  where
    by : (t : Bool) → bytes_eq b a ≡ t → t ≡ false
    by false is = refl
    by true is = absurd (false≢true (sym h ∙ ap (bytes_eq a) ((bytes_decides b a).0 is) ∙ itself a))

-- ---- a list in which each name stands once

apart_at : (x : Bytes) (names : List Bytes) → AllByRecursion (λ y. bytes_eq x y ≡ false) names → (k : ℕ) (name : Bytes) → slice_get names k ≡ Some name → bytes_eq name x ≡ false
apart_at x [] all k name at = absurd (none-some name at)
apart_at x (y ∷ names) all zero name at = turned x name (ap (bytes_eq x) (sym (same_Some y name at)) ∙ all.0)
apart_at x (y ∷ names) all (suc k) name at = apart_at x names all.1 k name at

-- the place of a name is the first at which it stands
pub position_at : (table : List Bytes) → IsDistinct bytes_eq table → (k : ℕ) (name : Bytes) → slice_get table k ≡ Some name → position_or_len (bytes_eq name) table ≡ k
unfolding IsDistinct
position_at [] once k name at = absurd (none-some name at)
position_at (x ∷ table) once zero name at = ap (λ b. cond (not b) (1 + position_or_len (bytes_eq name) table) 0) (ap (bytes_eq name) (same_Some x name at) ∙ itself name)
position_at (x ∷ table) once (suc k) name at =
    let later = position_at table once.1 k name at in
    let more : 1 + k ≡ suc k = omega arith in
    ap (λ b. cond (not b) (1 + position_or_len (bytes_eq name) table) 0) (apart_at x table once.0 k name at) ∙ ap (λ n. 1 + n) later ∙ more

taken_there : (table : List Bytes) (k n : ℕ) (name : Bytes) → slice_get table k ≡ Some name → k < n → list_any (bytes_eq name) (take n table) ≡ true
taken_there [] k n name at less = absurd (none-some name at)
taken_there (x ∷ table) k zero name at less = absurd (omega arith)
taken_there (x ∷ table) zero (suc n) name at less = ap (λ b. b || list_any (bytes_eq name) (take n table)) (ap (bytes_eq name) (same_Some x name at) ∙ itself name)
taken_there (x ∷ table) (suc k) (suc n) name at less = by (bytes_eq name x) (taken_there table k n name at (omega arith))
  where
    by : (b : Bool) → list_any (bytes_eq name) (take n table) ≡ true → (b || list_any (bytes_eq name) (take n table)) ≡ true
    by true h = refl
    by false h = h

not_taken : (table : List Bytes) → IsDistinct bytes_eq table → (k n : ℕ) (name : Bytes) → slice_get table k ≡ Some name → n ≤ k → list_any (bytes_eq name) (take n table) ≡ false
unfolding IsDistinct
not_taken [] once k n name at less = absurd (none-some name at)
not_taken (x ∷ table) once k zero name at less = refl
not_taken (x ∷ table) once zero (suc n) name at less = absurd (omega arith)
not_taken (x ∷ table) once (suc k) (suc n) name at less = or_from _ _ (apart_at x table once.0 k name at) (not_taken table once.1 k n name at (omega arith))

-- ---- a name is used by its number

abbrev with_number : ℕ → ℕ → Bytes → Bytes × ℕ
with_number used number name = (name, max used number)

pub record Uses (table : List Bytes) (used number : ℕ) (name : Bytes) (after : ℕ) : Type 0 where
  pub place : ℕ
  pub at : slice_get table place ≡ Some name
  pub number_is : number ≡ number_in table name
  pub names : take after table ≡ with_use (take used table) name
  pub few : after ≤ length table

module _ (table : List Bytes) (once : IsDistinct bytes_eq table) where
  used_at : (used k : ℕ) (name : Bytes) → used ≤ length table → slice_get table k ≡ Some name → k ≤ used → Uses table used (suc k) name (max used (suc k))
  used_at used k name few at near =
      let within = slice_get_within table k name at in
      let place = position_at table once k name at in
      elim (cases_lt k used) as (λ _. Uses table used (suc k) name (max used (suc k))) [
        | inl old ↦
            let stays : max used (suc k) ≡ used = omega arith in
            record {
              place = k;
              at = at;
              number_is = omega (arith, place);
              names = ap (λ n. take n table) stays ∙ ap (λ b. if b then take used table else take used table ++ name ∷ []) (sym (taken_there table k used name at old));
              few = omega arith;
            }
        | inr high ↦
            let next : max used (suc k) ≡ k + 1 = omega arith in
            let here : used ≡ k = omega arith in
            record {
              place = k;
              at = at;
              number_is = omega (arith, place);
              names =
                  ap (λ n. take n table) next ∙ take_more table k name within ∙ ap (λ x. take k table ++ x ∷ []) (get_or_from_slice_get table k name name at)
                  ∙ ap (λ n. take n table ++ name ∷ []) (sym here)
                  ∙ ap (λ b. if b then take used table else take used table ++ name ∷ []) (sym (not_taken table once k used name at high));
              few = omega arith;
            }
      ]

  by_number : (used number : ℕ) (name : Bytes) (after : ℕ) → used ≤ length table → number ≤ used + 1 → option_map (with_number used number) (name_at table number) ≡ Some (name, after) → Uses table used number name after
  by_number used zero name after few near is = absurd (none-some (name, after) is)
  by_number used (suc k) name after few near is = by (slice_get table k) refl is
    where
      by : (o : Option Bytes) → slice_get table k ≡ o → option_map (with_number used (suc k)) o ≡ Some (name, after) → Uses table used (suc k) name after
      by None at is = absurd (none-some (name, after) is)
      by (Some x) at is =
          let same = some_pair_parts x name (max used (suc k)) after is in
          subst (λ n. Uses table used (suc k) name n) same.1 (used_at used k name few (at ∙ ap Some same.0) (omega arith))

  pub use_so : (used number : ℕ) (name : Bytes) (after : ℕ) → used ≤ length table → use_name table used number ≡ Some (name, after) → Uses table used number name after
  unfolding use_name
  use_so used number name after few is = by (nat_le number (used + 1)) refl is
    where
      by : (b : Bool) → nat_le number (used + 1) ≡ b → cond b (option_map (with_number used number) (name_at table number)) None ≡ Some (name, after) → Uses table used number name after
      by false near is = absurd (none-some (name, after) is)
      by true near is = by_number used number name after few (leb-true number (used + 1) near) is

  -- a name that is the next one at most is used by its number
  pub use_back : (used k : ℕ) (name : Bytes) → used ≤ length table → slice_get table k ≡ Some name → k ≤ used → (after : ℕ) × (use_name table used (number_in table name) ≡ Some (name, after)) × Uses table used (number_in table name) name after
  unfolding use_name
  use_back used k name few at near =
      let here = used_at used k name few at near in
      let numbered : suc k ≡ number_in table name = here.number_is in (
        max used (suc k),
        ap (use_name table used) (sym numbered)
            ∙ ap (λ b. cond b (option_map (with_number used (suc k)) (name_at table (suc k))) None) (le-leb (suc k) (used + 1) (omega arith))
            ∙ ap (option_map (with_number used (suc k))) at,
        subst (λ n. Uses table used n name (max used (suc k))) numbered here,
      )

-- ---- the name that is used next

any_at : (names : List Bytes) (n : ℕ) (name : Bytes) → list_any (bytes_eq name) (take n names) ≡ true → (k : ℕ) × (k < n) × (slice_get names k ≡ Some name)
any_at names zero name h = absurd (false≢true (ap (list_any (bytes_eq name)) (sym (none names)) ∙ h))
  where
    none : (names : List Bytes) → take 0 names ≡ []
    none [] = refl
    none (x ∷ names) = refl
any_at [] (suc n) name h = absurd (false≢true h)
any_at (x ∷ names) (suc n) name h = by (bytes_eq name x) refl (any_at names n name) h
  where
    by : (b : Bool) → bytes_eq name x ≡ b → (list_any (bytes_eq name) (take n names) ≡ true → (k : ℕ) × (k < n) × (slice_get names k ≡ Some name)) → (b || list_any (bytes_eq name) (take n names)) ≡ true
        → (k : ℕ) × (k < suc n) × (slice_get (x ∷ names) k ≡ Some name)
    by true is later h = (0, omega arith, ap Some (sym ((bytes_decides name x).0 is)))
    by false is later h = let found = later h in (suc found.0, (let less = found.1 in omega arith), found.2)

at_end : (front : List Bytes) (name : Bytes) (more : List Bytes) → slice_get ((front ++ name ∷ []) ++ more) (length front) ≡ Some name
at_end [] name more = refl
at_end (x ∷ front) name more = at_end front name more

-- where the names go on with a use, it is of one of those before or of the next
pub next_use : (table : List Bytes) (used : ℕ) (name : Bytes) (more : List Bytes) → table ≡ with_use (take used table) name ++ more → (k : ℕ) × (k ≤ used) × (slice_get table k ≡ Some name)
next_use table used name more goes_on = by (list_any (bytes_eq name) (take used table)) refl goes_on
  where
    by : (b : Bool) → list_any (bytes_eq name) (take used table) ≡ b → table ≡ (if b then take used table else take used table ++ name ∷ []) ++ more → (k : ℕ) × (k ≤ used) × (slice_get table k ≡ Some name)
    by true is h = let found = any_at table used name is in (found.0, (let less = found.1 in omega arith), found.2)
    by false is h = (length (take used table), omega (arith, length-take used table), ap (λ t. slice_get t (length (take used table))) h ∙ at_end (take used table) name more)
