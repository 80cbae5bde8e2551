-- The numbers of names that are held as the keys of a list.
use Rattle.std.proofs.Common.{◌≡◌, ℕ, zero, suc, ◌+◌, ◌<◌, Bool, true, false, cond, not, ◌||◌, nat_lt, List, [], ◌∷◌, ◌++◌, map, length, slice_get, position, inl, inr, Option, Some, None, if◌then◌else◌, refl, sym, ap, ◌∙◌, arith}
use Rattle.std.specs.List.{list_any, position_or_len, IsDistinct}
use Rattle.std.specs.Option.{option_map}
use Rattle.std.specs.Str.{bytes_eq}
use Rattle.std.proofs.lemmas.Bool.{cases_order, false≢true, ltb-true}
use Rattle.std.proofs.lemmas.Option.{slice_get-map, slice_get_within, slice_get_cases, get_or_from_slice_get, none-some, same_Some, cond_some}
use Rattle.std.proofs.lemmas.List.Quantifiers.{position-Some}
use Rattle.std.proofs.lemmas.Map.Keys.{apart_from_distinct}
use Rattle.std.specs.Cmp.Lexicographic.{bytes_decides}
use Rattle.indexmap.specs.IndexSet.{insert_key}
use Rattle.nn_base.specs.Paths.{Bytes}
use Rattle.nn_strtab.specs.Numbers.{number_in, name_at, with_use, HaveOneNumber}

module _ {K : Type 0} (v : K → Bytes) where
  position-map : (name : Bytes) (ks : List K) → position_or_len (bytes_eq name) (map v ks) ≡ position_or_len (λ k. bytes_eq name (v k)) ks
  position-map name [] = refl
  position-map name (k ∷ ks) = ap (λ n. cond (not (bytes_eq name (v k))) (1 + n) 0) (position-map name ks)

  any-map : (name : Bytes) (ks : List K) → list_any (bytes_eq name) (map v ks) ≡ list_any (λ k. bytes_eq name (v k)) ks
  any-map name [] = refl
  any-map name (k ∷ ks) = ap (λ b. bytes_eq name (v k) || b) (any-map name ks)

  map-push : (ks : List K) (k : K) → map v (ks ++ k ∷ []) ≡ map v ks ++ v k ∷ []
  map-push [] k = refl
  map-push (x ∷ ks) k = ap (λ l. v x ∷ l) (map-push ks k)

  -- a key that is found is at the place of its number
  pub number_of_found : (name : Bytes) (ks : List K) (i : ℕ) → position (λ k. bytes_eq name (v k)) ks ≡ Some i → i + 1 ≡ number_in (map v ks) name
  number_of_found name ks i found =
      let p = cond_some (nat_lt (position_or_len (λ k. bytes_eq name (v k)) ks) (length ks)) _ i found in
      omega (arith, p.1, position-map name ks)

  pub number_of_place : (name : Bytes) (ks : List K) (i : ℕ) → i ≡ position_or_len (λ k. bytes_eq name (v k)) ks → i + 1 ≡ number_in (map v ks) name
  number_of_place name ks i at = omega (arith, at, position-map name ks)

  pub name_at_key : (name : Bytes) (ks : List K) (i : ℕ) (k : K) → slice_get ks i ≡ Some k → bytes_eq name (v k) ≡ true → name_at (map v ks) (i + 1) ≡ Some name
  name_at_key name ks i k at same =
      let next : i + 1 ≡ suc i = omega arith in
      ap (name_at (map v ks)) next ∙ slice_get-map v ks i ∙ ap (option_map v) at ∙ ap Some (sym ((bytes_decides name (v k)).0 same))

  pub name_at_found : (name : Bytes) (ks : List K) (i : ℕ) → position (λ k. bytes_eq name (v k)) ks ≡ Some i → name_at (map v ks) (i + 1) ≡ Some name
  name_at_found name ks i found = elim ((slice_get_cases ks i).1) [
    | inl x ↦
        let same = (position-Some (λ k. bytes_eq name (v k)) ks i x.0 found).1 in
        name_at_key name ks i x.0 x.2 (sym (ap (λ k. bytes_eq name (v k)) x.3) ∙ same)
    | inr past ↦
        let p = cond_some (nat_lt (position_or_len (λ k. bytes_eq name (v k)) ks) (length ks)) _ i found in
        let within = ltb-true _ (length ks) p.0 in absurd (omega (arith, within, p.1, past.0))
  ]

  -- the names are used as the keys are inserted
  pub used_there : (name : Bytes) (ks : List K) → list_any (λ k. bytes_eq name (v k)) ks ≡ true → map v ks ≡ with_use (map v ks) name
  used_there name ks there = ap (λ b. if b then map v ks else map v ks ++ name ∷ []) (sym (any-map name ks ∙ there))

  pub used_inserted : (ks : List K) (k : K) → map v (insert_key (λ a b. bytes_eq (v a) (v b)) ks k) ≡ with_use (map v ks) (v k)
  used_inserted ks k = by (list_any (λ x. bytes_eq (v k) (v x)) ks) ∙ ap (λ b. if b then map v ks else map v ks ++ v k ∷ []) (sym (any-map (v k) ks))
    where
      by : (b : Bool) → map v (if b then ks else ks ++ k ∷ []) ≡ (if b then map v ks else map v ks ++ v k ∷ [])
      by true = refl
      by false = map-push ks k

  -- distinct keys have names with one number each
  pub one_number : (ks : List K) → IsDistinct (λ a b. bytes_eq (v a) (v b)) ks → HaveOneNumber (map v ks)
  one_number ks distinct zero j name a b = absurd (none-some _ a)
  one_number ks distinct (suc i) zero name a b = absurd (none-some _ b)
  one_number ks distinct (suc i) (suc j) name a b = by i j name a b
    where
      read : (i : ℕ) (name : Bytes) → slice_get (map v ks) i ≡ Some name → (k : K) × (slice_get ks i ≡ Some k) × (v k ≡ name)
      read i name a = keyed (slice_get ks i) refl (sym (slice_get-map v ks i) ∙ a)
        where
          keyed : (o : Option K) → slice_get ks i ≡ o → option_map v o ≡ Some name → (k : K) × (slice_get ks i ≡ Some k) × (v k ≡ name)
          keyed None e h = absurd (none-some _ h)
          keyed (Some k) e h = (k, e, same_Some _ _ h)

      apart : (i j : ℕ) (name : Bytes) → i < j → slice_get (map v ks) i ≡ Some name → slice_get (map v ks) j ≡ Some name → ⊥
      apart i j name less a b =
          let x = read i name a in
          let y = read j name b in
          let d = apart_from_distinct (λ a b. bytes_eq (v a) (v b)) ks i j x.0 distinct less (slice_get_within ks j y.0 y.1) in
          let e = ap v (get_or_from_slice_get ks i x.0 x.0 x.1) ∙ x.2 in
          let f = ap v (get_or_from_slice_get ks j y.0 x.0 y.1) ∙ y.2 in
          false≢true (sym d ∙ (λ t. bytes_eq (e t) (f t)) ∙ (bytes_decides name name).1 refl)

      by : (i j : ℕ) (name : Bytes) → slice_get (map v ks) i ≡ Some name → slice_get (map v ks) j ≡ Some name → suc i ≡ suc j
      by i j name a b = elim (cases_order i j) [
        | inl e ↦ ap suc e
        | inr (inl less) ↦ absurd (apart i j name less a b)
        | inr (inr more) ↦ absurd (apart j i name more b a)
      ]

-- ---- a name whose number is known

first_place : (names : List Bytes) (name : Bytes) (i : ℕ) → slice_get names i ≡ Some name → slice_get names (position_or_len (bytes_eq name) names) ≡ Some name
first_place [] name i e = absurd (none-some _ e)
first_place (x ∷ xs) name i e = by (bytes_eq name x) refl i e (first_place xs name)
  where
    by : (b : Bool) → bytes_eq name x ≡ b → (i : ℕ) → slice_get (x ∷ xs) i ≡ Some name → ((j : ℕ) → slice_get xs j ≡ Some name → slice_get xs (position_or_len (bytes_eq name) xs) ≡ Some name)
        → slice_get (x ∷ xs) (position_or_len (bytes_eq name) (x ∷ xs)) ≡ Some name
    by true here i e later = ap (λ b. slice_get (x ∷ xs) (cond (not b) (1 + position_or_len (bytes_eq name) xs) 0)) here ∙ ap Some (sym ((bytes_decides name x).0 here))
    by false other zero e later = absurd (false≢true (sym other ∙ ap (bytes_eq name) (same_Some _ _ e) ∙ (bytes_decides name name).1 refl))
    by false other (suc j) e later =
        let k = position_or_len (bytes_eq name) xs in
        let next : 1 + k ≡ suc k = omega arith in
        ap (λ b. slice_get (x ∷ xs) (cond (not b) (1 + k) 0)) other ∙ ap (slice_get (x ∷ xs)) next ∙ later j e

stands : (names : List Bytes) (name : Bytes) (i : ℕ) → slice_get names i ≡ Some name → list_any (bytes_eq name) names ≡ true
stands [] name i e = absurd (none-some _ e)
stands (x ∷ xs) name zero e = ap (λ b. b || list_any (bytes_eq name) xs) (ap (bytes_eq name) (same_Some _ _ e) ∙ (bytes_decides name name).1 refl)
stands (x ∷ xs) name (suc i) e = by (bytes_eq name x) (stands xs name i e)
  where
    by : (b : Bool) → list_any (bytes_eq name) xs ≡ true → (b || list_any (bytes_eq name) xs) ≡ true
    by true rest = refl
    by false rest = rest

-- it is the number of the name
pub same_number : (names : List Bytes) (name : Bytes) (number : ℕ) → HaveOneNumber names → name_at names number ≡ Some name → number ≡ number_in names name
same_number names name zero one e = absurd (none-some _ e)
same_number names name (suc i) one e =
    let place = position_or_len (bytes_eq name) names in
    let next : 1 + place ≡ suc place = omega arith in
    one (suc i) (1 + place) name e (ap (name_at names) next ∙ first_place names name i e)

-- and the name stays where it is
pub used_again : (names : List Bytes) (name : Bytes) (number : ℕ) → name_at names number ≡ Some name → names ≡ with_use names name
used_again names name zero e = absurd (none-some _ e)
used_again names name (suc i) e = ap (λ b. if b then names else names ++ name ∷ []) (sym (stands names name i e))
