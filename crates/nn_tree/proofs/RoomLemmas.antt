-- What the plain tree keeps ready: a free place, and a list with room for one block more.
use Rattle.std.proofs.Common.{◌≡◌, ◌≢◌, ℕ, zero, suc, ◌<◌, Bool, true, false, not, cond, List, [], ◌∷◌, inl, inr, length, Option, Some, None, refl, sym, ap, ◌∙◌, arith}
use Rattle.std.specs.Prelude.{slice_get, option_map, nat_lt, ◌||◌}
use Rattle.std.specs.List.{list_any}
use Rattle.std.specs.Option.{option_map_or}
use Rattle.std.proofs.Math.ListN.{set}
use Rattle.std.proofs.lemmas.Bool.{cases_eq}
use Rattle.std.proofs.lemmas.Bool.Decides.{nat_tests}
use Rattle.std.proofs.lemmas.Option.{slice_get_within}
use Rattle.nn_base.proofs.PlainLemmas.{some_is}
use Rattle.nn_tree.specs.declared.entry.Entry.{Entry}
use Rattle.nn_tree.specs.Plain.{is_free, blocks_in, blocks_in_at, has_block_room, climbs_to, cut_entry, IsCutOf}
use Rattle.nn_tree.proofs.PlainLemmas.{slice_set_same, slice_set_other}

-- ---- one entry is written

any_set : {A : Type 0} (p : A → Bool) (xs : List A) (i : ℕ) (o x : A) → slice_get xs i ≡ Some o → p x ≡ p o → list_any p (set xs i x) ≡ list_any p xs
any_set p [] i o x is same = refl
any_set p (y ∷ xs) zero o x is same = ap (λ b. b || list_any p xs) (same ∙ ap p (sym (some_is y o is)))
any_set p (y ∷ xs) (suc i) o x is same = ap (λ b. p y || b) (any_set p xs i o x is same)

at_set : {A : Type 0} (f : A → ℕ) (xs : List A) (i j : ℕ) (o x : A) → slice_get xs i ≡ Some o → f x ≡ f o → option_map_or f (slice_get (set xs i x) j) 0 ≡ option_map_or f (slice_get xs j) 0
at_set f xs i j o x is same = elim (cases_eq j i) as (λ _. option_map_or f (slice_get (set xs i x) j) 0 ≡ option_map_or f (slice_get xs j) 0) [
  | inl here ↦ ap (λ j. option_map_or f (slice_get (set xs i x) j) 0) here ∙ ap (λ o. option_map_or f o 0) (slice_set_same xs i x (slice_get_within xs i o is)) ∙ same
      ∙ sym (ap (λ j. option_map_or f (slice_get xs j) 0) here ∙ ap (λ o. option_map_or f o 0) is)
  | inr other ↦ ap (λ o. option_map_or f o 0) (slice_set_other xs i j x other)
]

-- an entry as live as the one before
pub free_set : (es : List Entry) (i : ℕ) (o e : Entry) → slice_get es i ≡ Some o → e.live ≡ o.live → list_any is_free (set es i e) ≡ list_any is_free es
free_set es i o e is live = any_set is_free es i o e is (ap not live)

-- and one with as many blocks
pub room_set : (es : List Entry) (i : ℕ) (o e : Entry) (room j : ℕ) → slice_get es i ≡ Some o → blocks_in e ≡ blocks_in o → has_block_room (set es i e) room j ≡ has_block_room es room j
room_set es i o e room j is blocks = ap (λ n. nat_lt n room) (at_set blocks_in es i j o e is blocks)

-- another entry keeps its room
pub room_other : (es : List Entry) (i : ℕ) (e : Entry) (room j : ℕ) → j ≢ i → has_block_room (set es i e) room j ≡ has_block_room es room j
room_other es i e room j other = ap (λ o. nat_lt (option_map_or blocks_in o 0) room) (slice_set_other es i j e other)

-- ---- entries are cut

any_at : {A : Type 0} (p : A → Bool) (xs : List A) → list_any p xs ≡ true → (i : ℕ) × (x : A) × ((slice_get xs i ≡ Some x) × (p x ≡ true))
any_at p [] h = cc
any_at {A = A} p (x ∷ xs) h = elim (p x) as (λ b. p x ≡ b → (b || list_any p xs) ≡ true → (i : ℕ) × (y : A) × ((slice_get (x ∷ xs) i ≡ Some y) × (p y ≡ true))) [
  | true ↦ λ e _. (zero, x, (refl, e))
  | false ↦ λ _ h. (let r = any_at p xs h in (suc r.0, r.1, r.2))
] refl h

at_any : {A : Type 0} (p : A → Bool) (xs : List A) (i : ℕ) (x : A) → slice_get xs i ≡ Some x → p x ≡ true → list_any p xs ≡ true
at_any p [] i x is h = cc
at_any p (y ∷ xs) zero x is h = ap (λ b. b || list_any p xs) (ap p (some_is y x is) ∙ h)
at_any p (y ∷ xs) (suc i) x is h = or_true (p y) (at_any p xs i x is h)
  where
    or_true : (a : Bool) {b : Bool} → b ≡ true → (a || b) ≡ true
    or_true true e = refl
    or_true false e = e

pub free_cut : (es fs : List Entry) (a : ℕ) → IsCutOf es fs a → list_any is_free es ≡ true → list_any is_free fs ≡ true
free_cut es fs a c h =
    let x = any_at is_free es h in
    at_any is_free fs x.0 (cut_entry es a x.0 x.1) (c.each x.0 ∙ ap (option_map (cut_entry es a x.0)) x.2.0) (stays (climbs_to es a (length es) x.0) x.1 x.2.1)
  where
    stays : (b : Bool) (e : Entry) → is_free e ≡ true → is_free (cond b (record e { live = false }) e) ≡ true
    stays true e h = refl
    stays false e h = h

pub room_cut : (es fs : List Entry) (a room j : ℕ) → IsCutOf es fs a → has_block_room fs room j ≡ has_block_room es room j
room_cut es fs a room j c = ap (λ n. nat_lt n room) (ap (λ o. option_map_or blocks_in o 0) (c.each j) ∙ alike (climbs_to es a (length es) j) (slice_get es j))
  where
    alike : (b : Bool) (o : Option Entry) → option_map_or blocks_in (option_map {T = Entry} {U = Entry} (λ e. cond b (record e { live = false }) e) o) 0 ≡ option_map_or blocks_in o 0
    alike true None = refl
    alike true (Some e) = refl
    alike false None = refl
    alike false (Some e) = refl

-- ---- room is made, and used

pub room_made : (es : List Entry) (room i n : ℕ) → blocks_in_at es i ≡ n → n < room → has_block_room es room i ≡ true
room_made es room i n is lt = ap (λ n. nat_lt n room) is ∙ grind (arith, nat_tests, lt)

pub room_enough : (es : List Entry) (room i : ℕ) (e : Entry) → has_block_room es room i ≡ true → slice_get es i ≡ Some e → blocks_in e < room
room_enough es room i e h is =
    let n : nat_lt (blocks_in e) room ≡ true = ap (λ o. nat_lt (option_map_or blocks_in o 0) room) (sym is) ∙ h in
    grind (arith, nat_tests, n)
