-- The entries of the plain tree as places.
use Rattle.std.proofs.Common.{◌≡◌, ◌≢◌, ℕ, zero, suc, ◌+◌, ◌<◌, Bool, true, false, cond, List, [], ◌∷◌, length, Some, None, refl, sym, ap, ◌∙◌, arith}
use Rattle.std.specs.Prelude.{option_and_then}
use Rattle.std.specs.Option.{option_map_or}
use Rattle.std.proofs.Math.ListN.{get_or, set, length-set}
use Rattle.nn_base.specs.Paths.{Bytes}
use Rattle.nn_tree.specs.Links.{Link, IsTree, has_place}
use Rattle.nn_tree.proofs.LinksLemmas.{path_live, link_there}
use Rattle.std.specs.Prelude.{slice_get, ◌||◌}
use Rattle.std.specs.List.{list_any, position, position_from}
use Rattle.std.proofs.lemmas.Iterator.Adapters.{position_from-zero}
use Rattle.std.proofs.lemmas.Option.{slice_get_read}
use Rattle.std.specs.Ordering.{is_lt}
use Rattle.nn_base.specs.Paths.{name_cmp}
use Rattle.nn_base.proofs.PlainLemmas.{some_is}
use Rattle.nn_tree.specs.declared.entry.Entry.{Entry}
use Rattle.nn_tree.specs.Plain.{name_of, link_of, links_of, is_later, is_later_link, name_at, IsLeast}
use Rattle.nn_tree.proofs.LeastLemmas.{least_first, least_better, least_worse}
use Rattle.nn_tree.proofs.SetLemmas.{Sets}

-- what a live entry holds
abbrev pub held : Entry → Link
held e = record { parent = e.parent; name = name_of e; node = e.node }

pub at_entry : (es : List Entry) (i : ℕ) (e : Entry) → slice_get es i ≡ Some e → (links_of es).at i ≡ link_of e
at_entry es i e is = ap (option_and_then link_of) is

pub live_entry : (es : List Entry) (i : ℕ) (e : Entry) → slice_get es i ≡ Some e → e.live ≡ true → (links_of es).at i ≡ Some (held e)
live_entry es i e is live = at_entry es i e is ∙ ap (λ b. cond b (Some (held e)) None) live

pub free_entry : (es : List Entry) (i : ℕ) (e : Entry) → slice_get es i ≡ Some e → e.live ≡ false → (links_of es).at i ≡ None
free_entry es i e is free = at_entry es i e is ∙ ap (λ b. cond b (Some (held e)) None) free

-- the entry of a place in use
pub record EntryAt (es : List Entry) (i : ℕ) (l : Link) : Type 0 where
  pub entry : Entry
  pub is : slice_get es i ≡ Some entry
  pub live : entry.live ≡ true
  pub holds : l ≡ held entry

pub entry_at : (es : List Entry) (i : ℕ) (l : Link) → (links_of es).at i ≡ Some l → EntryAt es i l
entry_at es i l h = elim (slice_get es i) as (λ o. slice_get es i ≡ o → option_and_then link_of o ≡ Some l → EntryAt es i l) [
  | None ↦ λ is h. cc
  | Some e ↦ λ is h. by e is e.live refl h
] refl h
  where
    by : (e : Entry) → slice_get es i ≡ Some e → (b : Bool) → e.live ≡ b → cond e.live (Some (held e)) None ≡ Some l → EntryAt es i l
    by e is true live h = record { entry = e; is = is; live = live; holds = sym (some_is _ _ (sym (ap (λ b. cond b (Some (held e)) None) live) ∙ h)) }
    by e is false live h = let z : None ≡ Some l = sym (ap (λ b. cond b (Some (held e)) None) live) ∙ h in cc

-- the entry that a spot names
pub has_entry : (es : List Entry) (i : ℕ) (e : Entry) → has_place (links_of es) i ≡ true → slice_get es i ≡ Some e → e.live ≡ true
has_entry es i e has is =
    let l = link_there (links_of es) i has in
    let x = entry_at es i l.0 l.1 in
    ap (λ (e : Entry). e.live) (some_is _ _ (sym is ∙ x.is)) ∙ x.live

pub spot_entry : (es : List Entry) (i : ℕ) (e : Entry) → has_place (links_of es) i ≡ true → slice_get es i ≡ Some e → (links_of es).at i ≡ Some (held e)
spot_entry es i e has is = live_entry es i e is (has_entry es i e has is)

pub has_within : (es : List Entry) (i : ℕ) → IsTree (links_of es) → has_place (links_of es) i ≡ true → i < length es
has_within es i t has = let l = link_there (links_of es) i has in t.within i l.0 l.1

pub root_within : (es : List Entry) → IsTree (links_of es) → 0 < length es
root_within es t = let l = path_live (links_of es) 0 [] t.root in t.within 0 l.0 l.1

-- ---- one entry is written

pub slice_set_same : {A : Type 0} (xs : List A) (k : ℕ) (x : A) → k < length xs → slice_get (set xs k x) k ≡ Some x
slice_set_same [] k x h = absurd (omega arith)
slice_set_same (y ∷ xs) zero x h = refl
slice_set_same (y ∷ xs) (suc k) x h = slice_set_same xs k x (omega arith)

pub slice_set_other : {A : Type 0} (xs : List A) (k j : ℕ) (x : A) → j ≢ k → slice_get (set xs k x) j ≡ slice_get xs j
slice_set_other [] k j x h = refl
slice_set_other (y ∷ xs) zero zero x h = absurd (h refl)
slice_set_other (y ∷ xs) zero (suc j) x h = refl
slice_set_other (y ∷ xs) (suc k) zero x h = refl
slice_set_other (y ∷ xs) (suc k) (suc j) x h = slice_set_other xs k j x (λ e. h (ap suc e))

pub sets_entry : (es : List Entry) (i : ℕ) (e : Entry) → i < length es → e.live ≡ true → Sets (links_of es) (links_of (set es i e)) i (held e)
sets_entry es i e within live = record {
  size = length-set es i e;
  within = within;
  here = live_entry (set es i e) i e (slice_set_same es i e within) live;
  others = λ j other. ap (option_and_then link_of) (slice_set_other es i j e other);
}

-- ---- a free place is found

none_from : {A : Type 0} (p : A → Bool) (i : ℕ) (xs : List A) → position_from p i xs ≡ None → list_any p xs ≡ false
none_from p i [] h = refl
none_from p i (x ∷ xs) h = elim (p x) as (λ b. cond b (Some i) (position_from p (i + 1) xs) ≡ None → (b || list_any p xs) ≡ false) [
  | true ↦ λ h. cc
  | false ↦ λ h. none_from p (i + 1) xs h
] h

pub none_free : {A : Type 0} (p : A → Bool) (xs : List A) → None ≡ position p xs → list_any p xs ≡ true → ⊥
none_free p xs h k = let f = none_from p 0 xs (sym (position_from-zero p xs) ∙ sym h) in cc

-- ---- the better child

later_name : (es : List Entry) (i a : ℕ) (bound : Bytes) (e : Entry) → slice_get es i ≡ Some e → is_later (links_of es) a bound i ≡ true → name_at (links_of es) i ≡ name_of e
later_name es i a bound e is later = by e.live refl
  where
    by : (b : Bool) → e.live ≡ b → name_at (links_of es) i ≡ name_of e
    by true live = ap (λ o. option_map_or (λ l. l.name) o []) (live_entry es i e is live)
    by false live = let z : false ≡ true = sym (ap (λ o. is_later_link i o a bound) (free_entry es i e is live)) ∙ later in cc

module _ (es : List Entry) (i a : ℕ) (bound : Bytes) (e : Entry) (within : i < length es) (read : e ≡ get_or es i e) where
  at : slice_get es i ≡ Some e
  at = slice_get_read es _ i e refl within read

  later : (b : Bool) → b ≡ is_later_link i (link_of e) a bound → is_later (links_of es) a bound i ≡ b
  later b h = ap (λ o. is_later_link i o a bound) (at_entry es i e at) ∙ sym h

  pub better_first : true ≡ is_later_link i (link_of e) a bound → IsLeast (links_of es) a bound i None → IsLeast (links_of es) a bound (i + 1) (Some i)
  better_first h least = least_first (links_of es) a bound i least (later true h)

  module _ (b : ℕ) (d : Entry) (inside : b < length es) (read_b : d ≡ get_or es b d) (least : IsLeast (links_of es) a bound i (Some b)) (h : true ≡ is_later_link i (link_of e) a bound) where
    compared : name_cmp (name_at (links_of es) i) (name_at (links_of es) b) ≡ name_cmp (name_of e) (name_of d)
    compared = (λ k. name_cmp (later_name es i a bound e at (later true h) k) (later_name es b a bound d (slice_get_read es _ b d refl inside read_b) least.0 k))

    pub better_less : is_lt (name_cmp (name_of e) (name_of d)) ≡ true → IsLeast (links_of es) a bound (i + 1) (Some i)
    better_less w = least_better (links_of es) a bound i b least (later true h) (ap is_lt compared ∙ w)

    pub better_not : is_lt (name_cmp (name_of e) (name_of d)) ≡ false → IsLeast (links_of es) a bound (i + 1) (Some b)
    better_not w = least_worse (links_of es) a bound i b least (ap is_lt compared ∙ w)
