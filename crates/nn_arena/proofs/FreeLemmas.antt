-- The free list: what its first place is, and how it grows by one.
use Rattle.std.proofs.Common.{◌≡◌, ◌≢◌, ℕ, Bool, true, false, List, [], ◌∷◌, ◌||◌, inl, inr, Option, Some, None, refl, sym, ap, subst, ◌∙◌, nat_eq, eq-eqb}
use Rattle.std.specs.Prelude.{slice_get, option_and_then}
use Rattle.std.specs.List.{AllByRecursion, list_any}
use Rattle.std.proofs.lemmas.Bool.{cases_eq, eqb-true}
use Rattle.nn_base.proofs.PlainLemmas.{some_is}
use Rattle.nn_arena.specs.declared.place.Entry.{Entry}
use Rattle.nn_arena.specs.declared.place.Place.{Place}
use Rattle.nn_arena.specs.declared.place.Place.TheVariants.{Free, Used}
use Rattle.nn_arena.specs.Places.{entry_of, entry_at}
use Rattle.nn_arena.specs.FreeList.{AreFreeFrom, IsFreeList}

-- what the first place names is the list without it
pub record Head (ps : List Place) (i : ℕ) : Type 0 where
  pub next : Option ℕ
  pub rest : List ℕ
  pub is : slice_get ps i ≡ Some (Free next)
  pub apart : AllByRecursion (λ j. j ≢ i) rest
  pub linked : AreFreeFrom ps next rest
  pub whole : (j : ℕ) (n : Option ℕ) → slice_get ps j ≡ Some (Free n) → list_any (nat_eq j) (i ∷ rest) ≡ true

pub head : (ps : List Place) (i : ℕ) → IsFreeList ps (Some i) → Head ps i
head ps i f = by f.list f.linked f.whole
  where
    by : (list : List ℕ) → AreFreeFrom ps (Some i) list → ((j : ℕ) (n : Option ℕ) → slice_get ps j ≡ Some (Free n) → list_any (nat_eq j) list ≡ true) → Head ps i
    by [] linked whole = cc
    by (k ∷ rest) linked whole =
        let same : i ≡ k = some_is _ _ linked.0 in
        record {
          next = linked.2.0;
          rest = rest;
          is = ap (slice_get ps) same ∙ linked.2.1.0;
          apart = subst (λ k. AllByRecursion (λ j. j ≢ k) rest) (sym same) linked.1;
          linked = linked.2.1.1;
          whole = λ j n is. ap (λ k. list_any (nat_eq j) (k ∷ rest)) same ∙ whole j n is;
        }

-- the first place is free
pub head_free : (ps : List Place) (i : ℕ) → IsFreeList ps (Some i) → entry_at ps i ≡ None
head_free ps i f = let h = head ps i f in ap (option_and_then entry_of) h.is

-- places other than i stand as they stood
pub others_stand : (ps qs : List Place) (i : ℕ) → ((j : ℕ) (n : Option ℕ) → j ≢ i → slice_get ps j ≡ Some (Free n) → slice_get qs j ≡ Some (Free n)) → (o : Option ℕ) (list : List ℕ) → AllByRecursion (λ j. j ≢ i) list → AreFreeFrom ps o list → AreFreeFrom qs o list
others_stand ps qs i stand o [] apart linked = linked
others_stand ps qs i stand o (k ∷ rest) apart linked =
    (linked.0, linked.1, (linked.2.0, (stand k linked.2.0 apart.0 linked.2.1.0, others_stand ps qs i stand linked.2.0 rest apart.1 linked.2.1.1)))

-- ---- all free places stand as they stood

all_stand : (ps qs : List Place) → ((j : ℕ) (n : Option ℕ) → slice_get ps j ≡ Some (Free n) → slice_get qs j ≡ Some (Free n)) → (o : Option ℕ) (list : List ℕ) → AreFreeFrom ps o list → AreFreeFrom qs o list
all_stand ps qs stand o [] linked = linked
all_stand ps qs stand o (k ∷ rest) linked = (linked.0, linked.1, (linked.2.0, (stand k linked.2.0 linked.2.1.0, all_stand ps qs stand linked.2.0 rest linked.2.1.1)))

pub list_kept : (ps qs : List Place) (o : Option ℕ) → ((j : ℕ) (n : Option ℕ) → slice_get ps j ≡ Some (Free n) → slice_get qs j ≡ Some (Free n)) → ((j : ℕ) (n : Option ℕ) → slice_get qs j ≡ Some (Free n) → slice_get ps j ≡ Some (Free n))
    → IsFreeList ps o → IsFreeList qs o
list_kept ps qs o stand back f = record { list = f.list; linked = all_stand ps qs stand o f.list f.linked; whole = λ j n is. f.whole j n (back j n is) }

-- ---- the first place is used: the list is what it named

pub popped : (ps qs : List Place) (i : ℕ) (e : Entry) (f : IsFreeList ps (Some i)) → slice_get qs i ≡ Some (Used e)
    → ((j : ℕ) (n : Option ℕ) → j ≢ i → slice_get ps j ≡ Some (Free n) → slice_get qs j ≡ Some (Free n)) → ((j : ℕ) (n : Option ℕ) → j ≢ i → slice_get qs j ≡ Some (Free n) → slice_get ps j ≡ Some (Free n))
    → (next : Option ℕ) → slice_get ps i ≡ Some (Free next) → IsFreeList qs next
popped ps qs i e f used stand back next is =
    let h = head ps i f in
    let same : h.next ≡ next = free_is h.next next (some_is _ _ (sym h.is ∙ is)) in
    subst (IsFreeList qs) same (record {
      list = h.rest;
      linked = others_stand ps qs i stand h.next h.rest h.apart h.linked;
      whole = λ j n now. elim (cases_eq j i) as (λ _. list_any (nat_eq j) h.rest ≡ true) [
        | inl here ↦ let z : Some (Used e) ≡ Some (Free n) = sym used ∙ ap (slice_get qs) (sym here) ∙ now in cc
        | inr other ↦ rest_has j i h.rest other (h.whole j n (back j n other now))
      ];
    })
  where
    free_is : (a b : Option ℕ) → Free a ≡ Free b → a ≡ b
    free_is a b h = cc

    rest_has : (j i : ℕ) (rest : List ℕ) → j ≢ i → list_any (nat_eq j) (i ∷ rest) ≡ true → list_any (nat_eq j) rest ≡ true
    rest_has j i rest other h = elim (nat_eq j i) as (λ b. nat_eq j i ≡ b → (b || list_any (nat_eq j) rest) ≡ true → list_any (nat_eq j) rest ≡ true) [
      | true ↦ λ e _. absurd (other (eqb-true j i e))
      | false ↦ λ _ h. h
    ] refl h

-- ---- a place that was in use is freed: it stands before the others

-- no place in use is on the list
apart_used : (ps : List Place) (i : ℕ) (e : Entry) → slice_get ps i ≡ Some (Used e) → (o : Option ℕ) (list : List ℕ) → AreFreeFrom ps o list → AllByRecursion (λ j. j ≢ i) list
apart_used ps i e is o [] linked = tt
apart_used ps i e is o (k ∷ rest) linked =
    ((λ same. let z : Some (Used e) ≡ Some (Free linked.2.0) = sym is ∙ ap (slice_get ps) (sym same) ∙ linked.2.1.0 in cc), apart_used ps i e is linked.2.0 rest linked.2.1.1)

pub pushed : (ps qs : List Place) (i : ℕ) (e : Entry) (o : Option ℕ) → IsFreeList ps o → slice_get ps i ≡ Some (Used e) → slice_get qs i ≡ Some (Free o)
    → ((j : ℕ) (n : Option ℕ) → j ≢ i → slice_get ps j ≡ Some (Free n) → slice_get qs j ≡ Some (Free n)) → ((j : ℕ) (n : Option ℕ) → j ≢ i → slice_get qs j ≡ Some (Free n) → slice_get ps j ≡ Some (Free n)) → IsFreeList qs (Some i)
pushed ps qs i e o f used free stand back =
    let apart = apart_used ps i e used o f.list f.linked in
    record {
      list = i ∷ f.list;
      linked = (refl, apart, (o, (free, others_stand ps qs i stand o f.list apart f.linked)));
      whole = λ j n now. elim (cases_eq j i) as (λ _. list_any (nat_eq j) (i ∷ f.list) ≡ true) [
        | inl here ↦ ap (λ b. b || list_any (nat_eq j) f.list) (eq-eqb j i here)
        | inr other ↦ or_true (nat_eq j i) (f.whole j n (back j n other now))
      ];
    }
  where
    or_true : (a : Bool) {b : Bool} → b ≡ true → (a || b) ≡ true
    or_true true h = refl
    or_true false h = h
