-- The loop that frees a place with all below it.
use Rattle.std.proofs.Common.{◌≡◌, ℕ, zero, suc, ◌+◌, ◌<◌, ◌≤◌, Bool, true, false, cond, List, [], ◌∷◌, ◌++◌, inl, inr, length, Option, Some, None, refl, sym, ap, ◌∙◌, arith, nat_eq, take, drop, append-nil}
use Rattle.std.specs.Prelude.{slice_get, option_map}
use Rattle.std.specs.Option.{option_map_or}
use Rattle.std.proofs.Math.ListN.{set, length-set}
use Rattle.std.proofs.Math.Seq.{take-length}
use Rattle.std.proofs.lemmas.Bool.{cases_eq, cases_lt}
use Rattle.std.proofs.lemmas.Option.{slice_get_past}
use Rattle.nn_tree.specs.declared.entry.Entry.{Entry}
use Rattle.nn_tree.specs.Plain.{climbs_to, cut_entry, IsCutOf}
use Rattle.nn_tree.proofs.PlainLemmas.{slice_set_same, slice_set_other}

through_parent : (g : ℕ → Bool) (o : Option Entry) → option_map_or (λ (e : Entry). g e.parent) o false ≡ option_map_or g (option_map (λ (e : Entry). e.parent) o) false
through_parent g None = refl
through_parent g (Some e) = refl

pub climbs_links : (es fs : List Entry) (a : ℕ) → ((j : ℕ) → option_map (λ (e : Entry). e.parent) (slice_get fs j) ≡ option_map (λ (e : Entry). e.parent) (slice_get es j)) → (n i : ℕ) → climbs_to fs a n i ≡ climbs_to es a n i
climbs_links es fs a same zero i = refl
climbs_links es fs a same (suc n) i =
    ap (λ b. cond (nat_eq i a) true (cond (nat_eq i 0) false b))
    (through_parent (climbs_to fs a n) (slice_get fs i)
    ∙ (λ k. option_map_or (λ p. climbs_links es fs a same n p k) (same i k) false)
    ∙ sym (through_parent (climbs_to es a n) (slice_get es i)))

pub record CutSoFar (es cur : List Entry) (a i : ℕ) : Type 0 where
  pub len : length cur ≡ length es
  pub before : (j : ℕ) → j < i → slice_get cur j ≡ option_map (cut_entry es a j) (slice_get es j)
  pub rest : (j : ℕ) → i ≤ j → slice_get cur j ≡ slice_get es j

pub cut_start : (es : List Entry) (a : ℕ) → CutSoFar es es a 0
cut_start es a = record { len = refl; before = λ j h. absurd (omega arith); rest = λ j h. refl }

pub cut_done : (es cur : List Entry) (a i : ℕ) → CutSoFar es cur a i → length es ≤ i → IsCutOf es cur a
cut_done es cur a i c all = record {
  len = c.len;
  each = λ j. elim (cases_lt j (length es)) as (λ _. slice_get cur j ≡ option_map (cut_entry es a j) (slice_get es j)) [
    | inl lt ↦ c.before j (omega arith)
    | inr le ↦ let l = c.len in slice_get_past cur j (omega arith) ∙ sym (ap (option_map (cut_entry es a j)) (slice_get_past es j le))
  ];
}

parent_kept : (es : List Entry) (a j : ℕ) (o : Option Entry) → option_map (λ (e : Entry). e.parent) (option_map (cut_entry es a j) o) ≡ option_map (λ (e : Entry). e.parent) o
parent_kept es a j None = refl
parent_kept es a j (Some e) = elim (climbs_to es a (length es) j) as (λ b. Some (cond b (let d : Entry = record e { live = false } in d) e).parent ≡ Some e.parent) [ true ↦ refl | false ↦ refl ]

pub climbs_so_far : (es cur : List Entry) (a i : ℕ) → CutSoFar es cur a i → (n k : ℕ) → climbs_to cur a n k ≡ climbs_to es a n k
climbs_so_far es cur a i c = climbs_links es cur a (λ j. elim (cases_lt j i) as (λ _. option_map (λ (e : Entry). e.parent) (slice_get cur j) ≡ option_map (λ (e : Entry). e.parent) (slice_get es j)) [
  | inl lt ↦ ap (option_map (λ (e : Entry). e.parent)) (c.before j lt) ∙ parent_kept es a j (slice_get es j)
  | inr le ↦ ap (option_map (λ (e : Entry). e.parent)) (c.rest j le)
])

-- the entry at i is cut, or stays
pub cut_one : (es cur : List Entry) (a i : ℕ) (e : Entry) → CutSoFar es cur a i → i < length es → slice_get cur i ≡ Some e → climbs_to es a (length es) i ≡ true → CutSoFar es (set cur i (record e { live = false })) a (i + 1)
cut_one es cur a i e c within read h = record {
  len = length-set cur i _ ∙ c.len;
  before = λ j lt. elim (cases_eq j i) as (λ _. slice_get (set cur i (record e { live = false })) j ≡ option_map (cut_entry es a j) (slice_get es j)) [
    | inl is ↦
        let room : i < length cur = let l = c.len in omega arith in
        ap (slice_get (set cur i (record e { live = false }))) is ∙ slice_set_same cur i (record e { live = false }) room
        ∙ sym (ap (λ k. option_map (cut_entry es a k) (slice_get es k)) is ∙ ap (option_map (cut_entry es a i)) (sym (c.rest i (omega arith)) ∙ read) ∙ ap (λ b. Some (cond b (let d : Entry = record e { live = false } in d) e)) h)
    | inr other ↦ slice_set_other cur i j (record e { live = false }) other ∙ c.before j (omega arith)
  ];
  rest = λ j le. slice_set_other cur i j (record e { live = false }) (λ e. omega arith) ∙ c.rest j (omega arith);
}

pub keep_one : (es cur : List Entry) (a i : ℕ) → CutSoFar es cur a i → climbs_to es a (length es) i ≡ false → CutSoFar es cur a (i + 1)
keep_one es cur a i c h = record {
  len = c.len;
  before = λ j lt. elim (cases_eq j i) as (λ _. slice_get cur j ≡ option_map (cut_entry es a j) (slice_get es j)) [
    | inl is ↦ c.rest j (omega arith) ∙ sym (ap (λ k. option_map (cut_entry es a k) (slice_get es j)) is ∙ ap (λ b. option_map {T = Entry} {U = Entry} (λ (e : Entry). cond b (record e { live = false }) e) (slice_get es j)) h ∙ same (slice_get es j))
    | inr other ↦ c.before j (omega arith)
  ];
  rest = λ j le. c.rest j (omega arith);
}
  where
    same : (o : Option Entry) → option_map {T = Entry} {U = Entry} (λ e. e) o ≡ o
    same None = refl
    same (Some e) = refl

drop_past : {A : Type 0} (n : ℕ) (ys : List A) → length ys ≤ n → drop n ys ≡ []
drop_past zero [] h = refl
drop_past zero (y ∷ ys) h = absurd (omega arith)
drop_past (suc n) [] h = refl
drop_past (suc n) (y ∷ ys) h = drop_past n ys (omega arith)

-- a slice that is written back whole
pub written_back : {A : Type 0} (n : ℕ) (xs ys : List A) → n ≡ length ys → length xs ≡ length ys → take n (xs ++ drop (length xs) ys) ≡ xs
written_back n xs ys h g =
    ap (λ z. take n (xs ++ z)) (drop_past (length xs) ys (omega arith)) ∙ ap (take n) (append-nil xs)
    ∙ (let e : n ≡ length xs = omega arith in ap (λ n. take n xs) e) ∙ take-length xs
