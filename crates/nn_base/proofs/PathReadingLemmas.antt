-- What reading the text of a path answers, by the tests that it passed.
use Rattle.std.proofs.Common.{◌≡◌, ◌≢◌, ℕ, ◌<◌, ◌≤◌, Bool, true, false, cond, ◌==◌, nat_lt, [], ◌∷◌, length, refl, sym, ap, subst, ◌∙◌, arith, Some, None, Result, Ok, Err, lt-ltb}
use Rattle.std.specs.Prelude.{IfOk, MatchResult}
use Rattle.std.specs.List.{onto_first}
use Rattle.std.proofs.lemmas.Bool.{eq-eqb, ne_eqb, eqb-true}
use Rattle.nn_base.specs.Limits.{most_levels, most_path}
use Rattle.nn_base.specs.declared.path.fault.PathFault.{PathFault}
use Rattle.nn_base.specs.declared.path.fault.PathFault.TheVariants.{Empty, Relative, LongPath, BadName, LongName, Deep, Memory}
use Rattle.nn_base.specs.Paths.{Names, Bytes, IsPath, text_of}
use Rattle.nn_base.specs.First.{when, first_of}
use Rattle.nn_base.specs.PathText.{parts, parts_of, is_absolute, fault_among, fault_of}
use Rattle.nn_base.specs.PathHeld.{HoldsPath}
use Rattle.nn_base.proofs.PathHeldLemmas.{text_joined, root_is_path}
use Rattle.nn_base.proofs.PathTextLemmas.{IsFair, split, fault_of-text_of, fault_of_fair, no_fault_of_fair, fair_is_path, text_of-parts_of, parts_of-text_of, no_path_has_fault, some_bytes}

-- ---- faults

pub empty_text : (text : Bytes) → length text ≡ 0 → fault_of text ≡ Some Empty
unfolding fault_of
empty_text text h = let e : (length text == 0) ≡ true = eq-eqb _ _ h in rw e refl

pub relative_text : (text : Bytes) (first : ℕ) (rest : Bytes) → text ≡ first ∷ rest → (first ≡ 47 → ⊥) → fault_of text ≡ Some Relative
unfolding fault_of
relative_text text first rest is h =
    let e : (first == 47) ≡ false = ne_eqb first 47 h in
    let some = some_bytes first rest in
    rw (is, some, e) refl

pub long_text : (text : Bytes) (first : ℕ) (rest : Bytes) → text ≡ first ∷ rest → first ≡ 47 → most_path < length text → fault_of text ≡ Some LongPath
unfolding fault_of
long_text text first rest is h long =
    let e : (first == 47) ≡ true = eq-eqb first 47 h in
    let l : nat_lt most_path (length (first ∷ rest)) ≡ true = lt-ltb _ _ (subst (λ (t : Bytes). most_path < length t) is long) in
    let some = some_bytes first rest in
    rw (is, some, e, l) refl

pub fair_text : (text : Bytes) (first : ℕ) (rest : Bytes) → text ≡ first ∷ rest → first ≡ 47 → length text ≤ most_path → IsFair text
fair_text text first rest is h size = record { absolute = ap is_absolute is ∙ eq-eqb first 47 h; size = size }

pub part_told : (text : Bytes) (fault : PathFault) → IsFair text → fault_among (parts_of text) ≡ Some fault → fault_of text ≡ Some fault
part_told text fault fair e =
    fault_of_fair text fair ∙ ap (λ f. first_of (f ∷ when (nat_lt most_levels (length (parts_of text))) Deep ∷ [])) e

memory_alone : (fault : PathFault) → (fault ≢ Memory → ⊥) → fault ≡ Memory
memory_alone Empty h = absurd (h (λ e. cc))
memory_alone Relative h = absurd (h (λ e. cc))
memory_alone LongPath h = absurd (h (λ e. cc))
memory_alone BadName h = absurd (h (λ e. cc))
memory_alone LongName h = absurd (h (λ e. cc))
memory_alone Deep h = absurd (h (λ e. cc))
memory_alone Memory h = refl

-- ---- the answer

-- what `Path::parse` promises of its answer to a text
pub record IsAnswer (text : Bytes) (result : Result Names PathFault) : Type 0 where
  pub ok : IfOk result (λ path. IsPath path × (text_of path ≡ text))
  pub only : (path : Names) → IsPath path → text_of path ≡ text → MatchResult result (λ found. found ≡ path) (λ fault. fault ≡ Memory)
  pub err : MatchResult result (λ _. fault_of text ≡ None) (λ fault. fault ≢ Memory → fault_of text ≡ Some fault)

pub told : (text : Bytes) (fault : PathFault) → (fault ≢ Memory → fault_of text ≡ Some fault) → IsAnswer text (Err fault)
told text fault h = record {
  ok = tt;
  only = λ path is e. memory_alone fault (λ apart. no_path_has_fault text fault (h apart) path is e);
  err = h;
}

-- the parts of a fair text are a path, or too many for one
pub deep_text : (text : Bytes) → IsFair text → fault_among (parts_of text) ≡ None → most_levels < length (parts_of text) → fault_of text ≡ Some Deep
deep_text text fair among deep =
    let e : nat_lt most_levels (length (parts_of text)) ≡ true = lt-ltb _ _ deep in
    fault_of_fair text fair ∙ (λ i. first_of (among i ∷ when (e i) Deep ∷ []))

pub read : (text : Bytes) → IsFair text → fault_among (parts_of text) ≡ None → length (parts_of text) ≤ most_levels → IsAnswer text (Ok (parts_of text))
read text fair among levels = record {
  ok = (fair_is_path text fair among levels, text_of-parts_of text fair.absolute);
  only = λ other h e. ap parts_of (sym e) ∙ parts_of-text_of other h;
  err = no_fault_of_fair text fair among levels;
}

-- ---- a text behind its first slash

pub root_text : (text : Bytes) (first : ℕ) (rest : Bytes) → text ≡ first ∷ rest → first ≡ 47 → (length rest == 0) ≡ true → fault_of text ≡ None
root_text text first [] is h none = ap fault_of (is ∙ ap (λ b. b ∷ []) h) ∙ fault_of-text_of [] root_is_path
root_text text first (b ∷ rest) is h none = let e = eqb-true (length (b ∷ rest)) 0 none in absurd (omega arith)

pub split_parts : (text : Bytes) (first : ℕ) (rest : Bytes) → text ≡ first ∷ rest → (length rest == 0) ≡ false → parts_of text ≡ split rest
unfolding parts
split_parts text first [] is some = cc
split_parts text first (b ∷ rest) is some = ap parts_of is

some_onto : (b : ℕ) (names : Names) → 0 < length (onto_first b names)
some_onto b [] = omega arith
some_onto b (x ∷ names) = omega arith

some_split : (text : Bytes) → 0 < length (split text)
some_split [] = omega arith
some_split (b ∷ text) = by (b == 47)
  where
    by : (slash : Bool) → 0 < length (cond slash ([] ∷ split text) (onto_first b (split text)))
    by true = omega arith
    by false = some_onto b (split text)

pub held_text : (text : Bytes) (first : ℕ) (rest : Bytes) → text ≡ first ∷ rest → (length rest == 0) ≡ false → IsFair text → fault_among (parts_of text) ≡ None → length (parts_of text) ≤ most_levels → HoldsPath text (length (parts_of text))
held_text text first rest is some fair among levels =
    let e = ap length (split_parts text first rest is some) in
    record {
      path = fair_is_path text fair among levels;
      spelled = sym (text_joined (parts_of text) (omega (arith, e, some_split rest))) ∙ text_of-parts_of text fair.absolute;
      levels = refl;
    }
