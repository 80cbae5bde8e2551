-- Lemmas on options at the head of words.
use Rattle.std.proofs.Common.{◌≡◌, ◌≢◌, List, [], ◌∷◌, ◌++◌, codes, IsTrue, Option, Some, None, MatchOption, inl, inr, sym, ◌∙◌, append_assoc}
use Rattle.std.proofs.lemmas.List.{append-nil}
use Rattle.nn_top.specs.Words.{Word, can_stand_apart}
use Rattle.nn_top.specs.Begins.{BeginWith}

-- a word that doesn't begin with the option
pub no_BeginWith : (words later : List Word) (first option : Word) → words ≡ first ∷ later → ((ending : Word) → first ≢ option ++ ending) → (value : Word) (rest : List Word) → BeginWith words option value rest → ⊥
no_BeginWith words later first option split other value rest (inl given) =
    let same : first ≡ (option ++ codes "=") ++ value = cc in
    other (codes "=" ++ value) (same ∙ append_assoc option (codes "=") value)
no_BeginWith words later first option split other value rest (inr (given, alone)) =
    let same : first ≡ option = cc in
    other [] (same ∙ sym (append-nil option))

-- the option alone, with its value in the next word
pub BeginWith-apart : {P : Type 0} (found : Option P) (value_in : P → Word) (rest_in : P → List Word) (words later : List Word) (option : Word) → words ≡ option ∷ later → MatchOption found ((value : Word) (rest : List Word) → later ≡ value ∷ rest → IsTrue (can_stand_apart value) → ⊥) (λ f. (later ≡ value_in f ∷ rest_in f) × IsTrue (can_stand_apart (value_in f))) → MatchOption found ((value : Word) (rest : List Word) → BeginWith words option value rest → ⊥) (λ f. BeginWith words option (value_in f) (rest_in f))
BeginWith-apart None value_in rest_in words later option split none = λ value rest give. no_joined none give
  where
    longer : (xs ys : Word) → xs ≡ (xs ++ codes "=") ++ ys → ⊥
    longer [] ys e = cc
    longer (x ∷ xs) ys e = longer xs ys (cc)

    no_joined : ((value : Word) (rest : List Word) → later ≡ value ∷ rest → IsTrue (can_stand_apart value) → ⊥) → {value : Word} {rest : List Word} → BeginWith words option value rest → ⊥
    no_joined none {value} (inl given) = let same : option ≡ (option ++ codes "=") ++ value = cc in longer option value same
    no_joined none {value} {rest} (inr (given, alone)) = let same : later ≡ value ∷ rest = cc in none value rest same alone
BeginWith-apart (Some f) value_in rest_in words later option split some =
    let same = some.0 in inr (cc, some.1)
