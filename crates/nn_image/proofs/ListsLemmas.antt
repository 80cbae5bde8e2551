-- What is left of a list behind a place, and lists joined end to end.
use Rattle.std.proofs.Common.{◌≡◌, ℕ, zero, suc, true, List, [], ◌∷◌, ◌++◌, map, drop, Some, refl, ap, ◌∙◌, append_assoc, rules}
use Rattle.std.specs.Prelude.{slice_get, filter, All}
use Rattle.std.specs.List.{flat_map}
use Rattle.std.proofs.lemmas.Option.{none-some, same_Some}
use Rattle.std.proofs.lemmas.List.Concat.{flat_map-append}
use Rattle.std.proofs.lemmas.List.Elements.{All-nil, All-append, All-head, All-tail}

pub drop_at : {A : Type 0} (xs : List A) (k : ℕ) (x : A) → slice_get xs k ≡ Some x → drop k xs ≡ x ∷ drop (suc k) xs
drop_at [] k x at = absurd (none-some _ at)
drop_at (y ∷ xs) zero x at = ap (λ z. z ∷ xs) (same_Some y x at)
drop_at (y ∷ xs) (suc k) x at = drop_at xs k x at

pub flat_map-map : {A B C : Type 0} (f : B → List C) (g : A → B) (xs : List A) → flat_map f (map g xs) ≡ flat_map (λ x. f (g x)) xs
flat_map-map f g [] = refl
flat_map-map f g (x ∷ xs) = ap (λ t. f (g x) ++ t) (flat_map-map f g xs)

pub flat_map-flat_map : {A B C : Type 0} (f : B → List C) (g : A → List B) (xs : List A) → flat_map f (flat_map g xs) ≡ flat_map (λ x. flat_map f (g x)) xs
flat_map-flat_map f g [] = refl
flat_map-flat_map f g (x ∷ xs) = flat_map-append f (g x) (flat_map g xs) ∙ ap (λ t. flat_map f (g x) ++ t) (flat_map-flat_map f g xs)

pub all_flat_map : {A B : Type 0} (P : B → Type 0) (f : A → List B) (xs : List A) → All (λ x. All P (f x)) xs → All P (flat_map f xs)
all_flat_map P f [] each = All-nil P
all_flat_map P f (x ∷ xs) each =
    All-append P (f x) (flat_map f xs) (All-head (λ y. All P (f y)) x xs each) (all_flat_map P f xs (All-tail (λ y. All P (f y)) x xs each))

pub filter_all : {A : Type 0} (xs : List A) → filter (λ x. true) xs ≡ xs
filter_all [] = refl
filter_all (x ∷ xs) = ap (λ t. x ∷ t) (filter_all xs)

-- the front of an image: the mark, the first section, and the head of the second
pub front_joined : (m i h f n d e : List ℕ) → m ++ (i ++ (h ++ f) ++ n ++ d) ++ e ≡ (m ++ i ++ h) ++ (f ++ n ++ d ++ e)
front_joined m i h f n d e = search (rules, append_assoc)

pub head_joined : (h f d e : List ℕ) → (h ++ f) ++ d ++ e ≡ h ++ (f ++ d ++ e)
head_joined h f d e = search (rules, append_assoc)

pub next_joined : (x f n d e : List ℕ) → (x ++ f) ++ n ++ d ++ e ≡ x ++ (f ++ n ++ d ++ e)
next_joined x f n d e = search (rules, append_assoc)
