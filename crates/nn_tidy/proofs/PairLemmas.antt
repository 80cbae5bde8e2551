-- Lists in which something holds of each element and each later one: parts of them, and one behind the other.
use Rattle.std.proofs.Common.{◌≡◌, ◌⊎◌, ⊎_elim, ℕ, zero, suc, ◌+◌, ◌-◌, ◌<◌, ◌≤◌, List, [], ◌∷◌, ◌++◌, length, get_or, Contains, refl, sym, ◌∙◌, subst, arith, length-append}
use Rattle.std.specs.List.{AllPairs}
use Rattle.std.proofs.lemmas.List.{get_or_append_left, get_or-append-add}
use Rattle.std.proofs.lemmas.List.Elements.{Contains-get_or}
use Rattle.std.proofs.lemmas.List.Quantifiers.{all_pairs_push}

pub same_default : {X : Type 0} (xs : List X) (j : ℕ) (d e : X) → j < length xs → get_or xs j d ≡ get_or xs j e
same_default [] j d e lt = absurd (omega (arith, lt))
same_default (x ∷ xs) zero d e lt = refl
same_default (x ∷ xs) (suc j) d e lt = same_default xs j d e (omega (arith, lt))

module _ {X : Type 0} (R : X → X → Type 0) where
  -- of two lists, one behind the other
  pub pairs_across : (xs ys : List X) (a b : X) → AllPairs R (xs ++ ys) → Contains xs a → Contains ys b → R a b
  pairs_across xs ys a b pairs a_in b_in =
      let first : get_or (xs ++ ys) a_in.0 a ≡ a = get_or_append_left xs ys a a_in.0 a_in.1 ∙ a_in.2 in
      let second : get_or (xs ++ ys) (length xs + b_in.0) a ≡ b = get_or-append-add xs ys b_in.0 a ∙ same_default ys b_in.0 a b b_in.1 ∙ b_in.2 in
      subst (λ (x : X). R x b) first
      (subst (λ (y : X). R (get_or (xs ++ ys) a_in.0 a) y) second (pairs a_in.0 (length xs + b_in.0) a (omega (arith, a_in.1)) (omega (arith, b_in.1, length-append xs ys))))

  pub pairs_front : (xs ys : List X) → AllPairs R (xs ++ ys) → AllPairs R xs
  pairs_front xs ys pairs i j d lt below =
      let first = get_or_append_left xs ys d i (omega (arith, lt, below)) in
      let second = get_or_append_left xs ys d j below in
      subst (λ (x : X). R x (get_or xs j d)) first
      (subst (λ (y : X). R (get_or (xs ++ ys) i d) y) second (pairs i j d lt (omega (arith, below, length-append xs ys))))

  pub pairs_push : (xs : List X) (y : X) → AllPairs R xs → ((x : X) → Contains xs x → R x y) → AllPairs R (xs ++ y ∷ [])
  pairs_push xs y pairs last = all_pairs_push R xs y pairs (λ k d below. last (get_or xs k d) (Contains-get_or xs k d below))

module _ {X : Type 0} (R : X → X → Type 0) where
  pub pairs_joined : (xs ys : List X) → AllPairs R xs → AllPairs R ys → ((a b : X) → Contains xs a → Contains ys b → R a b) → AllPairs R (xs ++ ys)
  pairs_joined xs ys front back cross i j d lt below = ⊎_elim
      (λ near.
      let first = get_or_append_left xs ys d i (omega (arith, lt, near)) in
      let second = get_or_append_left xs ys d j near in
      subst (λ (x : X). R x (get_or (xs ++ ys) j d)) (sym first) (subst (λ (y : X). R (get_or xs i d) y) (sym second) (front i j d lt near)))
      (λ far. ⊎_elim
      (λ near.
      let first = get_or_append_left xs ys d i near in
      let second = behind xs ys j d far in
      let lj : j - length xs < length ys = omega (arith, below, far, length-append xs ys) in
      subst (λ (x : X). R x (get_or (xs ++ ys) j d)) (sym first) (subst (λ (y : X). R (get_or xs i d) y) (sym second) (cross (get_or xs i d) (get_or ys (j - length xs) d) (Contains-get_or xs i d near) (Contains-get_or ys (j - length xs) d lj))))
      (λ beyond.
      let first = behind xs ys i d beyond in
      let second = behind xs ys j d far in
      let lj : j - length xs < length ys = omega (arith, below, far, length-append xs ys) in
      let li : i - length xs < j - length xs = omega (arith, lt, beyond) in
      subst (λ (x : X). R x (get_or (xs ++ ys) j d)) (sym first) (subst (λ (y : X). R (get_or ys (i - length xs) d) y) (sym second) (back (i - length xs) (j - length xs) d li lj)))
      (lt_or i (length xs)))
      (lt_or j (length xs))
    where
      lt_or : (a b : ℕ) → (a < b) ⊎ (b ≤ a)
      lt_or a b = grind arith

      behind : (xs ys : List X) (k : ℕ) (d : X) → length xs ≤ k → get_or (xs ++ ys) k d ≡ get_or ys (k - length xs) d
      behind xs ys k d le =
          let sum : length xs + (k - length xs) ≡ k = omega (arith, le) in
          subst (λ (m : ℕ). get_or (xs ++ ys) m d ≡ get_or ys (k - length xs) d) sum (get_or-append-add xs ys (k - length xs) d)

  pub pairs_weaker : {S : X → X → Type 0} (xs : List X) → ((a b : X) → Contains xs a → Contains xs b → S a b → R a b) → AllPairs S xs → AllPairs R xs
  pairs_weaker xs weaker pairs i j d lt below = weaker (get_or xs i d) (get_or xs j d) (Contains-get_or xs i d (omega (arith, lt, below))) (Contains-get_or xs j d below) (pairs i j d lt below)
