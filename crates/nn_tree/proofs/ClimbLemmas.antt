-- To climb from a place to the root is to read its path.
use Rattle.std.proofs.Common.{◌≡◌, ℕ, zero, suc, ◌+◌, ◌<◌, ◌≤◌, Bool, true, false, List, [], ◌∷◌, ◌++◌, ◌||◌, length, Some, None, refl, sym, ap, subst, ◌∙◌, arith, length-append, eqb, eq-eqb}
use Rattle.std.proofs.lemmas.Bool.{eqb-true}
use Rattle.std.specs.Prelude.{option_and_then, option_map}
use Rattle.std.specs.Option.{option_map_or}
use Rattle.std.specs.List.{list_any, IsDistinct, AllByRecursion}
use Rattle.std.proofs.lemmas.Map.Steps.{length-le_from_distinct_below}
use Rattle.nn_base.specs.Paths.{Names}
use Rattle.nn_tree.specs.Links.{Link, Links, up, path_at}

-- a path ends in the name of its place, with the path of the parent before it
pub record Above (g : Links) (i n : ℕ) (p : Names) : Type 0 where
  pub m : ℕ
  pub link : Link
  pub front : Names
  pub fuel : n ≡ suc m
  pub live : g.at (suc i) ≡ Some link
  pub parent : up g link.parent m ≡ Some front
  pub is : p ≡ front ++ link.name ∷ []

pub above : (g : Links) (i n : ℕ) (p : Names) → up g (suc i) n ≡ Some p → Above g i n p
above g i zero p h = cc
above g i (suc n) p h =
    elim (g.at (suc i)) as (λ o. g.at (suc i) ≡ o → option_and_then (λ e. option_map (λ p. p ++ e.name ∷ []) (up g e.parent n)) o ≡ Some p → Above g i (suc n) p) [
      | None ↦ λ live is. cc
      | Some e ↦ λ live is. elim (up g e.parent n) as (λ o. up g e.parent n ≡ o → option_map (λ p. p ++ e.name ∷ []) o ≡ Some p → Above g i (suc n) p) [
        | None ↦ λ parent is. cc
        | Some q ↦ λ parent is. record { m = n; link = e; front = q; fuel = refl; live = live; parent = parent; is = cc }
      ] refl is
    ] refl h

-- and back
pub below : (g : Links) (i n : ℕ) (e : Link) (q : Names) → g.at (suc i) ≡ Some e → up g e.parent n ≡ Some q → up g (suc i) (suc n) ≡ Some (q ++ e.name ∷ [])
below g i n e q live parent =
    ap (option_and_then (λ e. option_map (λ p. p ++ e.name ∷ []) (up g e.parent n))) live ∙ ap (option_map (λ p. p ++ e.name ∷ [])) parent

pub root_path : (g : Links) (n : ℕ) (p : Names) → up g zero n ≡ Some p → p ≡ []
root_path g n p h = elim (g.at zero) as (λ o. option_map (λ e. []) o ≡ Some p → p ≡ []) [ None ↦ λ is. cc | Some e ↦ λ is. cc ] h

pub is_live : (g : Links) (i n : ℕ) (p : Names) → up g i n ≡ Some p → (e : Link) × (g.at i ≡ Some e)
is_live g zero n p h = elim (g.at zero) as (λ o. g.at zero ≡ o → option_map (λ e. []) o ≡ Some p → (e : Link) × (g.at zero ≡ Some e)) [ None ↦ λ l is. cc | Some e ↦ λ l is. (e, l) ] refl h
is_live g (suc i) n p h = let a = above g i n p h in (a.link, a.live)

-- more steps change nothing
pub up_more : (g : Links) (n m i : ℕ) (p : Names) → n ≤ m → up g i n ≡ Some p → up g i m ≡ Some p
up_more g n m zero p le h = h
up_more g zero m (suc i) p le h = cc
up_more g (suc n) zero (suc i) p le h = absurd (omega arith)
up_more g (suc n) (suc m) (suc i) p le h =
    let a = above g i (suc n) p h in
    let k : n ≡ a.m = omega (arith, a.fuel) in
    below g i m a.link a.front a.live (up_more g n m a.link.parent a.front (omega arith) (ap (up g a.link.parent) k ∙ a.parent)) ∙ ap Some (sym a.is)

-- so a place has one path
pub one_path : (g : Links) (n m i : ℕ) (p q : Names) → up g i n ≡ Some p → up g i m ≡ Some q → p ≡ q
one_path g n m i p q h k =
    let a = up_more g n (n + m) i p (omega arith) h in
    let b = up_more g m (n + m) i q (omega arith) k in
    cc

-- as many steps as the path is long are enough
pub up_tight : (g : Links) (n i : ℕ) (p : Names) → up g i n ≡ Some p → up g i (length p) ≡ Some p
up_tight g n zero p h = h
up_tight g zero (suc i) p h = cc
up_tight g (suc n) (suc i) p h =
    let a = above g i (suc n) p h in
    let k : n ≡ a.m = omega (arith, a.fuel) in
    let t = up_tight g n a.link.parent a.front (ap (up g a.link.parent) k ∙ a.parent) in
    let e : length p ≡ suc (length a.front) = ap length a.is ∙ length-append a.front (a.link.name ∷ []) ∙ omega arith in
    ap (up g (suc i)) e ∙ below g i (length a.front) a.link a.front a.live t ∙ ap Some (sym a.is)

-- the place i and those above it
abbrev pub chain : Links → ℕ → ℕ → List ℕ
chain g zero n = zero ∷ []
chain g (suc i) zero = suc i ∷ []
chain g (suc i) (suc n) = suc i ∷ option_map_or (λ e. chain g e.parent n) (g.at (suc i)) []

chain_up : (g : Links) (i n : ℕ) (e : Link) → g.at (suc i) ≡ Some e → chain g (suc i) (suc n) ≡ suc i ∷ chain g e.parent n
chain_up g i n e live = ap (λ o. suc i ∷ option_map_or (λ e. chain g e.parent n) o []) live

long_chain : (g : Links) (n i : ℕ) (p : Names) → up g i n ≡ Some p → length (chain g i n) ≡ length p + 1
long_chain g n zero p h = let z = ap length (root_path g n p h) in omega arith
long_chain g zero (suc i) p h = cc
long_chain g (suc n) (suc i) p h =
    let a = above g i (suc n) p h in
    let k : n ≡ a.m = omega (arith, a.fuel) in
    let t = long_chain g n a.link.parent a.front (ap (up g a.link.parent) k ∙ a.parent) in
    let e : length p ≡ suc (length a.front) = ap length a.is ∙ length-append a.front (a.link.name ∷ []) ∙ omega arith in
    ap length (chain_up g i n a.link a.live) ∙ omega arith

-- what stands on the chain has a path that is no longer
record OnChain (g : Links) (p : Names) (q : ℕ) : Type 0 where
  n : ℕ
  r : Names
  up_to : up g q n ≡ Some r
  short : length r ≤ length p

or_cases : {P : Type 0} (a b : Bool) → (a || b) ≡ true → (a ≡ true → P) → (b ≡ true → P) → P
or_cases true b h f g = f refl
or_cases false b h f g = g h

on_chain : (g : Links) (n i : ℕ) (p : Names) (q : ℕ) → up g i n ≡ Some p → list_any (eqb q) (chain g i n) ≡ true → OnChain g p q
on_chain g n zero p q h m = or_cases (eqb q zero) false m
    (λ e. let z : q ≡ zero = eqb-true q zero e in record { n = n; r = p; up_to = ap (λ j. up g j n) z ∙ h; short = omega arith })
    (λ e. cc)
on_chain g zero (suc i) p q h m = cc
on_chain g (suc n) (suc i) p q h m =
    let a = above g i (suc n) p h in
    let k : n ≡ a.m = omega (arith, a.fuel) in
    let parent = ap (up g a.link.parent) k ∙ a.parent in
    let e : length p ≡ suc (length a.front) = ap length a.is ∙ length-append a.front (a.link.name ∷ []) ∙ omega arith in
    or_cases (eqb q (suc i)) _ (sym (ap (list_any (eqb q)) (chain_up g i n a.link a.live)) ∙ m)
    (λ t. let z : q ≡ suc i = eqb-true q (suc i) t in record { n = suc n; r = p; up_to = ap (λ j. up g j (suc n)) z ∙ h; short = omega arith })
    (λ t. let o = on_chain g n a.link.parent a.front q parent t in record { n = o.n; r = o.r; up_to = o.up_to; short = omega (arith, o.short) })

all_of : (P : ℕ → Type 0) (xs : List ℕ) → ((q : ℕ) → list_any (eqb q) xs ≡ true → P q) → AllByRecursion P xs
all_of P [] h = tt
all_of P (x ∷ xs) h = (h x (ap (λ b. b || list_any (eqb x) xs) (eq-eqb x x refl)), all_of P xs (λ q m. h q (or_true (eqb q x) _ m)))
  where
    or_true : (a b : Bool) → b ≡ true → (a || b) ≡ true
    or_true true b h = refl
    or_true false b h = h

distinct_chain : (g : Links) (n i : ℕ) (p : Names) → up g i n ≡ Some p → IsDistinct eqb (chain g i n)
unfolding IsDistinct
distinct_chain g n zero p h = (tt, tt)
distinct_chain g zero (suc i) p h = cc
distinct_chain g (suc n) (suc i) p h =
    let a = above g i (suc n) p h in
    let k : n ≡ a.m = omega (arith, a.fuel) in
    let parent = ap (up g a.link.parent) k ∙ a.parent in
    let e : length p ≡ suc (length a.front) = ap length a.is ∙ length-append a.front (a.link.name ∷ []) ∙ omega arith in
    subst (IsDistinct eqb) (sym (chain_up g i n a.link a.live)) (
      all_of _ _ (λ q m.
          let o = on_chain g n a.link.parent a.front q parent m in
          elim (eqb (suc i) q) as (λ b. eqb (suc i) q ≡ b → b ≡ false) [
            | true ↦ λ t. let z : suc i ≡ q = eqb-true (suc i) q t in let s : p ≡ o.r = one_path g (suc n) o.n (suc i) p o.r h (ap (λ j. up g j o.n) z ∙ o.up_to) in let l = ap length s in absurd (omega (arith, o.short))
            | false ↦ λ t. refl
          ] refl),
      distinct_chain g n a.link.parent a.front parent,
    )

-- all places in use stand below the size
abbrev pub IsBounded : Links → Type 0
IsBounded g = (i : ℕ) (l : Link) → g.at i ≡ Some l → i < g.size

-- there are more places than a path has names
pub path_short : (g : Links) → IsBounded g → (n i : ℕ) (p : Names) → up g i n ≡ Some p → length p < g.size
path_short g within n i p h =
    let l = length-le_from_distinct_below (chain g i n) g.size (distinct_chain g n i p h)
    (λ q m. let o = on_chain g n i p q h m in let v = is_live g q o.n o.r o.up_to in within q v.0 v.1) in
    omega (arith, long_chain g n i p h)

-- so a climb by any number of steps finds the path
pub path_found : (g : Links) → IsBounded g → (n i : ℕ) (p : Names) → up g i n ≡ Some p → path_at g i ≡ Some p
unfolding path_at
path_found g within n i p h = up_more g (length p) g.size i p (let s = path_short g within n i p h in omega arith) (up_tight g n i p h)

-- and more steps than there are places change nothing
pub enough : (g : Links) → IsBounded g → (n j : ℕ) → g.size ≤ n → up g j n ≡ path_at g j
unfolding path_at
enough g within n j le = elim (up g j n) as (λ o. up g j n ≡ o → o ≡ path_at g j) [
  | Some p ↦ λ h. sym (path_found g within n j p h)
  | None ↦ λ h. elim (path_at g j) as (λ o. path_at g j ≡ o → None ≡ o) [
    | None ↦ λ _. refl
    | Some p ↦ λ is. let m = up_more g g.size n j p le is in cc
  ] refl
] refl
