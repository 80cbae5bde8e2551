-- The front of a path is a path.
use Rattle.std.proofs.Common.{◌≡◌, ◌≤◌, ◌<◌, ◌+◌, ℕ, zero, suc, Bool, true, false, not, ◌||◌, nat_lt, refl, [], ◌∷◌, ◌++◌, length, take, drop, Some, ap, sym, subst, ◌∙◌, arith, ◌*◌, length-append, get_or}
use Rattle.std.specs.Prelude.{All, slice_get}
use Rattle.std.proofs.Math.ListN.{drop_of_length-le}
use Rattle.std.proofs.lemmas.Bool.Decides.{nat_tests}
use Rattle.std.proofs.lemmas.List.Elements.{All-take, All-push}
use Rattle.std.proofs.lemmas.List.{take_more, take_all}
use Rattle.nn_base.specs.Limits.{most_name}
use Rattle.nn_base.specs.Paths.{Names, Bytes, IsPath, is_name, is_bad_name, has_slash, joined}

-- the text of more names is longer
joined-take : (n : ℕ) (names : Names) → length (joined (take n names)) ≤ length (joined names)
joined-take zero names = omega arith
joined-take (suc n) [] = omega arith
joined-take (suc n) (x ∷ names) =
    omega (arith, joined-take n names, length-append x (joined (take n names)), length-append x (joined names))

pub take_is_path : (n : ℕ) (names : Names) → IsPath names → IsPath (take n names)
take_is_path n names path = record {
  named = All-take (λ name. is_name name ≡ true) n names path.named;
  levels = omega (arith, shorter n names, path.levels);
  size = omega (arith, joined-take n names, path.size);
}
  where
    shorter : (n : ℕ) (names : Names) → length (take n names) ≤ length names
    shorter zero names = omega arith
    shorter (suc n) [] = omega arith
    shorter (suc n) (x ∷ names) = omega (arith, shorter n names)

-- the text of one name more
pub joined_push : (names : Names) (x : Bytes) → length (joined (names ++ x ∷ [])) ≡ length (joined names) + (1 + length x)
joined_push [] x = omega (arith, length-append x [])
joined_push (y ∷ names) x =
    omega (arith, joined_push names x, length-append y (joined (names ++ x ∷ [])), length-append y (joined names))

-- the next name of a path that is walked along, also by those who look at its first names alone
pub next_name : (path rest more : Names) (x : Bytes) (k levels : ℕ) → k < levels → rest ≡ drop k path → rest ≡ x ∷ more → (slice_get (take levels path) k ≡ Some x) × (more ≡ drop (k + 1) path)
next_name path rest more x k levels within left is = at path k levels within (sym left ∙ is)
  where
    at : (path : Names) (k levels : ℕ) → k < levels → drop k path ≡ x ∷ more → (slice_get (take levels path) k ≡ Some x) × (more ≡ drop (k + 1) path)
    at path k zero within e = absurd (omega arith)
    at [] k (suc n) within e = absurd (omega (arith, ap length (sym (drop_of_length-le {A = Bytes} [] {i = k} (omega arith)) ∙ e)))
    at (y ∷ path) zero (suc n) within e = (cc, cc)
    at (y ∷ path) (suc k) (suc n) within e =
        let one : suc k + 1 ≡ suc (k + 1) = omega arith in
        let r = at path k n (omega arith) e in
        (r.0, r.1 ∙ ap (λ m. drop m (y ∷ path)) (sym one))

-- a name has at most 255 bytes
pub name_is_short : (x : Bytes) → is_name x ≡ true → length x ≤ most_name
name_is_short x h = by (is_bad_name x) (nat_lt most_name (length x)) (has_slash x) refl h
  where
    by : (bad long slash : Bool) → nat_lt most_name (length x) ≡ long → not (bad || long || slash) ≡ true → length x ≤ most_name
    by true long slash is h = cc
    by false true slash is h = cc
    by false false slash is h = grind (arith, nat_tests)

-- what the first names of a list show, once one more was read
pub record Read (names : Names) (k size : ℕ) : Type 0 where
  pub named : All (λ name. is_name name ≡ true) (take k names)
  pub text : size ≡ length (joined (take k names))
  pub few : size ≤ 256 * k

pub read_more : (names : Names) (k size : ℕ) (x : Bytes) → k < length names → x ≡ get_or names k x → is_name x ≡ true → Read names k size → Read names (k + 1) (size + (1 + length x))
read_more names k size x within is name r =
    let e : take (k + 1) names ≡ take k names ++ x ∷ [] = take_more names k x within ∙ ap (λ y. take k names ++ y ∷ []) (sym is) in
    record {
      named = subst (λ (t : Names). All (λ name. is_name name ≡ true) t) (sym e) (All-push (λ name. is_name name ≡ true) (take k names) x r.named name);
      text = let s = r.text in let z = joined_push (take k names) x in omega (arith, ap (λ t. length (joined t)) e);
      few = let f = r.few in let z = name_is_short x name in omega arith;
    }

-- once all were read
pub all_read : (names : Names) (k size : ℕ) → length names ≤ k → Read names k size → (size ≡ length (joined names)) × All (λ name. is_name name ≡ true) names
all_read names k size all r =
    let e : take k names ≡ names = take_all k names all in
    (r.text ∙ ap (λ t. length (joined t)) e, subst (λ (t : Names). All (λ name. is_name name ≡ true) t) e r.named)
