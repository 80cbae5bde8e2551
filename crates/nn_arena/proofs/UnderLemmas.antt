-- Prefixes of paths that share a front, and of a path that is moved.
use Rattle.std.proofs.Common.{◌≡◌, ◌≢◌, Bool, true, false, [], ◌∷◌, ◌++◌, ◌&&◌, length, take, drop, None, refl, sym, ap, ◌∙◌, arith, length-append}
use Rattle.std.specs.Cmp.Lexicographic.{pointwise, bytes_decides}
use Rattle.std.specs.Prelude.{nat_eq}
use Rattle.std.specs.FinMap.{get}
use Rattle.nn_base.specs.Paths.{Names, Bytes, is_under}
use Rattle.nn_tree.specs.Changes.{moved}
use Rattle.nn_tree.specs.Links.{Links, nodes_of, IsTree}
use Rattle.nn_tree.proofs.AbsentLemmas.{absent_below}
use Rattle.nn_tree.proofs.PrefixLemmas.{under_itself, under_push, under_split, take_front, moved_in, moved_out}
use Rattle.nn_tree.proofs.FindLemmas.{first_so, second_so}
use Rattle.nn_tree.proofs.OrderLemmas.{under_front, under_trans}

-- the same front says nothing
pub under_cancel : (p a b : Names) → is_under (p ++ a) (p ++ b) ≡ is_under a b
under_cancel [] a b = refl
under_cancel (x ∷ p) a b = ap (λ t. t && is_under (p ++ a) (p ++ b)) ((bytes_decides x x).1 refl) ∙ under_cancel p a b

-- r isn't below p: it is a prefix of what is below p where it is one of p
pub under_before : (r p b : Names) → is_under p r ≡ false → is_under r (p ++ b) ≡ is_under r p
under_before [] p b out = refl
under_before (x ∷ r) [] b out = cc
under_before (x ∷ r) (y ∷ p) b out = elim (pointwise nat_eq x y) as (λ t. pointwise nat_eq x y ≡ t → (t && is_under r (p ++ b)) ≡ (t && is_under r p)) [
  | true ↦ λ e. under_before r p b (sym (ap (λ t. t && is_under p r) ((bytes_decides y x).1 (sym ((bytes_decides x y).0 e)))) ∙ out)
  | false ↦ λ e. refl
] refl

-- the same of a path that is known to be below p
pub under_before_of : (r p k : Names) → is_under p r ≡ false → is_under p k ≡ true → is_under r k ≡ is_under r p
under_before_of r p k out inside = ap (is_under r) (under_split p k inside) ∙ under_before r p (drop (length p) k) out

-- what isn't below p is no prefix of what isn't, if it is below p itself
out_of : (p r k : Names) → is_under p r ≡ true → is_under p k ≡ false → is_under r k ≡ false
out_of p r k inside out = elim (is_under r k) as (λ t. is_under r k ≡ t → t ≡ false) [
  | true ↦ λ e. sym (under_trans p r k inside e) ∙ out
  | false ↦ λ e. refl
] refl

-- ---- where s moves to d

-- r moves along: it is above the same paths as before
pub under_moved_in : (s d r k : Names) → is_under s r ≡ true → is_under d k ≡ false → is_under (moved s d r) (moved s d k) ≡ is_under r k
under_moved_in s d r k inside new = by (is_under s k) refl
  where
    by : (t : Bool) → is_under s k ≡ t → is_under (moved s d r) (moved s d k) ≡ is_under r k
    by true e =
        (λ i. is_under (moved_in s d r inside i) (moved_in s d k e i))
        ∙ under_cancel d (drop (length s) r) (drop (length s) k) ∙ sym (under_cancel s (drop (length s) r) (drop (length s) k))
        ∙ sym (λ i. is_under (under_split s r inside i) (under_split s k e i))
    by false e =
        (λ i. is_under (moved_in s d r inside i) (moved_out s d k e i))
        ∙ out_of d (d ++ drop (length s) r) k (under_front d (drop (length s) r)) new
        ∙ sym (out_of s r k inside e)

-- ---- a path that the map lacks has none below it

pub absent_under : (g : Links) (d q : Names) → IsTree g → get (nodes_of g) d ≡ None → is_under d q ≡ true → get (nodes_of g) q ≡ None
absent_under g d q t none inside =
    let whole = under_split d q inside in
    absent_below g (length d) q t (let l = ap length whole ∙ length-append d (drop (length d) q) in omega arith)
    (ap (λ q. get (nodes_of g) (take (length d) q)) whole ∙ ap (get (nodes_of g)) (take_front d (drop (length d) q)) ∙ none)

-- ---- prefixes of one path

-- two paths that are prefixes of each other are one
pub both_under : (p q : Names) → is_under p q ≡ true → is_under q p ≡ true → p ≡ q
both_under [] [] a b = refl
both_under [] (y ∷ q) a b = cc
both_under (x ∷ p) [] a b = cc
both_under (x ∷ p) (y ∷ q) a b = λ i. (bytes_decides x y).0 (first_so _ _ a) i ∷ both_under p q (second_so _ _ a) (second_so _ _ b) i

-- two prefixes of a path: one that isn't below the other is above it
pub under_other : (a b q : Names) → is_under a q ≡ true → is_under b q ≡ true → is_under b a ≡ false → is_under a b ≡ true
under_other a b q above over out = sym (under_before_of a b q out over) ∙ above

-- of the prefixes of q, those from r on are those from its directory on, but for that
pub from_parent : (p r front q : Names) (x : Bytes) → r ≡ front ++ x ∷ [] → is_under p q ≡ true → is_under r q ≡ true → p ≢ front → is_under front p ≡ is_under r p
from_parent p r front q x is above over other = by (is_under r p) refl
  where
    by : (b : Bool) → is_under r p ≡ b → is_under front p ≡ b
    by true e = under_trans front r p (ap (is_under front) is ∙ under_front front (x ∷ [])) e
    by false e = elim (is_under front p) as (λ b. is_under front p ≡ b → b ≡ false) [
      | false ↦ λ _. refl
      | true ↦ λ below.
          let up = under_other p r q above over e in
          let apart : p ≢ front ++ x ∷ [] = λ same. (let z : true ≡ false = sym (under_itself p) ∙ ap (λ t. is_under t p) (same ∙ sym is) ∙ e in cc) in
          absurd (other (both_under p front (sym (under_push p front x apart) ∙ ap (is_under p) (sym is) ∙ up) below))
    ] refl
