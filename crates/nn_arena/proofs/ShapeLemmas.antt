-- Children stay linked where each place keeps its parent, its name and its links.
use Rattle.std.proofs.Common.{◌≡◌, ℕ, suc, Bool, false, not, ◌&&◌, nat_eq, List, [], length, Option, Some, None, refl, sym, ap, subst, ◌∙◌}
use Rattle.std.specs.Prelude.{option_map}
use Rattle.std.specs.Option.{option_map_or}
use Rattle.std.specs.Ordering.{is_lt}
use Rattle.nn_base.specs.Paths.{Bytes, name_cmp}
use Rattle.nn_base.proofs.PlainLemmas.{some_is}
use Rattle.nn_tree.specs.Links.{Link}
use Rattle.nn_tree.specs.Plain.{is_later, is_later_link, name_at, IsLeast}
use Rattle.nn_arena.specs.declared.place.Entry.{Entry}
use Rattle.nn_arena.specs.declared.place.Place.{Place}
use Rattle.nn_arena.specs.Places.{name_of, entry_at, link_of, links_of}
use Rattle.nn_arena.specs.Children.{AreLinked}

-- what links an entry
pub record Shape : Type 0 where
  pub parent : ℕ
  pub name : Bytes
  pub first : Option ℕ
  pub next : Option ℕ

abbrev pub shape_of : Entry → Shape
shape_of e = record { parent = e.parent; name = name_of e; first = e.first; next = e.next }

abbrev later_shape : ℕ → Option Shape → ℕ → Bytes → Bool
later_shape k None a y = false
later_shape k (Some s) a y = not (nat_eq k 0) && (nat_eq s.parent a && is_lt (name_cmp y s.name))

later_is_shape : (k : ℕ) (o : Option Entry) (a : ℕ) (y : Bytes) → is_later_link k (option_map link_of o) a y ≡ later_shape k (option_map shape_of o) a y
later_is_shape k None a y = refl
later_is_shape k (Some e) a y = refl

name_is_shape : (o : Option Entry) → option_map_or (λ (l : Link). l.name) (option_map link_of o) [] ≡ option_map_or (λ (s : Shape). s.name) (option_map shape_of o) []
name_is_shape None = refl
name_is_shape (Some e) = refl

pub record WasShaped (ps : List Place) (j : ℕ) (e : Entry) : Type 0 where
  pub entry : Entry
  pub is : entry_at ps j ≡ Some entry
  pub shape : shape_of entry ≡ shape_of e

module _ (ps qs : List Place) (size : length qs ≡ length ps) (same : (j : ℕ) → option_map shape_of (entry_at qs j) ≡ option_map shape_of (entry_at ps j)) where
  later : (a : ℕ) (y : Bytes) (k : ℕ) → is_later (links_of qs) a y k ≡ is_later (links_of ps) a y k
  later a y k = later_is_shape k (entry_at qs k) a y ∙ ap (λ o. later_shape k o a y) (same k) ∙ sym (later_is_shape k (entry_at ps k) a y)

  named : (k : ℕ) → name_at (links_of qs) k ≡ name_at (links_of ps) k
  named k = name_is_shape (entry_at qs k) ∙ ap (λ o. option_map_or (λ (s : Shape). s.name) o []) (same k) ∙ sym (name_is_shape (entry_at ps k))

  least : (a n : ℕ) (y : Bytes) (o : Option ℕ) → IsLeast (links_of ps) a y n o → IsLeast (links_of qs) a y n o
  least a n y None l = λ k lt. later a y k ∙ l k lt
  least a n y (Some i) l = (later a y i ∙ l.0, λ k lt is less. l.1 k lt (sym (later a y k) ∙ is) ((λ t. name_cmp (sym (named k) t) (sym (named i) t)) ∙ less))

  pub was_shaped : (j : ℕ) (e : Entry) → entry_at qs j ≡ Some e → WasShaped ps j e
  was_shaped j e is = elim (entry_at ps j) as (λ o. entry_at ps j ≡ o → option_map shape_of o ≡ Some (shape_of e) → WasShaped ps j e) [
    | None ↦ λ _ h. cc
    | Some d ↦ λ there h. record { entry = d; is = there; shape = some_is _ _ h }
  ] refl (sym (same j) ∙ ap (option_map shape_of) is)

  pub linked_shaped : AreLinked ps → AreLinked qs
  linked_shaped linked = record {
    first = λ j e is.
        let w = was_shaped j e is in
        least j (length qs) [] e.first
        (subst (λ (o : Option ℕ). IsLeast (links_of ps) j [] (length qs) o) (ap (λ (s : Shape). s.first) w.shape)
        (subst (λ n. IsLeast (links_of ps) j [] n w.entry.first) (sym size) (linked.first j w.entry w.is)));
    next = λ j e is.
        let w = was_shaped (suc j) e is in
        least e.parent (length qs) (name_of e) e.next
        (subst (λ (s : Shape). IsLeast (links_of ps) s.parent s.name (length qs) s.next) w.shape
        (subst (λ n. IsLeast (links_of ps) w.entry.parent (name_of w.entry) n w.entry.next) (sym size) (linked.next j w.entry w.is)));
  }
