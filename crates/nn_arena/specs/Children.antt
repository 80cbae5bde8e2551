-- The children of a directory, linked in the order of their names.
use Rattle.std.specs.Prelude.{◌≡◌, ◌≢◌, ℕ, suc, true, false, [], length, Option, Some, None, IfSome, List}
use Rattle.std.specs.Coded.{×_prop, Π_prop, Coded-set, coded_bool}
use Rattle.std.specs.declared.cmp.Ordering.TheVariants.{Less}
use Rattle.nn_base.specs.Paths.{Bytes, name_cmp}
use Rattle.nn_tree.specs.Links.{Link, Links}
use Rattle.nn_tree.specs.Plain.{is_later, name_at, IsLeast}
use Rattle.nn_arena.specs.declared.place.Entry.{Entry}
use Rattle.nn_arena.specs.declared.place.Place.{Place}
use Rattle.nn_arena.specs.declared.gap.Gap.{Gap}
use Rattle.nn_arena.specs.Places.{name_of, entry_at, links_of}

-- each place names its child with the least name, and its sibling with the least name above its own; so the siblings ascend, and each child is named once
pub record AreLinked (ps : List Place) : Type 0 where
  pub first : (i : ℕ) (e : Entry) → entry_at ps i ≡ Some e → IsLeast (links_of ps) i [] (length ps) e.first
  pub next : (i : ℕ) (e : Entry) → entry_at ps (suc i) ≡ Some e → IsLeast (links_of ps) e.parent (name_of e) (length ps) e.next

-- ---- what a walk over children rests on

-- all names are above the empty one
abbrev pub AreNamed : Links → Type 0
AreNamed g = (j : ℕ) (l : Link) → j ≢ 0 → g.at j ≡ Some l → name_cmp [] l.name ≡ Less

-- no two children of a directory have the same name
abbrev pub AreApart : Links → Type 0
AreApart g = (j k : ℕ) (c d : Link) → j ≢ 0 → k ≢ 0 → g.at j ≡ Some c → g.at k ≡ Some d → c.parent ≡ d.parent → c.name ≡ d.name → j ≡ k

-- ---- where a name belongs

abbrev pub bound_of : Links → Option ℕ → Bytes
bound_of g None = []
bound_of g (Some i) = name_at g i

-- what holds as a walk goes on: the name of the last child that was passed is below the name sought, and all behind it are ahead
pub record IsWalked (ps : List Place) (a : ℕ) (name : Bytes) (before after : Option ℕ) : Type 0 where
  pub passed : IfSome before (λ i. (is_later (links_of ps) a [] i ≡ true) × (name_cmp (name_at (links_of ps) i) name ≡ Less))
  pub least : IsLeast (links_of ps) a (bound_of (links_of ps) before) (length ps) after

-- where a name belongs among the children of a: behind the last one with a name below it, and before the first one of the others
pub record IsGap (ps : List Place) (a : ℕ) (name : Bytes) (gap : Gap) : Type 0 where
  pub before : IfSome gap.before (λ i. (is_later (links_of ps) a [] i ≡ true) × (name_cmp (name_at (links_of ps) i) name ≡ Less))
  pub after : IsLeast (links_of ps) a (bound_of (links_of ps) gap.before) (length ps) gap.after
  pub reached : IfSome gap.after (λ j. name_cmp (name_at (links_of ps) j) name ≢ Less)

-- ---- to be linked is one fact

least-prop : (g : Links) (a : ℕ) (bound : Bytes) (n : ℕ) (o : Option ℕ) → IsProp (IsLeast g a bound n o)
least-prop g a bound n None = Π_prop (λ k. Π_prop (λ _. Coded-set coded_bool (is_later g a bound k) false))
least-prop g a bound n (Some i) = ×_prop (Coded-set coded_bool (is_later g a bound i) true) (Π_prop (λ k. Π_prop (λ _. Π_prop (λ _. Π_prop (λ _. λ x y. absurd x)))))

pub AreLinked-prop : (ps : List Place) → IsProp (AreLinked ps)
AreLinked-prop ps x y = λ t. record {
  first = λ i e is. least-prop (links_of ps) i [] (length ps) e.first (x.first i e is) (y.first i e is) t;
  next = λ i e is. least-prop (links_of ps) e.parent (name_of e) (length ps) e.next (x.next i e is) (y.next i e is) t;
}
