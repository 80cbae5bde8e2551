-- The plain tree: its entries as links, and what its scans look for.
use Rattle.std.specs.Prelude.{◌≡◌, ◌≢◌, ◌<◌, ℕ, zero, suc, Bool, true, false, not, ◌==◌, ◌&&◌, nat_eq, nat_lt, if◌then◌else◌, List, [], ◌∷◌, ◌++◌, ◌⊎◌, length, slice_get, Option, Some, None, option_and_then, option_map, unwrap_or}
use Rattle.std.specs.Option.{option_map_or}
use Rattle.std.specs.Ordering.{is_lt}
use Rattle.std.specs.declared.cmp.Ordering.TheVariants.{Less}
use Rattle.std.specs.Cmp.Lexicographic.{pointwise}
use Rattle.nn_base.specs.Paths.{Bytes, name_cmp}
use Rattle.nn_tree.specs.declared.entry.Entry.{Entry}
use Rattle.nn_tree.specs.Nodes.{blocks_of}
use Rattle.nn_tree.specs.Links.{Link, Links}

-- the root has no name
abbrev pub name_of : Entry → Bytes
name_of e = unwrap_or e.name []

abbrev pub link_of : Entry → Option Link
link_of e = if e.live then Some (record { parent = e.parent; name = name_of e; node = e.node }) else None

abbrev pub links_of : List Entry → Links
links_of es = record { at = λ i. option_and_then link_of (slice_get es i); size = length es }

abbrev pub is_free : Entry → Bool
is_free e = not e.live

-- the old entries, and perhaps a free one behind them
abbrev pub IsMoreOf : List Entry → List Entry → Type 0
IsMoreOf es fs = (fs ≡ es) ⊎ ((d : Entry) × ((d.live ≡ false) × (fs ≡ es ++ d ∷ [])))

-- ---- room for a block: a list that takes one more than those of the entry at i

abbrev pub blocks_in : Entry → ℕ
blocks_in e = length (blocks_of e.node.kind)

abbrev pub blocks_in_at : List Entry → ℕ → ℕ
blocks_in_at es i = option_map_or blocks_in (slice_get es i) 0

abbrev pub has_block_room : List Entry → ℕ → ℕ → Bool
has_block_room es room i = nat_lt (blocks_in_at es i) room

-- ---- children

abbrev pub is_child_link : ℕ → Option Link → ℕ → Bytes → Bool
is_child_link i None parent name = false
is_child_link i (Some l) parent name = not (i == 0) && ((l.parent == parent) && pointwise nat_eq l.name name)

-- whether the entry at i is the child of parent that has a name
abbrev pub is_child : Links → ℕ → Bytes → ℕ → Bool
is_child g parent name i = is_child_link i (g.at i) parent name

abbrev pub is_later_link : ℕ → Option Link → ℕ → Bytes → Bool
is_later_link i None parent bound = false
is_later_link i (Some l) parent bound = not (i == 0) && ((l.parent == parent) && is_lt (name_cmp bound l.name))

-- whether the entry at i is a child of parent with a name above the bound
abbrev pub is_later : Links → ℕ → Bytes → ℕ → Bool
is_later g parent bound i = is_later_link i (g.at i) parent bound

abbrev pub name_at : Links → ℕ → Bytes
name_at g i = option_map_or (λ l. l.name) (g.at i) []

-- the best of the first n places: such a child with the least name, or none
abbrev pub IsLeast : Links → ℕ → Bytes → ℕ → Option ℕ → Type 0
IsLeast g parent bound n None = (k : ℕ) → k < n → is_later g parent bound k ≡ false
IsLeast g parent bound n (Some i) = (is_later g parent bound i ≡ true) × ((k : ℕ) → k < n → is_later g parent bound k ≡ true → name_cmp (name_at g k) (name_at g i) ≢ Less)

-- ---- what stands at or below a place

-- whether a climb from i, at most n times, reaches the place a
abbrev pub climbs_to : List Entry → ℕ → ℕ → ℕ → Bool
climbs_to es a zero i = i == a
climbs_to es a (suc n) i = if i == a then true else if i == 0 then false else option_map_or (λ e. climbs_to es a n e.parent) (slice_get es i) false

-- what a removal of the place a, and all below it, makes of the entry at i
abbrev pub cut_entry : List Entry → ℕ → ℕ → Entry → Entry
cut_entry es a i e = if climbs_to es a (length es) i then record e { live = false } else e

pub record IsCutOf (es fs : List Entry) (a : ℕ) : Type 0 where
  pub len : length fs ≡ length es
  pub each : (j : ℕ) → slice_get fs j ≡ option_map (cut_entry es a j) (slice_get es j)
