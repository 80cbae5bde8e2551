-- The directories above a path, and whether their quotas have room.
use Rattle.std.specs.Prelude.{ℕ, ◌+◌, ◌-◌, Bool, true, not, ◌&&◌, ◌||◌, nat_eq, if◌then◌else◌, List, [], ◌∷◌, ◌++◌, take, length}
use Rattle.std.specs.Cmp.Lexicographic.{pointwise}
use Rattle.std.specs.List.{list_all}
use Rattle.std.specs.Option.{option_map_or}
use Rattle.std.specs.FinMap.{get}
use Rattle.nn_base.specs.Paths.{Names, is_under}
use Rattle.nn_quota.specs.declared.quota.Usage.{Usage}
use Rattle.nn_quota.specs.Quotas.{is_fit}
use Rattle.nn_tree.specs.Nodes.{quota_of}
use Rattle.nn_tree.specs.Namespace.{Nodes, usage_of}

-- the directory that a path other than the root stands in
abbrev pub parent_of : Names → Names
parent_of p = take (length p - 1) p

-- the proper prefixes of front ++ rest, from front on
abbrev pub prefixes_from : Names → Names → List Names
prefixes_from front [] = []
prefixes_from front (name ∷ rest) = front ∷ prefixes_from (front ++ name ∷ []) rest

-- the proper prefixes of a path, from the root on
abbrev pub prefixes : Names → List Names
prefixes p = prefixes_from [] p

-- whether q is a proper prefix of p
abbrev pub is_above : Names → Names → Bool
is_above q p = is_under q p && not (is_under p q)

-- how many names two paths have in common, from the root on
abbrev pub shared : Names → Names → ℕ
shared [] q = 0
shared (x ∷ p) [] = 0
shared (x ∷ p) (y ∷ q) = if pointwise nat_eq x y then 1 + shared p q else 0

-- whether the directory q may take what is added
abbrev pub has_room_at : Nodes → Usage → Names → Bool
has_room_at m more q = option_map_or (λ node. is_fit (usage_of m q) more (quota_of node.kind)) (get m q) true

-- whether each directory above p may, but for those that are exempt
abbrev pub has_room_but : Nodes → (Names → Bool) → Usage → Names → Bool
has_room_but m exempt more p = list_all (λ q. exempt q || has_room_at m more q) (prefixes p)

abbrev pub has_room : Nodes → Usage → Names → Bool
has_room m more p = list_all (has_room_at m more) (prefixes p)

-- what a new node adds, and what a file adds that takes so many bytes more
abbrev pub one_name : Usage
one_name = record { names = 1; space = 0 }

abbrev pub bytes_more : ℕ → Usage
bytes_more space = record { names = 0; space = space }
