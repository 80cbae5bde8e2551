-- The entries of a namespace's directories, as its nodes take them one after the other, and the room that its nodes leave.
use Rattle.std.proofs.Common.{◌≡◌, ℕ, ◌+◌, ◌≤◌, Bool, true, false, ◌&&◌, ◌==◌, List, [], ◌∷◌, ◌++◌, length, map, Some, refl, sym, ap, ◌∙◌, arith, is_some, nat_eq}
use Rattle.std.specs.Prelude.{nat_lt, slice_get, sum_by}
use Rattle.std.specs.Option.{option_map_or}
use Rattle.std.specs.List.{flat_map, AllByRecursion}
use Rattle.std.specs.FinMap.{get, entries}
use Rattle.std.proofs.lemmas.Bool.{and_from, eq-eqb, eqb-true, lt-ltb, false≢true}
use Rattle.std.proofs.lemmas.List.Sums.{sum_by-append, sum_by-cons}
use Rattle.nn_base.specs.Paths.{Names, IsPath}
use Rattle.nn_tree.specs.declared.node.Node.{Node}
use Rattle.nn_tree.specs.Nodes.{is_dir, blocks_of}
use Rattle.nn_tree.specs.Namespace.{Nodes, IsNamespace}
use Rattle.nn_tree.specs.Limits.{IsWithinLimits}
use Rattle.nn_message.specs.Messages.{Inode, DirEntry}
use Rattle.nn_image.specs.Image.{children, child_ids, entry_of}
use Rattle.nn_image.specs.Assembly.{is_entry_of, listing}
use Rattle.nn_image.proofs.ChildLemmas.{child_at, child_name}
use Rattle.nn_image.proofs.ListedLemmas.{taken_if}
use Rattle.nn_image.proofs.PlacedLemmas.{HasRoom}

-- ---- the entry of a node

abbrev pub entry_at : Nodes → Names × Node → List DirEntry
entry_at m e = entry_of e.1.id (child_ids m e.0)

not_its : (inode : Inode) (parent : ℕ) (ids : List ℕ) → nat_eq inode.id parent ≡ false → is_entry_of inode (record { parent = parent; children = ids }) ≡ false
unfolding is_entry_of
not_its inode parent ids other = by (parent == inode.id) refl (is_dir inode.kind)
  where
    by : (b : Bool) → (parent == inode.id) ≡ b → (dir : Bool) → ((dir && (parent == inode.id)) && nat_lt 0 (length ids)) ≡ false
    by true is dir = absurd (false≢true (sym other ∙ eq-eqb inode.id parent (sym (eqb-true parent inode.id is))))
    by false is true = ap (λ b. b && nat_lt 0 (length ids)) is
    by false is false = refl

-- the entries of other nodes are left
none_taken : (m : Nodes) (inode : Inode) (es : List (Names × Node)) → AllByRecursion (λ id. nat_eq inode.id id ≡ false) (map (λ (e : Names × Node). e.1.id) es) → listing inode (flat_map (entry_at m) es) ≡ record { children = []; rest = flat_map (entry_at m) es }
unfolding listing entry_of
none_taken m inode [] apart = refl
none_taken m inode (e ∷ es) apart = by (child_ids m e.0) (none_taken m inode es apart.1)
  where
    by : (ids : List ℕ) → listing inode (flat_map (entry_at m) es) ≡ record { children = []; rest = flat_map (entry_at m) es } → listing inode (entry_of e.1.id ids ++ flat_map (entry_at m) es) ≡ record { children = []; rest = entry_of e.1.id ids ++ flat_map (entry_at m) es }
    by [] later = later
    by (child ∷ rest) later = ap (λ b. taken_if b (record { parent = e.1.id; children = child ∷ rest }) (flat_map (entry_at m) es)) (not_its inode e.1.id (child ∷ rest) apart.0)

-- a node takes its own
pub own_taken : (m : Nodes) (inode : Inode) (ids : List ℕ) (es : List (Names × Node)) → ((child : ℕ) (rest : List ℕ) → ids ≡ child ∷ rest → is_dir inode.kind ≡ true) → AllByRecursion (λ id. nat_eq inode.id id ≡ false) (map (λ (e : Names × Node). e.1.id) es)
    → listing inode (entry_of inode.id ids ++ flat_map (entry_at m) es) ≡ record { children = ids; rest = flat_map (entry_at m) es }
unfolding listing entry_of is_entry_of
own_taken m inode [] es dir apart = none_taken m inode es apart
own_taken m inode (child ∷ rest) es dir apart =
    ap (λ b. taken_if b (record { parent = inode.id; children = child ∷ rest }) (flat_map (entry_at m) es))
    (and_from _ _ (and_from _ _ (dir child rest refl) (eq-eqb inode.id inode.id refl)) (lt-ltb 0 (length (child ∷ rest)) (omega arith)))

-- what has children is a directory
pub has_children : (m : Nodes) → IsNamespace m → (q : Names) (node : Node) → get m q ≡ Some node → (child : ℕ) (rest : List ℕ) → child_ids m q ≡ child ∷ rest → is_dir node.kind ≡ true
unfolding child_ids
has_children m formed q node there child rest some = by (children m q) refl some
  where
    dir : (x : Names × Node) → slice_get (children m q) 0 ≡ Some x → is_dir node.kind ≡ true
    dir x at =
        let is = child_at m q 0 x at in
        let name = child_name q x.0 is.0 in
        sym (ap (λ o. option_map_or (λ (node : Node). is_dir node.kind) o false) there) ∙ formed.parents q name.0 (ap (λ q. is_some (get m q)) (sym name.1) ∙ ap is_some is.1)

    by : (xs : List (Names × Node)) → children m q ≡ xs → map (λ (e : Names × Node). e.1.id) xs ≡ child ∷ rest → is_dir node.kind ≡ true
    by [] is some = let z : ◌≡◌ {A = List ℕ} [] (child ∷ rest) = some in cc
    by (x ∷ xs) is some = dir x (ap (λ xs. slice_get xs 0) is)

-- ---- room

parts : (f : Names × Node → ℕ) (es : List (Names × Node)) (e : Names × Node) (rest all : List (Names × Node)) → all ≡ es ++ e ∷ rest → sum_by f es + f e ≤ sum_by f all
parts f es e rest all is = let a = ap (sum_by f) is in let b = sum_by-append f es (e ∷ rest) in let c = sum_by-cons f e rest in omega (arith, a, b, c)

pub room_left : (m n : Nodes) (es : List (Names × Node)) (q : Names) (node : Node) (rest : List (Names × Node)) → IsWithinLimits m → entries m ≡ es ++ (q, node) ∷ rest → entries n ≡ es → IsPath q → HasRoom n q node.kind
room_left m n es q node rest limits whole part path =
    let nodes = parts (λ (e : Names × Node). 1) es (q, node) rest (entries m) whole in
    let blocks = parts (λ (e : Names × Node). length (blocks_of e.1.kind)) es (q, node) rest (entries m) whole in
    let a = ap (sum_by (λ (e : Names × Node). 1)) part in
    let b = ap (sum_by (λ (e : Names × Node). length (blocks_of e.1.kind))) part in
    let most = limits.nodes in
    let few = limits.blocks in
    record { levels = path.levels; size = path.size; nodes = omega (arith, nodes, a, most); blocks = omega (arith, blocks, b, few) }
