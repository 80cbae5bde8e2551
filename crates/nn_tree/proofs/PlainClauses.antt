-- What the methods of the plain tree promise, of its entries alone.
use Rattle.std.proofs.Common.{◌≡◌, ◌≢◌, ℕ, zero, suc, ◌+◌, ◌-◌, ◌<◌, Bool, true, false, cond, List, [], ◌∷◌, ◌++◌, inl, inr, length, take, drop, Option, Some, None, refl, sym, ap, subst, ◌∙◌, arith, is_some, unwrap_or, length-append}
use Rattle.std.specs.Prelude.{option_and_then, option_map}
use Rattle.std.specs.Option.{option_map_or}
use Rattle.std.specs.FinMap.{get, insert, empty}
use Rattle.std.proofs.Math.ListN.{set}
use Rattle.nn_base.specs.Paths.{Names, Bytes, is_under, is_name}
use Rattle.nn_tree.specs.declared.node.Node.{Node}
use Rattle.nn_tree.specs.declared.spot.Spot.{Spot}
use Rattle.nn_tree.specs.Nodes.{is_dir}
use Rattle.nn_tree.specs.Namespace.{IsRoot, is_dir_at}
use Rattle.nn_tree.specs.Links.{Link, Links, path_at, nodes_of, IsTree, has_place, place_of}
use Rattle.nn_tree.proofs.LinksLemmas.{link_there, path_of_place}
use Rattle.std.specs.Prelude.{slice_get, IfSome}
use Rattle.nn_tree.specs.declared.entry.Entry.{Entry}
use Rattle.nn_tree.specs.Nodes.{blocks_of}
use Rattle.nn_tree.specs.Namespace.{root_node}
use Rattle.nn_tree.specs.Limits.{IsWithinLimits}
use Rattle.nn_tree.specs.Spots.{Removes, IsNextChild}
use Rattle.nn_tree.specs.Plain.{name_of, link_of, links_of, blocks_in, blocks_in_at, climbs_to, IsCutOf, IsMoreOf, IsLeast}
use Rattle.nn_tree.specs.declared.node.Block.{Block}
use Rattle.nn_tree.specs.declared.node.Kind.{Kind}
use Rattle.nn_tree.specs.declared.node.Kind.TheVariants.{File, Dir}
use Rattle.nn_tree.specs.declared.node.Change.{Change}
use Rattle.nn_tree.specs.declared.node.Change.TheVariants.{Time, Mode, Owner, Quota as NewQuota, Replication, Closed}
use Rattle.nn_tree.specs.Changes.{cut, changed, with_quota, with_replication, closed, add_block, with_block}
use Rattle.nn_tree.proofs.FillLemmas.{Filled, filled, tree_new, nodes_new}
use Rattle.nn_tree.proofs.EditLemmas.{Edited, edited}
use Rattle.nn_tree.proofs.MoreLemmas.{more_path, nodes_more, tree_more}
use Rattle.nn_tree.proofs.MoveLemmas.{Moved, relinked}
use Rattle.nn_tree.proofs.CutLemmas.{Cuts, nodes_cut, tree_cut, removes_cut}
use Rattle.nn_tree.proofs.LimitsLemmas.{limits_rekeyed, limits_empty}
use Rattle.nn_tree.proofs.CutLoop.{written_back}
use Rattle.nn_tree.proofs.PlainLemmas.{held, entry_at, live_entry, spot_entry, has_entry, sets_entry, has_within}
use Rattle.nn_tree.proofs.PlainClimb.{climbs}
use Rattle.nn_tree.proofs.FindLemmas.{Here}
use Rattle.nn_tree.proofs.LeastLemmas.{is_next}
use Rattle.nn_tree.proofs.SoundLemmas.{sibling_of}

-- ---- the empty tree

pub record IsNew (es : List Entry) : Type 0 where
  pub tree : IsTree (links_of es)
  pub nodes : nodes_of (links_of es) ≡ insert empty [] root_node
  pub limits : IsWithinLimits (nodes_of (links_of es))

pub new_entries : (es xs : List Entry) (e : Entry) → xs ≡ [] → es ≡ xs ++ e ∷ [] → e.live ≡ true → e.name ≡ None → e.node ≡ root_node → IsNew es
new_entries es xs e none pushed live unnamed node =
    let is : es ≡ e ∷ [] = pushed ∙ ap (λ (xs : List Entry). xs ++ e ∷ []) none in
    let here : (links_of es).at 0 ≡ Some (held e) = ap (λ (es : List Entry). (links_of es).at 0) is ∙ live_entry (e ∷ []) 0 e refl live in
    let others = λ (j : ℕ). ap (λ (es : List Entry). (links_of es).at (suc j)) is in
    let nodes = nodes_new (links_of es) (held e) (ap length is) here others ∙ ap (insert empty []) node in
    record {
      tree = tree_new (links_of es) (held e) (ap length is) here others (subst IsRoot (sym node) (refl, refl)) (ap (λ o. unwrap_or o []) unnamed);
      nodes = nodes;
      limits = subst IsWithinLimits (sym nodes) limits_empty;
    }

-- ---- a free place is filled

pub filled_entry : (es xs : List Entry) (i : ℕ) (e : Entry) → xs ≡ es → IsTree (links_of es) → i < length xs → IfSome (slice_get xs i) (λ e. e.live ≡ false) → e.live ≡ true → has_place (links_of es) e.parent ≡ true
    → is_name (name_of e) ≡ true → is_dir_at (nodes_of (links_of es)) (place_of (links_of es) e.parent) ≡ true → get (nodes_of (links_of es)) (place_of (links_of es) e.parent ++ name_of e ∷ []) ≡ None
    → Filled (links_of es) (links_of (set es i e)) i (held e)
filled_entry es xs i e same t within free live has name dir new =
    let inside : i < length es = subst (λ (xs : List Entry). i < length xs) same within in
    let none : (links_of es).at i ≡ None = is_none (slice_get es i) (subst (λ (xs : List Entry). IfSome (slice_get xs i) (λ e. e.live ≡ false)) same free) in
    filled (links_of es) (links_of (set es i e)) i (held e) t (sets_entry es i e inside live) none has name dir new
  where
    is_none : (o : Option Entry) → IfSome o (λ e. e.live ≡ false) → option_and_then link_of o ≡ None
    is_none None h = refl
    is_none (Some e) h = ap (λ b. cond b (Some (held e)) None) h

-- ---- one node is changed

pub edited_entry : (es : List Entry) (i : ℕ) (o e : Entry) (f : Node → Node) → IsTree (links_of es) → has_place (links_of es) i ≡ true → slice_get es i ≡ Some o → e.live ≡ o.live → e.parent ≡ o.parent → e.name ≡ o.name → e.node ≡ f o.node
    → is_dir (f o.node).kind ≡ is_dir o.node.kind → (f o.node).id ≡ o.node.id → Edited (links_of es) (links_of (set es i e)) i f
edited_entry es i o e f t has read live parent name node kind id =
    edited (links_of es) (links_of (set es i e)) i (held o) (held e) f t
    (sets_entry es i e (has_within es i t has) (live ∙ has_entry es i o has read)) (spot_entry es i o has read) has parent (ap (λ o. unwrap_or o []) name) node kind id

-- a change of the attributes leaves the sort of the node, its id and its blocks
dir_changed : (change : Change) (n : Node) → is_dir (changed change n).kind ≡ is_dir n.kind
dir_changed (Time time) n = refl
dir_changed (Mode mode) n = refl
dir_changed (Owner owner group) n = refl
dir_changed (NewQuota quota) n = by n.kind
  where
    by : (k : Kind) → is_dir (with_quota quota k) ≡ is_dir k
    by (File r o bs) = refl
    by (Dir q) = refl
dir_changed (Replication r) n = by n.kind
  where
    by : (k : Kind) → is_dir (with_replication r k) ≡ is_dir k
    by (File old o bs) = refl
    by (Dir q) = refl
dir_changed Closed n = by n.kind
  where
    by : (k : Kind) → is_dir (closed k) ≡ is_dir k
    by (File r o bs) = refl
    by (Dir q) = refl

id_changed : (change : Change) (n : Node) → (changed change n).id ≡ n.id
id_changed (Time time) n = refl
id_changed (Mode mode) n = refl
id_changed (Owner owner group) n = refl
id_changed (NewQuota quota) n = refl
id_changed (Replication r) n = refl
id_changed Closed n = refl

pub blocks_changed : (change : Change) (n : Node) → length (blocks_of (changed change n).kind) ≡ length (blocks_of n.kind)
blocks_changed (Time time) n = refl
blocks_changed (Mode mode) n = refl
blocks_changed (Owner owner group) n = refl
blocks_changed (NewQuota quota) n = by n.kind
  where
    by : (k : Kind) → length (blocks_of (with_quota quota k)) ≡ length (blocks_of k)
    by (File r o bs) = refl
    by (Dir q) = refl
blocks_changed (Replication r) n = by n.kind
  where
    by : (k : Kind) → length (blocks_of (with_replication r k)) ≡ length (blocks_of k)
    by (File old o bs) = refl
    by (Dir q) = refl
blocks_changed Closed n = by n.kind
  where
    by : (k : Kind) → length (blocks_of (closed k)) ≡ length (blocks_of k)
    by (File r o bs) = refl
    by (Dir q) = refl

pub changed_entry : (es : List Entry) (i : ℕ) (o : Entry) (change : Change) (node : Node) → IsTree (links_of es) → has_place (links_of es) i ≡ true → slice_get es i ≡ Some o → node ≡ changed change o.node
    → Edited (links_of es) (links_of (set es i (record o { node = node }))) i (changed change)
changed_entry es i o change node t has read is =
    edited_entry es i o (record o { node = node }) (changed change) t has read refl refl refl is (dir_changed change o.node) (id_changed change o.node)

dir_block : (block : Block) (k : Kind) → is_dir (add_block block k) ≡ is_dir k
dir_block block (File r o bs) = refl
dir_block block (Dir q) = refl

pub block_entry : (es : List Entry) (i : ℕ) (o : Entry) (block : Block) (kind : Kind) → IsTree (links_of es) → has_place (links_of es) i ≡ true → slice_get es i ≡ Some o → kind ≡ add_block block o.node.kind
    → Edited (links_of es) (links_of (set es i (record o { node = record o.node { kind = kind } }))) i (with_block block)
block_entry es i o block kind t has read is =
    edited_entry es i o (record o { node = record o.node { kind = kind } }) (with_block block) t has read refl refl refl
    (ap (λ (k : Kind). let n : Node = record o.node { kind = k } in n) is) (dir_block block o.node.kind) refl

-- ---- an entry is linked elsewhere

pub moved_entry : (es : List Entry) (i : ℕ) (o e : Entry) → IsTree (links_of es) → has_place (links_of es) i ≡ true → slice_get es i ≡ Some o → place_of (links_of es) i ≢ [] → e.live ≡ o.live → e.node ≡ o.node → has_place (links_of es) e.parent ≡ true
    → is_name (name_of e) ≡ true → is_dir_at (nodes_of (links_of es)) (place_of (links_of es) e.parent) ≡ true → is_under (place_of (links_of es) i) (place_of (links_of es) e.parent) ≡ false
    → get (nodes_of (links_of es)) (place_of (links_of es) e.parent ++ name_of e ∷ []) ≡ None → Moved (links_of es) (links_of (set es i e)) i (held e)
moved_entry es i o e t has read below_root live node to name dir outside new =
    relinked (links_of es) (links_of (set es i e)) i (held o) (held e) t
    (sets_entry es i e (has_within es i t has) (live ∙ has_entry es i o has read)) (spot_entry es i o has read) has below_root node to name dir outside new

pub limits_moved : (g h : Links) (i : ℕ) (l : Link) → IsTree g → Moved g h i l → IsWithinLimits (nodes_of g) → IsWithinLimits (nodes_of h)
limits_moved g h i l t m limits = limits_rekeyed g h _ t m.tree m.slots limits

-- ---- entries are cut

pub record Removed (es fs : List Entry) (a : ℕ) : Type 0 where
  pub nodes : nodes_of (links_of fs) ≡ cut (place_of (links_of es) a) (nodes_of (links_of es))
  pub tree : IsTree (links_of fs)
  pub removes : Removes (place_of (links_of es) a) (λ (s : Spot). has_place (links_of es) s.index) (λ s. has_place (links_of fs) s.index) (λ s. place_of (links_of es) s.index) (λ s. place_of (links_of fs) s.index)
  pub each : IsCutOf es fs a

cuts : (es fs : List Entry) (a : ℕ) (p : Names) → IsTree (links_of es) → path_at (links_of es) a ≡ Some p → IsCutOf es fs a → Cuts (links_of es) (links_of fs) p (climbs_to es a (length es))
unfolding path_at
cuts es fs a p t path c = record {
  size = c.len;
  each = λ j. ap (option_and_then link_of) (c.each j) ∙ by (climbs_to es a (length es) j) (slice_get es j);
  told = λ j r is. climbs es a p t path (length es) j r is;
}
  where
    by : (b : Bool) (o : Option Entry) → option_and_then link_of (option_map {T = Entry} {U = Entry} (λ e. cond b (record e { live = false }) e) o) ≡ cond b None (option_and_then link_of o)
    by true None = refl
    by true (Some e) = refl
    by false None = refl
    by false (Some e) = refl

pub removed : (n : ℕ) (es xs ys : List Entry) (a : ℕ) → ys ≡ es → n ≡ length es → IsTree (links_of es) → has_place (links_of es) a ≡ true → place_of (links_of es) a ≢ [] → IsCutOf ys xs a → Removed es (take n (xs ++ drop (length xs) es)) a
removed n es xs ys a same len t has below_root c =
    let is : IsCutOf es xs a = subst (λ (ys : List Entry). IsCutOf ys xs a) same c in
    let back : take n (xs ++ drop (length xs) es) ≡ xs = written_back n xs es len is.len in
    let k = cuts es xs a _ t (path_of_place (links_of es) a has) is in
    subst (λ (fs : List Entry). Removed es fs a) (sym back) (record {
      nodes = nodes_cut (links_of es) (links_of xs) _ _ t k below_root;
      tree = tree_cut (links_of es) (links_of xs) _ _ t k below_root;
      removes = removes_cut (links_of es) (links_of xs) _ _ t k below_root;
      each = is;
    })

-- ---- perhaps one free entry more

pub record More (es fs : List Entry) : Type 0 where
  pub nodes : nodes_of (links_of fs) ≡ nodes_of (links_of es)
  pub tree : IsTree (links_of fs)
  pub path : path_at (links_of fs) ≡ path_at (links_of es)
  pub blocks : (i : ℕ) → i < length es → blocks_in_at fs i ≡ blocks_in_at es i

slice_more : {A : Type 0} (xs : List A) (x : A) (i : ℕ) → i < length xs → slice_get (xs ++ x ∷ []) i ≡ slice_get xs i
slice_more [] x i lt = absurd (omega arith)
slice_more (y ∷ xs) x zero lt = refl
slice_more (y ∷ xs) x (suc i) lt = slice_more xs x i (omega arith)

at_more : (es : List Entry) (d : Entry) → d.live ≡ false → (j : ℕ) → (links_of (es ++ d ∷ [])).at j ≡ (links_of es).at j
at_more [] d free zero = ap (λ b. cond b (Some (held d)) None) free
at_more [] d free (suc j) = refl
at_more (e ∷ es) d free zero = refl
at_more (e ∷ es) d free (suc j) = at_more es d free j

pub more_of : (es fs : List Entry) → IsTree (links_of es) → IsMoreOf es fs → More es fs
more_of es fs t (inl is) = subst (More es) (sym is) (record { nodes = refl; tree = t; path = refl; blocks = λ i lt. refl })
more_of es fs t (inr m) =
    let size : length (es ++ m.0 ∷ []) ≡ length es + 1 = length-append es (m.0 ∷ []) in
    let same = at_more es m.0 m.1.0 in
    subst (More es) (sym m.1.1) (record {
      nodes = nodes_more (links_of es) (links_of (es ++ m.0 ∷ [])) t size same;
      tree = tree_more (links_of es) (links_of (es ++ m.0 ∷ [])) t size same;
      path = more_path (links_of es) (links_of (es ++ m.0 ∷ [])) t size same;
      blocks = λ i lt. ap (λ o. option_map_or blocks_in o 0) (slice_more es m.0 i lt);
    })

-- ---- the place that a walk has reached

pub walked_entry : (es : List Entry) (a k : ℕ) (e : Entry) (path : Names) → Here (links_of es) path k a → slice_get es a ≡ Some e → (links_of es).at a ≡ Some (held e)
walked_entry es a k e path here read = spot_entry es a e (ap is_some here.at) read

pub walked_within : (es : List Entry) (a k : ℕ) (path : Names) → IsTree (links_of es) → Here (links_of es) path k a → a < length es
walked_within es a k path t here = has_within es a t (ap is_some here.at)

-- ---- the next sibling

pub sibling_found : (es xs : List Entry) (i : ℕ) (o : Entry) (bound : Bytes) (best : Option ℕ) → xs ≡ es → IsTree (links_of es) → has_place (links_of es) i ≡ true → 0 < i → slice_get es i ≡ Some o → bound ≡ name_of o
    → IsLeast (links_of xs) o.parent bound (length xs) best → (p : Names) (name : Bytes) → place_of (links_of es) i ≡ p ++ name ∷ []
    → IsNextChild (option_map (λ i. record { index = i }) best) (λ (s : Spot). has_place (links_of es) s.index) (λ s. place_of (links_of es) s.index) (nodes_of (links_of es)) p name
sibling_found es xs i o bound best same t has below_root read named least p name at =
    let j : i ≡ suc (i - 1) = omega arith in
    let s = sibling_of (links_of es) i (i - 1) (held o) t j (spot_entry es i o has read) p name at in
    let here = subst (λ (xs : List Entry). IsLeast (links_of xs) o.parent bound (length xs) best) same least in
    is_next (links_of es) o.parent p name best t s.0 (subst (λ (b : Bytes). IsLeast (links_of es) o.parent b (length es) best) (named ∙ s.1) here)

-- ---- a spot stands elsewhere than the place that was free

pub spot_apart : (es xs : List Entry) (i j : ℕ) → xs ≡ es → IfSome (slice_get xs i) (λ e. e.live ≡ false) → i < length xs → has_place (links_of es) j ≡ true → j ≢ i
spot_apart es xs i j same free within has is =
    let l = link_there (links_of es) j has in
    let x = entry_at es j l.0 l.1 in
    let at : slice_get xs i ≡ Some x.entry = ap (λ (xs : List Entry). slice_get xs i) same ∙ ap (slice_get es) (sym is) ∙ x.is in
    let dead : x.entry.live ≡ false = subst (λ (o : Option Entry). IfSome o (λ e. e.live ≡ false)) at free in
    let live = x.live in cc
