-- What holds of a namespace that is partly put together, at its root and after each node.
use Rattle.std.proofs.Common.{◌≡◌, ◌≢◌, ℕ, Bool, true, false, cond, List, [], ◌∷◌, ◌++◌, length, Option, Some, None, refl, sym, ap, subst, ◌∙◌, arith, is_some}
use Rattle.std.specs.declared.cmp.Ordering.TheVariants.{Less}
use Rattle.std.specs.Option.{option_map_or}
use Rattle.nn_tree.specs.Totals.{total}
use Rattle.std.proofs.lemmas.Bool.{false≢true}
use Rattle.std.specs.FinMap.{get, insert, empty, entries, get-empty}
use Rattle.std.proofs.lemmas.Option.{none-some}
use Rattle.nn_base.specs.Paths.{Bytes, Names, path_cmp, IsPath}
use Rattle.nn_tree.specs.declared.node.Kind.{Kind}
use Rattle.nn_tree.specs.declared.node.Node.{Node}
use Rattle.nn_tree.specs.Nodes.{is_dir, blocks_of, quota_of}
use Rattle.nn_tree.specs.Namespace.{Nodes, IsNamespace, is_dir_at}
use Rattle.nn_tree.specs.Limits.{IsNode, IsWithinLimits}
use Rattle.nn_tree.proofs.LimitsLemmas.{limits_insert}
use Rattle.nn_tree.proofs.SlotsLemmas.{total-empty}
use Rattle.nn_message.specs.Messages.{Inode, IsInode, DirEntry}
use Rattle.nn_image.specs.Assembly.{Owned, node_of, Level, Partial, Place, waiting, listing, opened, with_node}
use Rattle.nn_image.proofs.LaterLemmas.{AreBefore, none_before, before_more, before_later, free_behind, entries_behind}
use Rattle.nn_tree.proofs.EmptyLemmas.{no_entries}
use Rattle.nn_image.proofs.LevelsLemmas.{AreOpen, waiting_open, child_behind, child_open, directory_open, none_open, top_open, dir_stays, ArePlaces, none_places, waiting_places, first_place, more_places, places_stay}
use Rattle.nn_image.proofs.NewNodeLemmas.{each_path, each_node, at_itself, child_formed, child_path, root_formed, root_path}
use Rattle.nn_image.proofs.PlacedLemmas.{child_place, IsPlaced, HasRoom, Adds, Starts}

-- The nodes put so far are a namespace, and a path behind the newest one goes behind all others.
pub record IsPartial (h : Partial) : Type 0 where
  pub formed : IsNamespace h.nodes
  pub limits : IsWithinLimits h.nodes
  pub paths : (p : Names) → is_some (get h.nodes p) ≡ true → IsPath p
  pub quotas : (p : Names) (node : Node) → get h.nodes p ≡ Some node → (quota_of node.kind).names ≢ Some 0
  pub last : Names
  pub there : is_some (get h.nodes last) ≡ true
  pub before : (q : Names) → path_cmp last q ≡ Less → AreBefore q (entries h.nodes)
  pub way : AreOpen last h.levels
  pub places : ArePlaces h.nodes h.levels

pub node_ranges : (owned : Owned) (inode : Inode) → IsInode inode → IsNode (node_of owned inode)
unfolding node_of
node_ranges owned inode h = record { id = h.id; mode = h.attributes.mode; time = h.attributes.time; kind = h.kind }

-- ---- the next node has its place

-- what the insertion of a node asks for
pub record IsReady (h : Partial) (inode : Inode) (place : Place) (parent : Names) : Type 0 where
  pub path : place.path ≡ parent ++ inode.name ∷ []
  pub dir : is_dir_at h.nodes parent ≡ true
  pub before : AreBefore place.path (entries h.nodes)
  pub free : get h.nodes place.path ≡ None
  pub limits : (owned : Owned) → IsWithinLimits (insert h.nodes place.path (node_of owned inode))

module _ (h : Partial) (inode : Inode) (place : Place) (partial : IsPartial h) (in_range : IsInode inode) (at : IsPlaced (waiting h.levels) inode place) where
  waits : AreOpen partial.last (at.level ∷ at.outer)
  waits = subst (AreOpen partial.last) at.left (waiting_open partial.last h.levels partial.way)

  stand : ArePlaces h.nodes (at.level ∷ at.outer)
  stand = subst (ArePlaces h.nodes) at.left (waiting_places h.nodes h.levels partial.places)

  path_is : place.path ≡ at.level.path ++ inode.name ∷ []
  path_is = ap (λ (p : Place). p.path) at.is

  pub behind_last : path_cmp partial.last place.path ≡ Less
  behind_last = ap (path_cmp partial.last) path_is ∙ child_behind partial.last at.level at.outer waits inode.name at.behind

  pub ready : HasRoom h.nodes place.path inode.kind → IsReady h inode place at.level.path
  unfolding node_of
  ready room =
      let before = partial.before place.path behind_last in
      let free = free_behind h.nodes place.path before in
      record {
        path = path_is;
        dir = (first_place h.nodes at.level at.outer stand).0;
        before = before;
        free = free;
        limits = λ owned. limits_insert h.nodes place.path (node_of owned inode) partial.limits free (node_ranges owned inode in_range) room.nodes room.blocks;
      }

-- ---- after it is put there

pub some_dir : (m : Nodes) (p : Names) → is_dir_at m p ≡ true → is_some (get m p) ≡ true
some_dir m p h = by (get m p) h
  where
    by : (o : Option Node) → option_map_or (λ (node : Node). is_dir node.kind) o false ≡ true → is_some o ≡ true
    by None h = absurd (false≢true h)
    by (Some node) h = refl

-- the levels with a new directory
opened_open : (last : Names) (kind : Kind) (ids : List ℕ) (levels : List Level) → AreOpen last levels → AreOpen last (record { path = last; newest = []; children = ids } ∷ levels) → AreOpen last (opened kind last ids levels)
unfolding opened
opened_open last kind ids levels h g = by (is_dir kind)
  where
    by : (b : Bool) → AreOpen last (cond b (record { path = last; newest = []; children = ids } ∷ levels) levels)
    by true = g
    by false = h

opened_places : (m : Nodes) (path : Names) (kind : Kind) (ids : List ℕ) (levels : List Level) → (is_dir kind ≡ true → is_dir_at m path ≡ true) → ArePlaces m levels → ArePlaces m (opened kind path ids levels)
unfolding opened
opened_places m path kind ids levels dir h = by (is_dir kind) refl
  where
    by : (b : Bool) → is_dir kind ≡ b → ArePlaces m (cond b (record { path = path; newest = []; children = ids } ∷ levels) levels)
    by true is = more_places m (record { path = path; newest = []; children = ids }) levels (dir is) h
    by false is = h

pub new_dir : (m : Nodes) (path : Names) (node : Node) → is_dir node.kind ≡ true → is_dir_at (insert m path node) path ≡ true
new_dir m path node is = ap (λ o. option_map_or (λ (node : Node). is_dir node.kind) o false) (at_itself m path node) ∙ is

module _ (h : Partial) (inode : Inode) (partial : IsPartial h) (in_range : IsInode inode) (level : Level) (outer : List Level) (rest : List ℕ) (owned : Owned) where
  put_so : IsPlaced (waiting h.levels) inode (child_place level rest outer inode.name) → waiting h.levels ≡ level ∷ outer → HasRoom h.nodes (level.path ++ inode.name ∷ []) inode.kind → IsPartial (with_node h owned (child_place level rest outer inode.name) inode)
  unfolding with_node node_of
  put_so at left room =
      let q = level.path ++ inode.name ∷ [] in
      let place = child_place level rest outer inode.name in
      let node = node_of owned inode in
      let ready = ready h inode place partial in_range at room in
      let waits : AreOpen partial.last (level ∷ outer) = subst (AreOpen partial.last) left (waiting_open partial.last h.levels partial.way) in
      let stand = first_place h.nodes level outer (subst (ArePlaces h.nodes) left (waiting_places h.nodes h.levels partial.places)) in
      let ids = (listing inode h.dir_entries).children in
      let parent = some_dir h.nodes level.path stand.0 in
      record {
        formed = child_formed h.nodes level.path inode.name node ready.free stand.0 at.named partial.formed;
        limits = ready.limits owned;
        paths = each_path IsPath h.nodes q node partial.paths (child_path level.path inode.name (partial.paths level.path parent) at.named room.levels room.size);
        quotas = each_node (λ node. (quota_of node.kind).names ≢ Some 0) h.nodes q node partial.quotas in_range.some;
        last = q;
        there = ap is_some (at_itself h.nodes q node);
        before = λ r l. subst (AreBefore r) (sym (entries_behind h.nodes q ready.before node)) (before_more r q node (entries h.nodes) (before_later q r (entries h.nodes) ready.before l) l);
        way = opened_open q inode.kind ids _ (child_open partial.last level outer waits inode.name rest) (directory_open partial.last level outer waits inode.name rest ids);
        places = opened_places (insert h.nodes q node) q inode.kind ids _ (new_dir h.nodes q node)
            (more_places (insert h.nodes q node) (record { path = level.path; newest = inode.name; children = rest }) outer (dir_stays h.nodes q node level.path ready.free stand.0) (places_stay h.nodes q node ready.free outer stand.1));
      }

-- each step keeps it
pub goes_on : (table : List Bytes) (h g : Partial) (inode : Inode) → IsPartial h → IsInode inode → Adds table h g inode → IsPartial g
goes_on table h g inode partial in_range step =
    let at = step.at in
    let put = child_place at.level at.rest at.outer inode.name in
    let here : IsPlaced (waiting h.levels) inode put = subst (IsPlaced (waiting h.levels) inode) at.is at in
    let room : HasRoom h.nodes put.path inode.kind = subst (λ (p : Place). HasRoom h.nodes p.path inode.kind) at.is step.room in
    subst IsPartial (sym (step.is ∙ ap (λ p. with_node h step.owned p inode) at.is)) (put_so h inode partial in_range at.level at.outer at.rest step.owned here at.left room)

-- ---- the root

no_total : (f : Names → Node → ℕ) → total f (empty {K = Names} {X = Node} {R = path_cmp}) ≡ 0
no_total f = total-empty path_cmp f

pub root_before : (q : Names) → AreBefore q (entries (empty {K = Names} {X = Node} {R = path_cmp}))
root_before q = subst (AreBefore q) (sym no_entries) (none_before q)

pub begins : (table : List Bytes) (dir_entries : List DirEntry) (g : Partial) (inode : Inode) → IsInode inode → Starts table dir_entries g inode → IsPartial g
unfolding with_node node_of
begins table dir_entries g inode in_range start =
    let node = node_of start.owned inode in
    let none : get (empty {K = Names} {X = Node} {R = path_cmp}) [] ≡ None = get-empty path_cmp [] in
    let ids = (listing inode dir_entries).children in
    let m = insert (empty {K = Names} {X = Node} {R = path_cmp}) [] node in
    subst IsPartial (sym start.is) (record {
      formed = root_formed node (start.id, start.dir);
      limits = limits_insert empty [] node no_limits none (node_ranges start.owned inode in_range) start.room.nodes start.room.blocks;
      paths = each_path IsPath empty [] node (λ p there. absurd (no_path p there)) root_path;
      quotas = each_node (λ node. (quota_of node.kind).names ≢ Some 0) empty [] node (λ p node there. absurd (none-some node (sym (get-empty path_cmp p) ∙ there))) in_range.some;
      last = [];
      there = ap is_some (at_itself empty [] node);
      before = λ r l. subst (AreBefore r) (sym (entries_behind empty [] (root_before []) node)) (before_more r [] node (entries empty) (root_before r) l);
      way = opened_open [] inode.kind ids [] (none_open []) (top_open ids);
      places = opened_places m [] inode.kind ids [] (new_dir empty [] node) (none_places m);
    })
  where
    no_path : (p : Names) → is_some (get (empty {K = Names} {X = Node} {R = path_cmp}) p) ≡ true → ⊥
    no_path p there = let z : false ≡ true = sym (ap is_some (get-empty path_cmp p)) ∙ there in cc

    no_limits : IsWithinLimits empty
    no_limits = record {
      nodes = let e = no_total (λ _ _. 1) in omega arith;
      blocks = let e = no_total (λ _ node. length (blocks_of node.kind)) in omega arith;
      each = λ p node there. absurd (none-some node (sym (get-empty path_cmp p) ∙ there));
    }
