-- The entries of INODE_DIR that were read are those of the nodes put so far.
use Rattle.std.proofs.Common.{◌≡◌, ℕ, List, [], ◌∷◌, ◌++◌, refl, sym, ap, subst, ◌∙◌, append_assoc, append-nil}
use Rattle.std.specs.List.{flat_map}
use Rattle.std.specs.declared.cmp.Ordering.TheVariants.{Less}
use Rattle.std.specs.FinMap.{empty, entries}
use Rattle.std.proofs.lemmas.List.Concat.{flat_map-append}
use Rattle.nn_base.specs.Paths.{Bytes, Names, path_cmp}
use Rattle.nn_tree.specs.declared.node.Node.{Node}
use Rattle.nn_message.specs.Messages.{Inode, IsInode, DirEntry}
use Rattle.nn_image.specs.Image.{entry_of}
use Rattle.nn_image.specs.Assembly.{Owned, node_of, Level, Partial, Place, waiting, listing, with_node}
use Rattle.nn_image.proofs.LaterLemmas.{AreBefore, same_before, entries_behind}
use Rattle.nn_tree.proofs.EmptyLemmas.{no_entries}
use Rattle.nn_image.proofs.LevelsLemmas.{ArePlaces, waiting_places}
use Rattle.nn_image.proofs.ListedLemmas.{listed, others_listed, own_listed, root_listed, file_none, listing_whole}
use Rattle.nn_image.proofs.PlacedLemmas.{child_place, IsPlaced, HasRoom, Adds, Starts}
use Rattle.nn_image.proofs.PartialLemmas.{IsPartial, ready, root_before}

-- ---- a step

-- the entry of a new path is what the next entry lists, and the other directories keep theirs
pub record Lists (h g : Partial) (inode : Inode) (path : Names) (node : Node) : Type 0 where
  pub id : node.id ≡ inode.id
  pub nodes : entries g.nodes ≡ entries h.nodes ++ (path, node) ∷ []
  pub before : AreBefore path (entries h.nodes)
  pub others : (p : Names) → path_cmp p path ≡ Less → listed g.nodes g.levels p ≡ listed h.nodes h.levels p
  pub own : listed g.nodes g.levels path ≡ (listing inode h.dir_entries).children
  pub rest : g.dir_entries ≡ (listing inode h.dir_entries).rest

lists_put : (h : Partial) (inode : Inode) (partial : IsPartial h) → IsInode inode → (level : Level) (outer : List Level) (rest : List ℕ) (owned : Owned) → waiting h.levels ≡ level ∷ outer → level.children ≡ inode.id ∷ rest
    → IsPlaced (waiting h.levels) inode (child_place level rest outer inode.name) → HasRoom h.nodes (level.path ++ inode.name ∷ []) inode.kind
    → Lists h (with_node h owned (child_place level rest outer inode.name) inode) inode (level.path ++ inode.name ∷ []) (node_of owned inode)
unfolding with_node node_of
lists_put h inode partial in_range level outer rest owned left children at room =
    let node = node_of owned inode in
    let ready = ready h inode (child_place level rest outer inode.name) partial in_range at room in
    let ids = (listing inode h.dir_entries).children in
    record {
      id = refl;
      nodes = entries_behind h.nodes (level.path ++ inode.name ∷ []) ready.before node;
      before = ready.before;
      others = others_listed h.nodes h.levels level outer inode.name node rest ids left children ready.before;
      own = own_listed h.nodes h.levels level outer inode.name node rest ids left children ready.before ready.free (subst (ArePlaces h.nodes) left (waiting_places h.nodes h.levels partial.places)) (file_none inode h.dir_entries);
      rest = refl;
    }

pub lists : (table : List Bytes) (h g : Partial) (inode : Inode) → IsPartial h → IsInode inode → (step : Adds table h g inode) → Lists h g inode step.place.path (node_of step.owned inode)
lists table h g inode partial in_range step =
    let at = step.at in
    let put = child_place at.level at.rest at.outer inode.name in
    let here : IsPlaced (waiting h.levels) inode put = subst (IsPlaced (waiting h.levels) inode) at.is at in
    let room : HasRoom h.nodes put.path inode.kind = subst (λ (p : Place). HasRoom h.nodes p.path inode.kind) at.is step.room in
    let done = lists_put h inode partial in_range at.level at.outer at.rest step.owned at.left at.children here room in
    let same : Lists h (with_node h step.owned step.place inode) inode step.place.path (node_of step.owned inode) =
    subst (λ (p : Place). Lists h (with_node h step.owned p inode) inode p.path (node_of step.owned inode)) (sym at.is) done in
    subst (λ (g : Partial). Lists h g inode step.place.path (node_of step.owned inode)) (sym step.is) same

-- ---- all entries

pub record AreListed (dir_entries : List DirEntry) (h : Partial) : Type 0 where
  pub whole : flat_map (λ e. entry_of e.1.id (listed h.nodes h.levels e.0)) (entries h.nodes) ++ h.dir_entries ≡ dir_entries

pub lists_on : (dir_entries : List DirEntry) (h g : Partial) (inode : Inode) (path : Names) (node : Node) → AreListed dir_entries h → Lists h g inode path node → AreListed dir_entries g
lists_on dir_entries h g inode path node all step =
    let of = λ (h : Partial) (e : Names × Node). entry_of e.1.id (listed h.nodes h.levels e.0) in
    let own = listing inode h.dir_entries in
    record {
      whole =
          (λ i. flat_map (of g) (step.nodes i) ++ step.rest i)
          ∙ ap (λ t. t ++ own.rest) (flat_map-append (of g) (entries h.nodes) ((path, node) ∷ []))
          ∙ (λ i. (same_before path (of g) (of h) (λ e less. ap (entry_of e.1.id) (step.others e.0 less)) (entries h.nodes) step.before i ++ (append-nil (entry_of (step.id i) (step.own i)) i)) ++ own.rest)
          ∙ append_assoc (flat_map (of h) (entries h.nodes)) (entry_of inode.id own.children) own.rest
          ∙ ap (λ t. flat_map (of h) (entries h.nodes) ++ t) (listing_whole inode h.dir_entries)
          ∙ all.whole;
    }

-- the root takes its own entry
pub record ListsRoot (g : Partial) (inode : Inode) (node : Node) (dir_entries : List DirEntry) : Type 0 where
  pub nodes : entries g.nodes ≡ ([], node) ∷ []
  pub own : listed g.nodes g.levels [] ≡ (listing inode dir_entries).children
  pub rest : g.dir_entries ≡ (listing inode dir_entries).rest

pub lists_first : (table : List Bytes) (dir_entries : List DirEntry) (g : Partial) (inode : Inode) → (start : Starts table dir_entries g inode) → ListsRoot g inode (node_of start.owned inode) dir_entries
unfolding with_node node_of
lists_first table dir_entries g inode start =
    let node = node_of start.owned inode in
    let ids = (listing inode dir_entries).children in
    subst (λ (g : Partial). ListsRoot g inode node dir_entries) (sym start.is) (record {
      nodes = entries_behind empty [] (root_before []) node ∙ ap (λ es. es ++ ([], node) ∷ []) no_entries;
      own = root_listed node ids (root_before []) (file_none inode dir_entries);
      rest = refl;
    })

pub lists_root : (table : List Bytes) (dir_entries : List DirEntry) (g : Partial) (inode : Inode) → Starts table dir_entries g inode → AreListed dir_entries g
unfolding node_of
lists_root table dir_entries g inode start =
    let node = node_of start.owned inode in
    let own = listing inode dir_entries in
    let first = lists_first table dir_entries g inode start in
    record {
      whole =
          (λ i. flat_map (λ e. entry_of e.1.id (listed g.nodes g.levels e.0)) (first.nodes i) ++ first.rest i)
          ∙ ap (λ t. t ++ own.rest) (append-nil (entry_of inode.id (listed g.nodes g.levels [])))
          ∙ ap (λ ids. entry_of inode.id ids ++ own.rest) first.own
          ∙ listing_whole inode dir_entries;
    }
