-- The nodes of a namespace are put together one after the other from the content of its image.
use Rattle.std.proofs.Common.{◌≡◌, inl, inr, ℕ, ◌≤◌, true, false, List, [], ◌∷◌, ◌++◌, take, length, map, Some, refl, sym, ap, subst, ◌∙◌, append_assoc, is_some, nat_eq}
use Rattle.std.specs.List.{flat_map, IsDistinct, AllByRecursion}
use Rattle.std.specs.Str.{bytes_eq}
use Rattle.std.specs.Prelude.{option_and_then}
use Rattle.std.specs.FinMap.{get, empty, entries, get-empty}
use Rattle.std.proofs.lemmas.Option.{none-some, same_Some}
use Rattle.nn_tree.specs.Nodes.{is_dir}
use Rattle.nn_base.specs.Paths.{Bytes, Names, path_cmp}
use Rattle.nn_base.proofs.PlainLemmas.{some_of}
use Rattle.nn_strtab.specs.Numbers.{first_uses}
use Rattle.nn_tree.specs.declared.node.Node.{Node}
use Rattle.nn_tree.specs.Namespace.{Namespace, Nodes}
use Rattle.nn_tree.specs.Spots.{last_name}
use Rattle.nn_message.specs.Messages.{Inode, IsInode, DirEntry}
use Rattle.nn_image.specs.Image.{labels, string_table, attributes_of, inode_of, child_ids}
use Rattle.nn_tree.specs.Imaged.{IsImaged}
use Rattle.nn_image.specs.Assembly.{Owned, node_of, Partial, nothing_put, Place, Listing, waiting, use_names, placed, listing, with_node, add_inode, add_inodes, add_root}
use Rattle.nn_image.proofs.LaterLemmas.{comes_before}
use Rattle.nn_image.proofs.FrontLemmas.{next_there, one_of, distinct_behind}
use Rattle.nn_image.proofs.ListedLemmas.{listed}
use Rattle.nn_image.proofs.PlacedLemmas.{child_place, top_place, IsPlaced, placed_back, HasRoom, Adds, adds_back, Starts, starts_back}
use Rattle.nn_image.proofs.EntriesLemmas.{Lists, lists, ListsRoot, lists_first}
use Rattle.nn_tree.proofs.EmptyLemmas.{no_entries}
use Rattle.nn_image.proofs.NewNodeLemmas.{root_path}
use Rattle.nn_image.proofs.PartialLemmas.{root_before}
use Rattle.nn_image.proofs.OwnedLemmas.{none_read, owns_back}
use Rattle.nn_image.proofs.DoneLemmas.{IsDone, done_root, done_on}
use Rattle.nn_image.proofs.NextLevelLemmas.{IsNextLevel, next_level}
use Rattle.nn_image.proofs.ContentLemmas.{table_few, inode_in_range}
use Rattle.nn_image.proofs.TableLemmas.{table_once, GoesOn, goes_on_with}
use Rattle.nn_image.proofs.OwnEntryLemmas.{entry_at, own_taken, has_children, room_left}

-- the first nodes are put, with the entries and the children of the rest to come
pub record IsFront (m : Nodes) (table : List Bytes) (dir_entries : List DirEntry) (h : Partial) (rest : List (Names × Node)) : Type 0 where
  pub messages : List Inode
  pub done : IsDone table dir_entries h messages
  pub whole : entries m ≡ entries h.nodes ++ rest
  pub left : h.dir_entries ≡ flat_map (entry_at m) rest
  pub all : (p : Names) → is_some (get h.nodes p) ≡ true → listed h.nodes h.levels p ≡ child_ids m p

pub table_is : (m : Nodes) → string_table m ≡ first_uses (flat_map labels (entries m))
unfolding string_table
table_is m = refl

module _ (ns : Namespace) (imaged : IsImaged ns) (dir_entries : List DirEntry) where
  once : IsDistinct bytes_eq (string_table ns.nodes)
  once = table_once ns.nodes

  -- ids behind a node are other ids
  apart : (es : List (Names × Node)) (q : Names) (node : Node) (rest : List (Names × Node)) → entries ns.nodes ≡ es ++ (q, node) ∷ rest → AllByRecursion (λ id. nat_eq node.id id ≡ false) (map (λ (e : Names × Node). e.1.id) rest)
  apart es q node rest whole = distinct_behind (λ (e : Names × Node). e.1.id) es (q, node) rest (subst (λ es. IsDistinct nat_eq (map (λ (e : Names × Node). e.1.id) es)) whole imaged.inodes.once)

  -- what a node takes of the entries to come
  takes : (es : List (Names × Node)) (q : Names) (node : Node) (rest : List (Names × Node)) → entries ns.nodes ≡ es ++ (q, node) ∷ rest → get ns.nodes q ≡ Some node
      → listing (inode_of (string_table ns.nodes) (q, node)) (flat_map (entry_at ns.nodes) ((q, node) ∷ rest)) ≡ record { children = child_ids ns.nodes q; rest = flat_map (entry_at ns.nodes) rest }
  unfolding inode_of
  takes es q node rest whole there = own_taken ns.nodes (inode_of (string_table ns.nodes) (q, node)) (child_ids ns.nodes q) rest (has_children ns.nodes imaged.formed q node there) (apart es q node rest whole)

  uses : (used : ℕ) (es : List (Names × Node)) (q : Names) (node : Node) (rest : List (Names × Node)) → used ≤ length (string_table ns.nodes) → take used (string_table ns.nodes) ≡ first_uses (flat_map labels es) → entries ns.nodes ≡ es ++ (q, node) ∷ rest
      → (after : ℕ) × (use_names (string_table ns.nodes) used (attributes_of (string_table ns.nodes) node) ≡ Some (record { owner = node.owner; group = node.group; used = after }))
  uses used es q node rest few names whole =
      let goes = subst (λ names. GoesOn (string_table ns.nodes) names node) (sym names) (goes_on_with (string_table ns.nodes) es (q, node) rest (all_names whole)) in
      owns_back (string_table ns.nodes) once used node goes.more few goes.both (goes.rest, goes.first)
    where
      all_names : entries ns.nodes ≡ es ++ (q, node) ∷ rest → string_table ns.nodes ≡ first_uses (flat_map labels (es ++ (q, node) ∷ rest))
      all_names whole = table_is ns.nodes ∙ ap (λ es. first_uses (flat_map labels es)) whole

  -- ---- a node behind the root
  module _ (h : Partial) (q : Names) (node : Node) (rest : List (Names × Node)) (front : IsFront ns.nodes (string_table ns.nodes) dir_entries h ((q, node) ∷ rest)) where
    inode : Inode
    inode = inode_of (string_table ns.nodes) (q, node)

    there : get ns.nodes q ≡ Some node
    there = next_there ns.nodes h.nodes (entries h.nodes) q node rest front.whole refl

    level : IsNextLevel h.levels q node.id
    level = next_level ns.nodes imaged.formed h front.done.partial q node rest (record { whole = front.whole; all = front.all })

    place : Place
    place = child_place level.level level.rest level.outer (last_name q)

    at : IsPlaced (waiting h.levels) inode place
    unfolding inode place inode_of
    at = record { level = level.level; outer = level.outer; left = level.left; rest = level.rest; children = level.children; named = level.named; behind = level.behind; is = refl }

    stands : placed (waiting h.levels) inode ≡ Some place
    unfolding inode place inode_of
    stands = ap (λ levels. placed levels inode) level.left ∙ placed_back level.level level.outer inode level.rest level.children level.named level.behind

    used : (after : ℕ) × (use_names (string_table ns.nodes) h.used (attributes_of (string_table ns.nodes) node) ≡ Some (record { owner = node.owner; group = node.group; used = after }))
    used = uses h.used (entries h.nodes) q node rest front.done.read.few front.done.read.names front.whole

    owned : Owned
    owned = record { owner = node.owner; group = node.group; used = used.0 }

    room : HasRoom h.nodes place.path inode.kind
    unfolding inode place inode_of
    room = subst (λ p. HasRoom h.nodes p node.kind) level.path (room_left ns.nodes h.nodes (entries h.nodes) q node rest imaged.limits front.whole refl (imaged.paths q (ap is_some there)))

    next : Partial
    next = with_node h owned place inode

    added : add_inode (string_table ns.nodes) h inode ≡ Some next
    unfolding next inode inode_of owned
    added = adds_back (string_table ns.nodes) h inode owned place used.1 stands room

    step : Adds (string_table ns.nodes) h next inode
    unfolding next inode inode_of owned
    step = record { owned = owned; uses = used.1; place = place; at = at; room = room; is = refl }

    in_range : IsInode inode
    unfolding inode
    in_range = inode_in_range ns (string_table ns.nodes) imaged (table_few ns imaged) (q, node) there

    lists_here : Lists h next inode q node
    unfolding inode inode_of owned node_of step place attributes_of
    lists_here = subst (λ p. Lists h next inode p node) (sym level.path) (lists (string_table ns.nodes) h next inode front.done.partial in_range step)

    taken : listing inode h.dir_entries ≡ record { children = child_ids ns.nodes q; rest = flat_map (entry_at ns.nodes) rest }
    unfolding inode
    taken = ap (listing inode) front.left ∙ takes (entries h.nodes) q node rest front.whole there

    next_front : IsFront ns.nodes (string_table ns.nodes) dir_entries next rest
    next_front = record {
      messages = front.messages ++ inode ∷ [];
      done = done_on (string_table ns.nodes) once dir_entries h next front.messages inode front.done in_range added;
      whole = front.whole ∙ sym (append_assoc (entries h.nodes) ((q, node) ∷ []) rest) ∙ ap (λ es. es ++ rest) (sym lists_here.nodes);
      left = lists_here.rest ∙ ap (λ (l : Listing). l.rest) taken;
      all = each;
    }
      where
        each : (p : Names) → is_some (get next.nodes p) ≡ true → listed next.nodes next.levels p ≡ child_ids ns.nodes p
        each p at =
            let x = some_of (get next.nodes p) at in
            elim (one_of next.nodes h.nodes q node lists_here.nodes lists_here.before p x.0 x.1) as (λ _. listed next.nodes next.levels p ≡ child_ids ns.nodes p) [
              | inl new ↦ ap (listed next.nodes next.levels) new ∙ lists_here.own ∙ ap (λ (l : Listing). l.children) taken ∙ ap (child_ids ns.nodes) (sym new)
              | inr old ↦ lists_here.others p (comes_before h.nodes q lists_here.before p x.0 old) ∙ front.all p (ap is_some old)
            ]

    pub next_put : (g : Partial) × (add_inode (string_table ns.nodes) h (inode_of (string_table ns.nodes) (q, node)) ≡ Some g) × IsFront ns.nodes (string_table ns.nodes) dir_entries g rest
    unfolding inode
    next_put = (next, added, next_front)

  -- ---- the root
  module _ (top : Node) (rest : List (Names × Node)) (whole : entries ns.nodes ≡ ([], top) ∷ rest) (left : dir_entries ≡ flat_map (entry_at ns.nodes) (([], top) ∷ rest)) where
    root : Inode
    root = inode_of (string_table ns.nodes) ([], top)

    top_there : get ns.nodes [] ≡ Some top
    top_there = next_there ns.nodes empty [] [] top rest whole no_entries

    is_top : imaged.formed.top ≡ top
    is_top = same_Some _ _ (sym imaged.formed.there ∙ top_there)

    names_used : (after : ℕ) × (use_names (string_table ns.nodes) 0 (attributes_of (string_table ns.nodes) top) ≡ Some (record { owner = top.owner; group = top.group; used = after }))
    names_used = uses 0 [] [] top rest (none_read (string_table ns.nodes)).few (none_read (string_table ns.nodes)).names whole

    root_owned : Owned
    root_owned = record { owner = top.owner; group = top.group; used = names_used.0 }

    root_room : HasRoom (nothing_put dir_entries).nodes [] root.kind
    unfolding root inode_of
    root_room = room_left ns.nodes empty [] [] top rest imaged.limits whole no_entries root_path

    first : Partial
    first = with_node (nothing_put dir_entries) root_owned top_place root

    root_id : root.id ≡ 16385
    unfolding root inode_of
    root_id = ap (λ (node : Node). node.id) (sym is_top) ∙ imaged.formed.root.0

    root_dir : is_dir root.kind ≡ true
    unfolding root inode_of
    root_dir = ap (λ (node : Node). is_dir node.kind) (sym is_top) ∙ imaged.formed.root.1

    begun : add_root (string_table ns.nodes) dir_entries root ≡ Some first
    unfolding first root inode_of root_owned
    begun = starts_back (string_table ns.nodes) dir_entries root root_owned refl root_id root_dir names_used.1 root_room

    start : Starts (string_table ns.nodes) dir_entries first root
    unfolding first root inode_of root_owned
    start = record { unnamed = refl; id = root_id; dir = root_dir; owned = root_owned; uses = names_used.1; room = root_room; is = refl }

    root_range : IsInode root
    unfolding root
    root_range = inode_in_range ns (string_table ns.nodes) imaged (table_few ns imaged) ([], top) top_there

    root_lists : ListsRoot first root top dir_entries
    unfolding root inode_of root_owned node_of start attributes_of
    root_lists = lists_first (string_table ns.nodes) dir_entries first root start

    root_taken : listing root dir_entries ≡ record { children = child_ids ns.nodes []; rest = flat_map (entry_at ns.nodes) rest }
    unfolding root
    root_taken = ap (listing root) left ∙ takes [] [] top rest whole top_there

    first_front : IsFront ns.nodes (string_table ns.nodes) dir_entries first rest
    first_front = record {
      messages = root ∷ [];
      done = done_root (string_table ns.nodes) once dir_entries first root root_range begun;
      whole = whole ∙ ap (λ es. es ++ rest) (sym root_lists.nodes);
      left = root_lists.rest ∙ ap (λ (l : Listing). l.rest) root_taken;
      all = each;
    }
      where
        own : listed first.nodes first.levels [] ≡ child_ids ns.nodes []
        own = root_lists.own ∙ ap (λ (l : Listing). l.children) root_taken

        each : (p : Names) → is_some (get first.nodes p) ≡ true → listed first.nodes first.levels p ≡ child_ids ns.nodes p
        each p at =
            let x = some_of (get first.nodes p) at in
            elim (one_of first.nodes empty [] top (root_lists.nodes ∙ ap (λ es. es ++ ([], top) ∷ []) (sym no_entries)) (root_before []) p x.0 x.1) as (λ _. listed first.nodes first.levels p ≡ child_ids ns.nodes p) [
              | inl new ↦ ap (listed first.nodes first.levels) new ∙ own ∙ ap (child_ids ns.nodes) (sym new)
              | inr old ↦ absurd (none-some x.0 (sym (get-empty path_cmp p) ∙ old))
            ]

    pub root_put : (g : Partial) × (add_root (string_table ns.nodes) dir_entries (inode_of (string_table ns.nodes) ([], top)) ≡ Some g) × IsFront ns.nodes (string_table ns.nodes) dir_entries g rest
    unfolding root
    root_put = (first, begun, first_front)

  -- ---- all nodes
  pub rest_put : (rest : List (Names × Node)) (h : Partial) → IsFront ns.nodes (string_table ns.nodes) dir_entries h rest
      → (g : Partial) × (add_inodes (string_table ns.nodes) h (map (inode_of (string_table ns.nodes)) rest) ≡ Some g) × IsFront ns.nodes (string_table ns.nodes) dir_entries g []
  unfolding add_inodes
  rest_put [] h front = (h, refl, front)
  rest_put (e ∷ rest) h front =
      let one = next_put h e.0 e.1 rest front in
      let later = rest_put rest one.0 one.2 in
      (later.0, ap (option_and_then (λ g. add_inodes (string_table ns.nodes) g (map (inode_of (string_table ns.nodes)) rest))) one.1 ∙ later.1, later.2)
