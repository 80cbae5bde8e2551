use Rattle.std.proofs.Common.{◌≡◌, ◌+◌, ◌<◌, ◌≤◌, ◌⊎◌, [], ◌∷◌, ◌++◌, length, true, refl, sym, ap, subst, ◌∙◌}
use Rattle.std.specs.Prelude.{Option}
use Rattle.std.specs.Option.{SomeIff}
use Rattle.nn_base.specs.Limits.{most_levels, most_path, most_nodes, most_blocks}
use Rattle.nn_base.specs.Paths.{Bytes, is_name, joined}
use Rattle.nn_base.proofs.PathsLemmas.{joined_push}
use Rattle.nn_tree.specs.declared.node.Kind.{Kind}
use Rattle.nn_tree.specs.declared.node.Node.{Node}
use Rattle.nn_tree.specs.Nodes.{blocks_of}
use Rattle.nn_image.specs.Assembly.{use_names, node_of, waiting}
use Rattle.nn_image.proofs.PlacedLemmas.{HasRoom, room_back}
use Rattle.nn_image.proofs.NextNodeLemmas.{placed_unnamed, unowned, unplaced, no_room, child_levels, path_too_long, too_many}
use Rattle.nn_image.proofs.prepared.prepare.Goals as goal

pub returns-in_default-clause-tree : goal.returns-in_default-clause-tree
returns-in_default-clause-tree c = λ has place h inode is shows used are inodes number err.
    unowned c.args.names.now h inode ((λ i. use_names c.args.names.now (sym used i) (sym shows.attributes i)) ∙ c.in_default.ensures)

pub returns-in_default-2-clause-tree : goal.returns-in_default-2-clause-tree
returns-in_default-2-clause-tree c = λ has place h inode is shows used are inodes number err.
    let none = subst (λ (found : Option Bytes). SomeIff found (is_name c.args.view.now.name.now ≡ true) c.args.view.now.name.now) c.in_default-2.is c.in_ok-name.ensures in
    unplaced c.args.names.now h inode (placed_unnamed (waiting h.levels) inode (λ named. none (ap is_name shows.name ∙ named)))

pub returns-in_default-stand-clause-tree : goal.returns-in_default-stand-clause-tree
returns-in_default-stand-clause-tree c = λ has place h inode is shows used are inodes number err.
    unplaced c.args.names.now h inode (c.in_default-stand.ensures has place h.levels inode (sym shows.id) (sym shows.name) are)

pub returns-in_default-child_path-clause-tree : goal.returns-in_default-child_path-clause-tree
returns-in_default-child_path-clause-tree c = λ has place h inode is shows used are inodes number err.
    let stands = c.in-Some-stand.ensures has place h.levels inode (sym shows.id) (sym shows.name) are in
    let long = c.in_default-child_path.ensures.none refl in
    no_room c.args.names.now h inode (record { path = stands.0.path ++ inode.name ∷ []; levels = stands.0 ∷ stands.1 }) stands.2
    (path_too_long h.nodes stands.0 inode.name inode.kind c.in-Some-stand.parent.names c.in-Some-stand.parent.text stands.3.names stands.3.text
    (subst (λ (name : Bytes). (most_levels < c.in-Some-stand.parent.names + 1) ⊎ (most_path < c.in-Some-stand.parent.text + (1 + length name))) shows.name long))

pub returns-then-not-are_few-clause-tree : goal.returns-then-not-are_few-clause-tree
unfolding node_of
returns-then-not-are_few-clause-tree c = λ has place h inode is shows used are inodes number err.
    let stands = c.in-Some-stand.ensures has place h.levels inode (sym shows.id) (sym shows.name) are in
    let many = c.are_few.ensures.no c.if-not-are_few.true in
    let node = c.in_ok-node.ensures.ok inode is shows in
    no_room c.args.names.now h inode (record { path = stands.0.path ++ inode.name ∷ []; levels = stands.0 ∷ stands.1 }) stands.2
    (too_many h.nodes (stands.0.path ++ inode.name ∷ []) inode.kind (length c.args.noted.now.inodes.items) (length c.args.noted.now.blocks.items) inodes number
    (subst (λ (kind : Kind). (most_nodes ≤ length c.args.noted.now.inodes.items) ⊎ (most_blocks < length c.args.noted.now.blocks.items + length (blocks_of kind))) (ap (λ (n : Node). n.kind) node) many))

pub returns-clause-ok : goal.returns-clause-ok
unfolding node_of
returns-clause-ok c = λ has place h inode is shows used are inodes number.
    let stands = c.in-Some-stand.ensures has place h.levels inode (sym shows.id) (sym shows.name) are in
    let few = c.are_few.ensures.yes c.if-not-are_few.false in
    let node = c.in_ok-node.ensures.ok inode is shows in
    let kind : c.in_ok-node.node.kind ≡ inode.kind = ap (λ (n : Node). n.kind) node in
    let path = c.in-Some-child_path.ensures.some in
    let found = subst (λ (found : Option Bytes). SomeIff found (is_name c.args.view.now.name.now ≡ true) c.args.view.now.name.now) c.in-Some-2.is c.in_ok-name.ensures in
    let names : c.in-Some-child_path.names ≡ length (stands.0.path ++ inode.name ∷ []) = path.0 ∙ ap (λ n. n + 1) stands.3.names ∙ sym (child_levels stands.0.path inode.name) in
    let text : c.in-Some-child_path.text ≡ length (joined (stands.0.path ++ inode.name ∷ [])) =
    path.1 ∙ (λ i. stands.3.text i + (1 + length (shows.name i))) ∙ sym (joined_push stands.0.path inode.name) in
    let room : HasRoom h.nodes (stands.0.path ++ inode.name ∷ []) inode.kind = record {
      levels = subst (λ n. n ≤ most_levels) names path.2;
      size = subst (λ n. n ≤ most_path) text path.3;
      nodes = subst (λ n. n < most_nodes) inodes few.0;
      blocks = subst (λ n. n ≤ most_blocks) (λ i. number i + length (blocks_of (kind i))) few.1;
    } in
    record {
      owned = record { owner = c.in-Some.owners.owner; group = c.in-Some.owners.group; used = c.in-Some.owners.used };
      uses = (λ i. use_names c.args.names.now (sym used i) (sym shows.attributes i)) ∙ c.in-Some.ensures;
      level = stands.0;
      outer = stands.1;
      stands = stands.2;
      room = room_back h.nodes (stands.0.path ++ inode.name ∷ []) inode.kind room;
      parent = stands.3;
      others = stands.4;
      path = names;
      text = text;
      name = found.1 ∙ shows.name;
      node = node;
      used = refl;
    }
