use Rattle.std.proofs.Common.{Bool, ◌≡◌, List, [], ◌∷◌, ◌++◌, refl, sym, ap, subst, ◌∙◌, arith}
use Rattle.std.specs.FinMap.{get, insert}
use Rattle.nn_base.specs.Paths.{Bytes}
use Rattle.nn_tree.specs.declared.node.Node.{Node}
use Rattle.nn_tree.specs.declared.spot.Spot.{Spot}
use Rattle.nn_tree.specs.Spots.{Keeps}
use Rattle.nn_tree.specs.Nodes.{is_dir}
use Rattle.nn_image.specs.Building.{AreOpen}
use Rattle.nn_tree.specs.Namespace.{is_dir_at}
use Rattle.nn_tree.specs.Limits.{IsWithinLimits}
use Rattle.nn_image.specs.Assembly.{node_of}
use Rattle.nn_image.proofs.PutNodeLemmas.{kept_dir, kept_dirs, on_ok, path_is, in_a_dir, is_free, is_within, put_so}
use Rattle.nn_image.proofs.half.put.Goals as goal

pub insert-spot-requires-clause-in_dir : goal.insert-spot-requires-clause-in_dir
insert-spot-requires-clause-in_dir g c =
    let r = c.requires in
    (λ i. is_dir_at (c.in_ok-reserve.ensures.means i).nodes (c.in_ok-reserve.ensures.place i c.args.next.parent.spot))
    ∙ in_a_dir c.args.half.now _ _ _ r.0 r.1 r.2 r.3 r.4 c.args.next _ r.5 r.6 r.7

pub insert-spot-requires-clause-free : goal.insert-spot-requires-clause-free
insert-spot-requires-clause-free g c =
    let r = c.requires in
    (λ i. get (c.in_ok-reserve.ensures.means i).nodes (c.in_ok-reserve.ensures.place i c.args.next.parent.spot ++ c.args.next.name ∷ []))
    ∙ is_free c.args.half.now _ _ _ r.0 r.1 r.2 r.3 r.4 c.args.next _ r.5 r.6 r.7

pub insert-spot-requires-clause-limits : goal.insert-spot-requires-clause-limits
insert-spot-requires-clause-limits g c =
    let r = c.requires in
    subst IsWithinLimits (sym (λ i. insert (c.in_ok-reserve.ensures.means i).nodes (c.in_ok-reserve.ensures.place i c.args.next.parent.spot ++ c.args.next.name ∷ []) c.args.next.node))
    (is_within c.args.half.now _ _ _ r.0 r.1 r.2 r.3 r.4 c.args.next _ r.5 r.6 r.7)

pub returns-clause-tree : goal.returns-clause-tree
unfolding node_of
returns-clause-tree g c = λ table entries done h inode id is made next.
    let dir : is_dir inode.kind ≡ c.is_dir-is_dir.result = ap (λ (n : Node). is_dir n.kind) (sym next.node) ∙ sym c.is_dir-is_dir.ensures in
    c.enter.ensures.tree inode h.dir_entries id dir made.listed made.directories

pub returns-clause-ok : goal.returns-clause-ok
unfolding node_of
returns-clause-ok g c = λ table entries done h inode id is made next.
    let has = g.T.Tree.has c.args.tree.now in
    let place = g.T.Tree.place c.args.tree.now in
    let has' = g.T.Tree.has c.insert-spot.new.self in
    let place' = g.T.Tree.place c.insert-spot.new.self in
    let room = c.in_ok-reserve.ensures in
    let keeps = subst (λ (h : Spot → Bool). Keeps h has' place place' (λ p. p)) room.has
    (subst (λ (p : Spot → List Bytes). Keeps (g.T.Tree.has c.reserve.new.self) has' p place' (λ p. p)) room.place c.insert-spot.ensures.keeps) in
    let path = next.level.path ++ inode.name ∷ [] in
    let nodes = ap (λ ns. ns.nodes) c.insert-spot.ensures.means ∙ (λ i. insert (room.means i).nodes (room.place i c.args.next.parent.spot ++ c.args.next.name ∷ []) c.args.next.node) in
    let at : place' c.insert-spot.result ≡ path = c.insert-spot.ensures.at ∙ (λ i. room.place i c.args.next.parent.spot ++ c.args.next.name ∷ [])
    ∙ path_is c.args.half.now (g.T.Tree.meaning c.args.tree.now) has place table entries done h inode c.args.next c.args.half.now.dirs.items is made next in
    let dir : is_dir inode.kind ≡ c.is_dir-is_dir.result = ap (λ (n : Node). is_dir n.kind) (sym next.node) ∙ sym c.is_dir-is_dir.ensures in
    let parent = kept_dir has has' place place' c.args.next.parent next.level keeps next.parent in
    let others = kept_dirs has has' place place' c.args.half.now.dirs.items next.outer keeps next.others in
    let are : AreOpen has' place' c.push.new.self.items (next.level ∷ next.outer) = (c.args.next.parent, c.args.half.now.dirs.items, c.in_ok-push.ensures.items, parent, others) in
    let noted = c.in_ok-note.ensures done inode (ap (λ (n : Node). n.id) (sym next.node)) (ap (λ (n : Node). n.kind) (sym next.node)) made.noted in
    let entered = c.enter.ensures.ok has' place' (next.level ∷ next.outer) path inode h.dir_entries id dir made.listed made.directories are
    (record { there = c.insert-spot.ensures.spot; path = at; newest = refl; ids = λ k d within. absurd (omega arith); children = refl; names = next.path; text = next.text }) in
    on_ok c.enter.result _ _ entered (λ e. put_so c.args.half.now (g.T.Tree.meaning c.args.tree.now) has place table entries done h inode c.args.next c.args.half.now.dirs.items is made next
    _ (g.T.Tree.meaning c.insert-spot.new.self) has' place' nodes refl noted e.0 e.1 e.2)
