use Rattle.std.proofs.Common.{◌≡◌, List, ◌++◌, length}
use Rattle.std.specs.Prelude.{All}
use Rattle.nn_message.specs.Messages.{Inode, DirEntry, IsInode}
use Rattle.nn_image.specs.Assembly.{Partial, add_inodes}
use Rattle.nn_image.specs.Building.{inodes_text, IsHalf}
use Rattle.nn_image.proofs.nodes.add_nodes.Given as goal

-- the tree is what the model makes of some nodes, and the nodes to come make of it what they all make of the first
abbrev pub invariant-nodes : goal.invariant-nodes
invariant-nodes g l =
    let now = λ (entries : List DirEntry) (done : List Inode) (h : Partial). IsHalf l.half (g.T.Tree.meaning l.tree) (g.T.Tree.has l.tree) (g.T.Tree.place l.tree) l.names entries done h in
    record {
      half : (entries : List DirEntry) × (done : List Inode) × (h : Partial) × now entries done h;
      to_come : (entries : List DirEntry) (done rest : List Inode) (h : Partial) → All IsInode rest → l.fn.inodes ≡ inodes_text rest
          → IsHalf l.initial.half (g.T.Tree.meaning l.initial.tree) (g.T.Tree.has l.initial.tree) (g.T.Tree.place l.initial.tree) l.names entries done h
          → (so_far ahead : List Inode) × (k : Partial) × All IsInode ahead × (l.rest ≡ inodes_text ahead) × (so_far ++ ahead ≡ done ++ rest)
          × (add_inodes l.names h rest ≡ add_inodes l.names k ahead) × now entries so_far k;
    }

abbrev pub decreases-nodes : goal.decreases-nodes
decreases-nodes g l = length l.rest
