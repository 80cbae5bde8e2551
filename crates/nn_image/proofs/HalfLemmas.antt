-- A tree that is partly built, after one node more.
use Rattle.std.proofs.Common.{◌≡◌, ℕ, Bool, true, false, cond, List, [], ◌∷◌, ◌++◌, ap, subst, ◌∙◌}
use Rattle.std.specs.Prelude.{All, Some, option_and_then}
use Rattle.std.specs.List.{flat_map}
use Rattle.std.proofs.lemmas.Option.{none-some, same_Some, option_and_then_some}
use Rattle.std.proofs.lemmas.List.Elements.{All-head, All-tail}
use Rattle.nn_base.specs.Limits.{IsLong}
use Rattle.nn_base.specs.Paths.{Bytes, Names}
use Rattle.nn_tree.specs.declared.spot.Spot.{Spot}
use Rattle.nn_tree.specs.declared.node.Kind.{Kind}
use Rattle.nn_tree.specs.Nodes.{is_dir}
use Rattle.nn_image.specs.declared.open_dir.OpenDir.{OpenDir}
use Rattle.nn_message.specs.Messages.{Inode, DirEntry, IsInode}
use Rattle.nn_image.specs.Assembly.{Level, Partial, opened, add_inode, add_inodes, add_root, add_all}
use Rattle.nn_image.specs.Building.{IsOpen}
use Rattle.nn_image.proofs.PlacedLemmas.{adds, starts}
use Rattle.nn_image.proofs.PartialLemmas.{IsPartial, begins, goes_on}
use Rattle.nn_wire.specs.Varint.{varint}

-- ---- a directory is held open

pub level_in : (kind : Kind) (path : Names) (ids : List ℕ) (levels : List Level) → is_dir kind ≡ true → opened kind path ids levels ≡ record { path = path; newest = []; children = ids } ∷ levels
unfolding opened
level_in kind path ids levels dir = ap (λ b. cond b (record { path = path; newest = []; children = ids } ∷ levels) levels) dir

pub no_level_in : (kind : Kind) (path : Names) (ids : List ℕ) (levels : List Level) → is_dir kind ≡ false → opened kind path ids levels ≡ levels
unfolding opened
no_level_in kind path ids levels file = ap (λ b. cond b (record { path = path; newest = []; children = ids } ∷ levels) levels) file

-- with the children that it has to come
pub held : (has : Spot → Bool) (place : Spot → Names) (dir with_children : OpenDir) (path : Names) (ids : List ℕ) → IsOpen has place dir (record { path = path; newest = []; children = [] })
    → with_children.spot ≡ dir.spot → with_children.newest.now ≡ dir.newest.now → with_children.names ≡ dir.names → with_children.text ≡ dir.text
    → All IsLong ids → with_children.children.now ≡ flat_map varint ids → IsOpen has place with_children (record { path = path; newest = []; children = ids })
held has place dir with_children path ids was spot newest names text long children = record {
  there = ap has spot ∙ was.there;
  path = ap place spot ∙ was.path;
  newest = newest ∙ was.newest;
  ids = long;
  children = children;
  names = names ∙ was.names;
  text = text ∙ was.text;
}

-- ---- what the model makes of one message more

inodes_on : (table : List Bytes) (rest : List Inode) (h k g : Partial) (inode : Inode) → add_inodes table h rest ≡ Some k → add_inode table k inode ≡ Some g → add_inodes table h (rest ++ inode ∷ []) ≡ Some g
unfolding add_inodes
inodes_on table [] h k g inode so_far next =
    let same = same_Some h k so_far in
    ap (λ h. option_and_then (λ g. add_inodes table g []) (add_inode table h inode)) same ∙ ap (option_and_then (λ g. add_inodes table g [])) next
inodes_on table (first ∷ rest) h k g inode so_far next =
    option_and_then_some (λ g. add_inodes table g rest) (add_inode table h first) k so_far (λ one is later.
    ap (option_and_then (λ g. add_inodes table g (rest ++ inode ∷ []))) is ∙ inodes_on table rest one k g inode later next)

pub made_on : (table : List Bytes) (dir_entries : List DirEntry) (done : List Inode) (k g : Partial) (inode : Inode) → add_all table dir_entries done ≡ Some k → add_inode table k inode ≡ Some g → add_all table dir_entries (done ++ inode ∷ []) ≡ Some g
unfolding add_all
made_on table dir_entries [] k g inode so_far next = absurd (none-some k so_far)
made_on table dir_entries (root ∷ rest) k g inode so_far next =
    option_and_then_some (λ h. add_inodes table h rest) (add_root table dir_entries root) k so_far (λ h is later.
    ap (option_and_then (λ h. add_inodes table h (rest ++ inode ∷ []))) is ∙ inodes_on table rest h k g inode later next)

rest_partial : (table : List Bytes) (rest : List Inode) (h k : Partial) → IsPartial h → All IsInode rest → add_inodes table h rest ≡ Some k → IsPartial k
unfolding add_inodes
rest_partial table [] h k partial ranges is = subst IsPartial (same_Some h k is) partial
rest_partial table (inode ∷ rest) h k partial ranges is =
    option_and_then_some (λ g. add_inodes table g rest) (add_inode table h inode) k is (λ g first later.
    rest_partial table rest g k (goes_on table h g inode partial (All-head IsInode inode rest ranges) (adds table h g inode first)) (All-tail IsInode inode rest ranges) later)

pub made_partial : (table : List Bytes) (dir_entries : List DirEntry) (done : List Inode) (k : Partial) → All IsInode done → add_all table dir_entries done ≡ Some k → IsPartial k
unfolding add_all
made_partial table dir_entries [] k ranges is = absurd (none-some k is)
made_partial table dir_entries (root ∷ rest) k ranges is =
    option_and_then_some (λ h. add_inodes table h rest) (add_root table dir_entries root) k is (λ h first later.
    rest_partial table rest h k (begins table dir_entries h root (All-head IsInode root rest ranges) (starts table dir_entries h root first)) (All-tail IsInode root rest ranges) later)
