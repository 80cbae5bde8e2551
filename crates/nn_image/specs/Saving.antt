-- How far an image is written: what is still to come at each stage, and what was counted of each section.
use Rattle.std.specs.Prelude.{◌≡◌, ℕ, ◌+◌, ◌-◌, ◌^◌, ◌<◌, ◌≤◌, Bool, true, List, [], ◌++◌, length, drop, count_by, Option, Some, None, is_some, IfSome}
use Rattle.std.specs.Ordering.{is_lt}
use Rattle.std.specs.List.{flat_map}
use Rattle.std.specs.FinMap.{get, entries}
use Rattle.nn_base.specs.Paths.{Bytes, Names, path_cmp}
use Rattle.nn_tree.specs.declared.node.Node.{Node}
use Rattle.nn_tree.specs.declared.spot.Spot.{Spot}
use Rattle.nn_tree.specs.Namespace.{Namespace, Nodes}
use Rattle.nn_tree.specs.Below.{entries_below, visited, IsBelow}
use Rattle.nn_image.specs.declared.task.Task.{Task}
use Rattle.nn_image.specs.declared.task.Stage.{Stage}
use Rattle.nn_image.specs.declared.task.Stage.TheVariants.{Front, Strings, Inodes, Directories, Done}
use Rattle.nn_image.specs.declared.saver.Saver.{Saver}
use Rattle.nn_image.specs.declared.task.Progress.{Progress}
use Rattle.nn_message.specs.declared.summary.Lengths.{Lengths}
use Rattle.nn_message.specs.Spelling.{ns_info, strings, string, inodes, inode, dir_entry, delimited}
use Rattle.nn_message.specs.Frame.{magic, Sections, sections_of, body, summary_message, summary_of, end}
use Rattle.nn_image.specs.Image.{string_table, numbered_from, inode_of, is_child, children, child_ids, entry_of, content_with}
use Rattle.nn_tree.specs.Imaged.{IsImaged}

-- what is saved: the namespace, the spots of its tree and their paths, the string table, and what the image says of itself
pub record Target : Type 0 where
  pub ns : Namespace
  pub has : Spot → Bool
  pub place : Spot → Names
  pub table : List Bytes
  pub task : Task

abbrev pub target : Namespace → (Spot → Bool) → (Spot → Names) → List Bytes → Task → Target
target ns has place table task = record { ns = ns; has = has; place = place; table = table; task = task }

-- the sections of its image
unfoldable pub whole : Target → Sections
whole t = sections_of (content_with t.table t.ns t.task.id t.task.namespace)

unfoldable pub end_of : Target → Bytes
end_of t = end (summary_message (summary_of t.task.layout (whole t)))

-- ---- the heads of the first two sections, and of the third

unfoldable pub info_head : Task → Bytes
info_head task = delimited (ns_info (record { namespace = task.namespace; stamp = task.counters.stamp; block = task.counters.block; txid = task.id }))

unfoldable pub strings_head : List Bytes → Bytes
strings_head table = delimited (strings (length table))

unfoldable pub inodes_head : Task → Bytes
inodes_head task = delimited (inodes task.counters.inode task.nodes)

-- ---- what is left of a section

unfoldable pub strings_from : List Bytes → ℕ → Bytes
strings_from table number = flat_map (λ entry. delimited (string entry)) (drop (number - 1) (numbered_from 1 table))

-- the entries that a walk comes to yet
unfoldable pub ahead : Target → Option Spot → List (Names × Node)
ahead t at = drop (visited t.ns.nodes [] t.place at) (entries_below t.ns.nodes [])

unfoldable pub inodes_from : Target → Option Spot → Bytes
inodes_from t at = flat_map (λ e. delimited (inode (inode_of t.table e))) (ahead t at)

-- nothing for a file, nor for an empty directory
unfoldable pub entry_text : Nodes → Names × Node → Bytes
entry_text m e = flat_map (λ d. delimited (dir_entry d)) (entry_of e.1.id (child_ids m e.0))

unfoldable pub directories_from : Target → Option Spot → Bytes
directories_from t at = flat_map (entry_text t.ns.nodes) (ahead t at)

-- ---- what is left of the image

unfoldable pub rest : Target → Stage → Bytes
rest t Front = magic ++ body (whole t) ++ end_of t
rest t (Strings number) = strings_from t.table number ++ (whole t).inodes ++ (whole t).directories ++ end_of t
rest t (Inodes at) = inodes_from t at ++ (whole t).directories ++ end_of t
rest t (Directories at) = directories_from t at ++ end_of t
rest t Done = []

-- ---- a walk over the children of a directory

abbrev pub IsAmongChildren : Option Spot → (Spot → Bool) → (Spot → Names) → Names → Type 0
IsAmongChildren at has place p = IfSome at (λ s. (has s ≡ true) × (is_child p (place s) ≡ true))

-- how many children come before the one where it stands, and all of them behind the last
abbrev pub passed : Nodes → Names → (Spot → Names) → Option Spot → ℕ
passed m p place None = length (children m p)
passed m p place (Some s) = count_by (λ e. is_lt (path_cmp e.0 (place s))) (children m p)

-- ---- a stage goes with what is saved

abbrev pub IsStage : Target → Stage → Type 0
IsStage t Front = Unit {0}
IsStage t (Strings number) = (1 ≤ number) × (number ≤ length t.table + 1)
IsStage t (Inodes at) = IsBelow at t.has t.place []
IsStage t (Directories at) = IsBelow at t.has t.place []
IsStage t Done = Unit {0}

-- what was counted of each section is what is no longer to come
abbrev pub AreCounted : Target → Stage → Lengths → Type 0
AreCounted t Front l = (l.info ≡ 0) × (l.strings ≡ 0) × (l.inodes ≡ 0) × (l.directories ≡ 0)
AreCounted t (Strings number) l = (l.info ≡ length (whole t).info) × (l.strings + length (strings_from t.table number) ≡ length (whole t).strings) × (l.inodes ≡ 0) × (l.directories ≡ 0)
AreCounted t (Inodes at) l = (l.info ≡ length (whole t).info) × (l.strings ≡ length (whole t).strings) × (l.inodes + length (inodes_from t at) ≡ length (whole t).inodes) × (l.directories ≡ 0)
AreCounted t (Directories at) l = (l.info ≡ length (whole t).info) × (l.strings ≡ length (whole t).strings) × (l.inodes ≡ length (whole t).inodes) × (l.directories + length (directories_from t at) ≡ length (whole t).directories)
AreCounted t Done l = Unit {0}

-- ---- what holds of it all

-- no section is longer than a u64 counts, by far
pub record AreModest (s : Sections) : Type 0 where
  pub info : length s.info < 2 ^ 60
  pub strings : length s.strings < 2 ^ 60
  pub inodes : length s.inodes < 2 ^ 60
  pub directories : length s.directories < 2 ^ 60

-- The string table is that of the namespace, the walk begins at the root, and a u64 counts each section.
pub record IsTarget (t : Target) : Type 0 where
  pub imaged : IsImaged t.ns
  pub table : t.table ≡ string_table t.ns.nodes
  pub few : length t.table < 2 ^ 31
  pub counters : t.task.counters ≡ t.ns.counters
  pub nodes : t.task.nodes ≡ length (entries t.ns.nodes)
  pub named : (s : Spot) → t.has s ≡ true → is_some (get t.ns.nodes (t.place s)) ≡ true
  pub root : t.has t.task.root ≡ true
  pub top : t.place t.task.root ≡ []
  pub modest : AreModest (whole t)

-- ---- a step: a text, and the stage behind it

-- at most so many steps are left
unfoldable pub steps : Target → Stage → ℕ
steps t Front = 7 + length t.table + (length (entries t.ns.nodes) + length (entries t.ns.nodes))
steps t (Strings number) = 5 + (length t.table + 1 - number) + (length (entries t.ns.nodes) + length (entries t.ns.nodes))
steps t (Inodes at) = 3 + length (ahead t at) + length (entries t.ns.nodes)
steps t (Directories at) = 1 + length (ahead t at)
steps t Done = 0

pub record Advances (t : Target) (stage : Stage) (text : Bytes) (to : Progress) : Type 0 where
  pub put : rest t stage ≡ text ++ rest t to.stage
  pub stands : IsStage t to.stage
  pub counted : AreCounted t to.stage to.lengths
  pub fewer : steps t to.stage < steps t stage

-- ---- the saver, over a tree

abbrev pub target_of : Saver → Namespace → (Spot → Bool) → (Spot → Names) → Target
target_of s ns has place = target ns has place s.names s.task

-- it was made for this namespace, and its walk for these spots
pub record Saves (s : Saver) (ns : Namespace) (has : Spot → Bool) (place : Spot → Names) : Type 0 where
  pub target : IsTarget (target_of s ns has place)
  pub stands : IsStage (target_of s ns has place) s.progress.stage
  pub counted : AreCounted (target_of s ns has place) s.progress.stage s.progress.lengths
  pub given : s.given ≤ length s.message.items

-- the bytes of its message that weren't given out
abbrev pub ungiven : Saver → Bytes
ungiven s = drop s.given s.message.items

-- the bytes of the image that are still to come
unfoldable pub left : Saver → Namespace → (Spot → Bool) → (Spot → Names) → Bytes
left s ns has place = ungiven s ++ rest (target_of s ns has place) s.progress.stage
