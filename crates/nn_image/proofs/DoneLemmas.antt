-- The assembly after some messages: what was put together has just these as its image's.
use Rattle.std.proofs.Common.{◌≡◌, ℕ, List, [], ◌∷◌, ◌++◌, Some, sym, ap, subst, ◌∙◌, append_assoc, append-nil}
use Rattle.std.specs.Prelude.{All}
use Rattle.std.specs.List.{IsDistinct}
use Rattle.std.specs.Str.{bytes_eq}
use Rattle.std.specs.FinMap.{insert, empty, entries}
use Rattle.std.proofs.lemmas.Option.{none-some, same_Some, option_and_then_some}
use Rattle.std.proofs.lemmas.List.Elements.{All-head, All-tail}
use Rattle.nn_base.specs.Paths.{Bytes, Names, path_cmp}
use Rattle.nn_tree.specs.declared.node.Node.{Node}
use Rattle.nn_tree.specs.Spots.{last_name}
use Rattle.nn_tree.proofs.SoundLemmas.{last_name_push}
use Rattle.nn_message.specs.Messages.{Inode, IsInode, DirEntry}
use Rattle.nn_image.specs.Assembly.{Partial, Place, node_of, with_node, add_inode, add_inodes, add_root, add_all}
use Rattle.nn_image.proofs.LaterLemmas.{entries_behind}
use Rattle.nn_tree.proofs.EmptyLemmas.{no_entries}
use Rattle.nn_image.proofs.PlacedLemmas.{adds, starts}
use Rattle.nn_image.proofs.PartialLemmas.{IsPartial, begins, goes_on, root_before}
use Rattle.nn_image.proofs.EntriesLemmas.{lists, AreListed, lists_on, lists_root}
use Rattle.nn_image.proofs.OwnedLemmas.{owns_so, AreRead, none_read, one_read}

pub record IsDone (table : List Bytes) (dir_entries : List DirEntry) (h : Partial) (done : List Inode) : Type 0 where
  pub partial : IsPartial h
  pub listed : AreListed dir_entries h
  pub read : AreRead table h.used (entries h.nodes) done

module _ (table : List Bytes) (once : IsDistinct bytes_eq table) (dir_entries : List DirEntry) where
  pub done_root : (g : Partial) (inode : Inode) → IsInode inode → add_root table dir_entries inode ≡ Some g → IsDone table dir_entries g (inode ∷ [])
  unfolding with_node
  done_root g inode in_range is =
      let start = starts table dir_entries g inode is in
      let node = node_of start.owned inode in
      let one : entries (insert (empty {K = Names} {X = Node} {R = path_cmp}) [] node) ≡ ([], node) ∷ [] = entries_behind empty [] (root_before []) node ∙ ap (λ es. es ++ ([], node) ∷ []) no_entries in
      let owns = owns_so table once 0 inode.attributes start.owned (none_read table).few start.uses in
      let read = one_read table 0 [] [] inode start.owned [] (none_read table) (sym start.unnamed) owns in
      let used : start.owned.used ≡ g.used = ap (λ (g : Partial). g.used) (sym start.is) in
      let nodes : ([], node) ∷ [] ≡ entries g.nodes = sym one ∙ ap (λ (g : Partial). entries g.nodes) (sym start.is) in
      record {
        partial = begins table dir_entries g inode in_range start;
        listed = lists_root table dir_entries g inode start;
        read = subst (λ (n : ℕ). AreRead table n (entries g.nodes) (inode ∷ [])) used (subst (λ (es : List (Names × Node)). AreRead table start.owned.used es (inode ∷ [])) nodes read);
      }

  pub done_on : (h g : Partial) (done : List Inode) (inode : Inode) → IsDone table dir_entries h done → IsInode inode → add_inode table h inode ≡ Some g → IsDone table dir_entries g (done ++ inode ∷ [])
  unfolding with_node
  done_on h g done inode before in_range is =
      let step = adds table h g inode is in
      let owns = owns_so table once h.used inode.attributes step.owned before.read.few step.uses in
      let path : step.place.path ≡ step.at.level.path ++ inode.name ∷ [] = ap (λ (p : Place). p.path) step.at.is in
      let lists = lists table h g inode before.partial in_range step in
      let read = one_read table h.used (entries h.nodes) done inode step.owned step.place.path before.read (ap last_name path ∙ last_name_push step.at.level.path inode.name) owns in
      let used : step.owned.used ≡ g.used = ap (λ (g : Partial). g.used) (sym step.is) in
      record {
        partial = goes_on table h g inode before.partial in_range step;
        listed = lists_on dir_entries h g inode step.place.path (node_of step.owned inode) before.listed lists;
        read = subst (λ (n : ℕ). AreRead table n (entries g.nodes) (done ++ inode ∷ [])) used (subst (λ (es : List (Names × Node)). AreRead table step.owned.used es (done ++ inode ∷ [])) (sym lists.nodes) read);
      }

  done_rest : (rest : List Inode) (h g : Partial) (done : List Inode) → IsDone table dir_entries h done → All IsInode rest → add_inodes table h rest ≡ Some g → IsDone table dir_entries g (done ++ rest)
  unfolding add_inodes
  done_rest [] h g done before in_range is =
      let same = same_Some h g is in
      subst (λ (g : Partial). IsDone table dir_entries g (done ++ [])) same (subst (IsDone table dir_entries h) (sym (append-nil done)) before)
  done_rest (inode ∷ rest) h g done before in_range is =
      option_and_then_some (λ g. add_inodes table g rest) (add_inode table h inode) g is (λ next first later.
      subst (IsDone table dir_entries g) (append_assoc done (inode ∷ []) rest)
      (done_rest rest next g (done ++ inode ∷ []) (done_on h next done inode before (All-head IsInode inode rest in_range) first) (All-tail IsInode inode rest in_range) later))

  pub done_all : (inodes : List Inode) (g : Partial) → All IsInode inodes → add_all table dir_entries inodes ≡ Some g → IsDone table dir_entries g inodes
  unfolding add_all
  done_all [] g in_range is = absurd (none-some g is)
  done_all (root ∷ rest) g in_range is =
      option_and_then_some (λ h. add_inodes table h rest) (add_root table dir_entries root) g is (λ h first later.
      done_rest rest h g (root ∷ []) (done_root h root (All-head IsInode root rest in_range) first) (All-tail IsInode root rest in_range) later)
