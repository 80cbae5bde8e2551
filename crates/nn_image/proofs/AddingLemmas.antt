-- For the loop that adds the nodes: what the nodes to come make of the namespace so far, and the end.
use Rattle.std.proofs.Common.{◌≡◌, Bool, true, false, cond, ◌&&◌, List, [], ◌∷◌, Option, Some, None, refl, ap, ◌∙◌}
use Rattle.std.specs.Prelude.{option_and_then}
use Rattle.std.proofs.lemmas.Bool.{and_from, and_left, and_right}
use Rattle.nn_base.specs.Paths.{Bytes}
use Rattle.nn_message.specs.Messages.{Content, Inode, DirEntry}
use Rattle.nn_image.specs.Assembly.{Partial, table_of, add_inode, add_inodes, add_root, add_all, is_table, is_whole, are_all_given, namespace_of, finished, assemble}

-- ---- nodes

module _ (table : List Bytes) (h : Partial) where
  pub none_left : add_inodes table h [] ≡ Some h
  unfolding add_inodes
  none_left = refl

  pub one_added : (inode : Inode) (rest : List Inode) (g : Partial) → add_inode table h inode ≡ Some g → add_inodes table h (inode ∷ rest) ≡ add_inodes table g rest
  unfolding add_inodes
  one_added inode rest g is = ap (option_and_then (λ g. add_inodes table g rest)) is

  pub one_refused : (inode : Inode) (rest : List Inode) → add_inode table h inode ≡ None → add_inodes table h (inode ∷ rest) ≡ None
  unfolding add_inodes
  one_refused inode rest is = ap (option_and_then (λ g. add_inodes table g rest)) is

module _ (table : List Bytes) (dir_entries : List DirEntry) where
  pub no_root : add_all table dir_entries [] ≡ None
  unfolding add_all
  no_root = refl

  pub root_added : (root : Inode) (rest : List Inode) (g : Partial) → add_root table dir_entries root ≡ Some g → add_all table dir_entries (root ∷ rest) ≡ add_inodes table g rest
  unfolding add_all
  root_added root rest g is = ap (option_and_then (λ h. add_inodes table h rest)) is

  pub root_refused : (root : Inode) (rest : List Inode) → add_root table dir_entries root ≡ None → add_all table dir_entries (root ∷ rest) ≡ None
  unfolding add_all
  root_refused root rest is = ap (option_and_then (λ h. add_inodes table h rest)) is

-- ---- the end

module _ (content : Content) where
  pub no_table : is_table content ≡ false → assemble content ≡ None
  unfolding assemble
  no_table is = ap (λ b. cond b (option_and_then (finished content) (add_all (table_of content) content.dir_entries content.inodes)) None) is

  tabled : (o : Option Partial) → is_table content ≡ true → add_all (table_of content) content.dir_entries content.inodes ≡ o → assemble content ≡ option_and_then (finished content) o
  unfolding assemble
  tabled o is added = ap (λ b. cond b (option_and_then (finished content) (add_all (table_of content) content.dir_entries content.inodes)) None) is ∙ ap (option_and_then (finished content)) added

  pub not_added : is_table content ≡ true → add_all (table_of content) content.dir_entries content.inodes ≡ None → assemble content ≡ None
  not_added is added = tabled None is added

  module _ (h : Partial) (is : is_table content ≡ true) (added : add_all (table_of content) content.dir_entries content.inodes ≡ Some h) where
    end : (b : Bool) → (is_whole content h && are_all_given content) ≡ b → assemble content ≡ cond b (Some (namespace_of content h.nodes)) None
    unfolding finished
    end b tests = tabled (Some h) is added ∙ ap (λ b. cond b (Some (namespace_of content h.nodes)) None) tests

    pub all_added : is_whole content h ≡ true → are_all_given content ≡ true → assemble content ≡ Some (namespace_of content h.nodes)
    all_added whole given = end true (and_from _ _ whole given)

    pub not_whole : is_whole content h ≡ false → assemble content ≡ None
    not_whole whole = end false (and_left _ _ whole)

    pub not_given : are_all_given content ≡ false → assemble content ≡ None
    not_given given = end false (and_right _ _ given)
