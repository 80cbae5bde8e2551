-- The children that INODE_DIR has for a node.
use Rattle.std.proofs.Common.{◌≡◌, ◌≢◌, ℕ, Bool, true, false, List, [], ◌∷◌, length, refl, sym, ap, subst, ◌∙◌, arith}
use Rattle.std.specs.Prelude.{All, Option, Some, ◌==◌, ◌&&◌, nat_lt, if◌then◌else◌}
use Rattle.std.proofs.lemmas.Bool.Decides.{nat_tests}
use Rattle.nn_base.specs.Paths.{Bytes}
use Rattle.nn_tree.specs.Nodes.{is_dir}
use Rattle.nn_message.specs.Messages.{Inode, DirEntry, IsDirEntry}
use Rattle.nn_image.specs.Assembly.{Listing, listing, is_entry_of}
use Rattle.nn_image.specs.Building.{entries_text, IsListed}
use Rattle.nn_message.specs.Spelling.{delimited, dir_entry}
use Rattle.nn_image.proofs.OpenDirLemmas.{and_no, ids_none}
use Rattle.nn_image.proofs.TakingLemmas.{TakesFirst, none_left, delimited_some}
use Rattle.nn_message.specs.declared.view.DirView.{DirView}
use Rattle.nn_message.specs.Views.{IsDirView}
use Rattle.std.proofs.lemmas.Option.{same_Some}
use Rattle.nn_wire.specs.Varint.{varint}
use Rattle.std.specs.List.{flat_map}

abbrev no_children : List DirEntry → Listing
no_children entries = record { children = []; rest = entries }

abbrev children_of : DirEntry → List DirEntry → Listing
children_of entry rest = record { children = entry.children; rest = rest }

listing_by : (inode : Inode) (entry : DirEntry) (rest : List DirEntry) → listing inode (entry ∷ rest) ≡ (if is_entry_of inode entry then children_of entry rest else no_children (entry ∷ rest))
unfolding listing
listing_by inode entry rest = refl

listing_end : (inode : Inode) → listing inode [] ≡ no_children []
unfolding listing
listing_end inode = refl

another_entry : (inode : Inode) (entry : DirEntry) (rest : List DirEntry) → is_entry_of inode entry ≡ false → listing inode (entry ∷ rest) ≡ no_children (entry ∷ rest)
another_entry inode entry rest another = listing_by inode entry rest ∙ ap (λ b. if b then children_of entry rest else no_children (entry ∷ rest)) another

-- ---- which entry is a node's own

and_not : (a b : Bool) → a ≡ false → a && b ≡ false
and_not a b is = ap (λ a. a && b) is

file_entry : (inode : Inode) (entry : DirEntry) → is_dir inode.kind ≡ false → is_entry_of inode entry ≡ false
unfolding is_entry_of
file_entry inode entry file = and_not (is_dir inode.kind && (entry.parent == inode.id)) (nat_lt 0 (length entry.children)) (and_not (is_dir inode.kind) (entry.parent == inode.id) file)

pub other_parent : (inode : Inode) (entry : DirEntry) → entry.parent ≢ inode.id → is_entry_of inode entry ≡ false
unfolding is_entry_of
other_parent inode entry apart =
    let unequal : (entry.parent == inode.id) ≡ false = grind (arith, nat_tests) in
    and_not (is_dir inode.kind && (entry.parent == inode.id)) (nat_lt 0 (length entry.children)) (and_no (is_dir inode.kind) (entry.parent == inode.id) unequal)

pub nobodys_entry : (inode : Inode) (entry : DirEntry) → length entry.children ≡ 0 → is_entry_of inode entry ≡ false
unfolding is_entry_of
nobodys_entry inode entry none =
    let short : nat_lt 0 (length entry.children) ≡ false = grind (arith, nat_tests) in
    and_no (is_dir inode.kind && (entry.parent == inode.id)) (nat_lt 0 (length entry.children)) short

pub own_entry : (inode : Inode) (entry : DirEntry) → is_dir inode.kind ≡ true → entry.parent ≡ inode.id → length entry.children ≢ 0 → is_entry_of inode entry ≡ true
unfolding is_entry_of
own_entry inode entry dir parent some =
    let equal : (entry.parent == inode.id) ≡ true = grind (arith, nat_tests) in
    let long : nat_lt 0 (length entry.children) ≡ true = grind (arith, nat_tests) in
    λ i. dir i && equal i && long i

-- ---- what a call found

pub nothing_listed : (inode : Inode) (entries : List DirEntry) (rest : Bytes) → All IsDirEntry entries → rest ≡ entries_text entries → listing inode entries ≡ no_children entries → IsListed [] rest (listing inode entries)
nothing_listed inode entries rest all spelled is =
    subst (IsListed [] rest) (sym is) (record { ids = λ k d within. absurd (omega arith); children = refl; entries = all; rest = spelled })

pub none_of_a_file : (inode : Inode) (entries : List DirEntry) → is_dir inode.kind ≡ false → listing inode entries ≡ no_children entries
none_of_a_file inode [] file = listing_end inode
none_of_a_file inode (entry ∷ rest) file = another_entry inode entry rest (file_entry inode entry file)

pub none_at_the_end : (inode : Inode) (entries : List DirEntry) (old : Bytes) → All IsDirEntry entries → old ≡ entries_text entries → length old ≡ 0 → listing inode entries ≡ no_children entries
none_at_the_end inode entries old all spelled none =
    let is = none_left IsDirEntry (λ d. delimited (dir_entry d)) entries (λ d _. delimited_some (dir_entry d)) all (sym (ap length spelled) ∙ none) in
    ap (listing inode) is ∙ listing_end inode ∙ ap no_children (sym is)

pub none_of_another : (inode : Inode) (entries : List DirEntry) (entry : DirEntry) (rest : List DirEntry) → entries ≡ entry ∷ rest → is_entry_of inode entry ≡ false → listing inode entries ≡ no_children entries
none_of_another inode entries entry rest is another = ap (listing inode) is ∙ another_entry inode entry rest another ∙ ap no_children (sym is)

pub all_of_its_own : (inode : Inode) (entries : List DirEntry) (entry : DirEntry) (rest : List DirEntry) → entries ≡ entry ∷ rest → is_entry_of inode entry ≡ true → listing inode entries ≡ children_of entry rest
all_of_its_own inode entries entry rest is own = ap (listing inode) is ∙ listing_by inode entry rest ∙ ap (λ b. if b then children_of entry rest else no_children (entry ∷ rest)) own

-- ---- the next entry, as a call took it

abbrev pub NextEntry : List DirEntry → Option DirView → Bytes → Type 0
NextEntry entries result new = TakesFirst IsDirView IsDirEntry (λ d. delimited (dir_entry d)) entries result new

module _ (inode : Inode) (entries : List DirEntry) (id : ℕ) (is_id : inode.id ≡ id) (old new : Bytes) (all : All IsDirEntry entries) (spelled : old ≡ entries_text entries) (view : DirView) (next : NextEntry entries (Some view) new) where
  is_view : view ≡ next.view
  is_view = same_Some view next.view next.is

  pub listed_elsewhere : view.parent ≢ id → IsListed [] old (listing inode entries)
  listed_elsewhere apart =
      let other : next.first.parent ≢ inode.id = λ same. apart (ap (λ (v : DirView). v.parent) is_view ∙ next.shows.parent ∙ same ∙ is_id) in
      nothing_listed inode entries old all spelled (none_of_another inode entries next.first next.rest next.are (other_parent inode next.first other))

  children_are : view.children.now ≡ flat_map varint next.first.children
  children_are = ap (λ (v : DirView). v.children.now) is_view ∙ next.shows.children

  pub listed_without_children : length view.children.now ≡ 0 → IsListed [] old (listing inode entries)
  listed_without_children none =
      let empty = ids_none next.first.children (sym (ap length children_are) ∙ none) in
      nothing_listed inode entries old all spelled (none_of_another inode entries next.first next.rest next.are (nobodys_entry inode next.first (ap length empty)))

  pub listed_here : is_dir inode.kind ≡ true → view.parent ≡ id → length view.children.now ≢ 0 → IsListed view.children.now new (listing inode entries)
  listed_here dir parent some =
      let same : next.first.parent ≡ inode.id = sym next.shows.parent ∙ ap (λ (v : DirView). v.parent) (sym is_view) ∙ parent ∙ sym is_id in
      let any : length next.first.children ≢ 0 = λ none. some (ap length children_are ∙ no_bytes next.first.children none) in
      subst (IsListed view.children.now new) (sym (all_of_its_own inode entries next.first next.rest next.are (own_entry inode next.first dir same any)))
      (record { ids = next.range.children; children = children_are; entries = next.others; rest = next.left })
    where
      no_bytes : (ids : List ℕ) → length ids ≡ 0 → length (flat_map varint ids) ≡ 0
      no_bytes [] none = refl
      no_bytes (id ∷ ids) none = absurd (omega arith)
