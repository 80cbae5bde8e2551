-- Owners and groups of the nodes put so far, and the messages that they were read from.
use Rattle.std.proofs.Common.{◌≡◌, ℕ, ◌≤◌, List, [], ◌∷◌, ◌++◌, take, length, map, Option, Some, None, refl, sym, ap, subst, ◌∙◌, arith}
use Rattle.std.specs.Prelude.{All, slice_get, option_and_then, option_map}
use Rattle.std.specs.List.{flat_map, IsDistinct}
use Rattle.std.specs.Str.{bytes_eq}
use Rattle.std.specs.FinMap.{entries, get-entries}
use Rattle.std.proofs.lemmas.Option.{none-some, same_Some, option_and_then_some, slice_get_within, get_or_from_slice_get}
use Rattle.std.proofs.lemmas.List.{map_push}
use Rattle.std.proofs.lemmas.List.Concat.{flat_map-append}
use Rattle.std.proofs.lemmas.List.Elements.{All-push, All-nil}
use Rattle.std.proofs.lemmas.List.Sums.{fold-append}
use Rattle.nn_base.specs.Labels.{IsLabel}
use Rattle.nn_base.specs.Paths.{Bytes, Names}
use Rattle.nn_strtab.specs.Numbers.{with_use, first_uses}
use Rattle.nn_tree.specs.declared.node.Node.{Node}
use Rattle.nn_tree.specs.Spots.{last_name}
use Rattle.nn_tree.specs.Namespace.{Nodes}
use Rattle.nn_tree.proofs.LinksLemmas.{paths_total, paths_exact}
use Rattle.nn_tree.proofs.SortedLemmas.{found_at}
use Rattle.nn_message.specs.declared.message.Attributes.{Attributes}
use Rattle.nn_message.specs.Messages.{Inode}
use Rattle.nn_image.specs.Image.{labels, attributes_of, inode_of}
use Rattle.nn_image.specs.Imaged.{AreLabelled}
use Rattle.nn_image.specs.Assembly.{Owned, use_name, use_group, use_names, node_of}
use Rattle.nn_image.proofs.UsedLemmas.{Uses, use_so, use_back, next_use}

-- ---- an owner and a group

pub record Owns (table : List Bytes) (used : ℕ) (a : Attributes) (owned : Owned) : Type 0 where
  pub middle : ℕ
  pub owner : Uses table used a.owner owned.owner middle
  pub group : Uses table middle a.group owned.group owned.used

abbrev of_group : Bytes → Bytes × ℕ → Owned
of_group owner group = record { owner = owner; group = group.0; used = group.1 }

group_so : (table : List Bytes) → IsDistinct bytes_eq table → (used : ℕ) (a : Attributes) (owned : Owned) (owner : Bytes × ℕ) → used ≤ length table → use_name table used a.owner ≡ Some owner → use_group table a owner ≡ Some owned → Owns table used a owned
unfolding use_group
group_so table once used a owned owner few first is = by (use_name table owner.1 a.group) refl is
  where
    first_use : Uses table used a.owner owner.0 owner.1
    first_use = use_so table once used a.owner owner.0 owner.1 few first

    by : (o : Option (Bytes × ℕ)) → use_name table owner.1 a.group ≡ o → option_map (of_group owner.0) o ≡ Some owned → Owns table used a owned
    by None second is = absurd (none-some owned is)
    by (Some group) second is = subst (Owns table used a) (same_Some (of_group owner.0 group) owned is) (record {
      middle = owner.1;
      owner = first_use;
      group = use_so table once owner.1 a.group group.0 group.1 first_use.few second;
    })

pub owns_so : (table : List Bytes) → IsDistinct bytes_eq table → (used : ℕ) (a : Attributes) (owned : Owned) → used ≤ length table → use_names table used a ≡ Some owned → Owns table used a owned
unfolding use_names
owns_so table once used a owned few is = option_and_then_some (use_group table a) (use_name table used a.owner) owned is (λ owner first second. group_so table once used a owned owner few first second)

-- the names of a node are used where the table goes on with them
pub owns_back : (table : List Bytes) → IsDistinct bytes_eq table → (used : ℕ) (node : Node) (more : List Bytes) → used ≤ length table → table ≡ with_use (with_use (take used table) node.owner) node.group ++ more
    → ((rest : List Bytes) × (table ≡ with_use (take used table) node.owner ++ rest))
    → (after : ℕ) × (use_names table used (attributes_of table node) ≡ Some (record { owner = node.owner; group = node.group; used = after }))
unfolding use_names use_group attributes_of
owns_back table once used node more few both first =
    let k = next_use table used node.owner first.0 first.1 in
    let one = use_back table once used k.0 node.owner few k.2 k.1 in
    let j = next_use table one.0 node.group more (both ∙ ap (λ names. with_use names node.group ++ more) (sym one.2.names)) in
    let two = use_back table once one.0 j.0 node.group one.2.few j.2 j.1 in (
      two.0,
      ap (option_and_then (use_group table (attributes_of table node))) one.1
          ∙ ap (option_map (of_group node.owner)) two.1,
    )

-- ---- all nodes put so far

abbrev pub IsListedName : List Bytes → Bytes → Type 0
IsListedName table name = (k : ℕ) × (slice_get table k ≡ Some name)

abbrev pub HasListedNames : List Bytes → Names × Node → Type 0
HasListedNames table e = IsListedName table e.1.owner × IsListedName table e.1.group

-- they were read from these messages, and used just these names of the table
pub record AreRead (table : List Bytes) (used : ℕ) (es : List (Names × Node)) (inodes : List Inode) : Type 0 where
  pub few : used ≤ length table
  pub names : take used table ≡ first_uses (flat_map labels es)
  pub messages : map (inode_of table) es ≡ inodes
  pub listed : All (HasListedNames table) es

take_none : (table : List Bytes) → take 0 table ≡ []
take_none [] = refl
take_none (x ∷ table) = refl

pub none_read : (table : List Bytes) → AreRead table 0 [] []
none_read table = record { few = omega arith; names = take_none table; messages = refl; listed = All-nil (HasListedNames table) }

pub one_inode : (table : List Bytes) (used : ℕ) (inode : Inode) (owned : Owned) (path : Names) → last_name path ≡ inode.name → Owns table used inode.attributes owned → inode_of table (path, node_of owned inode) ≡ inode
unfolding inode_of attributes_of node_of
one_inode table used inode owned path name owns = λ i. record {
  id = inode.id;
  name = name i;
  attributes = record { time = inode.attributes.time; owner = sym owns.owner.number_is i; group = sym owns.group.number_is i; mode = inode.attributes.mode };
  kind = inode.kind;
}

-- the names after one node more
pub names_more : (es : List (Names × Node)) (e : Names × Node) → first_uses (flat_map labels (es ++ e ∷ [])) ≡ with_use (with_use (first_uses (flat_map labels es)) e.1.owner) e.1.group
names_more es e = ap first_uses (flat_map-append labels es (e ∷ [])) ∙ fold-append with_use [] (flat_map labels es) (labels e ++ [])

pub one_read : (table : List Bytes) (used : ℕ) (es : List (Names × Node)) (inodes : List Inode) (inode : Inode) (owned : Owned) (path : Names) → AreRead table used es inodes → last_name path ≡ inode.name → Owns table used inode.attributes owned
    → AreRead table owned.used (es ++ (path, node_of owned inode) ∷ []) (inodes ++ inode ∷ [])
unfolding node_of
one_read table used es inodes inode owned path all name owns =
    let node = node_of owned inode in
    let owner = owns.owner in
    let group = owns.group in
    record {
      few = group.few;
      names =
          group.names ∙ ap (λ n. with_use n owned.group) (owner.names ∙ ap (λ n. with_use n owned.owner) all.names)
          ∙ sym (names_more es (path, node));
      messages = map_push (inode_of table) es (path, node) ∙ (λ i. all.messages i ++ one_inode table used inode owned path name owns i ∷ []);
      listed = All-push (HasListedNames table) es (path, node) all.listed ((owner.place, owner.at), (group.place, group.at));
    }

-- so owners and groups are as long as the texts of the table
pub labelled : (table : List Bytes) (m : Nodes) → All IsLabel table → All (HasListedNames table) (entries m) → AreLabelled m
labelled table m short all p node there =
    let at = found_at paths_total paths_exact p node (entries m) (sym (get-entries m p) ∙ there) in
    let within = slice_get_within (entries m) at.0 (p, node) at.1 in
    let names = subst (HasListedNames table) (get_or_from_slice_get (entries m) at.0 (p, node) (p, node) at.1) (all at.0 (p, node) within) in
    (label node.owner names.0, label node.group names.1)
  where
    label : (name : Bytes) → IsListedName table name → IsLabel name
    label name h = subst IsLabel (get_or_from_slice_get table h.0 name name h.1) (short h.0 name (slice_get_within table h.0 name h.1))
