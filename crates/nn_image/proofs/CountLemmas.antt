-- Messages one after the other are counted by their lengths: what is behind the first, and how many are left. The blocks of nodes are counted one node after the other.
use Rattle.std.proofs.Common.{◌≡◌, ℕ, ◌+◌, ◌^◌, ◌<◌, List, [], ◌∷◌, ◌++◌, length, map, drop, Option, Some, sym, ap, subst, ◌∙◌, append_assoc, length-append, arith}
use Rattle.std.specs.Prelude.{All}
use Rattle.std.specs.List.{flat_map}
use Rattle.std.proofs.lemmas.Option.{same_Some}
use Rattle.std.proofs.lemmas.List.{drop_at, length-map}
use Rattle.nn_base.specs.Paths.{Bytes}
use Rattle.nn_wire.specs.Varint.{varint, Begins}
use Rattle.nn_tree.specs.declared.node.Kind.{Kind}
use Rattle.nn_tree.specs.Nodes.{blocks_of}
use Rattle.nn_tree.specs.Limits.{IsBlock}
use Rattle.nn_message.specs.declared.view.InodeView.{InodeView}
use Rattle.nn_message.specs.Messages.{Inode, IsInode}
use Rattle.nn_message.specs.Reading.{Takes}
use Rattle.nn_message.specs.Spelling.{delimited, inode}
use Rattle.nn_message.specs.Views.{IsKindView, IsInodeView}
use Rattle.nn_image.specs.Building.{inodes_text, blocks_among}
use Rattle.nn_image.proofs.ListsLemmas.{flat_map-map}
use Rattle.nn_image.proofs.TakingLemmas.{takes_first}

-- ---- the first message

-- its length stands in front of it
pub begins : (bytes message after : Bytes) → length bytes < 2 ^ 64 → bytes ≡ delimited message ++ after → Begins bytes (length message) (message ++ after)
unfolding delimited
begins bytes message after short e =
    let text : bytes ≡ varint (length message) ++ (message ++ after) = e ∙ append_assoc (varint (length message)) message after in
    record { small = omega (arith, short, ap length text, length-append (varint (length message)) (message ++ after), length-append message after); text = text }

-- what was read of that length, and what is behind it
pub begins_with : (bytes message after : Bytes) (len size : ℕ) → Begins bytes (length message) (message ++ after) → ◌≡◌ {A = ℕ × ℕ} (len, size) (length message, length (varint (length message))) → (len ≡ length message) × (drop size bytes ≡ message ++ after)
begins_with bytes message after len size first same =
    let at = ap (λ (x : ℕ × ℕ). x.1) same in
    (ap (λ (x : ℕ × ℕ). x.0) same, ap (drop size) first.text ∙ drop_at (varint (length message)) (message ++ after) size (sym at))

-- ---- how many are left

-- So many were counted, and these are to come.
pub record AreLeft (messages : List Bytes) (count : ℕ) (rest : Bytes) : Type 0 where
  pub ahead : List Bytes
  pub are : rest ≡ flat_map delimited ahead
  pub all : count + length ahead ≡ length messages

pub none_counted : (messages : List Bytes) (bytes : Bytes) → bytes ≡ flat_map delimited messages → AreLeft messages 0 bytes
none_counted messages bytes e = record { ahead = messages; are = e; all = omega arith }

pub one_counted : (messages : List Bytes) (count : ℕ) (rest behind : Bytes) → ((message after : Bytes) → rest ≡ delimited message ++ after → behind ≡ after) → length behind < length rest → AreLeft messages count rest → AreLeft messages (count + 1) behind
one_counted messages count rest behind first shorter left = by left.ahead left.are left.all
  where
    by : (ahead : List Bytes) → rest ≡ flat_map delimited ahead → count + length ahead ≡ length messages → AreLeft messages (count + 1) behind
    by [] are all = absurd (omega (arith, shorter, ap length are))
    by (message ∷ ahead) are all = record { ahead = ahead; are = first message (flat_map delimited ahead) are; all = omega (arith, all) }

pub all_counted : (messages : List Bytes) (count : ℕ) (rest : Bytes) → ((message after : Bytes) → rest ≡ delimited message ++ after → ⊥) → AreLeft messages count rest → count ≡ length messages
all_counted messages count rest none left = by left.ahead left.are left.all
  where
    by : (ahead : List Bytes) → rest ≡ flat_map delimited ahead → count + length ahead ≡ length messages → count ≡ length messages
    by [] are all = omega (arith, all)
    by (message ∷ ahead) are all = absurd (none message (flat_map delimited ahead) are)

-- ---- messages of one kind

pub counted_as : {X : Type 0} (text : X → Bytes) (xs : List X) (bytes : Bytes) (count : ℕ) → ((messages : List Bytes) → bytes ≡ flat_map delimited messages → count ≡ length messages) → bytes ≡ flat_map (λ x. delimited (text x)) xs → count ≡ length xs
counted_as text xs bytes count counts is = counts (map text xs) (is ∙ sym (flat_map-map delimited text xs)) ∙ length-map xs text

-- ---- blocks

-- once a node was taken, the nodes to come, and that they and it have all blocks
pub next_blocks : (ahead : List Inode) (result : Option InodeView) (view : InodeView) (blocks : ℕ) (old new : Bytes) → All IsInode ahead → old ≡ inodes_text ahead → length new < length old
    → result ≡ Some view → Takes IsInodeView IsInode (λ i. delimited (inode i)) result old new → ((kind : Kind) → All IsBlock (blocks_of kind) → IsKindView view.kind kind → blocks ≡ length (blocks_of kind))
    → (rest : List Inode) × All IsInode rest × (new ≡ inodes_text rest) × (length (blocks_among ahead) ≡ blocks + length (blocks_among rest))
next_blocks ahead result view blocks old new ranges spelled shorter is takes counts =
    let next = takes_first IsInodeView IsInode (λ i. delimited (inode i)) ahead result old new ranges spelled (λ none. absurd (omega (arith, none, shorter))) takes in
    let shows = subst (λ (v : InodeView). IsInodeView v next.first) (same_Some _ _ (sym next.is ∙ is)) next.shows in
    let first = counts next.first.kind next.range.kind.blocks shows.kind in
    let are = ap (λ is. length (blocks_among is)) next.are in
    let sum = length-append (blocks_of next.first.kind) (blocks_among next.rest) in
    (next.rest, next.others, next.left, omega (arith, first, are, sum))
