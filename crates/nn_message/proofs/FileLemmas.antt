-- A file that is spelled is read again, and nothing else is read as one.
use Rattle.std.proofs.Common.{◌≡◌, ◌≢◌, ℕ, ◌+◌, ◌*◌, ◌^◌, ◌<◌, ◌≤◌, Bool, true, false, ◌&&◌, eqb, ltb, leb, List, [], ◌++◌, length, Option, Some, None, is_some, refl, sym, ap, subst, append_assoc, arith}
use Rattle.std.specs.Prelude.{IfSome}
use Rattle.std.specs.List.{flat_map, All}
use Rattle.std.proofs.lemmas.Bool.{lt-ltb, ltb-true, le-leb, leb-true, eq-eqb, eqb-true}
use Rattle.nn_base.specs.Limits.{most_blocks_of_file, most_replication, IsLong, most_mode}
use Rattle.nn_base.specs.Paths.{Bytes}
use Rattle.nn_wire.specs.Varint.{varint, spelled_within}
use Rattle.nn_wire.specs.Field.{varint_field, bytes_field}
use Rattle.nn_tree.specs.declared.node.Block.{Block}
use Rattle.nn_tree.specs.declared.node.Kind.{Kind}
use Rattle.nn_tree.specs.declared.node.Kind.TheVariants.{File, Dir}
use Rattle.nn_tree.specs.Nodes.{quota_of}
use Rattle.nn_tree.specs.Limits.{IsBlock, IsKind}
use Rattle.nn_message.specs.declared.message.Attributes.{Attributes}
use Rattle.nn_message.specs.Messages.{IsVarintNumber, AreAttributes}
use Rattle.nn_message.specs.Spelling.{block, access, blocks_field, open_field, file, directory, kind_number}
use Rattle.nn_message.specs.Reading.{Spells, Anywhere, ◌then◌, only, varint_field_at, has_key, maybe, many}
use Rattle.nn_message.specs.MessageReading.{long_at, block_field_at, blocks_at, mode_at, access_at, attributes_with, open_at, replication_at, file_at}
use Rattle.nn_message.proofs.SpellsLemmas.{Spells-then, Spells-mapped, Spells-into, Spells-only, Spells-same}
use Rattle.nn_message.proofs.FieldLemmas.{Spells-varint_field, Spells-maybe, text_or_none}
use Rattle.nn_message.proofs.ManyLemmas.{Spells-many}
use Rattle.nn_message.proofs.MessageLemmas.{both_is, is_both, Spells-tested, Spells-long, Repeats-block}

-- ---- blocks

abbrev AreBlocks : List Block → Type 0
AreBlocks blocks = All IsBlock blocks × (length blocks ≤ most_blocks_of_file)

pub Spells-blocks : Spells blocks_at blocks_field AreBlocks (λ rest. has_key 50 rest ≡ false)
unfolding blocks_at blocks_field
Spells-blocks =
    Spells-same (only (λ blocks. leb (length blocks) most_blocks_of_file) (many (has_key 50) block_field_at)) (flat_map (λ b. bytes_field 6 (block b))) (flat_map (λ b. bytes_field 6 (block b)))
    (λ blocks. All IsBlock blocks × (leb (length blocks) most_blocks_of_file ≡ true)) AreBlocks (λ rest. has_key 50 rest ≡ false) (λ rest. has_key 50 rest ≡ false)
    (λ blocks h. refl) (λ blocks h. (h.0, leb-true (length blocks) most_blocks_of_file h.1)) (λ blocks h. (h.0, le-leb (length blocks) most_blocks_of_file h.1)) (λ rest h. h)
    (Spells-only (λ (blocks : List Block). leb (length blocks) most_blocks_of_file) (many (has_key 50) block_field_at) (flat_map (λ b. bytes_field 6 (block b))) (All IsBlock) (λ rest. has_key 50 rest ≡ false)
    (Spells-many (has_key 50) block_field_at (λ b. bytes_field 6 (block b)) IsBlock Repeats-block))

-- ---- owner, group and mode

abbrev pub IsMode : ℕ → Type 0
IsMode n = n ≤ most_mode

Spells-mode : (number : ℕ) → 8 * number < 2 ^ 64 → Spells (mode_at number) (varint_field number) IsMode Anywhere
unfolding mode_at
Spells-mode number small = Spells-tested number (λ n. leb n most_mode) IsMode small (λ n h. leb-true n most_mode h) (λ n h. (le-leb n most_mode h, omega arith))

abbrev pub IsAccess : ℕ × (ℕ × ℕ) → Type 0
IsAccess x = IsVarintNumber x.0 × (IsVarintNumber x.1.0 × IsMode x.1.1)

abbrev pub access_text : ℕ → ℕ × (ℕ × ℕ) → Bytes
access_text first x = varint_field first x.0 ++ (varint_field (first + 1) x.1.0 ++ varint_field (first + 2) x.1.1)

pub Spells-access : (first : ℕ) → first < 2 ^ 29 → Spells (access_at first) (access_text first) IsAccess Anywhere
unfolding access_at
Spells-access first small =
    let two = Spells-then (varint_field_at (first + 1)) (mode_at (first + 2)) (varint_field (first + 1)) (varint_field (first + 2)) IsVarintNumber IsMode Anywhere Anywhere (Spells-varint_field (first + 1) (omega arith)) (Spells-mode (first + 2) (omega arith)) (λ y rest h k. tt) in
    Spells-then (varint_field_at first) _ (varint_field first) _ IsVarintNumber _ Anywhere Anywhere (Spells-varint_field first (omega arith)) two (λ y rest h k. tt)

-- ---- the mark of an open file

abbrev pub AtEnd : Bytes → Type 0
AtEnd rest = rest ≡ []

mark_of : Bool → Option ℕ
mark_of true = Some 1
mark_of false = None

abbrev IsMark : Option ℕ → Type 0
IsMark mark = IfSome mark (λ n. n ≡ 1)

mark_back : (mark : Option ℕ) → IsMark mark → mark_of (is_some mark) ≡ mark
unfolding mark_of
mark_back None is = refl
mark_back (Some n) is = ap (λ m. Some m) (sym is)

mark_there : (b : Bool) → is_some (mark_of b) ≡ b
unfolding mark_of
mark_there true = refl
mark_there false = refl

mark_text : (b : Bool) → text_or_none (varint_field 7) (mark_of b) ≡ open_field b
unfolding mark_of open_field
mark_text true = refl
mark_text false = refl

mark_is : (b : Bool) → IsMark (mark_of b)
unfolding mark_of
mark_is true = refl
mark_is false = tt

Spells-one : Spells (only (λ n. eqb n 1) (varint_field_at 7)) (varint_field 7) (λ n. n ≡ 1) Anywhere
Spells-one = Spells-tested 7 (λ n. eqb n 1) (λ n. n ≡ 1) (omega arith) (λ n h. eqb-true n 1 h) (λ n h. (eq-eqb n 1 h, omega arith))

mark_key : (n : ℕ) (rest : Bytes) → has_key 56 (varint_field 7 n ++ rest) ≡ true
unfolding varint spelled_within
mark_key n rest = refl

Spells-open : Spells open_at open_field (λ b. Unit {0}) AtEnd
unfolding open_at
Spells-open =
    let r = only (λ n. eqb n 1) (varint_field_at 7) in
    let one = Spells-maybe 56 r (varint_field 7) (λ n. n ≡ 1) Anywhere Spells-one mark_key in
    let all = Spells-mapped (λ (mark : Option ℕ). is_some mark) mark_of (maybe 56 r) (text_or_none (varint_field 7)) IsMark _ mark_back mark_there one in
    Spells-same open_at _ open_field _ (λ b. Unit {0}) _ AtEnd (λ b h. mark_text b) (λ b h. tt) (λ b h. mark_is b) (λ rest e. (tt, ap (has_key 56) e)) all

-- ---- a node by its kind and its attributes

abbrev pub Body : Type 0
Body = Kind × Attributes

pub record AreBody (x : Kind × Attributes) : Type 0 where
  pub kind : IsKind x.0
  pub attributes : AreAttributes x.1
  pub some : (quota_of x.0).names ≢ Some 0

abbrev pub body_text : Body → Bytes
body_text (File replication is_open blocks, a) = file replication is_open blocks a
body_text (Dir quota, a) = directory quota a

-- ---- a file

abbrev IsReplication : ℕ → Type 0
IsReplication n = (0 < n) × (n ≤ most_replication)

Spells-replication : Spells replication_at (varint_field 1) IsReplication Anywhere
unfolding replication_at
Spells-replication = Spells-tested 1 (λ n. ltb 0 n && leb n most_replication) IsReplication (omega arith)
    (λ n h. let p = both_is _ _ h in (ltb-true 0 n p.0, leb-true n most_replication p.1))
    (λ n h. (is_both _ _ (lt-ltb 0 n h.0) (le-leb n most_replication h.1), omega arith))

abbrev FileParts : Type 0
FileParts = ℕ × (ℕ × ((ℕ × (ℕ × ℕ)) × (List Block × Bool)))

abbrev AreFileParts : FileParts → Type 0
AreFileParts x = IsReplication x.0 × (IsLong x.1.0 × (IsAccess x.1.1.0 × (AreBlocks x.1.1.1.0 × Unit {0})))

abbrev file_parts_text : FileParts → Bytes
file_parts_text x = varint_field 1 x.0 ++ (varint_field 2 x.1.0 ++ (access_text 3 x.1.1.0 ++ (blocks_field x.1.1.1.0 ++ open_field x.1.1.1.1)))

open_no_block : (b : Bool) (rest : Bytes) → AtEnd rest → has_key 50 (open_field b ++ rest) ≡ false
unfolding open_field varint spelled_within
open_no_block true rest end = refl
open_no_block false rest end = ap (has_key 50) end

Spells-file_parts : Spells (replication_at then long_at 2 then access_at 3 then blocks_at then open_at) file_parts_text AreFileParts AtEnd
Spells-file_parts =
    let four = Spells-then blocks_at open_at blocks_field open_field AreBlocks (λ b. Unit {0}) (λ rest. has_key 50 rest ≡ false) AtEnd Spells-blocks Spells-open (λ b rest h end. open_no_block b rest end) in
    let three = Spells-then (access_at 3) _ (access_text 3) _ IsAccess _ Anywhere AtEnd (Spells-access 3 (omega arith)) four (λ y rest h k. tt) in
    let two = Spells-then (long_at 2) _ (varint_field 2) _ IsLong _ Anywhere AtEnd (Spells-long 2 (omega arith)) three (λ y rest h k. tt) in
    Spells-then replication_at _ (varint_field 1) _ IsReplication _ Anywhere AtEnd Spells-replication two (λ y rest h k. tt)

abbrev pub access_of : Attributes → ℕ × (ℕ × ℕ)
access_of a = (a.owner, (a.group, a.mode))

file_parts_of : Body → FileParts
file_parts_of (File replication is_open blocks, a) = (replication, (a.time, (access_of a, (blocks, is_open))))
file_parts_of (Dir quota, a) = (0, (0, (access_of a, ([], false))))

abbrev file_with : FileParts → Body
file_with x = (File x.0 x.1.1.1.1 x.1.1.1.0, attributes_with x.1.0 x.1.1.0)

abbrev pub IsFileBody : Body → Type 0
IsFileBody x = kind_number x.0 ≡ 1

file_there : (y : Body) → IsFileBody y → file_with (file_parts_of y) ≡ y
unfolding file_parts_of
file_there (File replication is_open blocks, a) is = refl
file_there (Dir quota, a) is = absurd (omega arith)

file_text : (y : Body) → IsFileBody y → file_parts_text (file_parts_of y) ≡ body_text y
unfolding file_parts_of file access
file_text (File replication is_open blocks, a) is = simp append_assoc refl
file_text (Dir quota, a) is = absurd (omega arith)

file_is_body : (y : Body) → IsFileBody y → AreFileParts (file_parts_of y) → AreBody y
unfolding file_parts_of
file_is_body (File replication is_open blocks, a) is h = record {
  kind = record {
    replicated = λ r e. let same : replication ≡ r = cc in subst (λ n. (0 < n) × (n ≤ most_replication)) same h.0;
    few = h.1.1.1.0.1;
    blocks = h.1.1.1.0.0;
    names = λ n e. absurd (let f : None ≡ Some n = e in cc);
    space = λ n e. absurd (let f : None ≡ Some n = e in cc);
  };
  attributes = record { time = h.1.0; owner = h.1.1.0.0; group = h.1.1.0.1.0; mode = h.1.1.0.1.1 };
  some = λ e. let f : None ≡ Some 0 = e in cc;
}
file_is_body (Dir quota, a) is h = absurd (omega arith)

body_is_file : (y : Body) → IsFileBody y → AreBody y → AreFileParts (file_parts_of y)
unfolding file_parts_of
body_is_file (File replication is_open blocks, a) is h =
    (h.kind.replicated replication refl, (h.attributes.time, ((h.attributes.owner, (h.attributes.group, h.attributes.mode)), ((h.kind.blocks, h.kind.few), tt))))
body_is_file (Dir quota, a) is h = absurd (omega arith)

pub Spells-file : Spells file_at body_text (λ y. AreBody y × IsFileBody y) AtEnd
unfolding file_at
Spells-file =
    let made = Spells-into file_with file_parts_of (replication_at then long_at 2 then access_at 3 then blocks_at then open_at) file_parts_text AreFileParts IsFileBody AtEnd (λ x h. file_back x) (λ x h. refl) file_there Spells-file_parts in
    Spells-same file_at (λ y. file_parts_text (file_parts_of y)) body_text (λ y. AreFileParts (file_parts_of y) × IsFileBody y) (λ y. AreBody y × IsFileBody y) AtEnd AtEnd
    (λ y h. file_text y h.1) (λ y h. (file_is_body y h.1 h.0, h.1)) (λ y h. (body_is_file y h.1 h.0, h.1)) (λ rest h. h) made
  where
    file_back : (x : FileParts) → file_parts_of (file_with x) ≡ x
    file_back x = unfold file_parts_of in refl
