-- Each message that is spelled is read again, and nothing else is read as one.
use Rattle.std.proofs.Common.{◌≡◌, ℕ, ◌+◌, ◌*◌, ◌^◌, ◌<◌, ◌≤◌, Bool, true, false, ◌&&◌, ltb, leb, ◌++◌, length, refl, append_assoc, arith, length-append}
use Rattle.std.proofs.lemmas.Bool.{lt-ltb, ltb-true, le-leb, leb-true}
use Rattle.nn_base.specs.Labels.{IsLabel}
use Rattle.nn_base.specs.Limits.{most_label, most_nodes, most_block_length, IsLong}
use Rattle.nn_base.specs.Paths.{Bytes}
use Rattle.nn_wire.specs.Varint.{varint, spelled_within}
use Rattle.nn_wire.specs.Field.{varint_field, bytes_field}
use Rattle.nn_wire.proofs.SpellingLemmas.{varint_some}
use Rattle.nn_tree.specs.declared.node.Block.{Block}
use Rattle.nn_tree.specs.Limits.{IsBlock}
use Rattle.nn_message.specs.Messages.{IsVarintNumber, IsNamespaceId, NsInfo, IsNsInfo, Text, IsText}
use Rattle.nn_message.specs.Spelling.{delimited, ns_info, strings, string, inodes, block}
use Rattle.nn_message.specs.Reading.{Reader, Spells, Anywhere, only, number_at, varint_field_at, bytes_field_at, inside, has_key, is_some_byte}
use Rattle.nn_message.specs.MessageReading.{is_long, long_at, namespace_at, ns_info_at, info_section_at, strings_at, label_at, string_at, count_at, inodes_at, block_length_at, block_at, block_field_at, child_at}
use Rattle.nn_message.specs.Views.{AreInodes}
use Rattle.nn_message.proofs.SpellsLemmas.{Spells-then, Spells-mapped, Spells-only, Spells-same}
use Rattle.nn_message.proofs.NumberLemmas.{Spells-number}
use Rattle.nn_message.proofs.ManyLemmas.{Repeats}
use Rattle.nn_message.proofs.TakesLemmas.{delimited_some}
use Rattle.nn_message.proofs.FieldLemmas.{Spells-varint_field, Spells-bytes_field, Spells-inside, Spells-field_with}

-- ---- tests

pub both_is : (a b : Bool) → (a && b) ≡ true → (a ≡ true) × (b ≡ true)
both_is true b e = (refl, e)
both_is false b e = absurd cc

pub is_both : (a b : Bool) → a ≡ true → b ≡ true → (a && b) ≡ true
is_both a b e f = rw (e, f) refl

-- a number of a field, restricted by a test that says P
pub Spells-tested : (number : ℕ) (is : ℕ → Bool) (P : ℕ → Type 0) → 8 * number < 2 ^ 64 → ((n : ℕ) → is n ≡ true → P n) → ((n : ℕ) → P n → (is n ≡ true) × (n < 2 ^ 64))
    → Spells (only is (varint_field_at number)) (varint_field number) P Anywhere
Spells-tested number is P small says holds =
    Spells-same (only is (varint_field_at number)) (varint_field number) (varint_field number) (λ n. IsVarintNumber n × (is n ≡ true)) P Anywhere Anywhere
    (λ n h. refl) (λ n h. says n h.1) (λ n h. ((holds n h).1, (holds n h).0)) (λ rest h. h)
    (Spells-only is (varint_field_at number) (varint_field number) IsVarintNumber Anywhere (Spells-varint_field number small))

pub Spells-long : (number : ℕ) → 8 * number < 2 ^ 64 → Spells (long_at number) (varint_field number) IsLong Anywhere
unfolding long_at
Spells-long number small = Spells-tested number is_long IsLong small (λ n h. ltb-true n (2 ^ 63) h) (λ n h. (lt-ltb n (2 ^ 63) h, omega arith))

-- ---- NS_INFO

Spells-namespace : Spells namespace_at (varint_field 1) IsNamespaceId Anywhere
unfolding namespace_at
Spells-namespace = Spells-tested 1 (λ n. leb 1 n && leb n 2147483647) IsNamespaceId (omega arith)
    (λ n h. let p = both_is _ _ h in (leb-true 1 n p.0, leb-true n 2147483647 p.1))
    (λ n h. (is_both _ _ (le-leb 1 n h.0) (le-leb n 2147483647 h.1), omega arith))

pub Spells-ns_info : Spells ns_info_at ns_info IsNsInfo Anywhere
unfolding ns_info_at ns_info
Spells-ns_info =
    let three = Spells-then (long_at 5) (long_at 6) (varint_field 5) (varint_field 6) IsLong IsLong Anywhere Anywhere (Spells-long 5 (omega arith)) (Spells-long 6 (omega arith)) (λ y rest h k. tt) in
    let two = Spells-then (long_at 3) _ (varint_field 3) _ IsLong _ Anywhere Anywhere (Spells-long 3 (omega arith)) three (λ y rest h k. tt) in
    let one = Spells-then namespace_at _ (varint_field 1) _ IsNamespaceId _ Anywhere Anywhere Spells-namespace two (λ y rest h k. tt) in
    let all = Spells-mapped (λ (x : ℕ × (ℕ × (ℕ × ℕ))). let info : NsInfo = record { namespace = x.0; stamp = x.1.0; block = x.1.1.0; txid = x.1.1.1 } in info) (λ i. (i.namespace, (i.stamp, (i.block, i.txid)))) _ _ _ Anywhere (λ x h. refl) (λ i. refl) one in
    Spells-same ns_info_at _ ns_info _ IsNsInfo Anywhere Anywhere
    (λ i h. simp append_assoc refl)
    (λ i h. record { namespace = h.0; stamp = h.1.0; block = h.1.1.0; txid = h.1.1.1 })
    (λ i h. (h.namespace, (h.stamp, (h.block, h.txid))))
    (λ rest h. h) all

pub Spells-info_section : Spells info_section_at (λ i. delimited (ns_info i)) IsNsInfo Anywhere
unfolding info_section_at
Spells-info_section = Spells-inside ns_info_at ns_info IsNsInfo Anywhere tt Spells-ns_info

-- ---- children

pub Spells-child : Spells child_at varint IsLong Anywhere
unfolding child_at
Spells-child =
    Spells-same child_at varint varint (λ n. IsVarintNumber n × (is_long n ≡ true)) IsLong Anywhere Anywhere (λ n h. refl) (λ n h. ltb-true n (2 ^ 63) h.1) (λ n h. (omega arith, lt-ltb n (2 ^ 63) h)) (λ rest h. h)
    (Spells-only is_long number_at varint IsVarintNumber Anywhere Spells-number)

-- ---- STRING_TABLE

pub Spells-strings : Spells strings_at strings IsVarintNumber Anywhere
unfolding strings_at strings
Spells-strings = Spells-varint_field 1 (omega arith)

Spells-label : Spells label_at (bytes_field 2) IsLabel Anywhere
unfolding label_at
Spells-label =
    Spells-same (only (λ text. leb 1 (length text) && leb (length text) most_label) (bytes_field_at 2)) (bytes_field 2) (bytes_field 2) (λ text. Unit {0} × ((leb 1 (length text) && leb (length text) most_label) ≡ true)) IsLabel Anywhere Anywhere
    (λ text h. refl)
    (λ text h. let p = both_is _ _ h.1 in (leb-true 1 (length text) p.0, leb-true (length text) most_label p.1))
    (λ text h. (tt, is_both _ _ (le-leb 1 (length text) h.0) (le-leb (length text) most_label h.1)))
    (λ rest h. h)
    (Spells-only _ (bytes_field_at 2) (bytes_field 2) (λ content. Unit {0}) Anywhere (Spells-bytes_field 2 (omega arith)))

pub Spells-string : Spells string_at string IsText Anywhere
unfolding string_at string
Spells-string =
    let one = Spells-then (varint_field_at 1) label_at (varint_field 1) (bytes_field 2) IsVarintNumber IsLabel Anywhere Anywhere (Spells-varint_field 1 (omega arith)) Spells-label (λ y rest h k. tt) in
    let all = Spells-mapped (λ (x : ℕ × Bytes). let text : Text = record { number = x.0; text = x.1 } in text) (λ t. (t.number, t.text)) _ _ _ Anywhere (λ x h. refl) (λ t. refl) one in
    Spells-same string_at _ string _ IsText Anywhere Anywhere (λ t h. refl) (λ t h. record { number = h.0; text = h.1 }) (λ t h. (h.number, h.text)) (λ rest h. h) all

-- ---- what INODE begins with

Spells-count : Spells count_at (varint_field 2) (λ n. n ≤ most_nodes) Anywhere
unfolding count_at
Spells-count = Spells-tested 2 (λ n. leb n most_nodes) (λ n. n ≤ most_nodes) (omega arith) (λ n h. leb-true n most_nodes h) (λ n h. (le-leb n most_nodes h, omega arith))

pub Spells-inodes : Spells inodes_at (λ x. inodes x.0 x.1) AreInodes Anywhere
unfolding inodes_at inodes
Spells-inodes = Spells-then (long_at 1) count_at (varint_field 1) (varint_field 2) IsLong (λ n. n ≤ most_nodes) Anywhere Anywhere (Spells-long 1 (omega arith)) Spells-count (λ y rest h k. tt)

-- ---- blocks

abbrev IsLength : ℕ → Type 0
IsLength n = (0 < n) × (n ≤ most_block_length)

Spells-length : Spells block_length_at (varint_field 3) IsLength Anywhere
unfolding block_length_at
Spells-length = Spells-tested 3 (λ n. ltb 0 n && leb n most_block_length) IsLength (omega arith)
    (λ n h. let p = both_is _ _ h in (ltb-true 0 n p.0, leb-true n most_block_length p.1))
    (λ n h. (is_both _ _ (lt-ltb 0 n h.0) (le-leb n most_block_length h.1), omega arith))

pub Spells-block : Spells block_at block IsBlock Anywhere
unfolding block_at block
Spells-block =
    let two = Spells-then (long_at 2) block_length_at (varint_field 2) (varint_field 3) IsLong IsLength Anywhere Anywhere (Spells-long 2 (omega arith)) Spells-length (λ y rest h k. tt) in
    let one = Spells-then (long_at 1) _ (varint_field 1) _ IsLong _ Anywhere Anywhere (Spells-long 1 (omega arith)) two (λ y rest h k. tt) in
    let all = Spells-mapped (λ (x : ℕ × (ℕ × ℕ)). let b : Block = record { id = x.0; stamp = x.1.0; length = x.1.1 } in b) (λ b. (b.id, (b.stamp, b.length))) _ _ _ Anywhere (λ x h. refl) (λ b. refl) one in
    Spells-same block_at _ block _ IsBlock Anywhere Anywhere
    (λ b h. simp append_assoc refl)
    (λ b h. record { id = h.0; stamp = h.1.0; some = h.1.1.0; few = h.1.1.1 })
    (λ b h. (h.id, (h.stamp, (h.some, h.few))))
    (λ rest h. h) all

pub Spells-block_field : Spells block_field_at (λ b. bytes_field 6 (block b)) IsBlock Anywhere
unfolding block_field_at
Spells-block_field = Spells-field_with 6 block_at block IsBlock Anywhere (omega arith) tt Spells-block

pub block_field_some : (b : Block) → 0 < length (bytes_field 6 (block b))
block_field_some b = omega (arith, length-append (varint (8 * 6 + 2)) (varint (length (block b)) ++ block b), varint_some (8 * 6 + 2))

-- ---- what repeats

pub Repeats-child : Repeats is_some_byte child_at varint IsLong
Repeats-child = record {
  spells = Spells-child;
  some = λ n is. varint_some n;
  shows = λ n rest is. lt-ltb 0 (length (varint n ++ rest)) (omega (arith, length-append (varint n) rest, varint_some n));
}

pub Repeats-block : Repeats (has_key 50) block_field_at (λ b. bytes_field 6 (block b)) IsBlock
unfolding varint spelled_within
Repeats-block = record { spells = Spells-block_field; some = λ b is. block_field_some b; shows = λ b rest is. refl }

-- messages in a section
pub Repeats-inside : {X : Type 0} (r : Reader X) (t : X → Bytes) (P : X → Type 0) → Spells r t P Anywhere → Repeats is_some_byte (inside r) (λ x. delimited (t x)) P
Repeats-inside r t P one = record {
  spells = Spells-inside r t P Anywhere tt one;
  some = λ x is. delimited_some (t x);
  shows = λ x rest is. lt-ltb 0 (length (delimited (t x) ++ rest)) (omega (arith, length-append (delimited (t x)) rest, delimited_some (t x)));
}
