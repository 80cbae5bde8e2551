use Rattle.std.proofs.Common.{◌≡◌, ℕ, List, length, true, Some, eqb, refl, sym, ◌∙◌}
use Rattle.std.specs.List.{flat_map, All}
use Rattle.nn_base.specs.Limits.{IsLong}
use Rattle.nn_base.specs.Paths.{Bytes}
use Rattle.nn_base.proofs.PlainLemmas.{some_of}
use Rattle.nn_wire.specs.Varint.{varint}
use Rattle.nn_message.specs.Messages.{DirEntry}
use Rattle.nn_message.specs.Reading.{bytes_field_at, whole}
use Rattle.nn_message.specs.MessageReading.{long_at, children_at, dir_entry_at}
use Rattle.nn_message.proofs.SpellsLemmas.{whole_exact}
use Rattle.nn_message.proofs.SpelledContentLemmas.{NoneLeft, Spells-children}
use Rattle.nn_message.proofs.reading.directory.read_dir_entry.Goals as goal

entry_read : (message after_parent content rest : Bytes) (parent : ℕ) (children : List ℕ) → long_at 1 message ≡ Some (parent, after_parent) → bytes_field_at 2 after_parent ≡ Some (content, rest)
    → whole children_at content ≡ Some children → eqb (length rest) 0 ≡ true → whole dir_entry_at message ≡ Some (record { parent = parent; children = children })
unfolding dir_entry_at
entry_read message after_parent content rest parent children e f g end = rw (e, f, g, end) refl

pub returns : goal.returns
returns c =
    let bytes = c.in_ok-children.children.now in
    let children = some_of (whole children_at bytes) (sym c.are_children.ensures ∙ c.if-not-are_children.false) in
    let text = whole_exact children_at (flat_map varint) (All IsLong) NoneLeft Spells-children bytes children.0 children.1 in
    let end = sym c.is_empty.ensures ∙ c.if-not-is_empty.false in
    let entry : DirEntry = record { parent = c.in_ok-parent.parent; children = children.0 } in
    (entry, record { parent = refl; children = text.1 }, entry_read c.args.message.now _ bytes _ c.in_ok-parent.parent children.0 c.in_ok-parent.ensures c.in_ok-children.ensures.some children.1 end)
