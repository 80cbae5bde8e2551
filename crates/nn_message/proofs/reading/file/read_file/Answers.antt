use Rattle.std.proofs.Common.{◌≡◌, refl, sym, ◌∙◌}
use Rattle.nn_tree.specs.declared.node.Kind.{Kind}
use Rattle.nn_tree.specs.declared.node.Kind.TheVariants.{File}
use Rattle.nn_message.specs.declared.message.Attributes.{Attributes}
use Rattle.nn_message.specs.MessageReading.{attributes_with, file_at}
use Rattle.nn_message.proofs.reading.file.read_file.Goals as goal

pub returns : goal.returns
unfolding file_at
returns c =
    let access = c.in_ok-owner.ensures in
    let blocks = c.in_ok-blocks.ensures in
    let end = sym c.is_empty.ensures ∙ c.if-not-is_empty.false in
    let time = c.in_ok-time.time in
    let kind : Kind = File c.in_ok-replication.replication c.in_ok-is_open.is_open blocks.0 in
    let seen : Attributes = record { time = time; owner = c.in_ok-owner.owner; group = c.in_ok-owner.group; mode = c.in_ok-owner.mode } in
    let same : seen ≡ attributes_with time access.0 = λ i. record { time = time; owner = access.1.0 i; group = access.1.1 i; mode = access.1.2 i } in
    ((kind, attributes_with time access.0), ((refl, refl, blocks.1), same), rw (c.in_ok-replication.ensures, c.in_ok-time.ensures, access.2, blocks.2, c.in_ok-is_open.ensures, end) refl)
