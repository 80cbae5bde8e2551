use Rattle.std.proofs.Common.{Err, ap, sym, subst}
use Rattle.nn_message.specs.Messages.{NsInfo}
use Rattle.nn_message.specs.FrameViews.{sections_seen}
use Rattle.nn_image.specs.Imaged.{IsImage}
use Rattle.nn_image.proofs.LoadLemmas.{strings_few, messages_found, no_messages, assembled, not_assembled}
use Rattle.nn_image.proofs.loading.read_image.Goals as goal

pub returns-in_default-clause-err : goal.returns-in_default-clause-err
returns-in_default-clause-err g c = no_messages c.args.bytes.now c.args.layout (sections_seen c.in_ok-sections.sections) c.in_ok-sections.ensures.ok c.in_default.ensures.none

pub assemble_tree-requires-clause-few : goal.assemble_tree-requires-clause-few
assemble_tree-requires-clause-few g c = strings_few c.args.bytes.now c.args.layout (sections_seen c.in_ok-sections.sections) c.in_ok-sections.ensures.ok

pub assemble_tree-requires-clause-whole : goal.assemble_tree-requires-clause-whole
assemble_tree-requires-clause-whole g c = let found = c.in-Some.ensures.some in (found.0, found.1, sym found.2)

pub returns-in-Ok-clause-ok : goal.returns-in-Ok-clause-ok
returns-in-Ok-clause-ok g c =
    let found = c.in-Some.ensures.some in
    let has = messages_found c.args.bytes.now c.args.layout (sections_seen c.in_ok-sections.sections) found.0 c.in_ok-sections.ensures.ok found.1 found.2 in
    let is = assembled c.args.bytes.now c.args.layout found.0 (g.T.Tree.meaning c.in-Ok.tree) has (c.in-Ok.ensures.ok found.0 found.1 (sym found.2)) in
    subst (λ (i : NsInfo). IsImage c.args.bytes.now (g.T.Tree.meaning c.in-Ok.tree) i.txid i.namespace c.args.layout) (sym found.3) is

pub returns-in-Err-Tree-clause-err : goal.returns-in-Err-Tree-clause-err
returns-in-Err-Tree-clause-err g c =
    let found = c.in-Some.ensures.some in
    let has = messages_found c.args.bytes.now c.args.layout (sections_seen c.in_ok-sections.sections) found.0 c.in_ok-sections.ensures.ok found.1 found.2 in
    let none = c.in-Err-Tree.ensures.tree (ap (λ u. Err u) c.in-Err-Tree.field-0-is) found.0 found.1 (sym found.2) in
    not_assembled c.args.bytes.now c.args.layout found.0 has none

pub returns-in-Err-Memory-clause-err : goal.returns-in-Err-Memory-clause-err
returns-in-Err-Memory-clause-err g c =
    let found = c.in-Some.ensures.some in
    let has = messages_found c.args.bytes.now c.args.layout (sections_seen c.in_ok-sections.sections) found.0 c.in_ok-sections.ensures.ok found.1 found.2 in
    (found.0, has, c.in-Err-Memory.ensures.memory (ap (λ u. Err u) c.in-Err-Memory.field-0-is) found.0 found.1 (sym found.2))
