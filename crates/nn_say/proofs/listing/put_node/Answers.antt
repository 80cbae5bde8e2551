use Rattle.std.proofs.Common.{◌++◌, refl, append_assoc, ◌∙◌, sym, ap}
use Rattle.std.specs.Prelude.{codes}
use Rattle.std.specs.List.{flat_map}
use Rattle.nn_base.specs.Paths.{text_of}
use Rattle.nn_tree.specs.Nodes.{blocks_of}
use Rattle.nn_script.specs.Answers.{lines_at}
use Rattle.nn_script.specs.Spelling.{escaped}
use Rattle.nn_script.specs.Listing.{node_words, block_line}
use Rattle.nn_say.proofs.SayingLemmas.{streams_then, breaks_then, puts_then, puts_broken, puts_failed}
use Rattle.nn_say.proofs.ListingLemmas.{node_parts}
use Rattle.nn_say.proofs.listing.put_node.Goals as goal

pub returns-in_err-put_node : goal.returns-in_err-put_node
returns-in_err-put_node g c =
    let m = (g.T.Tree.meaning c.args.tree.now).nodes in
    let at = g.T.Tree.place c.args.tree.now c.args.at in
    let node = c.args.node.now in
    let words = node_words node c.usage.result in
    let path = escaped (text_of at) in
    let blocks = flat_map block_line (blocks_of node.kind) in
    puts_failed c.args.speech.now.waiting.items (lines_at m (at, node)) c.put_node.new.self.waiting.items c.from_residual.result c.from_residual.ensures.0
    (puts_broken c.args.speech.now.waiting.items words (path ++ (codes "\n" ++ blocks)) (lines_at m (at, node)) c.in_err-put_node.ensures (node_parts m at node c.usage.result c.usage.ensures))

pub returns-in_err-put_path : goal.returns-in_err-put_path
returns-in_err-put_path g c =
    let m = (g.T.Tree.meaning c.args.tree.now).nodes in
    let at = g.T.Tree.place c.args.tree.now c.args.at in
    let node = c.args.node.now in
    let words = node_words node c.usage.result in
    let path = escaped (text_of at) in
    let blocks = flat_map block_line (blocks_of node.kind) in
    puts_failed c.args.speech.now.waiting.items (lines_at m (at, node)) c.put_path.new.speech.waiting.items c.from_residual-in_err-put_path.result c.from_residual-in_err-put_path.ensures.0
    (puts_broken c.args.speech.now.waiting.items (words ++ path) (codes "\n" ++ blocks) (lines_at m (at, node))
    (breaks_then path (words ++ path) c.in_ok-put_node.ensures c.in_err-put_path.ensures refl)
    (node_parts m at node c.usage.result c.usage.ensures ∙ sym (append_assoc words path (codes "\n" ++ blocks))))

pub returns-in_err-put_bytes : goal.returns-in_err-put_bytes
returns-in_err-put_bytes g c =
    let m = (g.T.Tree.meaning c.args.tree.now).nodes in
    let at = g.T.Tree.place c.args.tree.now c.args.at in
    let node = c.args.node.now in
    let words = node_words node c.usage.result in
    let path = escaped (text_of at) in
    let blocks = flat_map block_line (blocks_of node.kind) in
    puts_failed c.args.speech.now.waiting.items (lines_at m (at, node)) c.put_bytes.new.self.waiting.items c.from_residual-in_err-put_bytes.result c.from_residual-in_err-put_bytes.ensures.0
    (puts_broken c.args.speech.now.waiting.items ((words ++ path) ++ codes "\n") blocks (lines_at m (at, node))
    (breaks_then (codes "\n") ((words ++ path) ++ codes "\n") (streams_then c.in_ok-put_node.ensures c.in_ok-put_path.ensures refl) c.in_err-put_bytes.ensures refl)
    (node_parts m at node c.usage.result c.usage.ensures ∙ sym (append_assoc words path (codes "\n" ++ blocks)) ∙ sym (append_assoc (words ++ path) (codes "\n") blocks)))

pub returns : goal.returns
returns g c =
    let m = (g.T.Tree.meaning c.args.tree.now).nodes in
    let at = g.T.Tree.place c.args.tree.now c.args.at in
    let node = c.args.node.now in
    let words = node_words node c.usage.result in
    let path = escaped (text_of at) in
    let blocks = flat_map block_line (blocks_of node.kind) in
    puts_then (g.H.Host.state c.put_blocks.new.host) (flat_map block_line c.blocks_of.result.now) c.put_blocks.new.speech.waiting.items c.put_blocks.result
    (streams_then (streams_then c.in_ok-put_node.ensures c.in_ok-put_path.ensures refl) c.in_ok-put_bytes.ensures refl) c.put_blocks.ensures
    (node_parts m at node c.usage.result c.usage.ensures ∙ sym (append_assoc words path (codes "\n" ++ blocks)) ∙ sym (append_assoc (words ++ path) (codes "\n") blocks)
    ∙ ap (λ x. ((words ++ path) ++ codes "\n") ++ flat_map block_line x) (sym c.blocks_of.ensures))
