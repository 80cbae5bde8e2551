use Rattle.std.proofs.Common.{◌&&◌, map, sym, ap, ◌∙◌}
use Rattle.std.specs.Prelude.{nat_le}
use Rattle.std.specs.List.{list_all}
use Rattle.nn_tree.specs.declared.node.Block.{Block}
use Rattle.nn_image.specs.Assembly.{are_given}
use Rattle.nn_image.specs.Building.{blocks_among}
use Rattle.nn_image.proofs.GivenLemmas.{given_is}
use Rattle.nn_image.proofs.assemble.are_all_given.Goals as goal

pub returns-then-not-are_given : goal.returns-then-not-are_given
returns-then-not-are_given c = λ done noted.
    let last = c.args.last.now in
    let inodes = sym c.if-not-are_given.true ∙ given_is c.are_given.result c.args.noted.now.inodes.items last.inode c.are_given.ensures.0 c.are_given.ensures.1 ∙ ap (λ ids. are_given ids last.inode) noted.inodes in
    ap (λ a. a && are_given (map (λ (b : Block). b.id) (blocks_among done)) last.block && list_all (λ (b : Block). nat_le b.stamp last.stamp) (blocks_among done)) inodes

pub returns-then-not-are_given-2 : goal.returns-then-not-are_given-2
returns-then-not-are_given-2 c = λ done noted.
    let last = c.args.last.now in
    let inodes = sym c.if-not-are_given.false ∙ given_is c.are_given.result c.args.noted.now.inodes.items last.inode c.are_given.ensures.0 c.are_given.ensures.1 ∙ ap (λ ids. are_given ids last.inode) noted.inodes in
    let blocks = sym c.if-not-are_given-2.true ∙ given_is c.are_given-2.result c.args.noted.now.blocks.items last.block c.are_given-2.ensures.0 c.are_given-2.ensures.1 ∙ ap (λ ids. are_given ids last.block) noted.blocks in
    λ i. inodes i && blocks i && list_all (λ (b : Block). nat_le b.stamp last.stamp) (blocks_among done)

pub returns : goal.returns
returns c = λ done noted.
    let last = c.args.last.now in
    let inodes = sym c.if-not-are_given.false ∙ given_is c.are_given.result c.args.noted.now.inodes.items last.inode c.are_given.ensures.0 c.are_given.ensures.1 ∙ ap (λ ids. are_given ids last.inode) noted.inodes in
    let blocks = sym c.if-not-are_given-2.false ∙ given_is c.are_given-2.result c.args.noted.now.blocks.items last.block c.are_given-2.ensures.0 c.are_given-2.ensures.1 ∙ ap (λ ids. are_given ids last.block) noted.blocks in
    λ i. inodes i && blocks i && noted.stamp last.stamp i
