use Rattle.std.proofs.Common.{◌∙◌, false, true}
use Rattle.nn_tree.proofs.PlainClimb.{share_free, names_told, space_told, kind_live}
use Rattle.nn_tree.proofs.entry.share_of.Goals as goal

pub returns-then-not-entry-clause-names : goal.returns-then-not-entry-clause-names
returns-then-not-entry-clause-names c = share_free c.args.entries.now c.args.i c.index-entries-i.result c.requires.tree c.requires.within c.index-entries-i.is c.if-not-entry.true _

pub returns-then-not-entry-clause-space : goal.returns-then-not-entry-clause-space
returns-then-not-entry-clause-space c = share_free c.args.entries.now c.args.i c.index-entries-i.result c.requires.tree c.requires.within c.index-entries-i.is c.if-not-entry.true _

pub returns-then-not-climbs_to-clause-names : goal.returns-then-not-climbs_to-clause-names
returns-then-not-climbs_to-clause-names c =
    names_told c.args.entries.now c.args.i c.index-entries-i.result c.requires.tree c.requires.within c.index-entries-i.is c.args.above c.requires.there c.if-not-entry.false false c.if-not-climbs_to.ensures

pub returns-then-not-climbs_to-clause-space : goal.returns-then-not-climbs_to-clause-space
returns-then-not-climbs_to-clause-space c =
    space_told c.args.entries.now c.args.i c.index-entries-i.result c.requires.tree c.requires.within c.index-entries-i.is c.args.above c.requires.there c.if-not-entry.false false c.if-not-climbs_to.ensures

pub space-requires : goal.space-requires
space-requires c = kind_live c.args.entries.now c.args.i c.index-entries-i.result c.requires.tree c.requires.within c.index-entries-i.is c.requires.limits c.if-not-entry.false

pub returns-clause-names : goal.returns-clause-names
returns-clause-names c =
    names_told c.args.entries.now c.args.i c.index-entries-i.result c.requires.tree c.requires.within c.index-entries-i.is c.args.above c.requires.there c.if-not-entry.false true c.if-not-climbs_to.ensures

pub returns-clause-space : goal.returns-clause-space
returns-clause-space c =
    c.from.ensures ∙ c.space.ensures
    ∙ space_told c.args.entries.now c.args.i c.index-entries-i.result c.requires.tree c.requires.within c.index-entries-i.is c.args.above c.requires.there c.if-not-entry.false true c.if-not-climbs_to.ensures
