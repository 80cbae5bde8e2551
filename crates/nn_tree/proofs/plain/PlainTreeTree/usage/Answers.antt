use Rattle.std.proofs.Common.{arith, ◌≡◌, length, List}
use Rattle.nn_tree.specs.declared.entry.Entry.{Entry}
use Rattle.nn_tree.specs.Namespace.{name_share, space_share}
use Rattle.nn_tree.specs.Links.{place_of}
use Rattle.nn_tree.specs.Plain.{links_of}
use Rattle.nn_tree.proofs.PlainClimb.{share_more, share_all}
use Rattle.nn_tree.proofs.plain.PlainTreeTree.usage.Goals as goal

pub loop-i-preserved : goal.loop-i-preserved
loop-i-preserved c = record {
  names = share_more c.args.self.now.entries.items c.deref.result.now (λ (es : List Entry). name_share (place_of (links_of es) c.args.at.index)) c.loop-i.i c.loop-i.names c.share_of-share.result.names c.deref.ensures.value c.loop-i.invariant.names c.share_of-share.ensures.names;
  space = share_more c.args.self.now.entries.items c.deref.result.now (λ (es : List Entry). space_share (place_of (links_of es) c.args.at.index)) c.loop-i.i c.loop-i.space c.share_of-share.result.space c.deref.ensures.value c.loop-i.invariant.space c.share_of-share.ensures.space;
  few = omega arith;
  little = omega arith;
}

pub returns : goal.returns
returns c =
    let all : c.loop-i.i ≡ length c.args.self.now.entries.items = omega arith in
    let n = share_all c.args.self.now.entries.items (name_share (place_of (links_of c.args.self.now.entries.items) c.args.at.index)) c.loop-i.i c.loop-i.names c.args.self.now.tree all c.loop-i.invariant.names in
    let s = share_all c.args.self.now.entries.items (space_share (place_of (links_of c.args.self.now.entries.items) c.args.at.index)) c.loop-i.i c.loop-i.space c.args.self.now.tree all c.loop-i.invariant.space in
    λ i. record { names = n i; space = s i }
