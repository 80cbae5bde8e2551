use Rattle.std.proofs.Common.{◌∙◌, sym, ap, ◌≡◌, ℕ, ◌≤◌, false, Ok, Err, arith}
use Rattle.nn_base.specs.DirSets.{has, count_of}
use Rattle.nn_base.proofs.DirSetLemmas.{at_most_eight}
use Rattle.nn_journal.proofs.CarriedLemmas.{still_live}
use Rattle.nn_journal.proofs.BringsLemmas.{went_both}
use Rattle.nn_ckpt.proofs.CheckpointLemmas.{first_brought, so_published, then_brought, then_gone, faulted, left_on, same_between, same_after, publishing, all_checkpointed}
use Rattle.nn_ckpt.proofs.checkpointing.checkpoint.Goals as goal

pub publish_all-requires-clause-ids : goal.publish_all-requires-clause-ids
publish_all-requires-clause-ids g c = omega (arith, c.requires.ids, c.in_ok-end_segment.ensures.last, at_most_eight c.args.journal.now.live)

pub start_segment-requires-clause-ids : goal.start_segment-requires-clause-ids
start_segment-requires-clause-ids g c = omega (arith, c.requires.ids, c.in_ok-end_segment.ensures.last, c.in_ok-publish_all.ensures.last, at_most_eight c.args.journal.now.live)

pub purge-requires-clause-ids : goal.purge-requires-clause-ids
purge-requires-clause-ids g c = omega (arith, c.requires.ids, c.in_ok-end_segment.ensures.last, c.in_ok-publish_all.ensures.last, c.in_ok-start_segment.ensures.last, at_most_eight c.args.journal.now.live)

pub returns-in_err-publish_all-clause-went : goal.returns-in_err-publish_all-clause-went
returns-in_err-publish_all-clause-went g c = went_both c.in_ok-end_segment.ensures.went c.in_err-publish_all.ensures.went

pub returns-in_err-start_segment-clause-went : goal.returns-in_err-start_segment-clause-went
returns-in_err-start_segment-clause-went g c = went_both (went_both c.in_ok-end_segment.ensures.went c.in_ok-publish_all.ensures.went) c.in_err-start_segment.ensures.went

pub returns-in_err-purge-clause-went : goal.returns-in_err-purge-clause-went
returns-in_err-purge-clause-went g c = went_both (went_both (went_both c.in_ok-end_segment.ensures.went c.in_ok-publish_all.ensures.went) c.in_ok-start_segment.ensures.went) c.in_err-purge.ensures.went

pub returns-clause-went : goal.returns-clause-went
returns-clause-went g c = went_both (went_both (went_both c.in_ok-end_segment.ensures.went c.in_ok-publish_all.ensures.went) c.in_ok-start_segment.ensures.went) c.in_ok-purge.ensures.went

pub returns-in_err-end_segment-clause-checkpoints : goal.returns-in_err-end_segment-clause-checkpoints
returns-in_err-end_segment-clause-checkpoints g c = λ tells list stage is same.
    faulted (g.T.Tree.meaning c.args.tree.now) c.args.journal.now c.end_segment.new.self (first_brought tells c.args.version.now list c.args.journal.now c.end_segment.new.self c.in_err-end_segment.ensures.brought stage is) c.from_residual.result c.from_residual.ensures.0

pub returns-in_err-publish_all-clause-checkpoints : goal.returns-in_err-publish_all-clause-checkpoints
returns-in_err-publish_all-clause-checkpoints g c = λ tells list stage is same.
    faulted (g.T.Tree.meaning c.args.tree.now) c.args.journal.now c.publish_all.new.journal
    (so_published tells c.args.version.now list (g.T.Tree.meaning c.args.tree.now) c.args.journal.now c.end_segment.new.self c.in_ok-end_segment.ensures.brought c.in_ok-end_segment.ensures.rose stage is same c.publish_all.new.journal c.last-id.result c.last-id.ensures (Err c.in_err-publish_all.field-0.0) c.in_err-publish_all.ensures.publishes c.in_ok-end_segment.ensures.went c.in_err-publish_all.ensures.went)
    c.from_residual-in_err-publish_all.result c.from_residual-in_err-publish_all.ensures.0

pub returns-in_err-publish_all-clause-left : goal.returns-in_err-publish_all-clause-left
returns-in_err-publish_all-clause-left g c = left_on ((j : ℕ) → has c.publish_all.new.journal.live j ≡ false) c.from_residual-in_err-publish_all.result c.in_err-publish_all.field-0.0 c.from_residual-in_err-publish_all.ensures.1 c.in_err-publish_all.ensures.left

pub returns-in_err-start_segment-clause-checkpoints : goal.returns-in_err-start_segment-clause-checkpoints
returns-in_err-start_segment-clause-checkpoints g c = λ tells list stage is same.
    let published = so_published tells c.args.version.now list (g.T.Tree.meaning c.args.tree.now) c.args.journal.now c.end_segment.new.self c.in_ok-end_segment.ensures.brought c.in_ok-end_segment.ensures.rose stage is same c.publish_all.new.journal c.last-id.result c.last-id.ensures (Ok tt) c.in_ok-publish_all.ensures.publishes c.in_ok-end_segment.ensures.went c.in_ok-publish_all.ensures.went in
    faulted (g.T.Tree.meaning c.args.tree.now) c.args.journal.now c.start_segment.new.self
    (then_brought tells c.args.version.now list c.args.journal.now c.publish_all.new.journal c.start_segment.new.self published (went_both c.in_ok-end_segment.ensures.went c.in_ok-publish_all.ensures.went) c.in_err-start_segment.ensures.went c.in_err-start_segment.ensures.brought)
    c.from_residual-in_err-start_segment.result c.from_residual-in_err-start_segment.ensures.0

pub returns-in_err-purge-clause-checkpoints : goal.returns-in_err-purge-clause-checkpoints
returns-in_err-purge-clause-checkpoints g c = λ tells list stage is same.
    let published = so_published tells c.args.version.now list (g.T.Tree.meaning c.args.tree.now) c.args.journal.now c.end_segment.new.self c.in_ok-end_segment.ensures.brought c.in_ok-end_segment.ensures.rose stage is same c.publish_all.new.journal c.last-id.result c.last-id.ensures (Ok tt) c.in_ok-publish_all.ensures.publishes c.in_ok-end_segment.ensures.went c.in_ok-publish_all.ensures.went in
    let went = went_both c.in_ok-end_segment.ensures.went c.in_ok-publish_all.ensures.went in
    let begun = then_brought tells c.args.version.now list c.args.journal.now c.publish_all.new.journal c.start_segment.new.self published went c.in_ok-start_segment.ensures.went c.in_ok-start_segment.ensures.brought in
    faulted (g.T.Tree.meaning c.args.tree.now) c.args.journal.now c.purge.new.journal
    (then_gone tells c.args.version.now list c.args.journal.now c.start_segment.new.self c.purge.new.journal begun (went_both went c.in_ok-start_segment.ensures.went) c.in_err-purge.ensures.went (omega (arith, c.in_ok-start_segment.ensures.rose)) (c.in_err-purge.ensures.purges tells c.args.version.now list begun.stands.0 begun.stands.1).0)
    c.from_residual-in_err-purge.result c.from_residual-in_err-purge.ensures.0

pub returns-in_err-purge-clause-left : goal.returns-in_err-purge-clause-left
returns-in_err-purge-clause-left g c = left_on ((j : ℕ) → has c.purge.new.journal.live j ≡ false) c.from_residual-in_err-purge.result c.in_err-purge.field-0.0 c.from_residual-in_err-purge.ensures.1 c.in_err-purge.ensures.left

pub returns-clause-checkpoints : goal.returns-clause-checkpoints
returns-clause-checkpoints g c = λ tells list stage is same.
    let ns = g.T.Tree.meaning c.args.tree.now in
    let published = so_published tells c.args.version.now list ns c.args.journal.now c.end_segment.new.self c.in_ok-end_segment.ensures.brought c.in_ok-end_segment.ensures.rose stage is same c.publish_all.new.journal c.last-id.result c.last-id.ensures (Ok tt) c.in_ok-publish_all.ensures.publishes c.in_ok-end_segment.ensures.went c.in_ok-publish_all.ensures.went in
    let two = (publishing tells c.args.version.now list ns c.args.journal.now c.end_segment.new.self c.in_ok-end_segment.ensures.brought c.in_ok-end_segment.ensures.rose stage is same c.publish_all.new.journal c.last-id.result c.last-id.ensures (Ok tt) c.in_ok-publish_all.ensures.publishes c.in_ok-end_segment.ensures.went c.in_ok-publish_all.ensures.went).1 in
    let went = went_both c.in_ok-end_segment.ensures.went c.in_ok-publish_all.ensures.went in
    let begun = then_brought tells c.args.version.now list c.args.journal.now c.publish_all.new.journal c.start_segment.new.self published went c.in_ok-start_segment.ensures.went c.in_ok-start_segment.ensures.brought in
    let purges = c.in_ok-purge.ensures.purges tells c.args.version.now list begun.stands.0 begun.stands.1 in
    let low : c.last-id.result ≤ c.publish_all.new.journal.last = omega (arith, c.last-id.ensures, c.in_ok-publish_all.ensures.onward) in
    let after : c.args.journal.now.last ≤ c.last-id.result = omega (arith, c.last-id.ensures, c.in_ok-end_segment.ensures.rose) in
    let behind : c.last-id.result ≤ c.purge.new.journal.last = omega (arith, low, c.in_ok-start_segment.ensures.rose, c.in_ok-purge.ensures.onward) in
    let list_is = same_after tells c.args.version.now list ns c.args.journal.now c.end_segment.new.self c.in_ok-end_segment.ensures.brought c.in_ok-end_segment.ensures.rose stage is same in
    let all = then_gone tells c.args.version.now list c.args.journal.now c.start_segment.new.self c.purge.new.journal begun (went_both went c.in_ok-start_segment.ensures.went) c.in_ok-purge.ensures.went (omega (arith, c.in_ok-start_segment.ensures.rose)) purges.0 in
    record {
      comes = all.comes;
      stands = all.stands;
      each = all_checkpointed tells c.args.version.now list ns c.publish_all.new.journal c.start_segment.new.self c.purge.new.journal c.last-id.result published.stands c.in_ok-publish_all.ensures.kept.2 low two
          c.in_ok-start_segment.ensures.brought c.in_ok-start_segment.ensures.went c.in_ok-purge.ensures.went all.stands purges.1 (list_is c.last-id.result after) (list_is c.purge.new.journal.last (omega (arith, after, behind)));
    }

pub returns-clause-next : goal.returns-clause-next
returns-clause-next g c = λ same.
    let first = still_live c.in_ok-end_segment.ensures.went.counted in
    let second = still_live c.in_ok-publish_all.ensures.went.counted in
    let third = still_live c.in_ok-start_segment.ensures.went.counted in
    let last = still_live c.in_ok-purge.ensures.went.counted in
    let l0 = c.args.journal.now.live in
    let ended = same_between l0 c.end_segment.new.self.live c.purge.new.journal.live first (λ j e. second j (third j (last j e))) same in
    let published = same_between l0 c.publish_all.new.journal.live c.purge.new.journal.live (λ j e. first j (second j e)) (λ j e. third j (last j e)) same in
    let begun = same_between l0 c.start_segment.new.self.live c.purge.new.journal.live (λ j e. first j (second j (third j e))) last same in
    let one = c.in_ok-end_segment.ensures.next ended in
    let more = c.in_ok-start_segment.ensures.next (begun ∙ sym published) in
    let id = c.last-id.ensures in
    let kept : c.publish_all.new.journal.last ≡ c.end_segment.new.self.last = omega (arith, c.in_ok-publish_all.ensures.last, c.in_ok-publish_all.ensures.onward, ap count_of ended, ap count_of published) in
    let still : c.purge.new.journal.last ≡ c.start_segment.new.self.last = omega (arith, c.in_ok-purge.ensures.last, c.in_ok-purge.ensures.onward, ap count_of same, ap count_of begun) in
    (omega (arith, id, one), omega (arith, id, kept, more, still))
