use Rattle.std.proofs.Common.{arith}
use Rattle.nn_host.specs.Moments.{disk_at}
use Rattle.nn_segment_file.proofs.BesideLemmas.{beside_refl}
use Rattle.nn_start.proofs.PublishLemmas.{publishing_none, publishing_run, publishing_quiet, publishing_left, publishing_rose, publishing_more, publishing_beside, published_all, published_kept}
use Rattle.nn_start.proofs.publishing.publish_all.Goals as goal

pub loop-i-init : goal.loop-i-init
loop-i-init g c = record { walk = publishing_none; beside = λ tells j. beside_refl (disk_at (g.H.Host.state c.args.host.now) j) }

pub returns-in-Err-Failed-clause-kept : goal.returns-in-Err-Failed-clause-kept
returns-in-Err-Failed-clause-kept g c = publishing_run c.loop-i.invariant.walk (omega arith) c.in-Err-Failed.ensures.left c.in-Err-Failed.ensures.any_moment c.in-Err-Failed.ensures.rank

pub returns-in-Err-Failed-clause-quiet : goal.returns-in-Err-Failed-clause-quiet
returns-in-Err-Failed-clause-quiet g c = publishing_quiet c.loop-i.invariant.walk (omega arith) c.in-Err-Failed.ensures.left c.in-Err-Failed.ensures.any_moment c.in-Err-Failed.ensures.rank

pub returns-in-Err-Failed-clause-left : goal.returns-in-Err-Failed-clause-left
returns-in-Err-Failed-clause-left g c = publishing_left c.loop-i.invariant.walk (omega arith) c.in-Err-Failed.ensures.left c.in-Err-Failed.ensures.any_moment c.in-Err-Failed.ensures.rank

pub returns-in-Err-Failed-clause-cause : goal.returns-in-Err-Failed-clause-cause
returns-in-Err-Failed-clause-cause g c = publishing_rose c.loop-i.invariant.walk (omega arith) c.in-Err-Failed.ensures.left c.in-Err-Failed.ensures.any_moment c.in-Err-Failed.ensures.rank (rw c.in-Err-Failed.field-0-is at c.in-Err-Failed.ensures.cause)

pub returns-in-Err-Memory-clause-kept : goal.returns-in-Err-Memory-clause-kept
returns-in-Err-Memory-clause-kept g c = publishing_run c.loop-i.invariant.walk (omega arith) c.in-Err-Memory.ensures.left c.in-Err-Memory.ensures.any_moment c.in-Err-Memory.ensures.rank

pub returns-in-Err-Memory-clause-quiet : goal.returns-in-Err-Memory-clause-quiet
returns-in-Err-Memory-clause-quiet g c = publishing_quiet c.loop-i.invariant.walk (omega arith) c.in-Err-Memory.ensures.left c.in-Err-Memory.ensures.any_moment c.in-Err-Memory.ensures.rank

pub returns-in-Err-Memory-clause-left : goal.returns-in-Err-Memory-clause-left
returns-in-Err-Memory-clause-left g c = publishing_left c.loop-i.invariant.walk (omega arith) c.in-Err-Memory.ensures.left c.in-Err-Memory.ensures.any_moment c.in-Err-Memory.ensures.rank

pub loop-i-preserved : goal.loop-i-preserved
loop-i-preserved g c = record {
  walk = publishing_more c.loop-i.invariant.walk (omega arith) c.in-Ok.ensures.left c.in-Ok.ensures.any_moment c.in-Ok.ensures.rank c.in-Ok.ensures.cause (λ tells. g.met.H.Host.lawful tells c.loop-i.host) c.in-Ok.ensures.published;
  beside = publishing_beside c.loop-i.invariant.walk (omega arith) c.in-Ok.ensures.left c.in-Ok.ensures.any_moment c.in-Ok.ensures.rank c.loop-i.invariant.beside;
}

pub returns-clause-published : goal.returns-clause-published
returns-clause-published g c = λ tells. published_all c.loop-i.invariant.walk (omega arith) tells

pub returns-clause-kept : goal.returns-clause-kept
returns-clause-kept g c = published_kept c.loop-i.invariant.walk

pub returns-in-Err-Failed-clause-beside : goal.returns-in-Err-Failed-clause-beside
returns-in-Err-Failed-clause-beside g c = publishing_beside c.loop-i.invariant.walk (omega arith) c.in-Err-Failed.ensures.left c.in-Err-Failed.ensures.any_moment c.in-Err-Failed.ensures.rank c.loop-i.invariant.beside

pub returns-in-Err-Memory-clause-beside : goal.returns-in-Err-Memory-clause-beside
returns-in-Err-Memory-clause-beside g c = publishing_beside c.loop-i.invariant.walk (omega arith) c.in-Err-Memory.ensures.left c.in-Err-Memory.ensures.any_moment c.in-Err-Memory.ensures.rank c.loop-i.invariant.beside
