use Rattle.std.proofs.Common.{refl, sym, subst, arith}
use Rattle.nn_host.specs.Disk.{Reads}
use Rattle.nn_host.proofs.RunsLemmas.{looked_then}
use Rattle.nn_host.proofs.WorkLemmas.{still_then}
use Rattle.nn_chain.specs.Folder.{folder_at}
use Rattle.nn_load.specs.Newest.{NoneIntactFrom, IsNewestOf}
use Rattle.nn_load.proofs.newest.older_image.Goals as goal

pub image_before-requires-clause-none : goal.image_before-requires-clause-none
image_before-requires-clause-none g c = λ tells. subst (λ (r : Reads). NoneIntactFrom (folder_at r c.args.place.now.sub) c.args.place.now.version c.args.place.now.names.items c.loop-k.left) (sym (c.loop-k.invariant.kept.reads tells refl)) (c.loop-k.invariant.none tells)

pub returns-in-Ok-clause-ok : goal.returns-in-Ok-clause-ok
returns-in-Ok-clause-ok g c = λ tells. subst (λ (r : Reads). IsNewestOf (folder_at r c.args.place.now.sub) c.args.place.now.version c.in-Ok.it.id (g.T.Tree.meaning c.in-Ok.it.tree)) (c.loop-k.invariant.kept.reads tells refl) (c.in-Ok.ensures.ok tells)

pub returns-in-Ok-clause-kept : goal.returns-in-Ok-clause-kept
returns-in-Ok-clause-kept g c = looked_then c.loop-k.invariant.kept c.in-Ok.ensures.kept

pub returns-in-Ok-clause-any_moment : goal.returns-in-Ok-clause-any_moment
returns-in-Ok-clause-any_moment g c = still_then c.loop-k.invariant.still c.in-Ok.ensures.any_moment

pub loop-k-preserved : goal.loop-k-preserved
loop-k-preserved g c =
    let kept = rw c.in-Err-Unsound.field-0-is at c.in-Err-Unsound.ensures.kept in
    let last = c.in-Some.ensures.some in
    record {
      inside = omega (arith, last.below, c.loop-k.invariant.inside);
      none = λ tells.
          let err = c.in-Err-Unsound.ensures.err tells in
          let passed = rw c.in-Err-Unsound.field-0-is at err in
          subst (λ (r : Reads). NoneIntactFrom (folder_at r c.args.place.now.sub) c.args.place.now.version c.args.place.now.names.items c.in-Some.k) (c.loop-k.invariant.kept.reads tells refl) passed.0;
      kept = looked_then c.loop-k.invariant.kept kept;
      still = still_then c.loop-k.invariant.still c.in-Err-Unsound.ensures.any_moment;
    }

pub returns-in-Err-Memory-clause-kept : goal.returns-in-Err-Memory-clause-kept
returns-in-Err-Memory-clause-kept g c = let kept = rw c.in-Err-Memory.field-0-is at c.in-Err-Memory.ensures.kept in looked_then c.loop-k.invariant.kept kept

pub returns-in-Err-Memory-clause-any_moment : goal.returns-in-Err-Memory-clause-any_moment
returns-in-Err-Memory-clause-any_moment g c = still_then c.loop-k.invariant.still c.in-Err-Memory.ensures.any_moment

pub returns-in-Err-Failed-clause-kept : goal.returns-in-Err-Failed-clause-kept
returns-in-Err-Failed-clause-kept g c = let kept = rw c.in-Err-Failed.field-0-is at c.in-Err-Failed.ensures.kept in looked_then c.loop-k.invariant.kept kept

pub returns-in-Err-Failed-clause-any_moment : goal.returns-in-Err-Failed-clause-any_moment
returns-in-Err-Failed-clause-any_moment g c = still_then c.loop-k.invariant.still c.in-Err-Failed.ensures.any_moment
