use Rattle.std.proofs.Common.{◌≡◌, ◌∙◌, ap, sym, refl, map, take, length, List, arith}
use Rattle.std.proofs.Math.Seq.{take-length}
use Rattle.std.proofs.lemmas.List.{length-map, length-take}
use Rattle.nn_host.specs.Disk.{Held}
use Rattle.nn_memhost.specs.declared.kept.KeptDir.{KeptDir}
use Rattle.nn_memhost.specs.Content.{Content}
use Rattle.nn_memhost.specs.Held.{held_of, map_held}
use Rattle.nn_memhost.specs.Stop.{stopped_content}
use Rattle.nn_memhost.proofs.DirsLemmas.{dir_made, dirs_made}
use Rattle.nn_memhost.proofs.dirs.stopped.Goals as goal

pub dirs-init : goal.dirs-init
dirs-init c = ap (λ (ds : List KeptDir). map held_of ds) c.in_ok-left.ensures.items

pub dirs-preserved : goal.dirs-preserved
dirs-preserved c =
    ap (λ (ds : List KeptDir). map held_of ds) c.in_ok-push.ensures.items
    ∙ dir_made (map_held (stopped_content c.args.keep)) c.args.dirs.now c.dirs.dir-index c.dirs.left.items c.dir-item.result c.in_ok-stopped.field-0 c.dirs.invariant c.dirs-test.true c.dir-item.is c.in_ok-stopped.ensures

pub returns-clause-left : goal.returns-clause-left
returns-clause-left c =
    let h : Held Content → Held Content = map_held (stopped_content c.args.keep) in
    let done : length (map h (map held_of c.args.dirs.now)) ≡ c.dirs.dir-index = omega (arith, c.dirs-test.false, c.dirs.auto.dir-index-end, length-map c.args.dirs.now held_of, length-map (map held_of c.args.dirs.now) h) in
    dirs_made h refl c.args.dirs.now c.dirs.left.items (c.dirs.invariant ∙ ap (λ k. take k (map h (map held_of c.args.dirs.now))) (sym done) ∙ take-length (map h (map held_of c.args.dirs.now)))

pub returns-clause-count : goal.returns-clause-count
returns-clause-count c =
    let h : Held Content → Held Content = map_held (stopped_content c.args.keep) in
    omega (arith, ap length c.dirs.invariant, length-take c.dirs.dir-index (map h (map held_of c.args.dirs.now)), c.dirs-test.false, c.dirs.auto.dir-index-end, length-map c.dirs.left.items held_of, length-map c.args.dirs.now held_of, length-map (map held_of c.args.dirs.now) h)
