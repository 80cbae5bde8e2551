use Rattle.std.proofs.Common.{refl}
use Rattle.nn_host.proofs.RunsLemmas.{unspoken_refl}
use Rattle.nn_serve.specs.declared.ending.RunEnd.TheVariants.{Memory}
use Rattle.nn_serve.proofs.OpeningLemmas.{out_unbegun}
use Rattle.nn_serve.proofs.FillLoopLemmas.{filled_early, little_quiet}
use Rattle.nn_serve.proofs.whole_run.run_generated.Goals as goal

pub returns-in-Err : goal.returns-in-Err
returns-in-Err g c =
    let old = g.H.Host.state c.args.host.now in
    filled_early c.args.at c.args.files old old Memory refl (out_unbegun c.args.at old) (little_quiet old old unspoken_refl)

pub returns-in-Err-begin : goal.returns-in-Err-begin
returns-in-Err-begin g c =
    let old = g.H.Host.state c.args.host.now in
    let new = g.H.Host.state c.begin.new.host in
    filled_early c.args.at c.args.files old new c.in-Err-begin.end c.in-Err-begin.ensures.early c.in-Err-begin.ensures.err (little_quiet old new c.in-Err-begin.ensures.quiet)

pub returns : goal.returns
returns g c = c.fill_on.ensures c.args.at (g.H.Host.state c.args.host.now) c.in-Ok-begin.ensures.time c.in-Ok-begin.ensures.ok
