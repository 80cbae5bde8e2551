use Rattle.nn_host.specs.Moments.{disk_at}
use Rattle.nn_host.proofs.RunsLemmas.{looked_once}
use Rattle.nn_host.proofs.WorkLemmas.{still_once}
use Rattle.nn_state.proofs.SettlingLemmas.{version_told, unversioned_told}
use Rattle.nn_state.proofs.settling.by_version.Goals as goal

pub returns-in-Ok-true-clause-fits : goal.returns-in-Ok-true-clause-fits
returns-in-Ok-true-clause-fits g c = λ tells either none. version_told (disk_at (g.H.Host.state c.args.host.now) c.args.i.0) ((g.H.Host.state c.args.host.now).reads c.args.i.0) ((g.met.H.Host.lawful tells c.args.host.now).reads c.args.i.0) c.in-Ok-true.field-0 (c.in-Ok-true.ensures.value tells) either none c.in-Ok-true.field-0-test

pub returns-in-Ok-true-clause-kept : goal.returns-in-Ok-true-clause-kept
returns-in-Ok-true-clause-kept g c = looked_once c.in-Ok-true.ensures.call

pub returns-in-Ok-true-clause-any_moment : goal.returns-in-Ok-true-clause-any_moment
returns-in-Ok-true-clause-any_moment g c = still_once c.in-Ok-true.ensures.call

pub returns-in-Ok-false-clause-fits : goal.returns-in-Ok-false-clause-fits
returns-in-Ok-false-clause-fits g c = λ tells either none. unversioned_told (disk_at (g.H.Host.state c.args.host.now) c.args.i.0) ((g.H.Host.state c.args.host.now).reads c.args.i.0) ((g.met.H.Host.lawful tells c.args.host.now).reads c.args.i.0) c.in-Ok-false.field-0 (c.in-Ok-false.ensures.value tells) either none c.in-Ok-false.field-0-test

pub returns-in-Ok-false-clause-kept : goal.returns-in-Ok-false-clause-kept
returns-in-Ok-false-clause-kept g c = looked_once c.in-Ok-false.ensures.call

pub returns-in-Ok-false-clause-any_moment : goal.returns-in-Ok-false-clause-any_moment
returns-in-Ok-false-clause-any_moment g c = still_once c.in-Ok-false.ensures.call

pub returns-in-Err-clause-kept : goal.returns-in-Err-clause-kept
returns-in-Err-clause-kept g c = looked_once c.in-Err.ensures.call

pub returns-in-Err-clause-any_moment : goal.returns-in-Err-clause-any_moment
returns-in-Err-clause-any_moment g c = still_once c.in-Err.ensures.call
