use Rattle.std.proofs.Common.{refl, sym, subst}
use Rattle.nn_host.specs.Moments.{State, disk_at}
use Rattle.nn_remake.specs.Made.{IsBare}
use Rattle.tests_folders.proofs.remaking.make_0.Goals as goal

pub make-made-requires-clause-bare : goal.make-made-requires-clause-bare
make-made-requires-clause-bare c = λ tells. subst (λ (s : State). IsBare (disk_at s 0)) (sym c.in_ok-host.ensures.state) (record { root = refl; subs = λ s. refl })
