use Rattle.std.proofs.Common.{◌≡◌, ◌∙◌, ap, refl, length, arith}
use Rattle.nn_host.specs.Disk.{Held}
use Rattle.nn_memhost.specs.Content.{Content}
use Rattle.nn_memhost.specs.Held.{settled, rootless}
use Rattle.nn_memhost.proofs.Anew.{anew}
use Rattle.nn_memhost.proofs.mem.MemHost.without_root.Goals as goal

pub returns-clause-anew : goal.returns-clause-anew
returns-clause-anew c =
    let m = c.args.self.now in
    let len : c.len-self.result ≡ length m.said.items = omega (arith, c.len-self.ensures, m.said.ok.0) in
    anew m c.args.i.0 rootless _ c.settle_all.new.dirs.items c.len-self.result c.clear.new.self.items c.clear.ensures.items len
    refl
    (λ j. c.settle_all.ensures.value j ∙ ap (λ (k : Held Content). settled k) (c.unroot_at.ensures.value j))
    (c.settle_all.ensures.len ∙ c.unroot_at.ensures.len)
