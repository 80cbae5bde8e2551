use Rattle.std.proofs.Common.{◌≡◌, ◌∙◌, ap, sym, ℕ, List, length, arith}
use Rattle.nn_host.specs.Disk.{Held}
use Rattle.nn_memhost.specs.Content.{Content}
use Rattle.nn_memhost.specs.Given.{with_given}
use Rattle.nn_memhost.specs.Held.{reads_of, settled, given}
use Rattle.nn_memhost.specs.Past.{kept_at}
use Rattle.nn_memhost.proofs.Anew.{anew, given_reads}
use Rattle.nn_memhost.proofs.mem.MemHost.with_file.Goals as goal

pub returns-clause-ok : goal.returns-clause-ok
returns-clause-ok c =
    let m = c.args.self.now in
    let len : c.len-self.result ≡ length m.said.items = omega (arith, c.len-self.ensures, m.said.ok.0) in
    let h : Held Content = given c.args.sub c.args.name c.in_ok-copy.copy.items (kept_at m.dirs.items c.args.i.0) in
    anew m c.args.i.0 h _ c.settle_all.new.dirs.items c.len-self.result c.clear.new.self.items c.clear.ensures.items len
    (given_reads c.args.sub c.args.name c.in_ok-copy.copy.items (kept_at m.dirs.items c.args.i.0)
    ∙ ap (λ (bytes : List ℕ). with_given c.args.sub c.args.name bytes (reads_of (kept_at m.dirs.items c.args.i.0))) c.in_ok-copy.ensures.items
    ∙ ap (λ (k : Held Content). with_given c.args.sub c.args.name c.args.bytes.now (reads_of k)) (sym (m.tied c.args.i.0)))
    (λ j. c.settle_all.ensures.value j ∙ ap (λ (k : Held Content). settled k) (c.in_ok-give_at.ensures.ok j))
    (c.settle_all.ensures.len ∙ c.give_at.ensures.len)
