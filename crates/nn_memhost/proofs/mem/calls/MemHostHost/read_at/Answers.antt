use Rattle.std.proofs.Common.{◌∙◌, ap, subst, List, ℕ, Option}
use Rattle.std.specs.Prelude.{option_map}
use Rattle.nn_host.specs.Disk.{Reads}
use Rattle.nn_host.specs.Listing.{IsRead}
use Rattle.nn_memhost.specs.declared.kept.file.KeptFile.{KeptFile}
use Rattle.nn_memhost.specs.Content.{Content}
use Rattle.nn_memhost.specs.Kept.{content_at}
use Rattle.nn_memhost.proofs.Looks.{reads_is}
use Rattle.nn_memhost.proofs.mem.calls.MemHostHost.read_at.Goals as goal

pub returns-clause-value : goal.returns-clause-value
returns-clause-value c = λ tells.
    subst (λ (w : Option (List ℕ)). IsRead w c.args.at c.read_at-n.result c.args.out.now c.read_at-n.new.out)
    (ap (λ (fs : List KeptFile). option_map (λ (x : Content). x.bytes) (content_at fs c.args.sub c.args.name)) c.deref.ensures.value
    ∙ ap (λ (r : Reads). r.file c.args.sub c.args.name) (reads_is c.args.self.now c.args.i.0 c.index-dir.result.now c.requires c.index-dir.ensures))
    c.read_at-n.ensures.value
