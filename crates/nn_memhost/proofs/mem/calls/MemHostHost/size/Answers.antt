use Rattle.std.proofs.Common.{◌∙◌, ap, length}
use Rattle.nn_host.specs.Disk.{Reads}
use Rattle.nn_host.specs.Listing.{bytes_of}
use Rattle.nn_memhost.specs.Content.{shown_of}
use Rattle.nn_memhost.specs.Kept.{content_at}
use Rattle.nn_memhost.proofs.Looks.{reads_is, shown}
use Rattle.nn_memhost.proofs.mem.calls.MemHostHost.size.Goals as goal

pub returns-clause-value : goal.returns-clause-value
returns-clause-value c = λ tells. c.size-size.ensures ∙ ap (λ files. length (shown_of (content_at files c.args.sub c.args.name))) c.deref.ensures.value ∙ ap length (shown (content_at c.index-dir.result.now.files.items c.args.sub c.args.name)) ∙ ap (λ (r : Reads). length (bytes_of (r.file c.args.sub c.args.name))) (reads_is c.args.self.now c.args.i.0 c.index-dir.result.now c.requires c.index-dir.ensures)
