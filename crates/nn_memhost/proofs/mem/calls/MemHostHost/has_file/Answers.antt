use Rattle.std.proofs.Common.{◌∙◌, ap, is_some}
use Rattle.nn_host.specs.Disk.{Reads}
use Rattle.nn_memhost.specs.Kept.{content_at}
use Rattle.nn_memhost.proofs.Looks.{reads_is, some_shown}
use Rattle.nn_memhost.proofs.mem.calls.MemHostHost.has_file.Goals as goal

pub returns-clause-value : goal.returns-clause-value
returns-clause-value c = λ tells. c.has-there.ensures ∙ ap (λ files. is_some (content_at files c.args.sub c.args.name)) c.deref.ensures.value ∙ some_shown (content_at c.index-dir.result.now.files.items c.args.sub c.args.name) ∙ ap (λ (r : Reads). is_some (r.file c.args.sub c.args.name)) (reads_is c.args.self.now c.args.i.0 c.index-dir.result.now c.requires c.index-dir.ensures)
