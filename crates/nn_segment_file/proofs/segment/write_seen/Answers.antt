use Rattle.std.proofs.Common.{◌≡◌, List, ℕ, Some, None, subst}
use Rattle.nn_base.specs.declared.sub.Sub.TheVariants.{Current}
use Rattle.nn_base.specs.declared.file_name.FileName.TheVariants.{Seen, SeenTmp}
use Rattle.nn_host.specs.Disk.{certain}
use Rattle.nn_host.specs.Moments.{disk_at}
use Rattle.nn_segment_file.proofs.CallLemmas.{on_ok_by}
use Rattle.nn_segment_file.proofs.SeenLemmas.{seen_written}
use Rattle.nn_segment_file.proofs.segment.write_seen.Goals as goal

pub returns-clause-ok : goal.returns-clause-ok
returns-clause-ok g c = λ tells has. on_ok_by c.write_small.result (c.write_small.ensures.ok tells has)
    (λ written. subst (λ (t : List ℕ). ((disk_at (g.H.Host.state c.write_small.new.host) c.args.i.0).file Current Seen ≡ certain (Some t)) × ((disk_at (g.H.Host.state c.write_small.new.host) c.args.i.0).file Current SeenTmp ≡ None)) c.seen_text-len.ensures.text (seen_written written))
