use Rattle.std.proofs.Common.{◌<◌, ◌≤◌, rules}
use Rattle.nn_base.specs.declared.sub.Sub.TheVariants.{Current}
use Rattle.nn_base.specs.declared.file_name.FileName.TheVariants.{Edits}
use Rattle.nn_base.specs.FileText.{IsInRange}
use Rattle.nn_chain.specs.Folder.{folder_at}
use Rattle.nn_tidy.specs.Fates.{ReadTo}
use Rattle.nn_tidy.proofs.FateLemmas.{begun_beyond, found_after, found_before, found_nothing}
use Rattle.nn_tidy.proofs.fate.fate_of_finalized.Goals as goal

pub returns-then-span-id-2-clause-ok : goal.returns-then-span-id-2-clause-ok
returns-then-span-id-2-clause-ok g c = λ tells.
    let above : c.args.id < c.args.span.0 = search rules in
    begun_beyond (folder_at ((g.H.Host.state c.args.host.now).reads c.args.i.0) Current) c.args.version.now.layout c.args.id c.args.span above

pub returns-in-Some-clause-ok : goal.returns-in-Some-clause-ok
returns-in-Some-clause-ok g c = λ tells.
    let folder = folder_at ((g.H.Host.state c.args.host.now).reads c.args.i.0) Current in
    let ranged : IsInRange (Edits c.args.span) = search rules in
    let read : g.H.Host.told → ReadTo folder c.args.version.now.layout (Edits c.args.span) c.args.span.0 c.in_ok-last.field-0 = search rules in
    let low : c.args.span.0 ≤ c.args.id = search rules in
    let inside : c.args.id < c.args.span.1 = search rules in
    let above : c.args.id < c.in-Some.last = search rules in
    found_after folder c.args.version.now.layout c.args.id c.args.span c.in_ok-last.field-0 c.in-Some.last ranged (read tells) c.in-Some.is low inside above

pub returns-in-Some-2-clause-ok : goal.returns-in-Some-2-clause-ok
returns-in-Some-2-clause-ok g c = λ tells.
    let folder = folder_at ((g.H.Host.state c.args.host.now).reads c.args.i.0) Current in
    let read : g.H.Host.told → ReadTo folder c.args.version.now.layout (Edits c.args.span) c.args.span.0 c.in_ok-last.field-0 = search rules in
    let low : c.args.span.0 ≤ c.args.id = search rules in
    let most : c.in-Some.last ≤ c.args.id = search rules in
    found_before folder c.args.version.now.layout c.args.id c.args.span c.in_ok-last.field-0 c.in-Some.last (read tells) c.in-Some.is low most

pub returns-in-None-clause-ok : goal.returns-in-None-clause-ok
returns-in-None-clause-ok g c = λ tells.
    let folder = folder_at ((g.H.Host.state c.args.host.now).reads c.args.i.0) Current in
    let read : g.H.Host.told → ReadTo folder c.args.version.now.layout (Edits c.args.span) c.args.span.0 c.in_ok-last.field-0 = search rules in
    let low : c.args.span.0 ≤ c.args.id = search rules in
    found_nothing folder c.args.version.now.layout c.args.id c.args.span c.in_ok-last.field-0 (read tells) c.in-None.is low
