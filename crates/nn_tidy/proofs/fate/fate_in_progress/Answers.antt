use Rattle.std.proofs.Common.{◌<◌, ◌≤◌, subst, rules}
use Rattle.std.specs.Prelude.{IfSome}
use Rattle.nn_base.specs.declared.sub.Sub.TheVariants.{Current}
use Rattle.nn_base.specs.declared.file_name.FileName.TheVariants.{InProgress}
use Rattle.nn_base.specs.FileText.{IsInRange}
use Rattle.nn_host.specs.Disk.{Reads}
use Rattle.nn_host.proofs.WorkLemmas.{still_once, still_then}
use Rattle.nn_chain.specs.Folder.{folder_at}
use Rattle.nn_tidy.specs.Fates.{ReadTo, IsFreeName}
use Rattle.nn_tidy.proofs.FateLemmas.{progress_begun_beyond, found_beyond, found_ends, found_none}
use Rattle.nn_tidy.proofs.fate.fate_in_progress.Goals as goal

pub returns-then-first-id-clause-ok : goal.returns-then-first-id-clause-ok
returns-then-first-id-clause-ok g c = λ tells.
    let above : c.args.id < c.args.first = search rules in
    progress_begun_beyond (folder_at ((g.H.Host.state c.args.host.now).reads c.args.i.0) Current) c.args.version.now.layout c.args.id c.args.first above

pub returns-in-Some-clause-ok : goal.returns-in-Some-clause-ok
returns-in-Some-clause-ok g c = λ tells.
    let folder = folder_at ((g.H.Host.state c.args.host.now).reads c.args.i.0) Current in
    let ranged : IsInRange (InProgress c.args.first) = search rules in
    let read : g.H.Host.told → ReadTo folder c.args.version.now.layout (InProgress c.args.first) c.args.first c.in_ok-last.field-0 = search rules in
    let order : IfSome c.in_ok-last.field-0 (λ id. c.args.first ≤ id) = search rules in
    let above : c.args.id < c.in-Some.last = search rules in
    found_beyond folder c.args.version.now.layout c.args.id c.args.first c.in_ok-last.field-0 ranged (read tells) order c.in-Some.last c.in-Some.is above

pub returns-in_err-free_name-in-Some-2-clause-any_moment : goal.returns-in_err-free_name-in-Some-2-clause-any_moment
returns-in_err-free_name-in-Some-2-clause-any_moment g c = still_then c.in_ok-last.ensures.any_moment (still_once c.in_err-free_name-in-Some-2.ensures.call)

pub returns-in_ok-free_name-in-Some-2-clause-any_moment : goal.returns-in_ok-free_name-in-Some-2-clause-any_moment
returns-in_ok-free_name-in-Some-2-clause-any_moment g c = still_then c.in_ok-last.ensures.any_moment (still_once c.in_ok-free_name-in-Some-2.ensures.call)

pub returns-in_ok-free_name-in-Some-2-clause-ok : goal.returns-in_ok-free_name-in-Some-2-clause-ok
returns-in_ok-free_name-in-Some-2-clause-ok g c = λ tells.
    let folder = folder_at ((g.H.Host.state c.args.host.now).reads c.args.i.0) Current in
    let ranged : IsInRange (InProgress c.args.first) = search rules in
    let read : g.H.Host.told → ReadTo folder c.args.version.now.layout (InProgress c.args.first) c.args.first c.in_ok-last.field-0 = search rules in
    let order : IfSome c.in_ok-last.field-0 (λ id. c.args.first ≤ id) = search rules in
    let most : c.in-Some-2.last ≤ c.args.id = search rules in
    let free : g.H.Host.told → IsFreeName (folder_at ((g.H.Host.state c.last_of.new.host).reads c.args.i.0) Current) (c.args.first, c.in-Some-2.last) c.in_ok-free_name-in-Some-2.field-0 = search rules in
    found_ends folder c.args.version.now.layout c.args.id c.args.first c.in_ok-last.field-0 ranged (read tells) order c.in-Some-2.last c.in-Some-2.is most c.in_ok-free_name-in-Some-2.field-0
    (subst (λ (r : Reads). IsFreeName (folder_at r Current) (c.args.first, c.in-Some-2.last) c.in_ok-free_name-in-Some-2.field-0) (c.in_ok-last.ensures.kept tells) (free tells))

pub returns-in-None-clause-ok : goal.returns-in-None-clause-ok
returns-in-None-clause-ok g c = λ tells.
    let folder = folder_at ((g.H.Host.state c.args.host.now).reads c.args.i.0) Current in
    let read : g.H.Host.told → ReadTo folder c.args.version.now.layout (InProgress c.args.first) c.args.first c.in_ok-last.field-0 = search rules in
    let low : c.args.first ≤ c.args.id = search rules in
    found_none folder c.args.version.now.layout c.args.id c.args.first c.in_ok-last.field-0 (read tells) c.in-None.is low
