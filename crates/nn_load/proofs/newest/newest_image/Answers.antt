use Rattle.std.proofs.Common.{refl, sym, subst, arith}
use Rattle.nn_host.specs.Disk.{Reads}
use Rattle.nn_host.proofs.RunsLemmas.{looked_then}
use Rattle.nn_host.proofs.WorkLemmas.{still_then}
use Rattle.nn_chain.specs.Folder.{folder_at}
use Rattle.nn_chain.specs.Images.{IsLastUnsound}
use Rattle.nn_load.specs.Newest.{NoneIntactFrom}
use Rattle.nn_load.proofs.newest.newest_image.Goals as goal

pub older_image-requires-clause-none : goal.older_image-requires-clause-none
older_image-requires-clause-none g c = λ tells.
    let err = c.in-Err-Unsound.ensures.err tells in
    let passed = rw c.in-Err-Unsound.field-0-is at err in
    let kept = rw c.in-Err-Unsound.field-0-is at c.in-Err-Unsound.ensures.kept in
    subst (λ (r : Reads). NoneIntactFrom (folder_at r c.args.place.now.sub) c.args.place.now.version c.args.place.now.names.items c.in-Some.k) (sym (kept.reads tells refl)) passed.0

pub older_image-requires-clause-why : goal.older_image-requires-clause-why
older_image-requires-clause-why g c = λ tells.
    let err = c.in-Err-Unsound.ensures.err tells in
    let passed = rw c.in-Err-Unsound.field-0-is at err in
    let kept = rw c.in-Err-Unsound.field-0-is at c.in-Err-Unsound.ensures.kept in
    let last = passed.1 (omega arith) in
    subst (λ (r : Reads). IsLastUnsound (folder_at r c.args.place.now.sub) c.args.place.now.version c.in-Err-Unsound.why) (sym (kept.reads tells refl)) last

pub returns-in-Err-Unsound-clause-kept : goal.returns-in-Err-Unsound-clause-kept
returns-in-Err-Unsound-clause-kept g c = let kept = rw c.in-Err-Unsound.field-0-is at c.in-Err-Unsound.ensures.kept in looked_then kept c.older_image.ensures.kept

pub returns-in-Err-Unsound-clause-any_moment : goal.returns-in-Err-Unsound-clause-any_moment
returns-in-Err-Unsound-clause-any_moment g c = still_then c.in-Err-Unsound.ensures.any_moment c.older_image.ensures.any_moment
