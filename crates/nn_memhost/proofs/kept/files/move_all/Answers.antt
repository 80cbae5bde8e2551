use Rattle.std.proofs.Common.{◌≡◌, ◌∙◌, length, map, ap, List, arith}
use Rattle.std.proofs.lemmas.List.{length-map}
use Rattle.nn_memhost.specs.Kept.{Placed, placed_of, find_in}
use Rattle.nn_memhost.proofs.FilesLemmas.{moved, mapped_none, mapped_all, find_in-moved}
use Rattle.nn_memhost.proofs.EditLemmas.{one_changed, same_len}
use Rattle.nn_memhost.proofs.kept.files.move_all.Goals as goal

pub files-init : goal.files-init
files-init c = mapped_none (moved c.args.from c.args.to) (map placed_of c.args.files.now.items)

pub files-preserved : goal.files-preserved
files-preserved c =
    let same : length c.files.files.items ≡ length c.args.files.now.items = same_len (moved c.args.from c.args.to) c.files.files.items c.args.files.now.items c.files.k c.files.invariant in
    one_changed (moved c.args.from c.args.to) (map placed_of c.args.files.now.items) c.files.files.items c.files.k c.index_mut-file.result.now c.transfer.new.file c.files.invariant (omega (arith, c.files-test.true, c.len-k-end.ensures, c.args.files.now.ok.0, same)) c.index_mut-file.ensures.value c.transfer.ensures

pub returns : goal.returns
returns c = λ q m.
    let done : c.files.k ≡ length (map placed_of c.args.files.now.items) = omega (arith, c.files-test.false, c.files.auto.k-end, c.len-k-end.ensures, c.args.files.now.ok.0, length-map c.args.files.now.items placed_of) in
    ap (λ (ps : List Placed). find_in ps q m) (c.files.invariant ∙ mapped_all (moved c.args.from c.args.to) c.files.k (map placed_of c.args.files.now.items) done) ∙ find_in-moved c.args.from c.args.to q m (map placed_of c.args.files.now.items) c.requires
