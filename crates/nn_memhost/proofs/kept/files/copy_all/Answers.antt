use Rattle.std.proofs.Common.{◌≡◌, ◌∙◌, map, take, ap, sym, List, length, arith}
use Rattle.std.proofs.Math.Seq.{take-length}
use Rattle.std.proofs.lemmas.List.{length-map}
use Rattle.nn_memhost.specs.declared.kept.file.KeptFile.{KeptFile}
use Rattle.nn_memhost.specs.Kept.{Placed, placed_of, find_in}
use Rattle.nn_memhost.proofs.EditLemmas.{one_copied}
use Rattle.nn_memhost.proofs.kept.files.copy_all.Goals as goal

pub files-init : goal.files-init
files-init c = ap (λ (fs : List KeptFile). map placed_of fs) c.in_ok-copies.ensures.items

pub files-preserved : goal.files-preserved
files-preserved c =
    ap (λ (fs : List KeptFile). map placed_of fs) c.in_ok-push.ensures.items
    ∙ one_copied c.args.files.now c.files.file-index c.files.copies.items c.file-item.result c.in_ok-copy_of.field-0 c.files.invariant c.files-test.true c.file-item.is
    (λ i. record { sub = c.in_ok-copy_of.ensures.at.0 i; name = c.in_ok-copy_of.ensures.at.1 i; content = c.in_ok-copy_of.ensures.content i })

pub returns : goal.returns
returns c = λ q m.
    let done : length (map placed_of c.args.files.now) ≡ c.files.file-index = omega (arith, c.files-test.false, c.files.auto.file-index-end, length-map c.args.files.now placed_of) in
    ap (λ (ps : List Placed). find_in ps q m) (c.files.invariant ∙ ap (λ k. take k (map placed_of c.args.files.now)) (sym done) ∙ take-length (map placed_of c.args.files.now))
