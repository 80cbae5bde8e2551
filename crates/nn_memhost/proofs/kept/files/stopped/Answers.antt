use Rattle.std.proofs.Common.{◌≡◌, ◌∙◌, map, take, ap, sym, List, length, arith}
use Rattle.std.proofs.Math.Seq.{take-length}
use Rattle.std.proofs.lemmas.List.{length-map}
use Rattle.nn_memhost.specs.declared.kept.file.KeptFile.{KeptFile}
use Rattle.nn_memhost.specs.Kept.{Placed, placed_of, find_in}
use Rattle.nn_memhost.specs.Stop.{stopped_content}
use Rattle.nn_memhost.proofs.FilesLemmas.{placed_by, find_in-placed_by}
use Rattle.nn_memhost.proofs.EditLemmas.{one_made}
use Rattle.nn_memhost.proofs.kept.files.stopped.Goals as goal

pub files-init : goal.files-init
files-init c = ap (λ (fs : List KeptFile). map placed_of fs) c.in_ok-left.ensures.items

pub files-preserved : goal.files-preserved
files-preserved c =
    ap (λ (fs : List KeptFile). map placed_of fs) c.in_ok-push.ensures.items
    ∙ one_made (placed_by (stopped_content c.args.keep)) c.args.files.now c.files.file-index c.files.left.items c.file-item.result c.in_ok-stopped.field-0 c.files.invariant c.files-test.true c.file-item.is
    (λ i. record { sub = c.in_ok-stopped.ensures.at.0 i; name = c.in_ok-stopped.ensures.at.1 i; content = c.in_ok-stopped.ensures.content i })

pub returns : goal.returns
returns c = λ q m.
    let g = placed_by (stopped_content c.args.keep) in
    let done : length (map g (map placed_of c.args.files.now)) ≡ c.files.file-index = omega (arith, c.files-test.false, c.files.auto.file-index-end, length-map c.args.files.now placed_of, length-map (map placed_of c.args.files.now) g) in
    ap (λ (ps : List Placed). find_in ps q m) (c.files.invariant ∙ ap (λ k. take k (map g (map placed_of c.args.files.now))) (sym done) ∙ take-length (map g (map placed_of c.args.files.now)))
    ∙ find_in-placed_by (stopped_content c.args.keep) (map placed_of c.args.files.now) q m
