use Rattle.std.proofs.Common.{◌≡◌, ◌∙◌, length, map, ap, List, arith}
use Rattle.std.proofs.lemmas.List.{length-map}
use Rattle.nn_memhost.specs.Kept.{Placed, placed_of, find_in}
use Rattle.nn_memhost.proofs.FilesLemmas.{synced_placed, mapped_none, mapped_all, find_in-synced}
use Rattle.nn_memhost.proofs.EditLemmas.{one_changed, same_len}
use Rattle.nn_memhost.proofs.kept.files.sync_all.Goals as goal

pub files-init : goal.files-init
files-init c = mapped_none synced_placed (map placed_of c.args.files.now.items)

pub files-preserved : goal.files-preserved
files-preserved c =
    let same : length c.files.files.items ≡ length c.args.files.now.items = same_len synced_placed c.files.files.items c.args.files.now.items c.files.k c.files.invariant in
    one_changed synced_placed (map placed_of c.args.files.now.items) c.files.files.items c.files.k c.index_mut-file.result.now c.sync.new.self c.files.invariant (omega (arith, c.files-test.true, c.len-k-end.ensures, c.args.files.now.ok.0, same)) c.index_mut-file.ensures.value (λ i. record { sub = c.sync.ensures.at.0 i; name = c.sync.ensures.at.1 i; content = c.sync.ensures.content i })

pub returns : goal.returns
returns c = λ q m.
    let done : c.files.k ≡ length (map placed_of c.args.files.now.items) = omega (arith, c.files-test.false, c.files.auto.k-end, c.len-k-end.ensures, c.args.files.now.ok.0, length-map c.args.files.now.items placed_of) in
    ap (λ (ps : List Placed). find_in ps q m) (c.files.invariant ∙ mapped_all synced_placed c.files.k (map placed_of c.args.files.now.items) done) ∙ find_in-synced (map placed_of c.args.files.now.items) q m
