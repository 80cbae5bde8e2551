use Rattle.std.proofs.Common.{◌≡◌, ◌<◌, ◌≤◌, ◌∙◌, length, map, ap, List, arith}
use Rattle.std.specs.List.{position_or_len}
use Rattle.std.proofs.lemmas.Result.{on_ok_weaker, on_err_weaker}
use Rattle.nn_memhost.specs.declared.kept.file.KeptFile.{KeptFile}
use Rattle.nn_memhost.specs.Content.{grown}
use Rattle.nn_memhost.specs.Kept.{placed_of, fits}
use Rattle.nn_memhost.proofs.EditLemmas.{edited, unedited, same_content}
use Rattle.nn_memhost.proofs.kept.files.grow.Goals as goal

pub returns-then-k-len-clause-ok : goal.returns-then-k-len-clause-ok
returns-then-k-len-clause-ok c =
    let at : c.place_of-k.result ≡ position_or_len (fits c.args.sub c.args.name.now) (map placed_of c.args.files.now.items) = c.place_of-k.ensures ∙ ap (λ (fs : List KeptFile). position_or_len (fits c.args.sub c.args.name.now) (map placed_of fs)) c.deref.ensures.value in
    let below : c.place_of-k.result < length c.args.files.now.items = omega (arith, c.if-k-len.true, c.len.ensures) in
    on_ok_weaker c.grow.result
    (λ content q m. edited c.args.sub c.args.name.now c.args.files.now.items c.place_of-k.result at (grown c.args.written c.args.bytes.now) c.index_mut-file.result.now c.grow.new.self below c.index_mut-file.ensures.value c.grow.ensures.at.0 c.grow.ensures.at.1 content q m)
    c.grow.ensures.ok

pub returns-then-k-len-clause-err : goal.returns-then-k-len-clause-err
returns-then-k-len-clause-err c =
    let below : c.place_of-k.result < length c.args.files.now.items = omega (arith, c.if-k-len.true, c.len.ensures) in
    on_err_weaker c.grow.result
    (λ content q m. same_content c.args.files.now.items c.place_of-k.result c.index_mut-file.result.now c.grow.new.self below c.index_mut-file.ensures.value c.grow.ensures.at.0 c.grow.ensures.at.1 content q m)
    c.grow.ensures.err

pub returns-clause-ok : goal.returns-clause-ok
returns-clause-ok c =
    let at : c.place_of-k.result ≡ position_or_len (fits c.args.sub c.args.name.now) (map placed_of c.args.files.now.items) = c.place_of-k.ensures ∙ ap (λ (fs : List KeptFile). position_or_len (fits c.args.sub c.args.name.now) (map placed_of fs)) c.deref.ensures.value in
    let above : length c.args.files.now.items ≤ c.place_of-k.result = omega (arith, c.if-k-len.false, c.len.ensures) in
    λ q m. unedited c.args.sub c.args.name.now c.args.files.now.items c.place_of-k.result at (grown c.args.written c.args.bytes.now) above q m
