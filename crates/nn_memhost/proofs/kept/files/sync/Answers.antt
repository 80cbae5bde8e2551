use Rattle.std.proofs.Common.{◌≡◌, ◌<◌, ◌≤◌, ◌∙◌, length, map, ap, List, arith}
use Rattle.std.specs.List.{position_or_len}
use Rattle.nn_memhost.specs.declared.kept.file.KeptFile.{KeptFile}
use Rattle.nn_memhost.specs.Content.{synced_content}
use Rattle.nn_memhost.specs.Kept.{placed_of, fits}
use Rattle.nn_memhost.proofs.EditLemmas.{edited, unedited}
use Rattle.nn_memhost.proofs.kept.files.sync.Goals as goal

pub returns-then-k-len : goal.returns-then-k-len
returns-then-k-len c =
    let at : c.place_of-k.result ≡ position_or_len (fits c.args.sub c.args.name.now) (map placed_of c.args.files.now.items) = c.place_of-k.ensures ∙ ap (λ (fs : List KeptFile). position_or_len (fits c.args.sub c.args.name.now) (map placed_of fs)) c.deref.ensures.value in
    let below : c.place_of-k.result < length c.args.files.now.items = omega (arith, c.if-k-len.true, c.len.ensures) in
    λ q m. edited c.args.sub c.args.name.now c.args.files.now.items c.place_of-k.result at synced_content c.index_mut-file.result.now c.sync.new.self below c.index_mut-file.ensures.value c.sync.ensures.at.0 c.sync.ensures.at.1 c.sync.ensures.content q m

pub returns-else-k-len : goal.returns-else-k-len
returns-else-k-len c =
    let at : c.place_of-k.result ≡ position_or_len (fits c.args.sub c.args.name.now) (map placed_of c.args.files.now.items) = c.place_of-k.ensures ∙ ap (λ (fs : List KeptFile). position_or_len (fits c.args.sub c.args.name.now) (map placed_of fs)) c.deref.ensures.value in
    let above : length c.args.files.now.items ≤ c.place_of-k.result = omega (arith, c.if-k-len.false, c.len.ensures) in
    λ q m. unedited c.args.sub c.args.name.now c.args.files.now.items c.place_of-k.result at synced_content above q m
