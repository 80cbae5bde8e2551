use Rattle.std.proofs.Common.{◌≡◌, ◌<◌, ◌≤◌, ◌∙◌, length, map, ap, refl, List, arith}
use Rattle.std.specs.List.{position_or_len}
use Rattle.nn_memhost.specs.declared.kept.file.KeptFile.{KeptFile}
use Rattle.nn_memhost.specs.Kept.{placed_of, fits, content_at}
use Rattle.nn_memhost.proofs.EditLemmas.{put_there, put_behind}
use Rattle.nn_memhost.proofs.kept.files.put.Goals as goal

pub returns-then-k-len-clause-ok : goal.returns-then-k-len-clause-ok
returns-then-k-len-clause-ok c =
    let at : c.place_of-k.result ≡ position_or_len (fits c.args.file.sub c.args.file.name) (map placed_of c.args.files.now.items) = c.place_of-k.ensures ∙ ap (λ (fs : List KeptFile). position_or_len (fits c.args.file.sub c.args.file.name) (map placed_of fs)) c.deref.ensures.value in
    let below : c.place_of-k.result < length c.args.files.now.items = omega (arith, c.if-k-len.true, c.len.ensures) in
    λ q m. put_there c.args.file.sub c.args.file.name c.args.files.now.items c.place_of-k.result at c.args.file refl refl below q m

pub returns-clause-ok : goal.returns-clause-ok
returns-clause-ok c =
    let at : c.place_of-k.result ≡ position_or_len (fits c.args.file.sub c.args.file.name) (map placed_of c.args.files.now.items) = c.place_of-k.ensures ∙ ap (λ (fs : List KeptFile). position_or_len (fits c.args.file.sub c.args.file.name) (map placed_of fs)) c.deref.ensures.value in
    let above : length c.args.files.now.items ≤ c.place_of-k.result = omega (arith, c.if-k-len.false, c.len.ensures) in
    λ q m. ap (λ (fs : List KeptFile). content_at fs q m) c.in_ok-push.ensures.items ∙ put_behind c.args.file.sub c.args.file.name c.args.files.now.items c.place_of-k.result at c.args.file refl refl above q m
