-- The plain words end where the count of them does.
use Rattle.std.proofs.Common.{take, drop, ap, ◌∙◌, arith}
use Rattle.std.specs.List.{list_all}
use Rattle.std.proofs.lemmas.List.Sums.{prefix_len-le-length}
use Rattle.nn_top.specs.Words.{texts, is_plain}
use Rattle.nn_top.specs.Parts.{parts_of, is_dir}
use Rattle.nn_top.specs.Begins.{begins}
use Rattle.nn_top.proofs.WordsLemmas.{is_plain_text, plain_front, split_texts, unplain_rest}
use Rattle.nn_top.proofs.PartsLemmas.{plain_parts}
use Rattle.nn_top.proofs.words.plain_split.Goals as goal

pub split_at-requires : goal.split_at-requires
split_at-requires c = omega (arith, c.plain_count.ensures, prefix_len-le-length is_plain_text c.args.words.now)

pub returns-clause-parts : goal.returns-clause-parts
returns-clause-parts c = λ names.
    let words = c.args.words.now in
    let front = c.split_at.result.0.now in
    let back = c.split_at.result.1.now in
    ap (parts_of names) (split_texts words front back c.plain_count.result c.split_at.ensures.front c.split_at.ensures.back)
    ∙ plain_parts names (texts front) (texts back)
    (ap (λ ws. list_all is_plain (texts ws)) (c.split_at.ensures.front ∙ ap (λ count. take count words) c.plain_count.ensures) ∙ plain_front words)

pub returns-clause-rest : goal.returns-clause-rest
returns-clause-rest c = λ names.
    let words = c.args.words.now in
    ap (λ ws. begins is_dir (parts_of names (texts ws))) (c.split_at.ensures.back ∙ ap (λ count. drop count words) c.plain_count.ensures) ∙ unplain_rest names words
