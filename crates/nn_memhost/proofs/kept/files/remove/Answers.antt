use Rattle.std.proofs.Common.{◌∙◌, ap, rules, List}
use Rattle.std.proofs.lemmas.Fn.{filter_same}
use Rattle.nn_memhost.specs.declared.kept.file.KeptFile.{KeptFile}
use Rattle.nn_memhost.specs.Kept.{content_at}
use Rattle.nn_memhost.proofs.EditLemmas.{content_at-remove}
use Rattle.nn_memhost.proofs.kept.files.remove.Goals as goal

pub returns : goal.returns
returns c = λ q m. ap (λ (fs : List KeptFile). content_at fs q m) (filter_same _ _ _ (λ x b f' k. search rules) _ _ c.retain.ensures.filtered) ∙ content_at-remove c.args.sub c.args.name.now c.args.files.now.items q m
