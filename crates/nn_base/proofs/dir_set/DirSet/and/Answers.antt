use Rattle.std.proofs.Common.{◌&&◌, ap, ◌∙◌}
use Rattle.nn_base.specs.DirSets.{has}
use Rattle.nn_base.proofs.DirSetLemmas.{beq_true}
use Rattle.nn_base.proofs.dir_set.DirSet.and.Goals as goal

pub returns : goal.returns
returns c = λ j. c.part.ensures j ∙ ap (λ b. has c.args.self j && b) (beq_true (has c.args.other j))
