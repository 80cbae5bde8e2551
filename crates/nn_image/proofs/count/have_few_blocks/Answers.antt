use Rattle.std.proofs.Common.{refl, ap, length, arith}
use Rattle.nn_image.proofs.WeightLemmas.{blocks_weigh}
use Rattle.nn_image.proofs.count.have_few_blocks.Goals as goal

pub returns-then-inodes : goal.returns-then-inodes
returns-then-inodes c = λ all ranges spelled. (λ _. omega (arith, c.if-inodes.true, ap length spelled, blocks_weigh all), λ _. refl)
