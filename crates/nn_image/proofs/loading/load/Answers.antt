use Rattle.nn_image.proofs.FirstFaultLemmas.{first_fault, none_of_an_image}
use Rattle.nn_image.proofs.LoadLemmas.{one_image}
use Rattle.nn_image.proofs.loading.load.Goals as goal

pub returns-clause-one : goal.returns-clause-one
returns-clause-one g c = first_fault

pub returns-clause-none : goal.returns-clause-none
returns-clause-none g c = none_of_an_image

pub returns-clause-image : goal.returns-clause-image
returns-clause-image g c = one_image
