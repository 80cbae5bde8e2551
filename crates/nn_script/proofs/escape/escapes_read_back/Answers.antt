use Rattle.nn_script.proofs.PrintingLemmas.{reads_back, is_one_word}
use Rattle.nn_script.proofs.escape.escapes_read_back.Goals as goal

pub returns-clause-word : goal.returns-clause-word
returns-clause-word c = λ text bytes. is_one_word text bytes

pub returns-clause-text : goal.returns-clause-text
returns-clause-text c = λ text bytes. reads_back text bytes
