use Rattle.nn_base.proofs.FileTextLemmas.{edits_reading}
use Rattle.nn_base.proofs.file_name.parse.edits.Goals as goal

pub returns : goal.returns
returns c = edits_reading c.args.rest.now c.finalized.result c.in_default.ensures c.finalized.ensures.found c.finalized.ensures.only
