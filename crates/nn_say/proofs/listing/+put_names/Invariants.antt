use Rattle.std.proofs.Common.{length}
use Rattle.nn_say.proofs.listing.+put_names.Given as goal

abbrev pub decreases-put_names : goal.decreases-put_names
decreases-put_names g l = length (g.T.Tree.place l.tree.now l.at)
