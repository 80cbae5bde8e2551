use Rattle.std.specs.Prelude.{◌≡◌, length, vec_len, vec_capacity}
use Rattle.nn_base.specs.DirSets.{has}
use Rattle.nn_start.proofs.AllBroughtLemmas.{Bringing}
use Rattle.nn_start.proofs.bringing.bring_up.Given as goal

abbrev pub invariant-dirs : goal.invariant-dirs
invariant-dirs g l = record {
  so_far : Bringing g.H.Host.told (has l.aim.chosen) (has l.aim.level) l.aim.saved l.aim.version l.aim.last (g.T.Tree.meaning l.aim.tree) (length l.yielded) (g.H.Host.state l.fn.host) (g.H.Host.state l.host) l.at.items;
  len : vec_len l.at ≡ length l.yielded;
  room : vec_capacity l.at ≡ vec_len l.fn.bay.at;
}
