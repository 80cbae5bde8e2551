use Rattle.std.specs.Prelude.{◌≡◌, length, vec_len, vec_capacity}
use Rattle.nn_state.proofs.BayLemmas.{Recovering}
use Rattle.nn_state.proofs.bay.Bay.recover_all.Given as goal

abbrev pub invariant-found : goal.invariant-found
invariant-found g l = record {
  so_far : Recovering g.H.Host.told (length l.yielded) (g.H.Host.state l.fn.host) (g.H.Host.state l.host) l.at.items;
  len : vec_len l.at ≡ length l.yielded;
  room : vec_capacity l.at ≡ vec_len l.fn.found;
}
