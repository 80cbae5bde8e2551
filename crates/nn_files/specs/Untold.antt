-- What a host over real folders means: how many directories it has, and its counts of faults. It tells nothing else.
use Rattle.std.specs.Prelude.{ℕ, List, [], false, None, replicate, slice_index}
use Rattle.nn_host.specs.Disk.{Held}
use Rattle.nn_host.specs.Moments.{Moment, State}

-- no contents are told
abbrev untold : {A : Type 0} → Held A
untold = record { root = false; has = λ s. false; file = λ s n. None }

abbrev pub counts_alone : List ℕ → ℕ → Moment
counts_alone faults out_faults = record { dirs = λ j. record { disk = untold; faults = slice_index faults j }; said = []; out_faults = out_faults }

abbrev pub untold_state : ℕ → List ℕ → ℕ → State
untold_state count faults out_faults = record {
  now = counts_alone faults out_faults;
  ended = counts_alone faults out_faults;
  reads = λ j. untold;
  count = count;
  trace = [];
}

-- so many directories, and neither they nor the output have failed yet
abbrev pub unfailed_state : ℕ → State
unfailed_state count = untold_state count (replicate 8 0) 0
