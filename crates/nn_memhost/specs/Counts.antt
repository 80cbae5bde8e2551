-- Counts of faults, and what one more makes of them.
use Rattle.std.specs.Prelude.{ℕ, replicate, slice_index, slice_set}
use Rattle.nn_host.specs.Calls.{next_count}
use Rattle.nn_memhost.specs.declared.counts.Counts.{Counts}

abbrev pub no_faults : Counts
no_faults = record { dirs = replicate 8 0; out = 0 }

-- directory i has failed once more
abbrev pub raised : ℕ → Counts → Counts
raised i counts = record counts { dirs = slice_set counts.dirs i (next_count (slice_index counts.dirs i)) }

-- the output has failed once more
abbrev pub raised_out : Counts → Counts
raised_out counts = record counts { out = next_count counts.out }
