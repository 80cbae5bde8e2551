use Rattle.std.proofs.Common.{◌≤◌, vec_capacity}
use Rattle.nn_generate.specs.Generated.{script_of, max_file}
use Rattle.nn_say.specs.Saying.{Streams}
use Rattle.nn_generate.proofs.said.put_script.Given as goal

abbrev pub invariant-loop-k : goal.invariant-loop-k
invariant-loop-k g l = record {
  puts : Streams g.H.Host.told (g.H.Host.state l.fn.host) (g.H.Host.state l.host) l.fn.speech.waiting.items (script_of l.k) l.speech.waiting.items;
  room : max_file ≤ vec_capacity l.lines;
}
