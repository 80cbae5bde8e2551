use Rattle.std.proofs.Common.{◌+◌, ◌++◌, refl, arith}
use Rattle.nn_generate.specs.Generated.{file_lines, script_of}
use Rattle.nn_say.proofs.SayingLemmas.{streams_nothing, streams_then, breaks_then, puts_broken, puts_failed}
use Rattle.nn_generate.proofs.SaidLemmas.{script_next, script_front}
use Rattle.nn_generate.proofs.said.put_script.Goals as goal

pub loop-k-init : goal.loop-k-init
loop-k-init g c = record { puts = streams_nothing c.args.speech.now.waiting.items _ refl; room = c.requires }

pub loop-k-preserved : goal.loop-k-preserved
loop-k-preserved g c =
    let k = c.loop-k.k in
    record {
      puts = streams_then c.loop-k.invariant.puts c.in_ok-put_file.ensures.puts (script_next k (k + 1) (omega arith));
      room = c.in_ok-put_file.ensures.room;
    }

pub returns-in_err-put_file : goal.returns-in_err-put_file
returns-in_err-put_file g c =
    let k = c.loop-k.k in
    let now = c.args.speech.now.waiting.items in
    let so_far = script_of k ++ file_lines k in
    let front = script_front (k + 1) c.args.count (omega (arith, c.loop-k-test.true, c.loop-k.auto.k-end)) in
    let broken = breaks_then (file_lines k) (script_of (k + 1)) c.loop-k.invariant.puts c.in_err-put_file.ensures.puts (script_next k (k + 1) (omega arith)) in
    puts_failed now (script_of c.args.count) c.put_file.new.speech.waiting.items c.from_residual.result c.from_residual.ensures.0 (puts_broken now (script_of (k + 1)) front.0 (script_of c.args.count) broken front.1)
