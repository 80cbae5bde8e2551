use Rattle.std.proofs.Common.{◌≡◌, arith, ap, length, ◌∙◌}
use Rattle.std.proofs.lemmas.List.{length-map}
use Rattle.std.specs.String.{string_bytes}
use Rattle.nn_files.specs.Untold.{unfailed_state}
use Rattle.nn_host.specs.Moments.{State}
use Rattle.nn_top.specs.Words.{texts}
use Rattle.nn_top.specs.Wanted.{Wanted, dirs_in}
use Rattle.nn_top.proofs.ReadingLemmas.{few_dirs, one_reading}
use Rattle.nn_cli.proofs.ExitLemmas.{exits_starved, exits_done}
use Rattle.nn_cli.proofs.real.run_over.Goals as goal

pub open-requires : goal.open-requires
open-requires g c = omega (arith, few_dirs (texts c.args.words.now) c.requires.0 c.requires.1, ap length c.requires.2, length-map c.args.dirs.items string_bytes)

pub exit_code-ended-requires : goal.exit_code-ended-requires
exit_code-ended-requires g c = λ wanted asks.
    let same = ap (λ (w : Wanted). length (dirs_in w)) (one_reading (texts c.args.words.now) c.requires.0 wanted c.requires.1 asks) in
    let count = ap (λ (s : State). s.count) c.in-Ok.ensures in
    omega (arith, same, count, ap length c.requires.2, length-map c.args.dirs.items string_bytes)

pub returns : goal.returns
returns g c = exits_starved (texts c.args.words.now) c.starved.result c.starved.ensures

pub returns-in-Ok : goal.returns-in-Ok
returns-in-Ok g c =
    let count : length c.args.dirs.items ≡ length (dirs_in c.requires.0) = omega (arith, length-map c.args.dirs.items string_bytes, ap length c.requires.2) in
    exits_done _ _ c.new-source.result c.exit_code-ended.new.source _ _ (texts c.args.words.now) c.requires.0 c.exit_code-ended.result.code c.requires.1 c.new-source.ensures
    (c.in-Ok.ensures ∙ ap unfailed_state count) (c.exit_code-ended.result.status, c.exit_code-ended.ensures.code, c.exit_code-ended.ensures.did c.requires.0 c.requires.1)
