-- What was done is what the words ask for.
use Rattle.std.proofs.Common.{◌≡◌, Some, refl, subst}
use Rattle.nn_top.specs.Words.{texts}
use Rattle.nn_top.specs.Wanted.{Wanted, Format}
use Rattle.nn_top.specs.Commands.{wanted_by, wanted_in}
use Rattle.nn_top.specs.Did.{Did}
use Rattle.nn_top.specs.declared.words.Command.{Command}
use Rattle.nn_top.proofs.ReadingLemmas.{format_range, one_reading, run_range}
use Rattle.nn_top.proofs.run.namenode.Goals as goal

pub run_format-requires-clause-some : goal.run_format-requires-clause-some
run_format-requires-clause-some g c =
    let words = texts c.args.words.now in
    let asked = subst (λ (command : Command). wanted_by words ≡ Some (wanted_in command)) c.in-Format.is c.in-Some.ensures.some in
    (format_range words c.in-Format.cluster c.in-Format.namespace (texts c.in-Format.dirs.now) asked).1

pub run_format-requires-clause-fits : goal.run_format-requires-clause-fits
run_format-requires-clause-fits g c =
    let words = texts c.args.words.now in
    let asked = subst (λ (command : Command). wanted_by words ≡ Some (wanted_in command)) c.in-Format.is c.in-Some.ensures.some in
    (format_range words c.in-Format.cluster c.in-Format.namespace (texts c.in-Format.dirs.now) asked).2

pub returns-in-Format-clause-did : goal.returns-in-Format-clause-did
returns-in-Format-clause-did g c = λ wanted asks.
    let words = texts c.args.words.now in
    let asked = subst (λ (command : Command). wanted_by words ≡ Some (wanted_in command)) c.in-Format.is c.in-Some.ensures.some in
    subst (λ (w : Wanted). Did g.H.Host.told g.S.Source.told g.S.Source.left g.S.Source.faults w c.args.source.now c.args.source.now (g.H.Host.state c.args.host.now) (g.H.Host.state c.run_format.new.host) c.run_format.result)
    (one_reading words (Format c.in-Format.cluster c.in-Format.namespace (texts c.in-Format.dirs.now)) wanted asked asks) (refl, c.run_format.ensures)

pub run_dirs-requires : goal.run_dirs-requires
run_dirs-requires g c =
    let words = texts c.args.words.now in
    let asked = subst (λ (command : Command). wanted_by words ≡ Some (wanted_in command)) c.in-Run.is c.in-Some.ensures.some in
    (run_range words c.in-Run.at c.in-Run.generated (texts c.in-Run.dirs.now) asked).0

pub run_files-requires-clause-at : goal.run_files-requires-clause-at
run_files-requires-clause-at g c =
    let words = texts c.args.words.now in
    let asked = subst (λ (command : Command). wanted_by words ≡ Some (wanted_in command)) c.in-Run.is c.in-Some.ensures.some in
    (run_range words c.in-Run.at c.in-Run.generated (texts c.in-Run.dirs.now) asked).0

pub run_files-requires-clause-files : goal.run_files-requires-clause-files
run_files-requires-clause-files g c =
    let words = texts c.args.words.now in
    let asked = subst (λ (command : Command). wanted_by words ≡ Some (wanted_in command)) c.in-Run.is c.in-Some.ensures.some in
    ((run_range words c.in-Run.at c.in-Run.generated (texts c.in-Run.dirs.now) asked).1 c.in-Some-generated.files c.in-Some-generated.is).1
