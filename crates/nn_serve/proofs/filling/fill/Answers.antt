use Rattle.std.proofs.Common.{◌≡◌, ◌+◌, ◌*◌, ◌-◌, Ok, Err, refl, sym, ◌∙◌, ap, subst, arith}
use Rattle.nn_base.proofs.DirSetLemmas.{at_most_eight}
use Rattle.nn_script.specs.Lines.{lines_of}
use Rattle.nn_generate.specs.Generated.{script_of, file_lines}
use Rattle.nn_core.specs.Ready.{IsReady}
use Rattle.nn_serve.proofs.LoopLemmas.{room_less}
use Rattle.nn_serve.proofs.FillLinesLemmas.{fills_as}
use Rattle.nn_serve.proofs.FillLoopLemmas.{filling_first, filling_as, next_file, last_file}
use Rattle.nn_serve.proofs.filling.fill.Goals as goal

pub files-init : goal.files-init
files-init g c =
    let core = c.args.core.now in
    let s = g.H.Host.state c.args.host.now in record {
      room = c.requires.room;
      ready = c.requires.ready;
      count = refl;
      version = refl;
      imaged = c.requires.imaged;
      ids = omega arith;
      few = omega (arith, c.none-tally.ensures.0);
      filling = λ at origin serving room little. (
        filling_first at c.args.files core.count core.version (g.T.Tree.meaning core.tree) core.time core.journal c.none-tally.result origin s c.none-tally.ensures.0 c.none-tally.ensures.1 serving little,
        room_less (4 * (c.args.files - 0)) (omega (arith, c.requires.few)) room,
      );
    }

pub do_file-requires-clause-ids : goal.do_file-requires-clause-ids
do_file-requires-clause-ids g c = omega (arith, c.files.invariant.ids, c.requires.ids, c.requires.few, c.files-test.true, at_most_eight c.args.core.now.journal.live)

pub returns-in-Err : goal.returns-in-Err
returns-in-Err g c = λ at origin serving room little.
    let core = c.args.core.now in
    let now = c.files.core in
    let new = c.do_file.new.core in
    let a = g.H.Host.state c.files.host in
    let b = g.H.Host.state c.do_file.new.host in
    let so_far = c.files.invariant.filling at origin serving room little in
    last_file at c.args.files core.count c.files.k core.version (g.T.Tree.meaning now.tree) now.time now.journal c.files.tally origin a so_far.0 so_far.1 c.files-test.true c.requires.few
    (g.T.Tree.meaning new.tree) new.time new.journal c.do_file.new.tally b c.in-Err.end c.run_end.result c.run_end.ensures
    (fills_as (lines_of (file_lines c.files.k)) (g.T.Tree.meaning now.tree) (g.T.Tree.meaning new.tree) now.time new.time now.journal new.journal c.files.tally c.do_file.new.tally a b (Err c.in-Err.end)
    c.files.invariant.count c.files.invariant.version c.in-Err.ensures.fills)

pub files-preserved : goal.files-preserved
files-preserved g c =
    let core = c.args.core.now in
    let now = c.files.core in
    let new = c.do_file.new.core in
    let a = g.H.Host.state c.files.host in
    let b = g.H.Host.state c.do_file.new.host in
    let fills = fills_as (lines_of (file_lines c.files.k)) (g.T.Tree.meaning now.tree) (g.T.Tree.meaning new.tree) now.time new.time now.journal new.journal c.files.tally c.do_file.new.tally a b (Ok c.in-Ok.field-0)
    c.files.invariant.count c.files.invariant.version c.in-Ok.ensures.fills in record {
      room = c.in-Ok.ensures.room;
      ready = subst (λ k. IsReady new.journal k b) c.files.invariant.count c.in-Ok.ensures.ready;
      count = c.in-Ok.ensures.same.0 ∙ c.files.invariant.count;
      version = c.in-Ok.ensures.same.1 ∙ c.files.invariant.version;
      imaged = c.in-Ok.ensures.imaged;
      ids = omega (arith, c.files.invariant.ids, c.in-Ok.ensures.last);
      few = omega (arith, c.files.invariant.few, c.in-Ok.ensures.few);
      filling = λ at origin serving room little.
          let so_far = c.files.invariant.filling at origin serving room little in
          next_file at c.args.files core.count c.files.k core.version (g.T.Tree.meaning now.tree) now.time now.journal c.files.tally origin a so_far.0 so_far.1 c.files-test.true c.requires.few
          (c.files.k + 1) (omega arith) (g.T.Tree.meaning new.tree) new.time new.journal c.do_file.new.tally b c.in-Ok.field-0 fills;
    }

pub finish-requires-clause-ids : goal.finish-requires-clause-ids
finish-requires-clause-ids g c = omega (arith, c.files.invariant.ids, c.requires.ids, c.requires.few, c.files.auto.k-end, at_most_eight c.args.core.now.journal.live)

pub returns : goal.returns
returns g c = λ at origin serving room little.
    let core = c.args.core.now in
    let now = c.files.core in
    let a = g.H.Host.state c.files.host in
    let so_far = c.files.invariant.filling at origin serving room little in
    let all : c.files.k ≡ c.args.files = omega (arith, c.files-test.false, c.files.auto.k-end) in
    c.finish.ensures at c.args.files origin
    (filling_as (sym c.files.invariant.count) (sym c.files.invariant.version) (ap (λ k. lines_of (script_of k)) all) so_far.0) (room_less 0 (omega arith) so_far.1)
