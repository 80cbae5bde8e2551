use Rattle.std.proofs.Common.{◌+◌, ◌≤◌, [], ◌∷◌, length, take, drop, Ok, Err, refl, sym, ◌∙◌, ap, subst, arith}
use Rattle.std.proofs.lemmas.List.{length-drop, take_rest}
use Rattle.nn_base.proofs.MarkLemmas.{mark_within}
use Rattle.nn_fill.specs.Filled.{AreGood}
use Rattle.nn_script.specs.Lines.{lines_of}
use Rattle.nn_core.specs.Ready.{IsReady}
use Rattle.nn_serve.proofs.FillLinesLemmas.{nothing_yet, one_more, cut_off, all_done, fills_as, left_as}
use Rattle.nn_fill.proofs.ScriptLemmas.{next_line}
use Rattle.nn_serve.proofs.filling.do_lines.Goals as goal

pub lines-init : goal.lines-init
lines-init g c =
    let core = c.args.core.now in record {
      good = c.requires.good;
      ready = c.requires.ready;
      count = refl;
      version = refl;
      imaged = c.requires.imaged;
      last = omega arith;
      few = omega arith;
      so_far = nothing_yet (lines_of c.args.text.now) core.count core.version (g.T.Tree.meaning core.tree) core.time core.journal c.args.tally.now (g.H.Host.state c.args.host.now) c.args.text.now refl;
    }

pub do_line-requires-clause-change : goal.do_line-requires-clause-change
do_line-requires-clause-change g c = (next_line c.lines.rest.now c.in-Some.end c.lines.invariant.good (sym c.in-Some.ensures)).line.changes

pub returns-in-Err-clause-fills : goal.returns-in-Err-clause-fills
returns-in-Err-clause-fills g c =
    let core = c.args.core.now in
    let now = c.lines.core in
    let new = c.do_line.new.core in
    let rest = c.lines.rest.now in
    let a = g.H.Host.state c.lines.host in
    let b = g.H.Host.state c.do_line.new.host in
    let fills = fills_as (take c.in-Some.end rest ∷ []) (g.T.Tree.meaning now.tree) (g.T.Tree.meaning new.tree) now.time new.time now.journal new.journal c.lines.tally c.do_line.new.tally a b (Err c.in-Err.end)
    c.lines.invariant.count c.lines.invariant.version c.in-Err.ensures.fills in
    cut_off (lines_of c.args.text.now) core.count core.version (g.T.Tree.meaning core.tree) core.time core.journal c.args.tally.now (g.H.Host.state c.args.host.now)
    (g.T.Tree.meaning now.tree) now.time now.journal c.lines.tally rest c.in-Some.end a c.lines.invariant.so_far c.lines.invariant.good (sym c.in-Some.ensures)
    (g.T.Tree.meaning new.tree) new.time new.journal c.do_line.new.tally b c.in-Err.end fills

pub lines-preserved : goal.lines-preserved
lines-preserved g c =
    let core = c.args.core.now in
    let now = c.lines.core in
    let new = c.do_line.new.core in
    let rest = c.lines.rest.now in
    let a = g.H.Host.state c.lines.host in
    let b = g.H.Host.state c.do_line.new.host in
    let found = sym c.in-Some.ensures in
    let within = mark_within 10 rest c.in-Some.end found in
    let cut = take_rest rest (c.in-Some.end + 1) in
    let next = next_line rest c.in-Some.end c.lines.invariant.good found in
    let fills = fills_as (take c.in-Some.end rest ∷ []) (g.T.Tree.meaning now.tree) (g.T.Tree.meaning new.tree) now.time new.time now.journal new.journal c.lines.tally c.do_line.new.tally a b (Ok c.in-Ok.field-0)
    c.lines.invariant.count c.lines.invariant.version c.in-Ok.ensures.fills in
    let short : length (drop (c.in-Some.end + 1) rest) + 1 ≤ length rest = omega (arith, within, length-drop (c.in-Some.end + 1) rest) in record {
      good = subst AreGood (sym cut) next.rest;
      ready = subst (λ k. IsReady new.journal k b) c.lines.invariant.count c.in-Ok.ensures.ready;
      count = c.in-Ok.ensures.same.0 ∙ c.lines.invariant.count;
      version = c.in-Ok.ensures.same.1 ∙ c.lines.invariant.version;
      imaged = c.in-Ok.ensures.imaged;
      last = omega (arith, c.lines.invariant.last, c.in-Ok.ensures.last, short, ap length cut);
      few = omega (arith, c.lines.invariant.few, c.in-Ok.ensures.few, short, ap length cut);
      so_far = left_as (drop (c.in-Some.end + 1) rest) _ (sym cut)
          (one_more (lines_of c.args.text.now) core.count core.version (g.T.Tree.meaning core.tree) core.time core.journal c.args.tally.now (g.H.Host.state c.args.host.now)
          (g.T.Tree.meaning now.tree) now.time now.journal c.lines.tally rest c.in-Some.end a c.lines.invariant.so_far c.lines.invariant.good found
          (g.T.Tree.meaning new.tree) new.time new.journal c.do_line.new.tally b c.in-Ok.field-0 fills);
    }

pub returns-clause-fills : goal.returns-clause-fills
returns-clause-fills g c =
    let core = c.args.core.now in
    let now = c.lines.core in
    all_done (lines_of c.args.text.now) core.count core.version (g.T.Tree.meaning core.tree) core.time core.journal c.args.tally.now (g.H.Host.state c.args.host.now)
    (g.T.Tree.meaning now.tree) now.time now.journal c.lines.tally c.lines.rest.now (g.H.Host.state c.lines.host) c.lines.invariant.so_far c.lines.invariant.good (sym c.newline_in.ensures ∙ c.in_default.is) tt
