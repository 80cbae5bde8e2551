use Rattle.std.proofs.Common.{◌≡◌, ◌++◌, sym, ◌∙◌, ap, subst}
use Rattle.nn_base.specs.Paths.{Bytes}
use Rattle.nn_script.specs.Lines.{lines_of}
use Rattle.nn_generate.specs.Generated.{file_lines}
use Rattle.nn_fill.specs.Filled.{AreGood}
use Rattle.nn_fill.proofs.ScriptLemmas.{file_is_good}
use Rattle.nn_serve.specs.Filling.{Fills}
use Rattle.nn_serve.proofs.filling.do_file.Goals as goal

pub do_lines-requires-clause-good : goal.do_lines-requires-clause-good
do_lines-requires-clause-good g c =
    let text : c.deref.result.now ≡ file_lines c.args.k = c.deref.ensures.value ∙ c.in-Ok.ensures.ok ∙ ap (λ (lines : Bytes). lines ++ file_lines c.args.k) c.clear.ensures.items in
    subst AreGood (sym text) (file_is_good c.args.k c.ranges.k.fits)

pub returns-clause-fills : goal.returns-clause-fills
returns-clause-fills g c =
    let text : c.deref.result.now ≡ file_lines c.args.k = c.deref.ensures.value ∙ c.in-Ok.ensures.ok ∙ ap (λ (lines : Bytes). lines ++ file_lines c.args.k) c.clear.ensures.items in
    let core = c.args.core.now in
    let new = c.do_lines.new.core in
    subst (λ (t : Bytes). Fills g.H.Host.told (lines_of t) core.count core.version (g.T.Tree.meaning core.tree) (g.T.Tree.meaning new.tree) core.time new.time core.journal new.journal c.args.tally.now c.do_lines.new.tally
    (g.H.Host.state c.args.host.now) (g.H.Host.state c.do_lines.new.host) c.do_lines.result) text c.do_lines.ensures.fills
