use Rattle.std.proofs.Common.{◌++◌, length, refl, sym, ap}
use Rattle.std.specs.List.{flat_map}
use Rattle.nn_tree.specs.Below.{entries_below}
use Rattle.nn_script.specs.declared.answer.Answer.TheVariants.{Count}
use Rattle.nn_script.specs.Spelling.{answer_text}
use Rattle.nn_script.specs.Answers.{lines_at}
use Rattle.nn_say.proofs.SayingLemmas.{streams_then, breaks_then, puts_broken, says_failed, says_rest}
use Rattle.nn_say.proofs.listing.say_listing.Goals as goal

pub returns-in_err-count : goal.returns-in_err-count
returns-in_err-count g c =
    let m = (g.T.Tree.meaning c.args.tree.now).nodes in
    let all = entries_below m (g.T.Tree.place c.args.tree.now c.args.top) in
    let lines = flat_map (lines_at m) all in
    let last = answer_text (Count (length all)) in
    says_failed c.begin.new.self.waiting.items (lines ++ last) c.from_residual.result c.from_residual.ensures.0 c.begin.ensures
    (puts_broken c.begin.new.self.waiting.items lines last (lines ++ last) c.in_err-count.ensures.puts refl)

pub returns-in_err-put_count : goal.returns-in_err-put_count
returns-in_err-put_count g c =
    let m = (g.T.Tree.meaning c.args.tree.now).nodes in
    let all = entries_below m (g.T.Tree.place c.args.tree.now c.args.top) in
    let lines = flat_map (lines_at m) all in
    says_failed c.begin.new.self.waiting.items (lines ++ answer_text (Count (length all))) c.from_residual-in_err-put_count.result c.from_residual-in_err-put_count.ensures.0 c.begin.ensures
    (breaks_then (answer_text (Count c.in_ok-count.count)) (lines ++ answer_text (Count (length all))) c.in_ok-count.ensures.puts c.in_err-put_count.ensures
    (ap (λ n. lines ++ answer_text (Count n)) (sym c.in_ok-count.ensures.count)))

pub returns : goal.returns
returns g c =
    let m = (g.T.Tree.meaning c.args.tree.now).nodes in
    let all = entries_below m (g.T.Tree.place c.args.tree.now c.args.top) in
    let lines = flat_map (lines_at m) all in
    says_rest (g.H.Host.state c.end.new.host) c.end.result c.begin.ensures
    (streams_then c.in_ok-count.ensures.puts c.in_ok-put_count.ensures (ap (λ n. lines ++ answer_text (Count n)) (sym c.in_ok-count.ensures.count))) c.end.ensures
