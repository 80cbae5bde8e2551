use Rattle.std.proofs.Common.{length, sym, ◌∙◌, ap, subst, arith, ◌≤◌, List, ℕ}
use Rattle.nn_host.specs.Calls.{most_said}
use Rattle.nn_pick.specs.Refused.{or_else}
use Rattle.nn_server.proofs.ShortLemmas.{state_line_short}
use Rattle.nn_server.proofs.StatesLemmas.{so_far_more, look_fails, line_starves, line_cut, all_named, one_refuses}
use Rattle.nn_server.proofs.state_run.state.Goals as goal

pub say_line-requires : goal.say_line-requires
say_line-requires g c = subst (λ (line : List ℕ). length line ≤ most_said) (sym (c.as_bytes.ensures.value ∙ c.in-Ok-line_of.ensures)) (state_line_short c.loop-i.i (omega (arith, c.count-i-end.ensures.few)) c.in-Ok.found)

pub returns-in-Err : goal.returns-in-Err
returns-in-Err g c = look_fails c.loop-i.invariant (omega (arith, c.count-i-end.ensures.count)) c.in-Err.ensures.kept

pub returns-in-Err-line_of : goal.returns-in-Err-line_of
returns-in-Err-line_of g c = line_starves c.loop-i.invariant (omega (arith, c.count-i-end.ensures.count)) c.in-Ok.ensures.kept

pub returns-in-Err-say_line : goal.returns-in-Err-say_line
returns-in-Err-say_line g c =
    line_cut c.in-Ok.found c.loop-i.invariant (omega (arith, c.count-i-end.ensures.count)) c.in-Ok.ensures.kept c.in-Err-say_line.ensures
    (λ tells. c.in-Ok.ensures.ok tells) (c.as_bytes.ensures.value ∙ c.in-Ok-line_of.ensures)

pub loop-i-preserved : goal.loop-i-preserved
loop-i-preserved g c =
    so_far_more _ c.in-Ok.found c.loop-i.invariant c.in-Ok.ensures.kept c.in-Ok.ensures.asked c.in-Ok-say_line.ensures (λ tells. c.in-Ok.ensures.ok tells)
    (c.as_bytes.ensures.value ∙ c.in-Ok-line_of.ensures) (c.earlier-first.ensures ∙ ap (or_else c.loop-i.first) c.unusable.ensures)

pub returns-in-Some : goal.returns-in-Some
returns-in-Some g c = one_refuses c.in-Some.refusal c.loop-i.invariant (omega (arith, c.count-i-end.ensures.count, c.loop-i.auto.i-end, c.loop-i-test.false)) c.in-Some.is

pub returns-in-None : goal.returns-in-None
returns-in-None g c = all_named c.loop-i.invariant (omega (arith, c.count-i-end.ensures.count, c.loop-i.auto.i-end, c.loop-i-test.false)) c.in-None.is
