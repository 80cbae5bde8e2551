use Rattle.std.proofs.Common.{◌≡◌, ◌+◌, List, ℕ, [], length, cond, true, false, refl, sym, ap, subst, rules}
use Rattle.nn_segment.specs.Segment.{has_header, spelled, ReachesFrame}
use Rattle.nn_segment.specs.Reaching.{IsAll, ReachFrame}
use Rattle.nn_segment.proofs.RunLemmas.{nothing_is_intact, told_run, told_within, told_frame, one_intact_run}
use Rattle.nn_segment.proofs.run.intact_run.Goals as goal

pub returns-in_default-clause-run : goal.returns-in_default-clause-run
returns-in_default-clause-run c =
    let unseen : has_header c.args.bytes.now c.args.layout ≡ false = search rules in
    ([], nothing_is_intact c.args.bytes.now c.args.layout c.args.first unseen, refl, ap (λ b. cond b (8 + length (spelled [])) 0) (sym unseen))

pub returns-in_default-clause-one : goal.returns-in_default-clause-one
returns-in_default-clause-one c = one_intact_run

pub returns-in_err-last-clause-one : goal.returns-in_err-last-clause-one
returns-in_err-last-clause-one c = one_intact_run

pub returns-in_err-last-clause-memory : goal.returns-in_err-last-clause-memory
returns-in_err-last-clause-memory c =
    let behind = subst (λ (t : List ℕ). ReachFrame t c.args.first) c.in-Some.ensures.1 c.in_err-last.ensures.memory in
    let seen : has_header c.args.bytes.now c.args.layout ≡ true = search rules in
    let reach : ReachesFrame c.args.bytes.now c.args.layout c.args.first = told_frame _ _ _ seen behind in
    search rules

pub returns-clause-run : goal.returns-clause-run
returns-clause-run c =
    let all = subst (λ (t : List ℕ). IsAll t c.args.first c.in_ok-last.last c.in_ok-last.len) c.in-Some.ensures.1 c.in_ok-last.ensures.all in
    let seen : has_header c.args.bytes.now c.args.layout ≡ true = search rules in
    told_run c.args.bytes.now c.args.layout c.args.first c.in_ok-last.last c.in_ok-last.len seen all

pub returns-clause-within : goal.returns-clause-within
returns-clause-within c =
    let all = subst (λ (t : List ℕ). IsAll t c.args.first c.in_ok-last.last c.in_ok-last.len) c.in-Some.ensures.1 c.in_ok-last.ensures.all in
    let seen : has_header c.args.bytes.now c.args.layout ≡ true = search rules in
    told_within c.args.bytes.now c.args.layout c.args.first c.in_ok-last.last c.in_ok-last.len seen all

pub returns-clause-one : goal.returns-clause-one
returns-clause-one c = one_intact_run
