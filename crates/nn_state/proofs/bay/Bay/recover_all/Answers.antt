use Rattle.std.proofs.Common.{◌≡◌, ℕ, ◌+◌, List, [], ◌∷◌, ◌++◌, length, rules, sym, ◌∙◌, subst, arith, length-append}
use Rattle.std.proofs.lemmas.Iterator.Consumers.{YieldsList-turn, YieldsList-end}
use Rattle.std.proofs.lemmas.Iterator.Adapters.{YieldsList-from_vec}
use Rattle.nn_host.proofs.RunsLemmas.{throughout_refl}
use Rattle.nn_state.specs.declared.typed.Settled.{Settled}
use Rattle.nn_state.proofs.BayLemmas.{Recovering, recovering_none, all_old, turn_below, turn_there, turn_fits, turn_run, turn_quiet, turn_rose, turn_stopped, turn_more, turn_last}
use Rattle.nn_state.proofs.bay.Bay.recover_all.Goals as goal

pub returns-in_default-clause-any_moment : goal.returns-in_default-clause-any_moment
returns-in_default-clause-any_moment g c =
    throughout_refl (λ tells. record { at = λ j below. all_old (g.H.Host.state c.args.host.now) c.requires.found c.requires.fits tells j below })

pub found-init : goal.found-init
found-init g c =
    record {
      so_far = recovering_none (all_old (g.H.Host.state c.args.host.now) c.requires.found c.requires.fits) c.in-Ok.ensures.items;
      len = c.in-Ok.ensures.len;
      room = c.in-Ok.ensures.exact ∙ c.len.ensures;
    }

pub recover_found-requires-clause-below : goal.recover_found-requires-clause-below
recover_found-requires-clause-below g c =
    turn_below c.in-Some.it c.found.invariant.so_far c.requires.found
    (YieldsList-turn (YieldsList-from_vec {s = c.into_iter-it-iterator.result} c.args.found.items (search rules) (search rules)) c.found.yielded c.found.it-iterator c.found.yielded_by c.next.result c.next.new.self c.in-Some.it c.in-Some.is c.next.ensures.steps)

pub recover_found-requires-clause-there : goal.recover_found-requires-clause-there
recover_found-requires-clause-there g c =
    turn_there c.in-Some.it c.found.invariant.so_far c.requires.found
    (YieldsList-turn (YieldsList-from_vec {s = c.into_iter-it-iterator.result} c.args.found.items (search rules) (search rules)) c.found.yielded c.found.it-iterator c.found.yielded_by c.next.result c.next.new.self c.in-Some.it c.in-Some.is c.next.ensures.steps)

pub recover_found-requires-clause-fits : goal.recover_found-requires-clause-fits
recover_found-requires-clause-fits g c =
    turn_fits c.in-Some.it c.found.invariant.so_far c.requires.found
    (YieldsList-turn (YieldsList-from_vec {s = c.into_iter-it-iterator.result} c.args.found.items (search rules) (search rules)) c.found.yielded c.found.it-iterator c.found.yielded_by c.next.result c.next.new.self c.in-Some.it c.in-Some.is c.next.ensures.steps)
    c.requires.fits

pub push_reserved-requires : goal.push_reserved-requires
push_reserved-requires g c =
    let t = (YieldsList-turn (YieldsList-from_vec {s = c.into_iter-it-iterator.result} c.args.found.items (search rules) (search rules)) c.found.yielded c.found.it-iterator c.found.yielded_by c.next.result c.next.new.self c.in-Some.it c.in-Some.is c.next.ensures.steps) in
    omega (arith, t.0, c.found.invariant.len, c.found.invariant.room, c.args.found.ok.0)

pub found-preserved : goal.found-preserved
found-preserved g c =
    let long : length (c.found.yielded ++ c.in-Some.it ∷ []) ≡ length c.found.yielded + 1 = omega (arith, length-append c.found.yielded (c.in-Some.it ∷ [])) in
    let more = turn_more c.in-Some.it c.found.invariant.so_far c.requires.found
    (YieldsList-turn (YieldsList-from_vec {s = c.into_iter-it-iterator.result} c.args.found.items (search rules) (search rules)) c.found.yielded c.found.it-iterator c.found.yielded_by c.next.result c.next.new.self c.in-Some.it c.in-Some.is c.next.ensures.steps)
    c.in-Ok-recover_found.ensures.any_moment c.in-Ok-recover_found.settled c.in-Ok-recover_found.ensures.cause.ok c.in-Ok-recover_found.ensures.dir c.in-Ok-recover_found.ensures.ok c.in-Ok-recover_found.ensures.fits in
    record {
      so_far = subst (λ (n : ℕ). Recovering g.H.Host.told n (g.H.Host.state c.args.host.now) (g.H.Host.state c.recover_found.new.host) c.push_reserved.new.self.items) (sym long)
          (subst (λ (xs : List Settled). Recovering g.H.Host.told (length c.found.yielded + 1) (g.H.Host.state c.args.host.now) (g.H.Host.state c.recover_found.new.host) xs) (sym c.push_reserved.ensures.items) more);
      len = omega (arith, long, c.push_reserved.ensures.len, c.found.invariant.len);
      room = c.push_reserved.ensures.capacity ∙ c.found.invariant.room;
    }

pub returns-in-Err-clause-err : goal.returns-in-Err-clause-err
returns-in-Err-clause-err g c =
    turn_stopped c.in-Some.it c.found.invariant.so_far c.requires.found
    (YieldsList-turn (YieldsList-from_vec {s = c.into_iter-it-iterator.result} c.args.found.items (search rules) (search rules)) c.found.yielded c.found.it-iterator c.found.yielded_by c.next.result c.next.new.self c.in-Some.it c.in-Some.is c.next.ensures.steps)
    c.in-Err.ensures.any_moment c.in-Err.field-0.0 c.in-Err.ensures.dir

pub returns-in-Err-clause-any_moment : goal.returns-in-Err-clause-any_moment
returns-in-Err-clause-any_moment g c =
    turn_run c.in-Some.it c.found.invariant.so_far c.requires.found
    (YieldsList-turn (YieldsList-from_vec {s = c.into_iter-it-iterator.result} c.args.found.items (search rules) (search rules)) c.found.yielded c.found.it-iterator c.found.yielded_by c.next.result c.next.new.self c.in-Some.it c.in-Some.is c.next.ensures.steps)
    c.in-Err.ensures.any_moment

pub returns-in-Err-clause-quiet : goal.returns-in-Err-clause-quiet
returns-in-Err-clause-quiet g c =
    turn_quiet c.in-Some.it c.found.invariant.so_far c.requires.found
    (YieldsList-turn (YieldsList-from_vec {s = c.into_iter-it-iterator.result} c.args.found.items (search rules) (search rules)) c.found.yielded c.found.it-iterator c.found.yielded_by c.next.result c.next.new.self c.in-Some.it c.in-Some.is c.next.ensures.steps)
    c.in-Err.ensures.any_moment

pub returns-in-Err-clause-cause : goal.returns-in-Err-clause-cause
returns-in-Err-clause-cause g c =
    turn_rose c.in-Some.it c.found.invariant.so_far c.requires.found
    (YieldsList-turn (YieldsList-from_vec {s = c.into_iter-it-iterator.result} c.args.found.items (search rules) (search rules)) c.found.yielded c.found.it-iterator c.found.yielded_by c.next.result c.next.new.self c.in-Some.it c.in-Some.is c.next.ensures.steps)
    c.in-Err.ensures.any_moment c.in-Err.field-0.0 c.in-Err.ensures.dir c.in-Err.ensures.cause.err

pub returns-clause-ok : goal.returns-clause-ok
returns-clause-ok g c =
    λ tells j below. (turn_last c.found.invariant.so_far c.requires.found (YieldsList-end (YieldsList-from_vec {s = c.into_iter-it-iterator.result} c.args.found.items (search rules) (search rules)) c.found.yielded c.found.it-iterator c.found.yielded_by c.next.result c.next.new.self c.in-None.is c.next.ensures.steps).1).recovered tells j below

pub returns-clause-settled : goal.returns-clause-settled
returns-clause-settled g c =
    (turn_last c.found.invariant.so_far c.requires.found (YieldsList-end (YieldsList-from_vec {s = c.into_iter-it-iterator.result} c.args.found.items (search rules) (search rules)) c.found.yielded c.found.it-iterator c.found.yielded_by c.next.result c.next.new.self c.in-None.is c.next.ensures.steps).1).settled

pub returns-clause-fits : goal.returns-clause-fits
returns-clause-fits g c =
    c.found.invariant.so_far.fits

pub returns-clause-any_moment : goal.returns-clause-any_moment
returns-clause-any_moment g c =
    c.found.invariant.so_far.run

pub returns-clause-quiet : goal.returns-clause-quiet
returns-clause-quiet g c =
    c.found.invariant.so_far.quiet

pub returns-clause-cause : goal.returns-clause-cause
returns-clause-cause g c =
    c.found.invariant.so_far.counts
