use Rattle.std.proofs.Common.{◌≡◌, ℕ, ◌+◌, List, [], ◌∷◌, ◌++◌, length, rules, sym, ◌∙◌, subst, arith, length-append}
use Rattle.std.proofs.lemmas.Iterator.Consumers.{YieldsList-turn, YieldsList-end}
use Rattle.std.proofs.lemmas.Iterator.Adapters.{YieldsList-from_vec}
use Rattle.nn_base.specs.DirSets.{has}
use Rattle.nn_state.specs.declared.typed.Settled.{Settled}
use Rattle.nn_start.proofs.AllBroughtLemmas.{Bringing, bringing_none, none_kept, turn_below, turn_fits, turn_run, turn_quiet, turn_left, turn_rose, turn_more, all_brought, brought_all, kept_all}
use Rattle.nn_start.proofs.bringing.bring_up.Goals as goal

pub returns-in_default-clause-kept : goal.returns-in_default-clause-kept
returns-in_default-clause-kept g c = none_kept

pub dirs-init : goal.dirs-init
dirs-init g c = record { so_far = bringing_none c.in-Ok.ensures.items; len = c.in-Ok.ensures.len; room = c.in-Ok.ensures.exact ∙ c.len.ensures }

pub bring_one-requires-clause-below : goal.bring_one-requires-clause-below
bring_one-requires-clause-below g c = turn_below c.in-Some.it c.dirs.invariant.so_far c.requires.settled (YieldsList-turn (YieldsList-from_vec {s = c.into_iter-it-iterator.result} c.args.bay.at.items (search rules) (search rules)) c.dirs.yielded c.dirs.it-iterator c.dirs.yielded_by c.next.result c.next.new.self c.in-Some.it c.in-Some.is c.next.ensures.steps)

pub bring_one-requires-clause-fits : goal.bring_one-requires-clause-fits
bring_one-requires-clause-fits g c = turn_fits c.in-Some.it c.dirs.invariant.so_far c.requires.settled (YieldsList-turn (YieldsList-from_vec {s = c.into_iter-it-iterator.result} c.args.bay.at.items (search rules) (search rules)) c.dirs.yielded c.dirs.it-iterator c.dirs.yielded_by c.next.result c.next.new.self c.in-Some.it c.in-Some.is c.next.ensures.steps) c.requires.fits

pub push_reserved-requires : goal.push_reserved-requires
push_reserved-requires g c =
    let t = (YieldsList-turn (YieldsList-from_vec {s = c.into_iter-it-iterator.result} c.args.bay.at.items (search rules) (search rules)) c.dirs.yielded c.dirs.it-iterator c.dirs.yielded_by c.next.result c.next.new.self c.in-Some.it c.in-Some.is c.next.ensures.steps) in
    omega (arith, t.0, c.dirs.invariant.len, c.dirs.invariant.room, c.args.bay.at.ok.0)

pub dirs-preserved : goal.dirs-preserved
dirs-preserved g c =
    let long : length (c.dirs.yielded ++ c.in-Some.it ∷ []) ≡ length c.dirs.yielded + 1 = omega (arith, length-append c.dirs.yielded (c.in-Some.it ∷ [])) in
    let more = turn_more c.in-Some.it c.dirs.invariant.so_far c.requires.settled (YieldsList-turn (YieldsList-from_vec {s = c.into_iter-it-iterator.result} c.args.bay.at.items (search rules) (search rules)) c.dirs.yielded c.dirs.it-iterator c.dirs.yielded_by c.next.result c.next.new.self c.in-Some.it c.in-Some.is c.next.ensures.steps) c.in-Ok-bring_one.ensures.touched c.in-Ok-bring_one.ensures.left c.in-Ok-bring_one.ensures.kept c.in-Ok-bring_one.settled c.in-Ok-bring_one.ensures.cause c.in-Ok-bring_one.ensures.dir c.in-Ok-bring_one.ensures.fits c.in-Ok-bring_one.ensures.brought in
    record {
      so_far = subst (λ (n : ℕ). Bringing g.H.Host.told (has c.args.aim.now.chosen) (has c.args.aim.now.level) c.args.aim.now.saved c.args.aim.now.version c.args.aim.now.last (g.T.Tree.meaning c.args.aim.now.tree) n (g.H.Host.state c.args.host.now) (g.H.Host.state c.bring_one.new.host) c.push_reserved.new.self.items) (sym long)
          (subst (λ (xs : List Settled). Bringing g.H.Host.told (has c.args.aim.now.chosen) (has c.args.aim.now.level) c.args.aim.now.saved c.args.aim.now.version c.args.aim.now.last (g.T.Tree.meaning c.args.aim.now.tree) (length c.dirs.yielded + 1) (g.H.Host.state c.args.host.now) (g.H.Host.state c.bring_one.new.host) xs) (sym c.push_reserved.ensures.items) more);
      len = omega (arith, long, c.push_reserved.ensures.len, c.dirs.invariant.len);
      room = c.push_reserved.ensures.capacity ∙ c.dirs.invariant.room;
    }

pub returns-in-Err-Failed-clause-kept : goal.returns-in-Err-Failed-clause-kept
returns-in-Err-Failed-clause-kept g c = turn_run c.in-Some.it c.dirs.invariant.so_far c.requires.settled (YieldsList-turn (YieldsList-from_vec {s = c.into_iter-it-iterator.result} c.args.bay.at.items (search rules) (search rules)) c.dirs.yielded c.dirs.it-iterator c.dirs.yielded_by c.next.result c.next.new.self c.in-Some.it c.in-Some.is c.next.ensures.steps) c.in-Err-Failed.ensures.touched c.in-Err-Failed.ensures.left c.in-Err-Failed.ensures.kept

pub returns-in-Err-Failed-clause-quiet : goal.returns-in-Err-Failed-clause-quiet
returns-in-Err-Failed-clause-quiet g c = turn_quiet c.in-Some.it c.dirs.invariant.so_far c.requires.settled (YieldsList-turn (YieldsList-from_vec {s = c.into_iter-it-iterator.result} c.args.bay.at.items (search rules) (search rules)) c.dirs.yielded c.dirs.it-iterator c.dirs.yielded_by c.next.result c.next.new.self c.in-Some.it c.in-Some.is c.next.ensures.steps) c.in-Err-Failed.ensures.touched c.in-Err-Failed.ensures.left c.in-Err-Failed.ensures.kept

pub returns-in-Err-Failed-clause-left : goal.returns-in-Err-Failed-clause-left
returns-in-Err-Failed-clause-left g c = turn_left c.in-Some.it c.dirs.invariant.so_far c.requires.settled (YieldsList-turn (YieldsList-from_vec {s = c.into_iter-it-iterator.result} c.args.bay.at.items (search rules) (search rules)) c.dirs.yielded c.dirs.it-iterator c.dirs.yielded_by c.next.result c.next.new.self c.in-Some.it c.in-Some.is c.next.ensures.steps) c.in-Err-Failed.ensures.touched c.in-Err-Failed.ensures.left c.in-Err-Failed.ensures.kept

pub returns-in-Err-Memory-clause-kept : goal.returns-in-Err-Memory-clause-kept
returns-in-Err-Memory-clause-kept g c = turn_run c.in-Some.it c.dirs.invariant.so_far c.requires.settled (YieldsList-turn (YieldsList-from_vec {s = c.into_iter-it-iterator.result} c.args.bay.at.items (search rules) (search rules)) c.dirs.yielded c.dirs.it-iterator c.dirs.yielded_by c.next.result c.next.new.self c.in-Some.it c.in-Some.is c.next.ensures.steps) c.in-Err-Memory.ensures.touched c.in-Err-Memory.ensures.left c.in-Err-Memory.ensures.kept

pub returns-in-Err-Memory-clause-quiet : goal.returns-in-Err-Memory-clause-quiet
returns-in-Err-Memory-clause-quiet g c = turn_quiet c.in-Some.it c.dirs.invariant.so_far c.requires.settled (YieldsList-turn (YieldsList-from_vec {s = c.into_iter-it-iterator.result} c.args.bay.at.items (search rules) (search rules)) c.dirs.yielded c.dirs.it-iterator c.dirs.yielded_by c.next.result c.next.new.self c.in-Some.it c.in-Some.is c.next.ensures.steps) c.in-Err-Memory.ensures.touched c.in-Err-Memory.ensures.left c.in-Err-Memory.ensures.kept

pub returns-in-Err-Memory-clause-left : goal.returns-in-Err-Memory-clause-left
returns-in-Err-Memory-clause-left g c = turn_left c.in-Some.it c.dirs.invariant.so_far c.requires.settled (YieldsList-turn (YieldsList-from_vec {s = c.into_iter-it-iterator.result} c.args.bay.at.items (search rules) (search rules)) c.dirs.yielded c.dirs.it-iterator c.dirs.yielded_by c.next.result c.next.new.self c.in-Some.it c.in-Some.is c.next.ensures.steps) c.in-Err-Memory.ensures.touched c.in-Err-Memory.ensures.left c.in-Err-Memory.ensures.kept

pub returns-in-Err-Failed-clause-cause : goal.returns-in-Err-Failed-clause-cause
returns-in-Err-Failed-clause-cause g c = turn_rose c.in-Some.it c.dirs.invariant.so_far c.requires.settled (YieldsList-turn (YieldsList-from_vec {s = c.into_iter-it-iterator.result} c.args.bay.at.items (search rules) (search rules)) c.dirs.yielded c.dirs.it-iterator c.dirs.yielded_by c.next.result c.next.new.self c.in-Some.it c.in-Some.is c.next.ensures.steps) c.in-Err-Failed.ensures.touched c.in-Err-Failed.ensures.left c.in-Err-Failed.ensures.kept c.dir-dir.result c.dir-dir.ensures (rw c.in-Err-Failed.field-0-is at c.in-Err-Failed.ensures.cause)

pub returns-clause-brought : goal.returns-clause-brought
returns-clause-brought g c = λ tells. brought_all (all_brought c.dirs.invariant.so_far c.requires.settled (YieldsList-end (YieldsList-from_vec {s = c.into_iter-it-iterator.result} c.args.bay.at.items (search rules) (search rules)) c.dirs.yielded c.dirs.it-iterator c.dirs.yielded_by c.next.result c.next.new.self c.in-None.is c.next.ensures.steps).1) tells

pub returns-clause-kept : goal.returns-clause-kept
returns-clause-kept g c = kept_all c.dirs.invariant.so_far

pub returns-clause-settled : goal.returns-clause-settled
returns-clause-settled g c = (all_brought c.dirs.invariant.so_far c.requires.settled (YieldsList-end (YieldsList-from_vec {s = c.into_iter-it-iterator.result} c.args.bay.at.items (search rules) (search rules)) c.dirs.yielded c.dirs.it-iterator c.dirs.yielded_by c.next.result c.next.new.self c.in-None.is c.next.ensures.steps).1).settled
