use Rattle.std.proofs.Common.{refl, subst}
use Rattle.nn_tidy.specs.Fates.{IsFate}
use Rattle.nn_tidy.proofs.PlanLemmas.{plan_stays, plan_loose, plan_beyond, plan_ends}
use Rattle.nn_tidy.proofs.plan.Plan.put.Goals as goal

pub returns-in-Stays : goal.returns-in-Stays
returns-in-Stays c = record { put = λ folder layout id names fate was. plan_stays folder layout id c.args.name names c.args.self.now was (subst (IsFate folder layout id c.args.name) c.in-Stays.is fate) }

pub returns-in_ok-push-in-Loose : goal.returns-in_ok-push-in-Loose
returns-in_ok-push-in-Loose c = record {
  put = λ folder layout id names fate was.
      plan_loose folder layout id c.args.name names c.args.self.now was (record { loose = c.push.new.self; beyond = c.args.self.now.beyond; ends = c.args.self.now.ends }) (subst (IsFate folder layout id c.args.name) c.in-Loose.is fate) c.in_ok-push-in-Loose.ensures.items refl refl;
}

pub returns-in_ok-push-in-Beyond : goal.returns-in_ok-push-in-Beyond
returns-in_ok-push-in-Beyond c = record {
  put = λ folder layout id names fate was.
      plan_beyond folder layout id c.args.name names c.args.self.now was (record { loose = c.args.self.now.loose; beyond = c.push-in-Beyond.new.self; ends = c.args.self.now.ends }) (subst (IsFate folder layout id c.args.name) c.in-Beyond.is fate) refl c.in_ok-push-in-Beyond.ensures.items refl;
}

pub returns-in_ok-push-in-Ends : goal.returns-in_ok-push-in-Ends
returns-in_ok-push-in-Ends c = record {
  put = λ folder layout id names fate was.
      plan_ends folder layout id c.args.name names c.args.self.now was (record { loose = c.args.self.now.loose; beyond = c.args.self.now.beyond; ends = c.push-in-Ends.new.self }) c.in-Ends.to (subst (IsFate folder layout id c.args.name) c.in-Ends.is fate) refl refl c.in_ok-push-in-Ends.ensures.items;
}
