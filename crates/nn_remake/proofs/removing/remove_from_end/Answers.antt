use Rattle.std.proofs.Common.{◌≡◌, length, rules}
use Rattle.std.proofs.lemmas.List.{nil_from_length}
use Rattle.nn_remake.proofs.RemovingLemmas.{removing_run, removing_still, removing_more, removed_all}
use Rattle.nn_remake.proofs.removing.remove_from_end.Goals as goal

pub names-preserved : goal.names-preserved
names-preserved g c = removing_more c.pop.new.self.items c.in-Some.name c.names.invariant c.in-Some.ensures.items c.in_ok-remove_file.ensures

pub returns-in_err-remove_file-clause-any_moment : goal.returns-in_err-remove_file-clause-any_moment
returns-in_err-remove_file-clause-any_moment g c = removing_run c.pop.new.self.items c.in-Some.name c.names.invariant c.in-Some.ensures.items c.in_err-remove_file.ensures

pub returns-clause-any_moment : goal.returns-clause-any_moment
returns-clause-any_moment g c = c.names.invariant.run

pub returns-clause-ok : goal.returns-clause-ok
returns-clause-ok g c =
    let none : length c.names.names.items ≡ 0 = search rules in
    removed_all c.names.invariant (nil_from_length c.names.names.items none)

pub returns-in_err-remove_file-clause-still : goal.returns-in_err-remove_file-clause-still
returns-in_err-remove_file-clause-still g c = removing_still c.pop.new.self.items c.in-Some.name c.names.invariant c.in-Some.ensures.items c.in_err-remove_file.ensures

pub returns-clause-still : goal.returns-clause-still
returns-clause-still g c = c.names.invariant.still
