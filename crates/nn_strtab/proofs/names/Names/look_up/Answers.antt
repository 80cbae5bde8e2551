use Rattle.std.proofs.Common.{ℕ, ◌+◌, ◌≡◌, sym, ap, subst, ◌∙◌, Some, List, map, Global}
use Rattle.std.specs.Prelude.{Vec}
use Rattle.nn_strtab.specs.Numbers.{number_in, name_at, with_use}
use Rattle.nn_strtab.proofs.NumbersLemmas.{number_of_found, number_of_place, name_at_found, name_at_key, used_there, used_inserted}
use Rattle.nn_strtab.proofs.names.Names.look_up.Goals as goal

abbrev items : Vec ℕ Global → List ℕ
items name = name.items

pub returns-in-Some-clause-ok : goal.returns-in-Some-clause-ok
returns-in-Some-clause-ok c = subst (λ v. c.in-Some.place + 1 ≡ number_in v c.args.name.now) c.self.view_is
    (number_of_found items c.args.name.now c.self.inside.distinct.keys c.in-Some.place (sym c.in-Some.ensures.index))

pub returns-in-Some-clause-named : goal.returns-in-Some-clause-named
returns-in-Some-clause-named c = subst (λ v. name_at v (c.in-Some.place + 1) ≡ Some c.args.name.now) c.self.view_is
    (name_at_found items c.args.name.now c.self.inside.distinct.keys c.in-Some.place (sym c.in-Some.ensures.index))

pub returns-in-Some-clause-used : goal.returns-in-Some-clause-used
returns-in-Some-clause-used c = subst (λ v. v ≡ with_use v c.args.name.now) c.self.view_is
    (used_there items c.args.name.now c.self.inside.distinct.keys (sym c.in-Some.ensures.found))

pub returns-clause-ok : goal.returns-clause-ok
returns-clause-ok c =
    let copy = c.in_ok-to_vec.ensures.items_if_clones_equal (λ x y same. same) in
    number_of_place items c.in_ok-to_vec.field-0.items c.self.inside.distinct.keys c.in_ok-place.place c.in_ok-place.ensures.index
    ∙ (λ j. number_in (c.self.view_is j) (copy j))

pub returns-clause-named : goal.returns-clause-named
returns-clause-named c =
    let copy = c.in_ok-to_vec.ensures.items_if_clones_equal (λ x y same. same) in
    let stored = c.in_ok-place.ensures.stored in
    name_at_key items c.in_ok-to_vec.field-0.items c.insert_full.new.self.keys c.in_ok-place.place stored.0 stored.1 stored.2 ∙ ap Some copy

pub returns-clause-used : goal.returns-clause-used
returns-clause-used c =
    let copy = c.in_ok-to_vec.ensures.items_if_clones_equal (λ x y same. same) in
    ap (map items) c.in_ok-place.ensures.keys ∙ used_inserted items c.self.inside.distinct.keys c.in_ok-to_vec.field-0
    ∙ (λ j. with_use (c.self.view_is j) (copy j))
