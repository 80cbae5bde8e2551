use Rattle.std.proofs.Common.{ℕ, ◌≡◌, suc, arith, sym, ap, ◌∙◌, Some, Global}
use Rattle.std.specs.Prelude.{Vec}
use Rattle.std.specs.Option.{option_map}
use Rattle.std.proofs.lemmas.Option.{slice_get-map}
use Rattle.nn_strtab.specs.Numbers.{name_at}
use Rattle.nn_strtab.proofs.names.Names.name_of.Goals as goal

pub returns : goal.returns
returns c =
    let items = λ (name : Vec ℕ Global). name.items in
    let next : suc c.in_ok-place.place ≡ c.args.number = grind arith in
    ap Some c.deref.ensures.value ∙ ap (option_map items) c.in_ok-name.ensures.key
    ∙ sym (slice_get-map items c.self.inside.distinct.keys c.in_ok-place.place)
    ∙ (λ j. name_at (c.self.view_is j) (next j))
