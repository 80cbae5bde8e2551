use Rattle.std.proofs.Common.{◌≡◌, ◌∙◌, ap, sym, List, ℕ, Some}
use Rattle.std.proofs.lemmas.Result.{on_ok_weaker}
use Rattle.nn_memhost.specs.declared.asked.Asked.{Asked}
use Rattle.nn_memhost.specs.Asked.{call_of}
use Rattle.nn_memhost.specs.Part.{taken_of}
use Rattle.nn_memhost.specs.Held.{held_of, kept_part, written}
use Rattle.nn_memhost.proofs.asked.carry_part.Goals as goal

pub returns-in-Append-clause-ok : goal.returns-in-Append-clause-ok
returns-in-Append-clause-ok c =
    let h = held_of c.args.dir.now in
    let count : c.taken-count.result ≡ taken_of (Some c.args.part) c.in-Append.bytes.items = c.taken-count.ensures.count ∙ ap (λ (b : List ℕ). taken_of (Some c.args.part) b) c.deref.ensures.value in
    on_ok_weaker c.append.result
    (λ e. e ∙ (λ i. written (count i) c.in-Append.sub c.in-Append.name (c.deref-in-Append.ensures.value i) h) ∙ ap (λ (a : Asked). kept_part c.args.part (call_of a) h) (sym c.in-Append.is))
    c.append.ensures.ok
