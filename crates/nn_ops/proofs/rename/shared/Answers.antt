use Rattle.std.proofs.Common.{arith, sym, ◌∙◌, ◌≡◌, ◌≤◌, ◌⊎◌, inl, inr, Bool, true, false, not, length, refl}
use Rattle.std.proofs.lemmas.Bool.Decides.{leb_tells}
use Rattle.nn_ops.proofs.SharedLemmas.{drop_next, shared_more, shared_ends, shared_all}
use Rattle.nn_ops.proofs.rename.shared.Goals as goal

is_not : (b : Bool) → true ≡ not b → b ≡ false
is_not true h = cc
is_not false h = refl

true_instead : (b : Bool) → false ≡ not b → b ≡ true
true_instead true h = refl
true_instead false h = cc

pub returns-then-ne : goal.returns-then-ne
returns-then-ne c =
    let a = sym c.loop-k.invariant.ours ∙ c.take_name.ensures.rest in
    let b = sym c.loop-k.invariant.theirs ∙ c.take_name-in-loop-k.ensures.rest in
    shared_ends c.args.a.now c.args.b.now c.loop-k.k _ _ _ _ a b (is_not _ c.if-ne.ensures) c.loop-k.invariant.common

pub loop-k-preserved : goal.loop-k-preserved
loop-k-preserved c =
    let a = sym c.loop-k.invariant.ours ∙ c.take_name.ensures.rest in
    let b = sym c.loop-k.invariant.theirs ∙ c.take_name-in-loop-k.ensures.rest in
    record {
      common = shared_more c.args.a.now c.args.b.now c.loop-k.k _ _ _ _ a b (true_instead _ c.if-ne.ensures) c.loop-k.invariant.common;
      ours = sym (drop_next c.args.a.now c.loop-k.k _ _ a);
      theirs = sym (drop_next c.args.b.now c.loop-k.k _ _ b);
    }

pub returns : goal.returns
returns c =
    let k : c.loop-k.k ≡ c.min-most.result = omega arith in
    let past : (length c.args.a.now ≤ c.loop-k.k) ⊎ (length c.args.b.now ≤ c.loop-k.k) = elim (leb_tells (length c.args.a.now) (length c.args.b.now)) as (λ _. (length c.args.a.now ≤ c.loop-k.k) ⊎ (length c.args.b.now ≤ c.loop-k.k)) [
      | inl h ↦ (let le = h.1 in inl (omega arith))
      | inr h ↦ (let lt = h.1 in inr (omega arith))
    ] in
    sym k ∙ shared_all c.args.a.now c.args.b.now c.loop-k.k past c.loop-k.invariant.common
