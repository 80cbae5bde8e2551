use Rattle.std.proofs.Common.{◌≡◌, ℕ, ◌+◌, ◌&&◌, Bool, true, sym, ap, subst, ◌∙◌, arith}
use mathlib.Core.Bool.{beq}
use Rattle.nn_base.specs.DirSets.{Members, has}
use Rattle.nn_base.proofs.PlainLemmas.{and_false}
use Rattle.nn_base.proofs.DirSetLemmas.{IsUpTo, none_past, none_yet, one_more, one_past, all_told}
use Rattle.nn_base.proofs.dir_set.DirSet.part.Goals as goal
use Rattle.nn_base.proofs.dir_set.DirSet.part.Goals.{then-has+then-has-wanted, else-has, else-has-via-then-has+else-has-wanted, else-has-via-else-has}

abbrev is_wanted : Members → Members → Bool → ℕ → Bool
is_wanted set other wanted j = has set j && beq (has other j) wanted

pub loop-i-init : goal.loop-i-init
loop-i-init c = none_yet (is_wanted c.args.self c.args.other c.args.wanted) c.none-set.ensures

pub loop-i-preserved : goal.loop-i-preserved
loop-i-preserved c =
    let test = is_wanted c.args.self c.args.other c.args.wanted in
    elim c.if-has.branch [
      | then-has+then-has-wanted w ↦
          let passes : test c.loop-i.i ≡ true = (λ i. (sym c.has.ensures ∙ w.if-has.true) i && (ap (λ b. beq b c.args.wanted) (sym w.has-then-has.ensures) ∙ w.if-has-wanted.true) i) in
          subst (λ (set : Members). IsUpTo set (c.loop-i.i + 1) test) (sym w.set-is) (one_more test c.loop-i.invariant passes w.with-set.ensures)
      | else-has w ↦
          subst (λ (set : Members). IsUpTo set (c.loop-i.i + 1) test) (sym w.set-is) (one_past test c.loop-i.invariant (elim w.else-has.branch [
            | else-has-via-then-has+else-has-wanted v ↦ and_false _ _ (ap (λ b. beq b c.args.wanted) (sym v.has-then-has.ensures) ∙ v.if-has-wanted.false)
            | else-has-via-else-has v ↦ ap (λ b. b && beq (has c.args.other c.loop-i.i) c.args.wanted) (sym c.has.ensures ∙ v.if-has.false)
          ]))
    ]

pub returns : goal.returns
returns c =
    let test = is_wanted c.args.self c.args.other c.args.wanted in
    let all = subst (λ k. IsUpTo c.loop-i.set k test) (omega (arith, c.loop-i.auto, c.loop-i-test.false)) c.loop-i.invariant in
    all_told test all (λ j past. ap (λ b. b && beq (has c.args.other j) c.args.wanted) (none_past c.args.self j past))
