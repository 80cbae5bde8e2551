use Rattle.std.proofs.Common.{◌≡◌, inl, inr, ℕ, ◌+◌, ◌<◌, ◌≤◌, ◌==◌, ◌||◌, true, false, sym, ◌∙◌, ap, arith}
use Rattle.std.proofs.lemmas.Bool.Decides.{eqb_tells}
use Rattle.nn_base.specs.DirSets.{Members, has}
use Rattle.nn_core.proofs.step.live_dirs.Goals as goal
use Rattle.nn_core.proofs.step.live_dirs.Goals.{then-live, else-live}

known_with : (set new wanted : Members) (i : ℕ) → ((j : ℕ) → has new j ≡ ((j == i) || has set j)) → has wanted i ≡ true → ((j : ℕ) → j < i → has set j ≡ has wanted j) → (j : ℕ) → j < i + 1 → has new j ≡ has wanted j
known_with set new wanted i adds there known j lt = elim (eqb_tells j i) [
  | inl is ↦ adds j ∙ ap (λ b. b || has set j) is.0 ∙ sym (ap (has wanted) is.1 ∙ there)
  | inr differs ↦ (let ne = differs.1 in adds j ∙ ap (λ b. b || has set j) differs.0 ∙ known j (grind (arith, lt, ne)))
]

rest_with : (set new : Members) (i : ℕ) → ((j : ℕ) → has new j ≡ ((j == i) || has set j)) → ((j : ℕ) → i ≤ j → has set j ≡ false) → (j : ℕ) → i + 1 ≤ j → has new j ≡ false
rest_with set new i adds rest j le = elim (eqb_tells j i) [
  | inl is ↦ absurd (omega (arith, le, is.1))
  | inr differs ↦ adds j ∙ ap (λ b. b || has set j) differs.0 ∙ rest j (omega (arith, le))
]

known_without : (set wanted : Members) (i : ℕ) → has wanted i ≡ false → ((j : ℕ) → j < i → has set j ≡ has wanted j) → ((j : ℕ) → i ≤ j → has set j ≡ false) → (j : ℕ) → j < i + 1 → has set j ≡ has wanted j
known_without set wanted i none known rest j lt = elim (eqb_tells j i) [
  | inl is ↦ rest j (omega (arith, is.1)) ∙ sym (ap (has wanted) is.1 ∙ none)
  | inr differs ↦ (let ne = differs.1 in known j (grind (arith, lt, ne)))
]

pub loop-i-init : goal.loop-i-init
loop-i-init c = record { known = λ j lt. absurd (omega (arith, lt)); rest = λ j le. c.none-live.ensures j }

pub loop-i-preserved : goal.loop-i-preserved
loop-i-preserved c = elim c.if-live.branch [
  | then-live w ↦ record {
    known = λ j lt. ap (λ (s : Members). has s j) w.live-is ∙ known_with c.loop-i.live w.with-live.result c.args.journal.now.live c.loop-i.i w.with-live.ensures (sym c.live.ensures ∙ w.if-live.true) c.loop-i.invariant.known j lt;
    rest = λ j le. ap (λ (s : Members). has s j) w.live-is ∙ rest_with c.loop-i.live w.with-live.result c.loop-i.i w.with-live.ensures c.loop-i.invariant.rest j le;
  }
  | else-live w ↦ record {
    known = λ j lt. ap (λ (s : Members). has s j) w.live-is ∙ known_without c.loop-i.live c.args.journal.now.live c.loop-i.i (sym c.live.ensures ∙ w.if-live.false) c.loop-i.invariant.known c.loop-i.invariant.rest j lt;
    rest = λ j le. ap (λ (s : Members). has s j) w.live-is ∙ c.loop-i.invariant.rest j (omega (arith, le));
  }
]
