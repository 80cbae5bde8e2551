use Rattle.std.proofs.Common.{◌≡◌, ℕ, ℤ, w32, to_z, of_z, List, [], refl, sym, ◌∙◌, subst, rules}
use Rattle.nn_segment.specs.Segment.{IsIntactRun}
use Rattle.nn_load.specs.Held.{AreWalked}
use Rattle.nn_load.proofs.HeldLemmas.{none_run, none_walked}
use Rattle.nn_load.proofs.held.hold_bytes.Goals as goal

pub returns-in_default-clause-none : goal.returns-in_default-clause-none
returns-in_default-clause-none c =
    let found = c.in_ok-run.ensures.run in
    let layout : to_z w32 (of_z w32 c.args.layout) ≡ c.args.layout = search rules in
    let first : c.first.inside.0 ≡ c.args.first = search rules in
    let empty = none_run c.deref.result.now (to_z w32 (of_z w32 c.args.layout)) c.first.inside.0 found.0 (sym c.in_default.is ∙ found.2) found.1 in
    subst (λ (n : ℕ). IsIntactRun c.args.bytes.items c.args.layout n []) first (subst (λ (l : ℤ). IsIntactRun c.args.bytes.items l c.first.inside.0 []) layout (subst (λ (t : List ℕ). IsIntactRun t (to_z w32 (of_z w32 c.args.layout)) c.first.inside.0 []) c.deref.ensures.value empty))

pub returns-clause-some : goal.returns-clause-some
returns-clause-some c =
    let found = c.in_ok-run.ensures.run in
    let layout : to_z w32 (of_z w32 c.args.layout) ≡ c.args.layout = search rules in
    let first : c.first.inside.0 ≡ c.args.first = search rules in
    let next : c.begin.inside.0 ≡ c.args.first = search rules in (
      refl,
      layout,
      (
        refl,
        next,
        record {
          ends = record {
            run = found.0;
            intact = subst (λ (n : ℕ). IsIntactRun c.args.bytes.items (to_z w32 (of_z w32 c.args.layout)) n found.0) first (subst (λ (t : List ℕ). IsIntactRun t (to_z w32 (of_z w32 c.args.layout)) c.first.inside.0 found.0) c.deref.ensures.value found.1);
            last_is = sym found.2 ∙ c.in-Some.is;
          };
          walked = subst (AreWalked c.args.bytes.items c.args.first 0) (sym next) (none_walked c.args.bytes.items c.args.first);
        },
      ),
    )
