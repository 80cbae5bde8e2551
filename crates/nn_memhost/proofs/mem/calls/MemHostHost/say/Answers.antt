use Rattle.std.proofs.Common.{◌≡◌, ◌∙◌, inl, ℕ, Option, refl, sym, subst, length, arith}
use Rattle.std.specs.Prelude.{IsSome}
use Rattle.nn_memhost.specs.declared.past.Part.{Part}
use Rattle.nn_memhost.specs.Part.{part_at}
use Rattle.nn_host.specs.Disk.{Held}
use Rattle.nn_memhost.specs.Base.{base_of}
use Rattle.nn_memhost.specs.Content.{Content}
use Rattle.nn_memhost.specs.Past.{kept_at}
use Rattle.nn_memhost.proofs.Saying.{all_placed, all_said, all_tied, still_within, spoke_done, spoke_failed, one_recorded, not_recorded}
use Rattle.nn_memhost.proofs.mem.calls.MemHostHost.say.Goals as goal

pub returns-then-not-utter-clause-part : goal.returns-then-not-utter-clause-part
returns-then-not-utter-clause-part c = record { said = λ more. absurd (not_recorded c.args.self.now _ c.utter.new.calls.items _ refl (c.utter.ensures.not_noted c.if-not-utter.true) c.starve.ensures.past more) }

pub invariant_of-self-in-None : goal.invariant_of-self-in-None
invariant_of-self-in-None c =
    let m = c.args.self.now in
    let base : ℕ → Held Content = λ j. kept_at (base_of m.base m.dirs.items) j in
    record {
      few = m.few;
      earlier = still_within m base (λ j. refl) c.args.bytes.now c.part_of-failed.result c.utter.new.calls.items c.utter.new.said.items (c.utter.ensures.noted c.if-not-utter.false) (c.utter.ensures.said c.if-not-utter.false);
      spoken = all_said m base (λ j. refl) c.args.bytes.now c.part_of-failed.result c.utter.new.calls.items c.utter.new.said.items (c.utter.ensures.noted c.if-not-utter.false) (c.utter.ensures.said c.if-not-utter.false);
      based = m.based;
      placed = all_placed m c.args.bytes.now c.part_of-failed.result c.utter.new.calls.items (c.utter.ensures.noted c.if-not-utter.false);
      tied = all_tied m base (λ j. refl) c.args.bytes.now c.part_of-failed.result c.utter.new.calls.items c.utter.new.said.items (c.utter.ensures.noted c.if-not-utter.false) (c.utter.ensures.said c.if-not-utter.false);
    }

pub invariant_of-self-in-Some : goal.invariant_of-self-in-Some
invariant_of-self-in-Some c =
    let m = c.args.self.now in
    let base : ℕ → Held Content = λ j. kept_at (base_of m.base m.dirs.items) j in
    record {
      few = m.few;
      earlier = still_within m base (λ j. refl) c.args.bytes.now c.part_of-failed.result c.utter.new.calls.items c.utter.new.said.items (c.utter.ensures.noted c.if-not-utter.false) (c.utter.ensures.said c.if-not-utter.false);
      spoken = all_said m base (λ j. refl) c.args.bytes.now c.part_of-failed.result c.utter.new.calls.items c.utter.new.said.items (c.utter.ensures.noted c.if-not-utter.false) (c.utter.ensures.said c.if-not-utter.false);
      based = m.based;
      placed = all_placed m c.args.bytes.now c.part_of-failed.result c.utter.new.calls.items (c.utter.ensures.noted c.if-not-utter.false);
      tied = all_tied m base (λ j. refl) c.args.bytes.now c.part_of-failed.result c.utter.new.calls.items c.utter.new.said.items (c.utter.ensures.noted c.if-not-utter.false) (c.utter.ensures.said c.if-not-utter.false);
    }

pub returns-in-None-clause-call : goal.returns-in-None-clause-call
returns-in-None-clause-call c =
    let m = c.args.self.now in
    let base : ℕ → Held Content = λ j. kept_at (base_of m.base m.dirs.items) j in
    spoke_done m base (λ j. refl) c.args.bytes.now c.part_of-failed.result c.utter.new.calls.items c.utter.new.said.items (c.utter.ensures.noted c.if-not-utter.false) (c.utter.ensures.said c.if-not-utter.false) (tt {0}) c.in-None.is

pub returns-in-Some-clause-call : goal.returns-in-Some-clause-call
returns-in-Some-clause-call c =
    let m = c.args.self.now in
    let base : ℕ → Held Content = λ j. kept_at (base_of m.base m.dirs.items) j in
    spoke_failed m base (λ j. refl) c.args.bytes.now c.part_of-failed.result c.utter.new.calls.items c.utter.new.said.items (c.utter.ensures.noted c.if-not-utter.false) (c.utter.ensures.said c.if-not-utter.false) (record {}) c.in-Some.field-0 c.raise_out-self.result c.in-Some.is c.raise_out-self.ensures

pub returns-in-Some-clause-cause : goal.returns-in-Some-clause-cause
returns-in-Some-clause-cause c =
    let m = c.args.self.now in
    let base : ℕ → Held Content = λ j. kept_at (base_of m.base m.dirs.items) j in
    let here : c.len.result ≡ length m.calls.items = omega (arith, c.len.ensures, m.calls.ok.0) in
    record {
      ok = tt;
      err = inl (record {
        named = subst (λ (f : Option Part). IsSome f) (sym c.in-Some.is ∙ c.part_of-failed.ensures ∙ (λ k. part_at (here k) (c.deref.ensures.value k))) refl;
        starved = refl;
        recorded = one_recorded m base (λ j. refl) c.args.bytes.now c.part_of-failed.result c.utter.new.calls.items c.utter.new.said.items (c.utter.ensures.noted c.if-not-utter.false) (c.utter.ensures.said c.if-not-utter.false);
      });
      fails = refl;
    }
