use Rattle.std.proofs.Common.{◌∙◌, sym, ap, subst, Option, ◌≡◌, ◌<◌, ℕ, true, false, length, IfSome}
use Rattle.std.specs.Ordering.{is_lt}
use Rattle.nn_base.specs.Paths.{name_cmp}
use Rattle.nn_tree.specs.Plain.{IsLeast, links_of, name_of}
use Rattle.nn_tree.proofs.PlainLemmas.{better_first, better_less, better_not}
use Rattle.nn_tree.proofs.entry.better.Goals as goal

pub returns-in-None-clause-least : goal.returns-in-None-clause-least
returns-in-None-clause-least c =
    better_first c.args.entries.now c.args.i c.args.parent c.args.bound.now c.index-entries-i.result c.requires.within c.index-entries-i.is
    (sym c.if-not-is_later.false ∙ c.is_later.ensures)
    (subst (IsLeast (links_of c.args.entries.now) c.args.parent c.args.bound.now c.args.i) c.in-None.is c.requires.least)

pub returns-then-is_lt-clause-least : goal.returns-then-is_lt-clause-least
returns-then-is_lt-clause-least c =
    let inside = subst (λ (o : Option ℕ). IfSome o (λ b. b < length c.args.entries.now)) c.in-Some.is c.requires.best in
    let least = subst (IsLeast (links_of c.args.entries.now) c.args.parent c.args.bound.now c.args.i) c.in-Some.is c.requires.least in
    let told : is_lt (name_cmp (name_of c.index-entries-i.result) (name_of c.index-entries-b.result)) ≡ true =
    ap is_lt (sym (c.cmp.ensures ∙ (λ k. name_cmp (c.name.ensures k) (c.name-in-Some.ensures k)))) ∙ sym c.is_lt.ensures ∙ c.if-is_lt.true in
    better_less c.args.entries.now c.args.i c.args.parent c.args.bound.now c.index-entries-i.result c.requires.within c.index-entries-i.is
    c.in-Some.b c.index-entries-b.result inside c.index-entries-b.is least (sym c.if-not-is_later.false ∙ c.is_later.ensures) told

pub returns-else-is_lt-clause-least : goal.returns-else-is_lt-clause-least
returns-else-is_lt-clause-least c =
    let inside = subst (λ (o : Option ℕ). IfSome o (λ b. b < length c.args.entries.now)) c.in-Some.is c.requires.best in
    let least = subst (IsLeast (links_of c.args.entries.now) c.args.parent c.args.bound.now c.args.i) c.in-Some.is c.requires.least in
    let told : is_lt (name_cmp (name_of c.index-entries-i.result) (name_of c.index-entries-b.result)) ≡ false =
    ap is_lt (sym (c.cmp.ensures ∙ (λ k. name_cmp (c.name.ensures k) (c.name-in-Some.ensures k)))) ∙ sym c.is_lt.ensures ∙ c.if-is_lt.false in
    better_not c.args.entries.now c.args.i c.args.parent c.args.bound.now c.index-entries-i.result c.requires.within c.index-entries-i.is
    c.in-Some.b c.index-entries-b.result inside c.index-entries-b.is least (sym c.if-not-is_later.false ∙ c.is_later.ensures) told
