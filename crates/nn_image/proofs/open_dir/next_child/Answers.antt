use Rattle.std.proofs.Common.{◌≡◌, ◌-◌, true, false, [], ◌∷◌, ◌++◌, length, drop, refl, sym, ap, subst, ◌∙◌, arith, length-drop, Option, Some, None}
use Rattle.std.specs.Prelude.{MatchOption}
use Rattle.std.specs.Ordering.{is_lt}
use Rattle.std.proofs.lemmas.List.{take_all}
use Rattle.nn_base.specs.Paths.{name_cmp, is_name}
use Rattle.nn_image.specs.declared.open_dir.OpenDir.{OpenDir}
use Rattle.nn_image.specs.Assembly.{Level, placed}
use Rattle.nn_image.specs.Building.{IsOpen}
use Rattle.nn_image.proofs.OpenDirLemmas.{next_id, no_next_id, placed_nowhere, placed_not, placed_here, another_id, too_early, is_the_next}
use Rattle.nn_image.proofs.open_dir.next_child.Goals as goal

pub returns-in_err-child : goal.returns-in_err-child
returns-in_err-child c = λ has place level outer inode id name dir.
    let none = no_next_id level c.args.dir.now.children.now c.varint_get.result dir.ids dir.children c.in_err-child.was c.varint_get.ensures.again in
    let P : Option OpenDir → Type 0 = λ r. MatchOption r (placed (level ∷ outer) inode ≡ None) (λ next. (after : Level) ×
    (after.path ≡ level.path) × (placed (level ∷ outer) inode ≡ Some (record { path = level.path ++ c.args.name.now ∷ []; levels = after ∷ outer })) ×
    IsOpen has place next after) in
    subst P (sym c.from_residual.ensures) (placed_nowhere level outer inode none)

pub returns-then-child-id : goal.returns-then-child-id
returns-then-child-id c = λ has place level outer inode id name dir.
    let first = next_id level c.args.dir.now.children.now c.in_ok-child.child _ dir.ids dir.children c.in_ok-child.ensures.some in
    placed_not level outer inode c.in_ok-child.child first.rest first.are (another_id level c.in_ok-child.child inode (λ same. c.if-child-id.true (same ∙ id)))

pub returns-then-not-is_behind : goal.returns-then-not-is_behind
returns-then-not-is_behind c = λ has place level outer inode id name dir.
    let first = next_id level c.args.dir.now.children.now c.in_ok-child.child _ dir.ids dir.children c.in_ok-child.ensures.some in
    let early : is_lt (name_cmp level.newest inode.name) ≡ false = (λ i. is_lt (name_cmp (sym dir.newest i) (name i))) ∙ sym c.is_behind.ensures ∙ c.if-not-is_behind.true in
    placed_not level outer inode c.in_ok-child.child first.rest first.are (too_early level c.in_ok-child.child inode early)

pub returns : goal.returns
returns c = λ has place level outer inode id name dir.
    let first = next_id level c.args.dir.now.children.now c.in_ok-child.child _ dir.ids dir.children c.in_ok-child.ensures.some in
    let later : is_lt (name_cmp level.newest inode.name) ≡ true = (λ i. is_lt (name_cmp (sym dir.newest i) (name i))) ∙ sym c.is_behind.ensures ∙ c.if-not-is_behind.false in
    let named : is_name inode.name ≡ true = ap is_name name ∙ c.requires in
    let same : c.in_ok-child.child ≡ inode.id = c.if-child-id.false ∙ sym id in
    let here = placed_here level outer inode c.in_ok-child.child first.rest first.are (is_the_next level c.in_ok-child.child inode same named later) in
    let after : Level = record { path = level.path; newest = inode.name; children = first.rest } in
    let ids = c.args.dir.now.children.now in
    let rest = take_all (length ids - c.in_ok-child.len) (drop c.in_ok-child.len ids) (omega (arith, length-drop c.in_ok-child.len ids)) in (
      after,
      refl,
      here ∙ (λ i. Some (record { path = level.path ++ name i ∷ []; levels = after ∷ outer })),
      record { there = dir.there; path = dir.path; newest = sym name; ids = first.long; children = rest ∙ first.spelled; names = dir.names; text = dir.text },
    )
