use Rattle.std.proofs.Common.{◌≡◌, ◌≢◌, length, refl, sym, ap, subst, ◌∙◌, rules}
use Rattle.std.proofs.lemmas.List.{nil_from_length}
use Rattle.nn_image.specs.Assembly.{waiting}
use Rattle.nn_image.specs.Building.{AreOpen}
use Rattle.nn_image.proofs.OpenDirLemmas.{innermost, none_open, waiting_here, waiting_outside, waiting_none, ids_none, ids_some}
use Rattle.nn_image.proofs.open_dir.take_waiting.Goals as goal

pub loop-dir-init : goal.loop-dir-init
loop-dir-init c = λ has place levels are. (levels, refl, are)

pub loop-dir-preserved : goal.loop-dir-preserved
loop-dir-preserved c = λ has place levels are.
    let was = c.loop-dir.invariant has place levels are in
    let top = innermost has place c.pop.new.self.items c.in-Some.dir was.0 (subst (λ d. AreOpen has place d was.0) c.in-Some.ensures.items was.2) in
    let bytes : length c.in-Some.dir.children.now ≡ 0 = search rules in
    let none = ids_none top.level.children (sym (ap length top.dir_is.children) ∙ bytes) in
    (top.outer, was.1 ∙ ap waiting top.levels_are ∙ waiting_outside top.level top.outer none, top.others)

pub returns-then-not-is_empty : goal.returns-then-not-is_empty
returns-then-not-is_empty c = λ has place levels are.
    let was = c.loop-dir.invariant has place levels are in
    let top = innermost has place c.pop.new.self.items c.in-Some.dir was.0 (subst (λ d. AreOpen has place d was.0) c.in-Some.ensures.items was.2) in
    let bytes : length c.in-Some.dir.children.now ≢ 0 = search rules in
    let some = ids_some top.level.children (λ none. bytes (ap length top.dir_is.children ∙ none)) in
    (top.level, top.outer, was.1 ∙ ap waiting top.levels_are ∙ waiting_here top.level top.outer some, top.dir_is, top.others)

pub returns : goal.returns
returns c = λ has place levels are.
    let was = c.loop-dir.invariant has place levels are in
    let none : length c.loop-dir.dirs.items ≡ 0 = search rules in
    let empty = nil_from_length c.loop-dir.dirs.items none in
    was.1 ∙ ap waiting (none_open has place was.0 (subst (λ d. AreOpen has place d was.0) empty was.2)) ∙ waiting_none
