use Rattle.std.proofs.Common.{◌≡◌, ◌⊎◌, ℕ, Ok, false, subst, arith}
use Rattle.nn_base.specs.DirSets.{has}
use Rattle.nn_base.specs.declared.ids.DirNo.{DirNo}
use Rattle.nn_restore.specs.declared.restoring.Restored.TheVariants.{Failed}
use Rattle.nn_restore.specs.Restored.{Restores, IsCountedOf}
use Rattle.nn_restore.proofs.FindLemmas.{emptied_restores, restores_then, counted_behind}
use Rattle.nn_restore.proofs.restoring.restore_found.Goals as goal

pub returns-in-Err-clause-restores : goal.returns-in-Err-clause-restores
returns-in-Err-clause-restores g c = emptied_restores c.in-Err.ensures.any_moment c.args.journal.now (Ok Failed) c.requires.out

pub returns-in-Err-clause-below : goal.returns-in-Err-clause-below
returns-in-Err-clause-below g c = λ j there. omega (arith, c.requires.below j there, c.in-Err.ensures.any_moment.frame.count)

pub take_back-requires-clause-below : goal.take_back-requires-clause-below
take_back-requires-clause-below g c = λ j there. omega (arith, c.requires.below j there, c.in-Ok.ensures.any_moment.frame.count)

pub returns-in-Ok-clause-restores : goal.returns-in-Ok-clause-restores
returns-in-Ok-clause-restores g c = restores_then c.in-Ok.ensures.any_moment c.args.journal.now c.take_back.new.journal c.take_back.result c.requires.out
    (subst (λ (x : DirNo). Restores g.H.Host.told c.args.version.now (g.T.Tree.meaning c.args.tree.now) x.0 c.args.journal.now c.take_back.new.journal (g.H.Host.state c.empty.new.host) (g.H.Host.state c.take_back.new.host) c.take_back.result) c.in-Ok.ensures.dir c.take_back.ensures.restores)

pub returns-in-Ok-clause-counted : goal.returns-in-Ok-clause-counted
returns-in-Ok-clause-counted g c = counted_behind c.in-Ok.ensures.any_moment c.args.journal.now.live c.take_back.new.journal.live c.take_back.result c.in-Ok.ensures.cause.ok c.take_back.ensures.restorable
    (subst (λ (x : DirNo). IsCountedOf g.H.Host.told x.0 c.args.journal.now.live c.take_back.new.journal.live (g.H.Host.state c.empty.new.host) (g.H.Host.state c.take_back.new.host) c.take_back.result) c.in-Ok.ensures.dir c.take_back.ensures.counted)

pub returns-in-Ok-clause-holders : goal.returns-in-Ok-clause-holders
returns-in-Ok-clause-holders g c = subst (λ (x : DirNo). (j : ℕ) → (has c.take_back.new.journal.holders j ≡ has c.args.journal.now.holders j) ⊎ ((j ≡ x.0) × (has c.take_back.new.journal.holders j ≡ false))) c.in-Ok.ensures.dir c.take_back.ensures.holders
