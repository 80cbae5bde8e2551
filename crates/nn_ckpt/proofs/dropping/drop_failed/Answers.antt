use Rattle.std.proofs.Common.{inl, refl}
use Rattle.nn_ckpt.proofs.dropping.drop_failed.Goals as goal

pub returns-then-is_empty-clause-drops : goal.returns-then-is_empty-clause-drops
returns-then-is_empty-clause-drops g c = inl (c.is_empty.ensures.yes c.if-is_empty.true, refl, refl)

pub drop_dirs-requires-clause-live : goal.drop_dirs-requires-clause-live
drop_dirs-requires-clause-live g c = let (j, there) = c.is_empty.ensures.no c.if-is_empty.false in (j, there, c.requires.live j there)
