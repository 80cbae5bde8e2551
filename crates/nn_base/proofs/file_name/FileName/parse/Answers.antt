-- A name has one of the three fronts with an id, or none.
use Rattle.std.proofs.Common.{inl, inr}
use Rattle.nn_base.proofs.FileTextLemmas.{forms}
use Rattle.nn_base.proofs.file_name.FileName.parse.Goals as goal

pub returns-clause-only : goal.returns-clause-only
returns-clause-only c = λ name r e. elim (forms name c.args.text.now e) [
  | inl plain ↦ c.without_id.ensures.only name plain e
  | inr (inl w) ↦ absurd (c.in_default.ensures w.0 w.1)
  | inr (inr (inl w)) ↦ absurd (c.in_default-after.ensures w.0 w.1)
  | inr (inr (inr w)) ↦ absurd (c.in_default-after-2.ensures w.0 w.1)
]
