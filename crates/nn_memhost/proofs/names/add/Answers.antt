use Rattle.std.proofs.Common.{◌≡◌, ◌∙◌, sym, Some}
use Rattle.nn_base.specs.declared.file_name.FileName.{FileName}
use Rattle.nn_memhost.proofs.names.add.Goals as goal

same_some : (a b : FileName) → Some a ≡ Some b → a ≡ b
same_some a b e = cc

pub returns : goal.returns
returns c = record {
  text = c.in_ok-text.text;
  spells = sym c.in_ok-text.ensures;
  range = c.look_at.ensures;
  alone = λ other range e.
      same_some other c.args.name.now (sym (c.parse-read.ensures.only other range (e ∙ sym c.deref.ensures.value)) ∙ c.parse-read.ensures.only c.args.name.now c.look_at.ensures (sym c.in_ok-text.ensures ∙ sym c.deref.ensures.value));
  entries = c.in_ok-insert.ensures.entries;
  ordered = c.in_ok-insert.ensures.ordered;
}
