use Rattle.std.proofs.Common.{◌∙◌, sym, ap, inl, inr, is_some, List}
use Rattle.nn_base.proofs.NamesLemmas.{file_tells}
use Rattle.nn_memhost.specs.declared.kept.file.KeptFile.{KeptFile}
use Rattle.nn_memhost.specs.Kept.{content_at}
use Rattle.nn_memhost.specs.Held.{held_of}
use Rattle.nn_memhost.proofs.HeldLemmas.{renamed_itself, renamed_over}
use Rattle.nn_memhost.proofs.kept.KeptDir.rename_file.Goals as goal

pub returns-then-same_name : goal.returns-then-same_name
returns-then-same_name c =
    let h = held_of c.args.self.now in
    elim (file_tells c.args.from.now c.args.to.now) [
      | inl same ↦ renamed_itself h c.args.sub c.args.from.now c.args.to.now (is_some (h.file c.args.sub c.args.from.now)) same.1
      | inr differ ↦ cc
    ]

pub returns-then-has : goal.returns-then-has
returns-then-has c =
    let h = held_of c.args.self.now in
    renamed_over h c.args.sub c.args.from.now c.args.to.now (content_at c.remove.new.files.items) (content_at c.rename.new.files.items) (sym c.same_name.ensures ∙ c.if-same_name.false) (sym (c.has.ensures ∙ ap (λ (fs : List KeptFile). is_some (content_at fs c.args.sub c.args.from.now)) c.deref.ensures.value) ∙ c.if-has.true) c.remove.ensures c.rename.ensures
