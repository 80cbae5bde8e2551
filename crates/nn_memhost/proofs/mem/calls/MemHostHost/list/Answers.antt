use Rattle.std.proofs.Common.{◌≡◌, ◌∙◌, ◌++◌, ap, sym, subst, List, map, arith}
use Rattle.std.specs.Prelude.{Bool, not, if◌then◌else◌}
use Rattle.nn_base.specs.declared.file_name.FileName.{FileName}
use Rattle.nn_memhost.specs.declared.kept.file.KeptFile.{KeptFile}
use Rattle.nn_memhost.specs.Kept.{placed_of}
use Rattle.nn_memhost.specs.Mem.{mem_state}
use Rattle.nn_memhost.specs.Names.{AreListed}
use Rattle.nn_memhost.proofs.Looks.{reads_is, listing, look_reads}
use Rattle.nn_memhost.proofs.mem.calls.MemHostHost.list.Goals as goal

pub returns-clause-ok : goal.returns-clause-ok
returns-clause-ok c = λ tells.
    let m = c.args.self.now in
    let same = look_reads c.args.i.0 (mem_state m) (mem_state c.ask.new.self) c.ask.result (sym c.is_err.ensures.value ∙ c.if-is_err.false) (c.ask.ensures.call.effect tells) in
    let appended : c.extend_from_slice.new.self.items ≡ c.args.out.now.items ++ c.in-Ok.names.items =
    c.extend_from_slice.ensures.items
    ∙ ap (λ (b : Bool). if b then c.args.out.now.items ++ c.deref-2.result.now else c.args.out.now.items) (c.is_err-2.ensures.negation ∙ ap not c.if-is_err-2.false)
    ∙ ap (λ (l : List FileName). c.args.out.now.items ++ l) c.deref-2.ensures.value in (
      c.in-Ok.names.items,
      appended,
      listing c.index-dir.result.now _ c.args.sub c.in-Ok.names.items
          (reads_is c.ask.new.self c.args.i.0 c.index-dir.result.now (omega (arith, c.requires, c.ask.ensures.call.frame.count)) c.index-dir.ensures ∙ same)
          (subst (λ (fs : List KeptFile). AreListed (map placed_of fs) c.args.sub c.in-Ok.names.items) c.deref.ensures.value c.in-Ok.ensures),
    )
