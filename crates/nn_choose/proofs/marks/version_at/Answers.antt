use Rattle.std.proofs.Common.{◌≡◌, Err, sym, ◌∙◌, subst, refl}
use Rattle.nn_base.specs.Limits.{most_version}
use Rattle.nn_small.specs.declared.read.ReadAll.{ReadAll}
use Rattle.nn_small.specs.Whole.{whole_of}
use Rattle.nn_base.specs.declared.file_name.FileName.TheVariants.{Version}
use Rattle.nn_marks.specs.declared.fault.VersionFault.TheVariants.{TooLong}
use Rattle.nn_chain.specs.Folder.{folder_at}
use Rattle.nn_choose.specs.Picking.{IsBadVersion}
use Rattle.nn_choose.proofs.MarksLemmas.{too_long}
use Rattle.nn_choose.proofs.marks.version_at.Goals as goal

pub returns-in-Err-TooLarge-clause-refused : goal.returns-in-Err-TooLarge-clause-refused
returns-in-Err-TooLarge-clause-refused g c = λ tells.
    let folder = folder_at ((g.H.Host.state c.args.host.now).reads c.args.i.0) c.args.sub in
    subst (IsBadVersion c.args.i folder) (sym c.faulty-in-Err-TooLarge.ensures) (
      TooLong,
      refl,
      too_long (folder Version) c.in-Err-TooLarge.field-0-0
          (subst (λ (f : ReadAll). whole_of most_version (folder Version) ≡ Err f) c.in-Err-TooLarge.field-0-is (c.in-Err-TooLarge.ensures.err tells (λ e. let f = sym c.in-Err-TooLarge.field-0-is ∙ e in cc) (λ e. let f = sym c.in-Err-TooLarge.field-0-is ∙ e in cc))),
    )
