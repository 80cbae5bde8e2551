-- Six lines, one behind the other.
use Rattle.std.proofs.Common.{◌++◌, sym, ap, ◌∙◌, subst}
use Rattle.nn_marks.specs.VersionText.{line_text, IsVersionText}
use Rattle.nn_marks.specs.declared.key.Key.TheVariants.{NamespaceId, ClusterId, CTime, StorageType, BlockpoolId, LayoutVersion}
use Rattle.nn_marks.proofs.VersionTextLemmas.{six_lines, reads_back}
use Rattle.nn_marks.proofs.version_writing.version_text.Goals as goal

pub returns-clause-ok : goal.returns-clause-ok
returns-clause-ok c =
    let line = line_text c.args.version.now in
    six_lines (line NamespaceId) (line ClusterId) (line CTime) (line StorageType) (line BlockpoolId) (line LayoutVersion)
    c.append_key.new.text.items c.append_key-2.new.text.items c.append_key-3.new.text.items c.append_key-4.new.text.items c.append_key-5.new.text.items c.append_key-6.new.text.items
    (c.in_ok-append_key.ensures ∙ ap (λ text. text ++ line NamespaceId) c.new-text.ensures.items)
    c.in_ok-append_key-2.ensures c.in_ok-append_key-3.ensures c.in_ok-append_key-4.ensures c.in_ok-append_key-5.ensures c.in_ok-append_key-6.ensures

pub returns-clause-reads_back : goal.returns-clause-reads_back
returns-clause-reads_back c =
    subst (λ text. IsVersionText text c.args.version.now) (sym (returns-clause-ok c)) (reads_back c.args.version.now)
