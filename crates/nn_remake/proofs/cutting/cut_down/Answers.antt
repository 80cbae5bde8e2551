use Rattle.std.proofs.Common.{ap, ◌∙◌}
use Rattle.std.specs.List.{filter}
use Rattle.nn_remake.specs.Removing.{is_segment, is_later_image}
use Rattle.nn_remake.proofs.CuttingCallLemmas.{cutting_looked, segments_run, images_run, images_was}
use Rattle.nn_remake.proofs.cutting.cut_down.Goals as goal

pub returns-in_err-names-clause-any_moment : goal.returns-in_err-names-clause-any_moment
returns-in_err-names-clause-any_moment g c = cutting_looked c.args.id c.in_err-names.ensures.any_moment

pub returns-in_err-segments-clause-any_moment : goal.returns-in_err-segments-clause-any_moment
returns-in_err-segments-clause-any_moment g c = cutting_looked c.args.id c.in_ok-names.ensures.any_moment

pub returns-in_err-images-clause-any_moment : goal.returns-in_err-images-clause-any_moment
returns-in_err-images-clause-any_moment g c = cutting_looked c.args.id c.in_ok-names.ensures.any_moment

pub returns-in_err-remove_from_end-clause-any_moment : goal.returns-in_err-remove_from_end-clause-any_moment
returns-in_err-remove_from_end-clause-any_moment g c = segments_run c.args.id c.in_ok-names.names.items (λ tells. g.met.H.Host.lawful tells c.args.host.now) c.in_ok-names.ensures.ok c.in_ok-names.ensures.any_moment
    c.in_ok-segments.segments.items (c.in_ok-segments.ensures ∙ ap (filter is_segment) c.deref.ensures.value)
    c.in_err-remove_from_end.ensures.any_moment

pub returns-in_err-remove_from_end-2-clause-any_moment : goal.returns-in_err-remove_from_end-2-clause-any_moment
returns-in_err-remove_from_end-2-clause-any_moment g c = images_run c.args.id c.in_ok-names.names.items (λ tells. g.met.H.Host.lawful tells c.args.host.now) c.in_ok-names.ensures.ok c.in_ok-names.ensures.any_moment
    c.in_ok-segments.segments.items (c.in_ok-segments.ensures ∙ ap (filter is_segment) c.deref.ensures.value)
    c.in_ok-names.ensures.kept c.in_ok-remove_from_end.ensures.ok
    c.in_ok-images.images.items (c.in_ok-images.ensures ∙ ap (filter (is_later_image c.args.id)) c.deref-2.ensures.value)
    c.in_ok-remove_from_end.ensures.any_moment c.in_err-remove_from_end-2.ensures.any_moment

pub returns-clause-any_moment : goal.returns-clause-any_moment
returns-clause-any_moment g c = images_run c.args.id c.in_ok-names.names.items (λ tells. g.met.H.Host.lawful tells c.args.host.now) c.in_ok-names.ensures.ok c.in_ok-names.ensures.any_moment
    c.in_ok-segments.segments.items (c.in_ok-segments.ensures ∙ ap (filter is_segment) c.deref.ensures.value)
    c.in_ok-names.ensures.kept c.in_ok-remove_from_end.ensures.ok
    c.in_ok-images.images.items (c.in_ok-images.ensures ∙ ap (filter (is_later_image c.args.id)) c.deref-2.ensures.value)
    c.in_ok-remove_from_end.ensures.any_moment c.in_ok-remove_from_end-2.ensures.any_moment

pub returns-clause-ok : goal.returns-clause-ok
returns-clause-ok g c = images_was c.args.id c.in_ok-names.names.items (λ tells. g.met.H.Host.lawful tells c.args.host.now) c.in_ok-names.ensures.ok c.in_ok-names.ensures.any_moment
    c.in_ok-segments.segments.items (c.in_ok-segments.ensures ∙ ap (filter is_segment) c.deref.ensures.value)
    c.in_ok-names.ensures.kept c.in_ok-remove_from_end.ensures.ok
    c.in_ok-images.images.items (c.in_ok-images.ensures ∙ ap (filter (is_later_image c.args.id)) c.deref-2.ensures.value)
    c.in_ok-remove_from_end-2.ensures.ok
