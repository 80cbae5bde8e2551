-- One more record is logged.
use Rattle.std.proofs.Common.{◌≡◌, ℕ, ◌+◌, List, [], ◌∷◌, ◌++◌, length, sym, ◌∙◌, ap, subst, arith, length-append}
use Rattle.nn_tree.specs.Namespace.{Namespace}
use Rattle.nn_host.specs.Moments.{disk_at}
use Rattle.nn_record.specs.declared.transaction.Record.{Record}
use Rattle.nn_record.specs.Spelling.{spelling}
use Rattle.nn_segment.specs.Segment.{spelled}
use Rattle.nn_ops.specs.Step.{Fits}
use Rattle.nn_ops.specs.Effects.{effect}
use Rattle.nn_segment_file.proofs.StepLemmas.{spelled-append, from_joined, follows_joined}
use Rattle.nn_segment_file.proofs.ListLemmas.{follows_relist, stands_relist}
use Rattle.nn_journal.specs.Logging.{LoggingGoesOn, LongerListKeeps, next_record}
use Rattle.nn_journal.proofs.MarkLemmas.{one_spelled}

pub logging_goes_on : LoggingGoesOn
logging_goes_on version list longer base kept logged bytes place op p is fits agree leads steady =
    let r : Record = next_record place op in
    let at : base + length kept + length logged ≡ place.last = omega (arith, p.last) in
    let here : longer (base + length kept + length logged) ≡ list place.last = ap longer at ∙ agree place.last (omega arith) in
    let next : base + length kept + length logged + 1 ≡ place.last + 1 = omega (arith, at) in
    record {
      going = p.going;
      head = p.head;
      first = p.first;
      last = omega (arith, at, length-append logged (r ∷ []));
      some = p.some;
      size = p.size;
      text = ap (λ (t : List ℕ). t ++ spelling r) p.text ∙ ap (λ (t : List ℕ). spelled logged ++ t) (sym (one_spelled r)) ∙ sym (spelled-append logged (r ∷ []));
      ids = from_joined (base + 1 + length kept) logged (r ∷ []) p.ids (omega (arith, at), is, tt);
      follows = follows_joined longer (base + length kept) logged (r ∷ []) (follows_relist list longer (base + length kept) logged (λ n le. agree n (omega (arith, le, at))) p.follows)
          (subst (λ (ns : Namespace). Fits ns op) (sym here) fits, ap longer next ∙ leads ∙ ap (effect op) (sym here), tt);
      steady = steady;
    }

pub longer_list_keeps : LongerListKeeps
longer_list_keeps version list longer stage among s start agree j there = stands_relist version list longer stage (disk_at s j) agree (start j there)
