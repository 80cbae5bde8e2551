use Rattle.std.proofs.Common.{◌∙◌, sym, ap, subst, refl, arith}
use Rattle.std.proofs.lemmas.Option.{same_Some, none-some}
use Rattle.nn_choose.specs.declared.served.Served.{Served}
use Rattle.nn_choose.specs.Served.{IsLeadBelow}
use Rattle.nn_choose.proofs.ServedLemmas.{lead_bare, lead_stays, lead_goes}
use Rattle.nn_choose.proofs.leading.lead_to.Goals.{in_default-lead-via-in-Some-lead+else-it-before, in_default-lead-via-in_default-lead}
use Rattle.nn_choose.proofs.leading.lead_to.Goals as goal

pub returns-in_default : goal.returns-in_default
returns-in_default c = lead_bare c.args.served.now c.args.i c.args.lead c.requires.lead (sym c.served_at.ensures ∙ c.in_default.is)

pub returns-in-Some-lead : goal.returns-in-Some-lead
returns-in-Some-lead c = lead_stays c.args.served.now c.args.i c.in-Some-lead.before (subst (IsLeadBelow c.args.served.now c.args.i) c.in-Some-lead.is c.requires.lead)
    (λ it at. let same = ap (λ (s : Served). s.version.ctime) (same_Some it c.in-Some.it (sym at ∙ sym c.served_at.ensures ∙ c.in-Some.is)) in omega (arith, same, c.if-it-before.true))

pub returns-in_default-lead : goal.returns-in_default-lead
returns-in_default-lead c = lead_goes c.args.served.now c.args.i (record { dir = record { 0 = c.args.i }; served = c.in-Some.it }) refl (sym c.served_at.ensures ∙ c.in-Some.is)
    (elim c.in_default-lead.branch [
      | in_default-lead-via-in-Some-lead+else-it-before w ↦ λ j it lt at.
          let is = subst (IsLeadBelow c.args.served.now c.args.i) w.in-Some-lead.is c.requires.lead in
          let le = is.greatest j it lt at in
          omega (arith, le, w.if-it-before.false)
      | in_default-lead-via-in_default-lead w ↦ λ j it lt at.
          let is = subst (IsLeadBelow c.args.served.now c.args.i) w.in_default-lead.is c.requires.lead in
          absurd (none-some it (sym (is j lt) ∙ at))
    ])
