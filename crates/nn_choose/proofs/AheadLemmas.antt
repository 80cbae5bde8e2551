-- The directories of the greatest cTime, as their VERSIONs were read.
use Rattle.std.proofs.Common.{◌≡◌, ◌≢◌, ◌↔◌, ℕ, ◌<◌, ◌≤◌, Bool, true, List, length, Option, Some, None, sym, ◌∙◌, arith}
use Rattle.std.proofs.lemmas.Option.{none-some}
use Rattle.nn_marks.specs.declared.version.Version.{Version}
use Rattle.nn_chain.specs.Folder.{Folder, folder_at}
use Rattle.nn_pick.specs.declared.intent.Intent.{Intent}
use Rattle.nn_pick.specs.declared.refusal.Refusal.TheVariants.{NotFormatted, BadVersion}
use Rattle.nn_choose.specs.declared.served.Lead.{Lead}
use Rattle.nn_choose.specs.declared.served.Served.{Served}
use Rattle.nn_pick.specs.Dirs.{Dirs, HasGreatestCtime}
use Rattle.nn_pick.specs.Refusing.{Refuses, test_of}
use Rattle.nn_choose.specs.Served.{AreServed, IsLead, AreOfCtime, served_at}
use Rattle.nn_choose.specs.Picking.{IsAhead, NoneBefore}
use Rattle.nn_choose.proofs.FoundLemmas.{within_dirs, within_list, serves_under, found_at, none_served, is_formatted}
use Rattle.nn_choose.proofs.VersionsLemmas.{faultless}
use Rattle.std.proofs.lemmas.Bool.{cases_lt}
use Rattle.std.proofs.Common.{inl, inr}

module _ (dirs : Dirs) (served : List (Option Served)) (are : AreServed dirs served) where
  -- none is formatted
  pub refuses_bare : ((j : ℕ) → j < length served → served_at served j ≡ None) → NoneBefore dirs 2 → (intent : Intent) → Refuses dirs intent NotFormatted
  refuses_bare none passed intent = record {
    applies = λ j below. none_served dirs served are j below (none j (within_list dirs served are j below));
    first = λ earlier lt. passed intent earlier lt;
  }

  module _ (lead : Lead) (leads : IsLead served (length served) lead) where
    pub lead_below : lead.dir.0 < dirs.count
    lead_below = within_dirs dirs served are lead.dir.0 lead.served leads.at

    -- no VERSION has a fault, and one is there
    pub passed_versions : NoneBefore dirs 2 → NoneBefore dirs 4
    passed_versions passed intent NotFormatted lt applies = applies lead.dir.0 lead_below (is_formatted dirs served are lead.dir.0 lead.served leads.at)
    passed_versions passed intent (BadVersion i fault) lt applies = none-some fault (sym (faultless (dirs.at i.0) (served_at served i.0) (are.each i.0 applies.0.below) applies.1 applies.2) ∙ applies.3)
    passed_versions passed intent earlier lt applies = elim (cases_lt (test_of earlier) 2) [ inl before ↦ passed intent earlier before applies | inr past ↦ omega (arith, lt, past) ]

    at_most : (j : ℕ) (it : Served) → served_at served j ≡ Some it → it.version.ctime ≤ lead.served.version.ctime
    at_most j it at = leads.greatest j it (within_list dirs served are j (within_dirs dirs served are j it at)) at

    -- what serves in directory j is of the greatest cTime
    pub is_ahead : (j : ℕ) (it : Served) → served_at served j ≡ Some it → it.version.ctime ≡ lead.served.version.ctime → HasGreatestCtime dirs j it.version (folder_at (dirs.at j) it.sub)
    is_ahead j it at same = record {
      below = within_dirs dirs served are j it at;
      under = serves_under dirs served are j it at;
      greatest = λ k other its below under.
          let found = found_at dirs served are k other its below under in
          let le = at_most k found.it found.at in
          omega (arith, found.same.ctime, le, same);
    }

    pub lead_ahead : HasGreatestCtime dirs lead.dir.0 lead.served.version (folder_at (dirs.at lead.dir.0) lead.served.sub)
    lead_ahead = is_ahead lead.dir.0 lead.served leads.at (λ k. lead.served.version.ctime)

    -- what is of the greatest cTime was read, and is as great as that of the one that leads
    ahead_is : (j : ℕ) (version : Version) (folder : Folder) → HasGreatestCtime dirs j version folder → (it : Served) × (served_at served j ≡ Some it) × (it.version.ctime ≡ lead.served.version.ctime)
    ahead_is j version folder ahead =
        let found = found_at dirs served are j version folder ahead.below ahead.under in
        let le = at_most j found.it found.at in
        let ge : lead.served.version.ctime ≤ version.ctime = ahead.greatest lead.dir.0 lead.served.version (folder_at (dirs.at lead.dir.0) lead.served.sub) lead_below (serves_under dirs served are lead.dir.0 lead.served leads.at) in
        (found.it, found.at, omega (arith, found.same.ctime, le, ge))

    -- none below the one that leads
    pub none_lower : (j : ℕ) (version : Version) (folder : Folder) → j < lead.dir.0 → ¬ HasGreatestCtime dirs j version folder
    none_lower j version folder lt ahead =
        let it = ahead_is j version folder ahead in
        let less = leads.lower j it.0 lt it.1 in
        omega (arith, it.2, less)

    -- nor one of another cTime
    pub not_ahead : (j : ℕ) → ((it : Served) → served_at served j ≡ Some it → it.version.ctime ≢ lead.served.version.ctime) → (version : Version) (folder : Folder) → ¬ HasGreatestCtime dirs j version folder
    not_ahead j other version folder ahead = let it = ahead_is j version folder ahead in other it.0 it.1 it.2

    -- those of its cTime are those of the greatest
    pub ahead_alike : (ahead : ℕ → Bool) → AreOfCtime served lead.served.version.ctime (length served) ahead → (i : ℕ) → (ahead i ≡ true) ↔ IsAhead dirs i
    ahead_alike ahead alike i = (
      λ is. let it = (alike i).0 is in (it.0.version, folder_at (dirs.at i) it.0.sub, is_ahead i it.0 it.2 it.3),
      λ has. let it = ahead_is i has.0 has.1 has.2 in (alike i).1 (it.0, within_list dirs served are i has.2.below, it.1, it.2),
    )

  -- where none is formatted
  pub none_ahead : ((j : ℕ) → j < length served → served_at served j ≡ None) → (i : ℕ) → ¬ IsAhead dirs i
  none_ahead none i has =
      let found = found_at dirs served are i has.0 has.1 has.2.below has.2.under in
      none-some found.it (sym (none i (within_list dirs served are i has.2.below)) ∙ found.at)
