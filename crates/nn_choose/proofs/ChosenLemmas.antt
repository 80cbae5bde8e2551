-- Where the best chain of all directories leads: the chosen, and the refusals after it.
use Rattle.std.proofs.Common.{◌≡◌, inl, inr, ℕ, ◌+◌, ◌<◌, ◌≤◌, ◌^◌, Bool, true, refl, sym, subst, arith}
use Rattle.std.specs.Prelude.{◌↔◌}
use Rattle.std.proofs.lemmas.Bool.{cases_lt}
use Rattle.nn_marks.specs.declared.version.Version.{Version}
use Rattle.nn_tree.specs.Namespace.{Namespace}
use Rattle.nn_chain.specs.declared.why.ImageWhy.{ImageWhy}
use Rattle.nn_chain.specs.Folder.{Folder, folder_at}
use Rattle.nn_chain.specs.Chain.{Reached}
use Rattle.nn_pick.specs.declared.intent.Intent.{Intent}
use Rattle.nn_pick.specs.declared.intent.Intent.TheVariants.{Start}
use Rattle.nn_pick.specs.declared.refusal.Refusal.{Refusal}
use Rattle.nn_pick.specs.declared.refusal.Refusal.TheVariants.{NoImage, Gap, Spent, PreviousExists, CtimeSpent, NoPrevious, BadPrevious}
use Rattle.nn_choose.specs.declared.served.Lead.{Lead}
use Rattle.nn_pick.specs.Dirs.{Dirs, HasGreatestCtime, IsChosen, IsAmongChosen, IsGreatestSeen}
use Rattle.nn_pick.specs.Refusing.{Refuses, IsUnrefused, SomeChosen, test_of}
use Rattle.nn_pick.specs.Opening.{IsFirstChosen}
use Rattle.nn_choose.specs.Laws.{PickedOpens}
use Rattle.nn_choose.specs.Picking.{Chooses, IsBestChain, HaveNoImage, IsCut, NoneBefore}
use Rattle.nn_choose.proofs.BestLemmas.{reached}

-- ---- none has an image

pub refuses_image : (dirs : Dirs) (lead : Lead) (why : ImageWhy) → HaveNoImage dirs dirs.count lead why → HasGreatestCtime dirs lead.dir.0 lead.served.version (folder_at (dirs.at lead.dir.0) lead.served.sub)
    → ((j : ℕ) → j < lead.dir.0 → ¬ ((version : Version) × (folder : Folder) × HasGreatestCtime dirs j version folder)) → NoneBefore dirs 7 → (intent : Intent) → Refuses dirs intent (NoImage lead.dir why)
refuses_image dirs lead why none ahead lowest passed intent =
    let folder = folder_at (dirs.at lead.dir.0) lead.served.sub in
    record {
      applies = (
        record { below = ahead.below; holds = (lead.served.version, folder, ahead); least = lowest },
        λ j version its id is has. none.none j version its id is.below is has,
        lead.served.version,
        folder,
        ahead,
        none.reason,
      );
      first = λ earlier lt. passed intent earlier lt;
    }

-- ---- there is a best chain

module _ (dirs : Dirs) (ns : Namespace) (last : ℕ) (version : Version) (noted : ℕ → Bool) (best : IsBestChain dirs dirs.count ns last version noted) where
  is_chosen : IsChosen dirs best.dir version best.folder (reached last ns)
  is_chosen = record { ahead = best.ahead; chain = best.chain; greatest = λ j other theirs end is chain. (best.all j other theirs end is.below is chain).0 }

  pub chosen_noted : (i : ℕ) → IsAmongChosen dirs i → noted i ≡ true
  chosen_noted i is =
      let all = best.all i is.0 is.1 is.2 is.3.ahead.below is.3.ahead is.3.chain in
      let ge : last ≤ is.2.last = is.3.greatest best.dir version best.folder (reached last ns) best.ahead best.chain in
      all.1 (omega (arith, all.0, ge))

  pub noted_chosen : (i : ℕ) → noted i ≡ true → IsAmongChosen dirs i
  noted_chosen i is =
      let at = best.only i is in
      (at.0, at.1, at.2, record { ahead = at.3; chain = at.4; greatest = λ j other theirs end ahead chain. let le = (best.all j other theirs end ahead.below ahead chain).0 in omega (arith, le, at.5) })

  pub chosen_is : (i : ℕ) → IsAmongChosen dirs i ↔ (noted i ≡ true)
  chosen_is i = (chosen_noted i, noted_chosen i)

  pub first_chosen : IsFirstChosen dirs version (reached last ns)
  first_chosen = record {
    dir = best.dir;
    folder = best.folder;
    chosen = is_chosen;
    lowest = record {
      below = best.ahead.below;
      holds = (version, best.folder, reached last ns, is_chosen);
      least = λ j lt is. let le = best.lowest j (chosen_noted j is) in omega (arith, lt, le);
    };
  }

  some_chosen : SomeChosen dirs version (reached last ns)
  some_chosen = record { dir = best.dir; folder = best.folder; chosen = is_chosen }

  last_is : (other : Version) (end : Reached) → SomeChosen dirs other end → end.last ≡ last
  last_is other end is =
      let le = (best.all is.dir other is.folder end is.chosen.ahead.below is.chosen.ahead is.chosen.chain).0 in
      let ge : last ≤ end.last = is.chosen.greatest best.dir version best.folder (reached last ns) best.ahead best.chain in
      omega (arith, le, ge)

  module _ (passed : NoneBefore dirs 7) (seen : ℕ) (greatest : IsGreatestSeen dirs seen) where
    passed_image : NoneBefore dirs 8
    passed_image intent (NoImage i reason) lt applies = applies.1 best.dir version best.folder best.chain.image best.ahead best.chain.newest.intact
    passed_image intent earlier lt applies = elim (cases_lt (test_of earlier) 7) [ inl before ↦ passed intent earlier before applies | inr past ↦ omega (arith, lt, past) ]

    seen_is : (other : ℕ) → IsGreatestSeen dirs other → other ≡ seen
    seen_is other is =
        let le : other ≤ seen = greatest.greatest is.said.0 is.said.1 is.said.2 other is.said.3 is.said.4 in
        let ge : seen ≤ other = is.greatest greatest.said.0 greatest.said.1 greatest.said.2 seen greatest.said.3 greatest.said.4 in
        omega (arith, le, ge)

    gap_refuses : last + 1 < seen → (intent : Intent) → Refuses dirs intent (Gap seen last)
    gap_refuses gap intent = record { applies = (version, reached last ns, some_chosen, refl, greatest, gap); first = λ earlier lt. passed_image intent earlier lt }

    passed_gap : seen ≤ last + 1 → NoneBefore dirs 9
    passed_gap no_gap intent (Gap other end) lt applies =
        let same = last_is applies.0 applies.1 applies.2 in
        let at = seen_is other applies.4 in
        omega (arith, applies.3, same, at, applies.5, no_gap)
    passed_gap no_gap intent earlier lt applies = elim (cases_lt (test_of earlier) 8) [ inl before ↦ passed_image intent earlier before applies | inr past ↦ omega (arith, lt, past) ]

    spent_refuses : seen ≤ last + 1 → 2 ^ 62 ≤ last → (intent : Intent) → Refuses dirs intent (Spent last)
    spent_refuses no_gap spent intent = record { applies = (version, reached last ns, some_chosen, refl, spent); first = λ earlier lt. passed_gap no_gap intent earlier lt }

    pub cut_refuses : (refusal : Refusal) → IsCut last seen refusal → (intent : Intent) → Refuses dirs intent refusal
    cut_refuses refusal cut intent = elim cut [
      | inl gap ↦ subst (Refuses dirs intent) (sym gap.0) (gap_refuses gap.1 intent)
      | inr spent ↦ subst (Refuses dirs intent) (sym spent.0) (spent_refuses spent.1 spent.2 intent)
    ]

    pub unrefused : seen ≤ last + 1 → last < 2 ^ 62 → IsUnrefused dirs Start
    unrefused no_gap room (Spent end) applies =
        let same = last_is applies.0 applies.1 applies.2 in
        omega (arith, applies.3, same, applies.4, room)
    unrefused no_gap room (PreviousExists i) applies = let e = applies.0 in cc
    unrefused no_gap room (CtimeSpent old) applies = let e = applies.0 in cc
    unrefused no_gap room NoPrevious applies = let e = applies.0 in cc
    unrefused no_gap room (BadPrevious i reason) applies = let e = applies.0 in cc
    unrefused no_gap room earlier applies = passed_gap no_gap Start earlier (omega arith) applies

    pub chooses : seen ≤ last + 1 → last < 2 ^ 62 → Chooses dirs Start ns last version noted
    chooses no_gap room = record { unrefused = unrefused no_gap room; greatest = chosen_is; first = first_chosen }

-- ---- what was picked opens

pub picked_opens : PickedOpens
picked_opens dirs intent ns last version chosen found saved picks is = record {
  unrefused = picks.choice.unrefused;
  chosen = picks.choice.greatest;
  version = version;
  end = reached last ns;
  first = picks.choice.first;
  last = refl;
  namespace = refl;
  saved = is;
}
