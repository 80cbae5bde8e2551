-- The chain that ends last, from directory to directory.
use Rattle.std.proofs.Common.{◌≡◌, ◌≢◌, inl, inr, ℕ, ◌+◌, ◌<◌, ◌≤◌, Bool, true, refl, sym, ◌∙◌, ap, subst, arith}
use Rattle.std.proofs.lemmas.Bool.Decides.{eqb_tells}
use Rattle.nn_marks.specs.declared.version.Version.{Version}
use Rattle.nn_tree.specs.Namespace.{Namespace}
use Rattle.nn_chain.specs.declared.why.ImageWhy.{ImageWhy}
use Rattle.nn_chain.specs.Folder.{Folder}
use Rattle.nn_chain.specs.Images.{HasIntact, HasNoImage}
use Rattle.nn_chain.specs.Chain.{Reached, IsChain}
use Rattle.nn_choose.specs.declared.served.Lead.{Lead}
use Rattle.nn_pick.specs.Dirs.{Dirs, HasGreatestCtime}
use Rattle.nn_choose.specs.Picking.{IsBestChain, HaveNoImage}
use Rattle.nn_pick.proofs.VersionLemmas.{SaysTheSame, same_turned, one_under, one_current}
use Rattle.nn_pick.proofs.UnderLemmas.{intact_under, one_end}

abbrev pub reached : ℕ → Namespace → Reached
reached last ns = record { last = last; ns = ns }

-- below n + 1 stand those below n, and n
pub below_more : (P : ℕ → Type 0) (n j : ℕ) → j < n + 1 → (j < n → P j) → (j ≡ n → P j) → P j
below_more P n j lt before here = elim (eqb_tells j n) [
  | inl same ↦ here same.1
  | inr differs ↦ before (omega (arith, lt, differs.1))
]

module _ (dirs : Dirs) (n : ℕ) where
  -- ---- directory n isn't of the greatest cTime, or has no image

  pub best_stays : {ns : Namespace} {last : ℕ} {version : Version} {noted : ℕ → Bool} → IsBestChain dirs n ns last version noted
      → ((other : Version) (theirs : Folder) (end : Reached) → HasGreatestCtime dirs n other theirs → IsChain theirs other end → (end.last < last)) → IsBestChain dirs (n + 1) ns last version noted
  best_stays {ns} {last} {version} {noted} best lower = record {
    dir = best.dir;
    folder = best.folder;
    ahead = best.ahead;
    chain = best.chain;
    its = best.its;
    lowest = best.lowest;
    below = λ j is. let lt = best.below j is in omega (arith, lt);
    only = best.only;
    all = λ j other theirs end lt ahead chain. below_more (λ k. HasGreatestCtime dirs k other theirs → (end.last ≤ last) × (end.last ≡ last → noted k ≡ true)) n j lt
        (λ before its. best.all j other theirs end before its chain)
        (λ here its.
        let less = lower other theirs end (subst (λ (k : ℕ). HasGreatestCtime dirs k other theirs) here its) chain in
        (omega (arith, less), λ same. absurd (omega (arith, less, same))))
        ahead;
  }

  pub no_image_stays : {lead : Lead} {why : ImageWhy} → HaveNoImage dirs n lead why → ((version : Version) (folder : Folder) (id : ℕ) → HasGreatestCtime dirs n version folder → ¬ HasIntact folder version id) → HaveNoImage dirs (n + 1) lead why
  no_image_stays none here = record {
    none = λ j version folder id lt ahead has. below_more (λ k. HasGreatestCtime dirs k version folder → ⊥) n j lt
        (λ before its. none.none j version folder id before its has)
        (λ same its. here version folder id (subst (λ (k : ℕ). HasGreatestCtime dirs k version folder) same its) has)
        ahead;
    reason = none.reason;
  }

  -- ---- it was loaded

  module _ (version : Version) (folder : Folder) (ahead : HasGreatestCtime dirs n version folder) where
    same_here : (other : Version) (theirs : Folder) → HasGreatestCtime dirs n other theirs → (theirs ≡ folder) × SaysTheSame other version
    same_here other theirs is = (one_current (dirs.at n) theirs folder is.under.serves ahead.under.serves, one_under (dirs.at n) other version theirs folder is.under ahead.under)

    pub none_here : (why : ImageWhy) → HasNoImage folder version why → (other : Version) (theirs : Folder) (id : ℕ) → HasGreatestCtime dirs n other theirs → ¬ HasIntact theirs other id
    none_here why none other theirs id is has =
        let same = same_here other theirs is in
        let here : HasIntact folder other id = subst (λ (f : Folder). HasIntact f other id) same.0 has in
        none.none id (here.0, intact_under folder version other id here.0 (same_turned other version same.1) here.1)

    pub no_chain_here : (why : ImageWhy) → HasNoImage folder version why → (other : Version) (theirs : Folder) (end : Reached) → HasGreatestCtime dirs n other theirs → IsChain theirs other end → ⊥
    no_chain_here why none other theirs end is chain = none_here why none other theirs chain.image is chain.newest.intact

    module _ (ns : Namespace) (last : ℕ) (chain : IsChain folder version (reached last ns)) where
      end_here : (other : Version) (theirs : Folder) (end : Reached) → HasGreatestCtime dirs n other theirs → IsChain theirs other end → end.last ≡ last
      end_here other theirs end is its =
          let same = same_here other theirs is in
          ap (λ (r : Reached). r.last) (one_end theirs folder other version end (reached last ns) same.0 same.1 its chain)

      -- it is the first that has a chain, or the chain ends later
      pub best_begins : (noted : ℕ → Bool) → noted n ≡ true → ((j : ℕ) → noted j ≡ true → j ≡ n)
          → ((j : ℕ) (other : Version) (theirs : Folder) (end : Reached) → j < n → HasGreatestCtime dirs j other theirs → IsChain theirs other end → end.last < last) → IsBestChain dirs (n + 1) ns last version noted
      best_begins noted its alone lower = record {
        dir = n;
        folder = folder;
        ahead = ahead;
        chain = chain;
        its = its;
        lowest = λ j is. let same = alone j is in omega (arith, same);
        below = λ j is. let same = alone j is in omega (arith, same);
        only = λ j is. (version, folder, reached last ns, subst (λ (k : ℕ). HasGreatestCtime dirs k version folder) (sym (alone j is)) ahead, chain, refl);
        all = λ j other theirs end lt is its_chain. below_more (λ k. HasGreatestCtime dirs k other theirs → (end.last ≤ last) × (end.last ≡ last → noted k ≡ true)) n j lt
            (λ before here. let less = lower j other theirs end before here its_chain in (omega (arith, less), λ same. absurd (omega (arith, less, same))))
            (λ same here.
            let e = end_here other theirs end (subst (λ (k : ℕ). HasGreatestCtime dirs k other theirs) same here) its_chain in
            (omega (arith, e), λ eq. subst (λ (k : ℕ). noted k ≡ true) (sym same) its))
            is;
      }

      -- its chain ends earlier than the best
      pub best_lower : {best_ns : Namespace} {best_last : ℕ} {best_version : Version} {noted : ℕ → Bool} → IsBestChain dirs n best_ns best_last best_version noted → last < best_last → IsBestChain dirs (n + 1) best_ns best_last best_version noted
      best_lower best less = best_stays best (λ other theirs end is its. let e = end_here other theirs end is its in omega (arith, e, less))

      -- it ends with the best
      pub best_equal : {best_ns : Namespace} {best_last : ℕ} {best_version : Version} {noted : ℕ → Bool} (more : ℕ → Bool) → IsBestChain dirs n best_ns best_last best_version noted → last ≡ best_last
          → more n ≡ true → ((j : ℕ) → j ≢ n → more j ≡ noted j) → IsBestChain dirs (n + 1) best_ns best_last best_version more
      best_equal {best_ns} {best_last} {best_version} {noted} more best same its others = record {
        dir = best.dir;
        folder = best.folder;
        ahead = best.ahead;
        chain = best.chain;
        its = others best.dir (omega (arith, best.below best.dir best.its)) ∙ best.its;
        lowest = λ j is. elim (eqb_tells j n) [
          | inl here ↦ let lt = best.below best.dir best.its in omega (arith, lt, here.1)
          | inr differs ↦ best.lowest j (sym (others j differs.1) ∙ is)
        ];
        below = λ j is. elim (eqb_tells j n) [
          | inl here ↦ omega (arith, here.1)
          | inr differs ↦ let lt = best.below j (sym (others j differs.1) ∙ is) in omega (arith, lt)
        ];
        only = λ j is. elim (eqb_tells j n) [
          | inl here ↦ (version, folder, reached last ns, subst (λ (k : ℕ). HasGreatestCtime dirs k version folder) (sym here.1) ahead, chain, same)
          | inr differs ↦ best.only j (sym (others j differs.1) ∙ is)
        ];
        all = λ j other theirs end lt is its_chain. below_more (λ k. HasGreatestCtime dirs k other theirs → (end.last ≤ best_last) × (end.last ≡ best_last → more k ≡ true)) n j lt
            (λ before here. let of = best.all j other theirs end before here its_chain in (of.0, λ eq. others j (omega (arith, before)) ∙ of.1 eq))
            (λ at here.
            let e = end_here other theirs end (subst (λ (k : ℕ). HasGreatestCtime dirs k other theirs) at here) its_chain in
            (omega (arith, e, same), λ eq. subst (λ (k : ℕ). more k ≡ true) (sym at) its))
            is;
      }

      -- none before it has an image
      pub best_after_none : {lead : Lead} {why : ImageWhy} (noted : ℕ → Bool) → HaveNoImage dirs n lead why → noted n ≡ true → ((j : ℕ) → noted j ≡ true → j ≡ n) → IsBestChain dirs (n + 1) ns last version noted
      best_after_none noted none its alone = best_begins noted its alone (λ j other theirs end lt is its_chain. absurd (none.none j other theirs its_chain.image lt is its_chain.newest.intact))
