-- What the seen_txid of the greatest cTime say, from directory to directory.
use Rattle.std.proofs.Common.{◌≡◌, inl, inr, ℕ, ◌+◌, ◌<◌, subst, arith}
use Rattle.std.specs.Prelude.{max}
use Rattle.std.proofs.lemmas.Bool.{cases_lt}
use Rattle.std.proofs.lemmas.Bool.Decides.{eqb_tells}
use Rattle.nn_marks.specs.declared.version.Version.{Version}
use Rattle.nn_chain.specs.Folder.{Folder, HasSeen}
use Rattle.nn_pick.specs.Dirs.{Dirs, HasGreatestCtime, IsGreatestSeen}
use Rattle.nn_choose.specs.Picking.{IsGreatestBelow, IsSeen}
use Rattle.nn_pick.proofs.VersionLemmas.{one_current}

module _ (dirs : Dirs) (n : ℕ) where
  pub seen_stays : {seen : ℕ} → IsGreatestBelow dirs n seen → ((version : Version) (folder : Folder) → ¬ HasGreatestCtime dirs n version folder) → IsGreatestBelow dirs (n + 1) seen
  seen_stays so_far apart = record {
    said = so_far.said;
    greatest = λ j version folder id lt is has. elim (eqb_tells j n) [
      | inl same ↦ absurd (apart version folder (subst (λ (k : ℕ). HasGreatestCtime dirs k version folder) same.1 is))
      | inr differs ↦ so_far.greatest j version folder id (omega (arith, lt, differs.1)) is has
    ];
  }

  module _ (version : Version) (folder : Folder) (ahead : HasGreatestCtime dirs n version folder) (seen : ℕ) (is_seen : IsSeen folder seen) where
    seen_here : (other : Version) (theirs : Folder) (id : ℕ) → HasGreatestCtime dirs n other theirs → HasSeen theirs id → id ≡ seen
    seen_here other theirs id is has = is_seen.1 id (subst (λ (f : Folder). HasSeen f id) (one_current (dirs.at n) theirs folder is.under.serves ahead.under.serves) has)

    pub seen_begins : ((j : ℕ) (other : Version) (theirs : Folder) → j < n → ¬ HasGreatestCtime dirs j other theirs) → IsGreatestBelow dirs (n + 1) seen
    seen_begins none = record {
      said = (n, version, folder, ahead, is_seen.0);
      greatest = λ j other theirs id lt is has. elim (eqb_tells j n) [
        | inl same ↦ let e = seen_here other theirs id (subst (λ (k : ℕ). HasGreatestCtime dirs k other theirs) same.1 is) has in omega (arith, e)
        | inr differs ↦ absurd (none j other theirs (omega (arith, lt, differs.1)) is)
      ];
    }

    pub seen_more : {greatest : ℕ} (more : ℕ) → IsGreatestBelow dirs n greatest → more ≡ max greatest seen → IsGreatestBelow dirs (n + 1) more
    seen_more {greatest} more so_far is_max = record {
      said = elim (cases_lt greatest seen) [
        | inl less ↦ (n, version, folder, ahead, subst (HasSeen folder) (omega (arith, is_max, less)) is_seen.0)
        | inr not ↦ let it = so_far.said in (it.0, it.1, it.2, it.3, subst (HasSeen it.2) (omega (arith, is_max, not)) it.4)
      ];
      greatest = λ j other theirs id lt is has. elim (eqb_tells j n) [
        | inl same ↦ let e = seen_here other theirs id (subst (λ (k : ℕ). HasGreatestCtime dirs k other theirs) same.1 is) has in omega (arith, e, is_max)
        | inr differs ↦ let le = so_far.greatest j other theirs id (omega (arith, lt, differs.1)) is has in omega (arith, le, is_max)
      ];
    }

pub seen_all : (dirs : Dirs) (seen : ℕ) → IsGreatestBelow dirs dirs.count seen → IsGreatestSeen dirs seen
seen_all dirs seen below = record { said = below.said; greatest = λ j version folder id is has. below.greatest j version folder id is.below is has }
