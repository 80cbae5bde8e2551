-- What was read of directories is what serves there.
use Rattle.std.proofs.Common.{◌≡◌, ℕ, ◌<◌, List, length, Option, Some, None, refl, sym, ◌∙◌, subst}
use Rattle.std.proofs.lemmas.Option.{none-some}
use Rattle.nn_marks.specs.declared.version.Version.{Version}
use Rattle.nn_chain.specs.Folder.{Folder, folder_at}
use Rattle.nn_choose.specs.declared.served.Served.{Served}
use Rattle.nn_pick.specs.Dirs.{Dirs, IsFormatted, ServesUnder}
use Rattle.nn_choose.specs.Served.{ServesAs, AreServed, served_at}
use Rattle.nn_pick.proofs.VersionLemmas.{SaysTheSame, one_under, one_current}
use Rattle.nn_choose.proofs.ServedLemmas.{served_within}

-- what was read of directory j is this folder under a VERSION that says the same
pub record IsFoundAt (dirs : Dirs) (served : List (Option Served)) (j : ℕ) (version : Version) (folder : Folder) : Type 0 where
  pub it : Served
  pub at : served_at served j ≡ Some it
  pub same : SaysTheSame version it.version
  pub its : folder ≡ folder_at (dirs.at j) it.sub

module _ (dirs : Dirs) (served : List (Option Served)) (are : AreServed dirs served) where
  pub within_dirs : (j : ℕ) (it : Served) → served_at served j ≡ Some it → j < dirs.count
  within_dirs j it at = subst (λ (n : ℕ). j < n) are.count (served_within served j it at)

  pub within_list : (j : ℕ) → j < dirs.count → j < length served
  within_list j below = subst (λ (n : ℕ). j < n) (sym are.count) below

  pub serves_under : (j : ℕ) (it : Served) → served_at served j ≡ Some it → ServesUnder (dirs.at j) it.version (folder_at (dirs.at j) it.sub)
  serves_under j it at =
      let serves = subst (ServesAs (dirs.at j)) at (are.each j (within_dirs j it at)) in
      record { serves = record { sub = it.sub; serves = serves.0; is = refl }; says = serves.1 }

  pub none_served : (j : ℕ) → j < dirs.count → served_at served j ≡ None → ¬ IsFormatted (dirs.at j)
  none_served j below none formatted = formatted (subst (ServesAs (dirs.at j)) none (are.each j below))

  pub formatted_at : (j : ℕ) → j < dirs.count → IsFormatted (dirs.at j) → (it : Served) × (served_at served j ≡ Some it)
  formatted_at j below formatted = by (served_at served j) refl
    where
      by : (it : Option Served) → served_at served j ≡ it → (its : Served) × (served_at served j ≡ Some its)
      by None is = absurd (none_served j below is formatted)
      by (Some it) is = (it, is)

  pub is_formatted : (j : ℕ) (it : Served) → served_at served j ≡ Some it → IsFormatted (dirs.at j)
  unfolding serves_under
  is_formatted j it at gone = none-some it.sub (sym gone ∙ (serves_under j it at).serves.serves)

  pub found_at : (j : ℕ) (version : Version) (folder : Folder) → j < dirs.count → ServesUnder (dirs.at j) version folder → IsFoundAt dirs served j version folder
  found_at j version folder below under =
      let it = formatted_at j below (λ gone. none-some under.serves.sub (sym gone ∙ under.serves.serves)) in
      let its = serves_under j it.0 it.1 in
      record {
        it = it.0;
        at = it.1;
        same = one_under (dirs.at j) version it.0.version folder (folder_at (dirs.at j) it.0.sub) under its;
        its = one_current (dirs.at j) folder (folder_at (dirs.at j) it.0.sub) under.serves its.serves;
      }
