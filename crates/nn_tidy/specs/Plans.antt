-- What is to be done with the files of a folder: which steps are planned.
use Rattle.std.specs.Prelude.{◌≡◌, ◌⊎◌, ℕ, ℤ, true, List, Contains, AllPairs, Option, None}
use Rattle.nn_base.specs.declared.file_name.FileName.{FileName}
use Rattle.nn_base.specs.declared.file_name.FileName.TheVariants.{InProgress}
use Rattle.nn_host.specs.Listing.{IsBefore}
use Rattle.nn_chain.specs.Folder.{Folder}
use Rattle.nn_remake.specs.Tidying.{IsBeyond}
use Rattle.nn_tidy.specs.declared.steps.Step.{Step}
use Rattle.nn_tidy.specs.declared.plan.Plan.{Plan}
use Rattle.nn_tidy.specs.Fates.{is_loose, IsEnding}

-- The files among these of which C holds, with the names that they get, in the same order.
pub record ArePicked (C : FileName → Option FileName → Type 0) (names : List FileName) (steps : List Step) : Type 0 where
  pub all : (n : FileName) (to : Option FileName) → Contains names n → C n to → (t : Option FileName) × Contains steps (record { from = n; to = t })
  pub only : (s : Step) → Contains steps s → Contains names s.from × C s.from s.to
  pub rising : AllPairs IsBefore names → AllPairs (λ a b. IsBefore a.from b.from) steps

abbrev pub IsLooseStep : ℕ → FileName → Option FileName → Type 0
IsLooseStep id n to = (to ≡ None) × (is_loose id n ≡ true)

abbrev pub IsBeyondStep : Folder → ℤ → ℕ → FileName → Option FileName → Type 0
IsBeyondStep folder layout id n to = (to ≡ None) × IsBeyond folder layout id n

-- each file of the folder that is to go or to get another name is in one of the three lists, and so each segment in progress
pub record IsPlan (folder : Folder) (layout : ℤ) (id : ℕ) (names : List FileName) (plan : Plan) : Type 0 where
  pub loose : ArePicked (IsLooseStep id) names plan.loose.items
  pub beyond : ArePicked (IsBeyondStep folder layout id) names plan.beyond.items
  pub ends : ArePicked (IsEnding folder layout id) names plan.ends.items
  pub progress : (first : ℕ) → Contains names (InProgress first) → (t : Option FileName) × (Contains plan.beyond.items (record { from = InProgress first; to = t }) ⊎ Contains plan.ends.items (record { from = InProgress first; to = t }))
