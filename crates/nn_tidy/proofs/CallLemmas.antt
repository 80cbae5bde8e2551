-- The calls by which a directory is tidied: what it is at each moment of them, and once they returned.
use Rattle.std.proofs.Common.{◌≡◌, inl, refl, ℕ, List, sym, ◌∙◌, subst}
use Rattle.nn_base.specs.declared.sub.Sub.TheVariants.{Current}
use Rattle.nn_base.specs.declared.file_name.FileName.{FileName}
use Rattle.nn_host.specs.Disk.{Held, Disk, Reads}
use Rattle.nn_host.specs.Listing.{IsListing}
use Rattle.nn_host.specs.Moments.{State, IsLawful, disk_at}
use Rattle.nn_host.specs.Runs.{OnlyAt}
use Rattle.nn_host.proofs.WorkLemmas.{work_trans, work_weaker, still_then}
use Rattle.nn_marks.specs.declared.version.Version.{Version}
use Rattle.nn_chain.specs.Folder.{folder_at}
use Rattle.nn_remake.specs.Tidying.{IsTidying, WasTidied, IsTidy}
use Rattle.nn_remake.proofs.CuttingLemmas.{IsListed, listed, listed_disk}
use Rattle.nn_remake.proofs.TidyingLemmas.{tidied_tidy}
use Rattle.nn_tidy.specs.declared.steps.Step.{Step}
use Rattle.nn_tidy.specs.declared.plan.Plan.{Plan}
use Rattle.nn_tidy.specs.Steps.{AreApart, AreThere, HasTaken, AreTaken, WereTaken}
use Rattle.nn_tidy.specs.Plans.{IsPlan}
use Rattle.nn_tidy.proofs.TidyLemmas.{steps_of, are_apart, are_there, tidying, tidied}

module _ {told : Type 0} {i : ℕ} {a b c : State} (version : Version) (id : ℕ) (names given : List FileName) (plan : Plan) (joined : List Step) (lawful : told → IsLawful a) (list : told → IsListing (a.reads i) Current names)
    (look : OnlyAt told i a b (λ d. d ≡ disk_at a i)) (read : told → b.reads i ≡ a.reads i) (next : OnlyAt told i b c (λ d. d ≡ disk_at b i)) (again : told → c.reads i ≡ b.reads i)
    (planned : told → IsPlan (folder_at (b.reads i) Current) version.layout id given plan) (same : given ≡ names) (all : joined ≡ steps_of plan) where
  its_plan : told → IsPlan (folder_at (a.reads i) Current) version.layout id names plan
  its_plan tells = subst (λ (xs : List FileName). IsPlan (folder_at (a.reads i) Current) version.layout id xs plan) same (subst (λ (r : Reads). IsPlan (folder_at r Current) version.layout id given plan) (read tells) (planned tells))

  pub steps_apart : told → AreApart joined
  steps_apart tells = subst AreApart (sym all) (are_apart (a.reads i) version.layout id names (list tells) plan (its_plan tells))

  there_at : told → AreThere joined (a.reads i)
  there_at tells = subst (λ (xs : List Step). AreThere xs (a.reads i)) (sym all) (are_there (a.reads i) version.layout id names (list tells) plan (its_plan tells))

  pub steps_there : told → AreThere joined (c.reads i)
  steps_there tells = subst (AreThere joined) (sym (again tells ∙ read tells)) (there_at tells)

  looked : OnlyAt told i a c (λ d. d ≡ disk_at a i)
  looked = still_then look next

  list_reads : told → IsListed names (a.reads i)
  list_reads tells = listed (a.reads i) names (list tells)

  list_disk : told → IsListed names (disk_at a i)
  list_disk tells = listed_disk (disk_at a i) (a.reads i) names ((lawful tells).reads i) (list_reads tells)

  nothing : {A : Type 0} (d : Held A) → IsTidying (folder_at (a.reads i) Current) version.layout id d d
  nothing d = record { root = refl; subs = λ s. refl; other_subs = λ s n ne. refl; files = λ n. inl refl; falling = λ n m one other before. inl refl }

  pub tidy_run : {e : State} → OnlyAt told i c e (AreTaken joined (disk_at c i)) → OnlyAt told i a e (IsTidying (folder_at (a.reads i) Current) version.layout id (disk_at a i))
  tidy_run p = work_trans
      (work_weaker looked (λ tells d is. subst (IsTidying (folder_at (a.reads i) Current) version.layout id (disk_at a i)) (sym is) (nothing (disk_at a i))))
      (work_weaker p (λ tells d taken. tidying (a.reads i) version.layout id names (list tells) plan (its_plan tells) (disk_at a i) (list_disk tells) d
      (subst (λ (xs : List Step). AreTaken xs (disk_at a i) d) all (subst (λ (x : Disk). AreTaken joined x d) (looked.ends tells) taken))))

  module _ {e : State} (was : told → WereTaken joined i c e) where
    pub tidy_was : told → WasTidied version.layout id i a e
    tidy_was tells = record {
      disk = tidied (a.reads i) version.layout id names (list tells) plan (its_plan tells) (disk_at a i) (list_disk tells) (disk_at e i)
          (subst (λ (xs : List Step). HasTaken xs (disk_at a i) (disk_at e i)) all (subst (λ (x : Disk). HasTaken joined x (disk_at e i)) (looked.ends tells) (was tells).disk));
      reads = tidied (a.reads i) version.layout id names (list tells) plan (its_plan tells) (a.reads i) (list_reads tells) (e.reads i)
          (subst (λ (xs : List Step). HasTaken xs (a.reads i) (e.reads i)) all (subst (λ (x : Reads). HasTaken joined x (e.reads i)) (again tells ∙ read tells) (was tells).reads));
    }

    pub left_tidy : told → IsTidy (folder_at (e.reads i) Current) version.layout id
    left_tidy tells = tidied_tidy version.layout id (a.reads i) (e.reads i) (tidy_was tells).reads
