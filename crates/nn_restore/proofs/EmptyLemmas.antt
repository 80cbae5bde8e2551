-- A directory that is recovered, looked at, and then cleared.
use Rattle.std.proofs.Common.{◌≡◌, ◌≢◌, inl, inr, ℕ, sym, ◌∙◌, subst}
use Rattle.nn_base.specs.declared.ids.DirNo.{DirNo}
use Rattle.nn_host.specs.Disk.{Disk}
use Rattle.nn_host.specs.Moments.{State, disk_at}
use Rattle.nn_host.specs.Runs.{OnlyAt}
use Rattle.nn_host.proofs.WorkLemmas.{work_trans, work_weaker}
use Rattle.nn_state.specs.declared.state.StorageState.{StorageState}
use Rattle.nn_state.specs.declared.state.StorageState.TheVariants.{NonExistent}
use Rattle.nn_state.specs.Table.{seven_of}
use Rattle.nn_state.specs.Typed.{IsIn}
use Rattle.nn_state.specs.Recovery.{KeepsSeat, IsRecovered, WasRecovered}
use Rattle.nn_state.proofs.TableLemmas.{rooted}
use Rattle.nn_remake.specs.Clearing.{IsIdle, IsAtRest, IsClearing}
use Rattle.nn_restore.specs.Emptying.{IsEmptying}

-- what is said of the directory of a state
pub keeps_at : {told : Type 0} (i j : DirNo) {a b : State} → j ≡ i → OnlyAt told j.0 a b (KeepsSeat (disk_at a j.0)) → OnlyAt told i.0 a b (KeepsSeat (disk_at a i.0))
keeps_at {told} i j {a} {b} same = subst (λ (x : DirNo). OnlyAt told x.0 a b (KeepsSeat (disk_at a x.0))) same

pub recovered_at : (i j : DirNo) {a b : State} → j ≡ i → WasRecovered j.0 a b → IsRecovered (disk_at a i.0) (disk_at b i.0)
recovered_at i j {a} {b} same was = subst (λ (x : DirNo). IsRecovered (disk_at a x.0) (disk_at b x.0)) same was.disk

pub recovered_idle : (old mid : Disk) (state : StorageState) → IsIn state old → state ≢ NonExistent → IsRecovered old mid → IsIdle mid
recovered_idle old mid state is there recovered = record { root = recovered.root ∙ rooted (seven_of old) state is there; no_tmp = recovered.no_tmp }

module _ {told : Type 0} {i : ℕ} {a b : State} (keeps : OnlyAt told i a b (KeepsSeat (disk_at a i))) where
  pub recovering : OnlyAt told i a b (IsEmptying (disk_at a i))
  recovering = work_weaker keeps (λ t d it. inr (inl it))

  module _ {c : State} (still : OnlyAt told i b c (λ d. d ≡ disk_at b i)) where
    pub then_looked : OnlyAt told i a c (IsEmptying (disk_at a i))
    then_looked = work_trans recovering (work_weaker still (λ t d same. subst (IsEmptying (disk_at a i)) (sym same) (inr (inl (keeps.ends t)))))

    module _ (recovered : told → IsRecovered (disk_at a i) (disk_at b i)) where
      pub looked_recovered : told → IsRecovered (disk_at a i) (disk_at c i)
      looked_recovered t = subst (IsRecovered (disk_at a i)) (sym (still.ends t)) (recovered t)

      pub then_cleared : {d : State} → OnlyAt told i c d (λ x. IsAtRest (disk_at c i) → IsClearing (disk_at c i) x) → OnlyAt told i a d (IsEmptying (disk_at a i))
      then_cleared clears = work_trans then_looked (work_weaker clears (λ t x is.
          inr (inr (disk_at c i, subst (KeepsSeat (disk_at a i)) (sym (still.ends t)) (keeps.ends t), looked_recovered t, is))))
