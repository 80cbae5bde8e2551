-- Loading and looking, from directory to directory of the greatest cTime.
use Rattle.std.proofs.Common.{◌≡◌, ◌≢◌, ℕ, ◌+◌, ◌<◌, true, List, length, Option, Some, sym, subst, arith}
use Rattle.std.specs.Prelude.{max}
use Rattle.nn_base.specs.DirSets.{has}
use Rattle.nn_base.specs.declared.ids.DirNo.{DirNo}
use Rattle.nn_host.specs.Disk.{Reads}
use Rattle.nn_host.specs.Moments.{State}
use Rattle.nn_marks.specs.declared.version.Version.{Version}
use Rattle.nn_tree.specs.Namespace.{Namespace}
use Rattle.nn_chain.specs.Folder.{folder_at}
use Rattle.nn_choose.specs.declared.best.Best.{Best}
use Rattle.nn_choose.specs.declared.best.Best.TheVariants.{Chain, NoImage}
use Rattle.nn_choose.specs.declared.served.Lead.{Lead}
use Rattle.nn_choose.specs.declared.served.Served.{Served}
use Rattle.nn_tree.specs.Imaged.{IsImaged}
use Rattle.nn_image.specs.declared.fault.ImageFault.TheVariants as image_fault
use Rattle.nn_chain.specs.declared.why.ImageWhy.{ImageWhy}
use Rattle.nn_chain.specs.declared.why.ImageWhy.TheVariants.{Fault}
use Rattle.nn_pick.specs.declared.fault.OpenFault.TheVariants.{Refused}
use Rattle.nn_pick.specs.declared.refusal.Refusal.TheVariants as refusal
use Rattle.nn_pick.specs.Dirs.{Dirs, HasGreatestCtime, IsGreatestSeen}
use Rattle.nn_choose.specs.declared.best.Furthest.{Furthest}
use Rattle.nn_choose.specs.Served.{AreServed, IsLead, served_at}
use Rattle.nn_choose.specs.Looking.{OnlyLooked, dirs_read}
use Rattle.nn_choose.specs.Picking.{HaveNoImage, IsBest, IsBestChain, IsSoundBest, IsRefusedAnyway, NeverMemory, NoneBefore, IsLoaded, IsNextLoaded, IsOfOne, IsOfFirst, IsSeen, IsGreatestBelow}
use Rattle.nn_choose.proofs.LookingLemmas.{looked_trans}
use Rattle.nn_choose.proofs.AheadLemmas.{is_ahead, lead_ahead, none_lower, not_ahead}
use Rattle.nn_choose.proofs.BestLemmas.{below_more, best_begins, best_stays, no_image_stays, none_here}
use Rattle.nn_choose.proofs.ChosenLemmas.{refuses_image}
use Rattle.nn_choose.proofs.SeenLemmas.{seen_stays, seen_begins, seen_more, seen_all}

-- ---- the one that leads was loaded

module _ {T : Type 0} (meaning : T → Namespace) (dirs : Dirs) (served : List (Option Served)) (are : AreServed dirs served) (lead : Lead) (leads : IsLead served (length served) lead) where
  pub best_at_lead : (best : Best T) → IsLoaded meaning (folder_at (dirs.at lead.dir.0) lead.served.sub) lead.served.version best → IsOfOne lead.dir.0 best → IsBest meaning dirs lead (lead.dir.0 + 1) best
  best_at_lead (Chain it) loaded one = subst (λ (v : Version). IsBestChain dirs (lead.dir.0 + 1) (meaning it.tree) it.last v (has it.dirs)) (sym loaded.1)
      (best_begins dirs lead.dir.0 lead.served.version (folder_at (dirs.at lead.dir.0) lead.served.sub) (lead_ahead dirs served are lead leads) (meaning it.tree) it.last loaded.0 (has it.dirs) one.0 one.1
      (λ j other theirs end lt ahead chain. absurd (none_lower dirs served are lead leads j other theirs lt ahead)))
  best_at_lead (NoImage why) none one = record {
    none = λ j version folder id lt ahead has. below_more (λ k. HasGreatestCtime dirs k version folder → ⊥) lead.dir.0 j lt
        (λ before its. none_lower dirs served are lead leads j version folder before its)
        (λ same its. none_here dirs lead.dir.0 lead.served.version (folder_at (dirs.at lead.dir.0) lead.served.sub) (lead_ahead dirs served are lead leads) why none version folder id (subst (λ (k : ℕ). HasGreatestCtime dirs k version folder) same its) has)
        ahead;
    reason = none;
  }

  -- a directory of another cTime
  pub best_skips : (n : ℕ) (best : Best T) → ((it : Served) → served_at served n ≡ Some it → it.version.ctime ≢ lead.served.version.ctime) → IsBest meaning dirs lead n best → IsBest meaning dirs lead (n + 1) best
  best_skips n (Chain it) other best = best_stays dirs n best (λ version folder end ahead chain. absurd (not_ahead dirs served are lead leads n other version folder ahead))
  best_skips n (NoImage why) other none = no_image_stays dirs n none (λ version folder id ahead has. not_ahead dirs served are lead leads n other version folder ahead)

-- ---- from directory to directory

-- the directories of the greatest cTime below n were loaded
pub record Loading {T : Type 0} (meaning : T → Namespace) (told : Type 0) (lead : Lead) (n : ℕ) (start now : State) (best : Best T) : Type 0 where
  pub looked : OnlyLooked told start now
  pub chain : told → IsBest meaning (dirs_read start) lead n best
  pub sound : IsSoundBest meaning best
  pub first : IsOfFirst n best

pub of_first : {T : Type 0} (n : ℕ) (best : Best T) → IsOfOne n best → IsOfFirst (n + 1) best
of_first n (Chain it) one = λ j is. let same = one.1 j is in omega (arith, same)
of_first n (NoImage why) one = tt

pub first_more : {T : Type 0} (n : ℕ) (best : Best T) → IsOfFirst n best → IsOfFirst (n + 1) best
first_more n (Chain it) first = λ j is. let lt = first j is in omega (arith, lt)
first_more n (NoImage why) first = tt

module _ {T : Type 0} (meaning : T → Namespace) {told : Type 0} {a : State} (served : List (Option Served)) (are : told → AreServed (dirs_read a) served) (lead : Lead) (leads : IsLead served (length served) lead) where
  pub loading_begins : {b : State} (best : Best T) → OnlyLooked told a b → (told → IsLoaded meaning (folder_at (a.reads lead.dir.0) lead.served.sub) lead.served.version best) → IsOfOne lead.dir.0 best → IsSoundBest meaning best → Loading meaning told lead (lead.dir.0 + 1) a b best
  loading_begins best looked loaded one sound = record {
    looked = looked;
    chain = λ tells. best_at_lead meaning (dirs_read a) served (are tells) lead leads best (loaded tells) one;
    sound = sound;
    first = of_first lead.dir.0 best one;
  }

  module _ {n : ℕ} {b : State} {best : Best T} (so_far : Loading meaning told lead n a b best) where
    pub loading_skips : ((it : Served) → served_at served n ≡ Some it → it.version.ctime ≢ lead.served.version.ctime) → Loading meaning told lead (n + 1) a b best
    loading_skips other = record {
      looked = so_far.looked;
      chain = λ tells. best_skips meaning (dirs_read a) served (are tells) lead leads n best other (so_far.chain tells);
      sound = so_far.sound;
      first = first_more n best so_far.first;
    }

    pub loading_more : {c : State} (it : Served) (next more : Best T) → OnlyLooked told b c → served_at served n ≡ Some it → it.version.ctime ≡ lead.served.version.ctime
        → (told → IsLoaded meaning (folder_at (b.reads n) it.sub) it.version next) → ((dirs : Dirs) (lead : Lead) → IsBest meaning dirs lead n best → IsNextLoaded meaning dirs n next → IsBest meaning dirs lead (n + 1) more)
        → IsOfFirst (n + 1) more → IsSoundBest meaning next → (IsSoundBest meaning best → IsSoundBest meaning next → IsSoundBest meaning more) → Loading meaning told lead (n + 1) a c more
    loading_more it next more looked at same loaded better first next_sound sound = record {
      looked = looked_trans so_far.looked looked;
      chain = λ tells. better (dirs_read a) lead (so_far.chain tells) (
        it.version,
        folder_at (a.reads n) it.sub,
        is_ahead (dirs_read a) served (are tells) lead leads n it at same,
        subst (λ (r : Reads). IsLoaded meaning (folder_at r it.sub) it.version next) (so_far.looked.reads tells n) (loaded tells),
      );
      sound = sound so_far.sound next_sound;
      first = first;
    }

-- all were loaded, and there is a chain
module _ {T : Type 0} (meaning : T → Namespace) {told : Type 0} {lead : Lead} {n : ℕ} {a b : State} {best : Best T} (all : Loading meaning told lead n a b best) (whole : n ≡ a.count) (it : Furthest T) (is : best ≡ Chain it) where
  pub chain_best : told → IsBestChain (dirs_read a) a.count (meaning it.tree) it.last it.version (has it.dirs)
  chain_best tells = subst (λ (k : ℕ). IsBestChain (dirs_read a) k (meaning it.tree) it.last it.version (has it.dirs)) whole (subst (IsBest meaning (dirs_read a) lead n) is (all.chain tells))

  pub chain_imaged : IsImaged (meaning it.tree)
  chain_imaged = subst (IsSoundBest meaning) is all.sound

  pub chain_within : (j : ℕ) → has it.dirs j ≡ true → j < a.count
  chain_within j noted = subst (λ (k : ℕ). j < k) whole (subst (IsOfFirst n) is all.first j noted)

-- or none has an image
pub no_image_refused : {T : Type 0} (meaning : T → Namespace) {told : Type 0} {n : ℕ} {a b : State} {best : Best T} (served : List (Option Served)) (are : told → AreServed (dirs_read a) served) (lead : Lead) (leads : IsLead served (length served) lead)
    → Loading meaning told lead n a b best → n ≡ a.count → (why : ImageWhy) → best ≡ NoImage why → (told → NoneBefore (dirs_read a) 7) → told → IsRefusedAnyway (dirs_read a) (Refused (refusal.NoImage lead.dir why))
no_image_refused meaning {a = a} served are lead leads all whole why is passed tells =
    let none : HaveNoImage (dirs_read a) a.count lead why = subst (λ (k : ℕ). HaveNoImage (dirs_read a) k lead why) whole (subst (IsBest meaning (dirs_read a) lead _) is (all.chain tells)) in
    refuses_image (dirs_read a) lead why none (lead_ahead (dirs_read a) served (are tells) lead leads) (λ j lt some. none_lower (dirs_read a) served (are tells) lead leads j some.0 some.1 lt some.2) (passed tells)

pub no_image_told : {T : Type 0} (meaning : T → Namespace) {told : Type 0} {lead : Lead} {n : ℕ} {a b : State} {best : Best T} → Loading meaning told lead n a b best → (why : ImageWhy) → best ≡ NoImage why → (i : DirNo) → NeverMemory (Refused (refusal.NoImage i why))
no_image_told meaning all why is i j e = let same : why ≡ Fault image_fault.Memory = cc in subst (IsSoundBest meaning) is all.sound same

-- ---- seen_txid

-- those of the directories of the greatest cTime below n were read
pub record Seeing (told : Type 0) (n : ℕ) (start now : State) (seen : ℕ) : Type 0 where
  pub looked : OnlyLooked told start now
  pub greatest : told → IsGreatestBelow (dirs_read start) n seen

module _ {told : Type 0} {a : State} (served : List (Option Served)) (are : told → AreServed (dirs_read a) served) (lead : Lead) (leads : IsLead served (length served) lead) where
  pub seeing_begins : {b : State} {seen : ℕ} → OnlyLooked told a b → (told → IsSeen (folder_at (a.reads lead.dir.0) lead.served.sub) seen) → Seeing told (lead.dir.0 + 1) a b seen
  seeing_begins {b} {seen} looked is = record {
    looked = looked;
    greatest = λ tells. seen_begins (dirs_read a) lead.dir.0 lead.served.version (folder_at (a.reads lead.dir.0) lead.served.sub) (lead_ahead (dirs_read a) served (are tells) lead leads) seen (is tells)
        (λ j other theirs lt ahead. none_lower (dirs_read a) served (are tells) lead leads j other theirs lt ahead);
  }

  module _ {n : ℕ} {b : State} {greatest : ℕ} (so_far : Seeing told n a b greatest) where
    pub seeing_skips : ((it : Served) → served_at served n ≡ Some it → it.version.ctime ≢ lead.served.version.ctime) → Seeing told (n + 1) a b greatest
    seeing_skips other = record { looked = so_far.looked; greatest = λ tells. seen_stays (dirs_read a) n (so_far.greatest tells) (λ version folder ahead. not_ahead (dirs_read a) served (are tells) lead leads n other version folder ahead) }

    pub seeing_more : {c : State} (it : Served) (seen more : ℕ) → OnlyLooked told b c → served_at served n ≡ Some it → it.version.ctime ≡ lead.served.version.ctime → (told → IsSeen (folder_at (b.reads n) it.sub) seen) → more ≡ max greatest seen → Seeing told (n + 1) a c more
    seeing_more it seen more looked at same is is_max = record {
      looked = looked_trans so_far.looked looked;
      greatest = λ tells. seen_more (dirs_read a) n it.version (folder_at (a.reads n) it.sub) (is_ahead (dirs_read a) served (are tells) lead leads n it at same) seen
          (subst (λ (r : Reads). IsSeen (folder_at r it.sub) seen) (so_far.looked.reads tells n) (is tells)) more (so_far.greatest tells) is_max;
    }

-- all were read
pub seeing_all : {told : Type 0} {n : ℕ} {a b : State} {seen : ℕ} → Seeing told n a b seen → n ≡ a.count → told → IsGreatestSeen (dirs_read a) seen
seeing_all {n = n} {a = a} {seen = seen} all whole tells = seen_all (dirs_read a) seen (subst (λ (k : ℕ). IsGreatestBelow (dirs_read a) k seen) whole (all.greatest tells))
