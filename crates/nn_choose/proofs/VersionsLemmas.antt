-- The VERSIONs of all formatted directories, from directory to directory.
use Rattle.std.proofs.Common.{◌≡◌, inl, inr, ℕ, ◌+◌, ◌<◌, List, [], ◌∷◌, ◌++◌, length, Option, Some, None, refl, sym, ◌∙◌, ap, subst, arith}
use Rattle.std.specs.Prelude.{slice_index_or}
use Rattle.std.proofs.lemmas.Bool.{cases_lt}
use Rattle.std.proofs.lemmas.Option.{same_Some, none-some}
use Rattle.nn_base.specs.declared.ids.DirNo.{DirNo}
use Rattle.nn_host.specs.Disk.{Reads}
use Rattle.nn_host.specs.Moments.{State}
use Rattle.nn_marks.specs.declared.fault.VersionFault.{VersionFault}
use Rattle.nn_chain.specs.Folder.{Folder, folder_at}
use Rattle.nn_pick.specs.declared.fault.OpenFault.{OpenFault}
use Rattle.nn_pick.specs.declared.fault.OpenFault.TheVariants.{Refused, Failed, Memory}
use Rattle.nn_pick.specs.declared.intent.Intent.{Intent}
use Rattle.nn_pick.specs.declared.refusal.Refusal.{Refusal}
use Rattle.nn_pick.specs.declared.refusal.Refusal.TheVariants.{NotFormatted, BadVersion}
use Rattle.nn_choose.specs.declared.served.Served.{Served}
use Rattle.nn_pick.specs.Dirs.{Dirs, ServesCurrent, fault_in, version_fault}
use Rattle.nn_pick.specs.Refusing.{Applies, Refuses, IsFaulty, test_of}
use Rattle.nn_choose.specs.Looking.{OnlyLooked, dirs_read}
use Rattle.nn_choose.specs.Picking.{NoneBefore, IsRefusedAnyway, IsBadVersionOf}
use Rattle.nn_choose.specs.Served.{ServesAs, AreServed}
use Rattle.nn_pick.proofs.HoldsLemmas.{serves_formatted}
use Rattle.nn_choose.proofs.LookingLemmas.{looked_refl, looked_trans}
use Rattle.nn_choose.proofs.ListLemmas.{each_more, longer}

-- ---- one directory

-- a VERSION that was read has no fault
pub faultless : (c : Reads) (it : Option Served) → ServesAs c it → (folder : Folder) → ServesCurrent c folder → version_fault folder ≡ None
faultless c None serves folder is = absurd (none-some is.sub (sym serves ∙ is.serves))
faultless c (Some it) serves folder is =
    let sub = same_Some it.sub is.sub (sym serves.0 ∙ is.serves) in
    let at : folder ≡ folder_at c it.sub = is.is ∙ ap (λ sub. c.file sub) (sym sub) in
    ap version_fault at ∙ ap fault_in serves.1.1 ∙ serves.1.2.sound

-- ---- the refusal

module _ (dirs : Dirs) (passed : NoneBefore dirs 2) where
  -- before the test on VERSIONs, where one is there
  none_before : (i : ℕ) (folder : Folder) → i < dirs.count → ServesCurrent (dirs.at i) folder → (intent : Intent) (earlier : Refusal) → test_of earlier < 3 → ¬ Applies dirs intent earlier
  none_before i folder below serves intent NotFormatted lt applies = applies i below (serves_formatted (dirs.at i) folder serves)
  none_before i folder below serves intent earlier lt applies = elim (cases_lt (test_of earlier) 2) [ inl before ↦ passed intent earlier before applies | inr not ↦ omega (arith, lt, not) ]

  pub refuses_version : (i : DirNo) (fault : VersionFault) (folder : Folder) → i.0 < dirs.count → ((j : ℕ) → j < i.0 → ¬ IsFaulty dirs j) → ServesCurrent (dirs.at i.0) folder → version_fault folder ≡ Some fault
      → (intent : Intent) → Refuses dirs intent (BadVersion i fault)
  refuses_version i fault folder below sound serves is intent = record {
    applies = (
      record { below = below; holds = (folder, serves, λ none. none-some fault (sym none ∙ is)); least = sound },
      folder,
      serves,
      is,
    );
    first = none_before i.0 folder below serves intent;
  }

  pub refused_version : (i : DirNo) (fault : OpenFault) → i.0 < dirs.count → ((j : ℕ) → j < i.0 → ¬ IsFaulty dirs j) → IsBadVersionOf i (dirs.at i.0) fault → IsRefusedAnyway dirs fault
  refused_version i (Refused refusal) below sound bad intent = subst (Refuses dirs intent) (sym bad.2.1) (refuses_version i bad.2.0 bad.0 below sound bad.1 bad.2.2 intent)
  refused_version i (Failed j) below sound bad intent = tt
  refused_version i Memory below sound bad intent = tt

-- ---- from directory to directory

-- the VERSIONs of the first k directories were read
pub record Versioned (told : Type 0) (k : ℕ) (start now : State) (served : List (Option Served)) : Type 0 where
  pub looked : OnlyLooked told start now
  pub long : length served ≡ k
  pub serves : told → (i : ℕ) (it : Option Served) → i < k → ServesAs (start.reads i) (slice_index_or served i it)

pub versioned_none : {told : Type 0} {a : State} → Versioned told 0 a a []
versioned_none = record { looked = looked_refl; long = refl; serves = λ tells i it lt. absurd (omega (arith, lt)) }

module _ {told : Type 0} {k : ℕ} {a b c : State} {served : List (Option Served)} (so_far : Versioned told k a b served) where
  pub versioned_more : OnlyLooked told b c → (it : Option Served) (more : List (Option Served)) → more ≡ served ++ it ∷ [] → (told → ServesAs (b.reads k) it) → Versioned told (k + 1) a c more
  versioned_more looked it more is serves = record {
    looked = looked_trans so_far.looked looked;
    long = longer (λ i x. i ≡ i) served more it k so_far.long is;
    serves = λ tells. each_more (λ i x. ServesAs (a.reads i) x) served more it k so_far.long is (so_far.serves tells) (subst (λ (r : Reads). ServesAs r it) (so_far.looked.reads tells k) (serves tells));
  }

pub versioned_fault : {told : Type 0} {k : ℕ} {a b : State} {served : List (Option Served)} → Versioned told k a b served → (fault : OpenFault) → k < a.count → (told → NoneBefore (dirs_read a) 2) → (told → IsBadVersionOf (record { 0 = k }) (b.reads k) fault) → told → IsRefusedAnyway (dirs_read a) fault
versioned_fault {told} {k} {a} {b} {served} so_far fault below passed bad tells = refused_version (dirs_read a) (passed tells) (record { 0 = k }) fault below
    (λ j lt faulty. faulty.2 (faultless (a.reads j) (slice_index_or served j None) (so_far.serves tells j None lt) faulty.0 faulty.1))
    (subst (λ (r : Reads). IsBadVersionOf (record { 0 = k }) r fault) (so_far.looked.reads tells k) (bad tells))

-- all were read
pub all_served : {told : Type 0} {n : ℕ} {a b : State} {served : List (Option Served)} → Versioned told n a b served → n ≡ a.count → told → AreServed (dirs_read a) served
all_served all whole tells = record { count = all.long ∙ whole; each = λ k lt. all.serves tells k None (omega (arith, lt, whole)) }
