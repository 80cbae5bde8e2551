-- The states of all directories, from directory to directory.
use Rattle.std.proofs.Common.{◌≡◌, ◌≢◌, ◌⊎◌, inl, inr, ℕ, ◌+◌, ◌<◌, List, [], ◌∷◌, ◌++◌, length, Option, Some, None, Result, Ok, Err, refl, sym, ◌∙◌, ap, subst, arith}
use Rattle.std.specs.Prelude.{slice_index_or}
use Rattle.std.proofs.lemmas.Option.{same_Some}
use Rattle.nn_base.specs.declared.sub.Sub.{Sub}
use Rattle.nn_host.specs.Disk.{Reads}
use Rattle.nn_host.specs.Moments.{State}
use Rattle.nn_state.specs.declared.state.StorageState.{StorageState}
use Rattle.nn_state.specs.declared.state.StorageState.TheVariants.{NonExistent, Normal, CompleteUpgrade, RecoverUpgrade, CompleteFinalize, CompleteRollback, RecoverRollback, CompleteCheckpoint, RecoverCheckpoint}
use Rattle.nn_state.specs.declared.state.StorageState.TheVariants as state
use Rattle.nn_state.specs.declared.state.Why.{Why}
use Rattle.nn_state.specs.declared.typed.Found.{Found}
use Rattle.nn_state.specs.Seat.{serving}
use Rattle.nn_state.specs.Table.{seven_of, table_of}
use Rattle.nn_state.specs.Typed.{FitsFound, state_of, dir_of}
use Rattle.nn_pick.specs.declared.fault.OpenFault.{OpenFault}
use Rattle.nn_pick.specs.declared.fault.OpenFault.TheVariants.{Refused, Failed, Memory}
use Rattle.nn_pick.specs.declared.intent.Intent.{Intent}
use Rattle.nn_pick.specs.declared.refusal.Refusal.{Refusal}
use Rattle.nn_pick.specs.declared.refusal.Refusal.TheVariants.{Missing, Inconsistent, Formatted, NotFormatted}
use Rattle.nn_state.specs.Bays.{AreFound}
use Rattle.nn_pick.specs.Dirs.{Dirs}
use Rattle.nn_pick.specs.Refused.{unusable, first_refused}
use Rattle.nn_pick.specs.Refusing.{Applies, Refuses, test_of}
use Rattle.nn_choose.specs.Looking.{OnlyLooked, dirs_read}
use Rattle.nn_choose.specs.Picking.{AreStates, AreServing, NoneBefore, IsRefusedAnyway}
use Rattle.nn_choose.proofs.LookingLemmas.{looked_refl, looked_trans}
use Rattle.nn_choose.proofs.ListLemmas.{each_more, longer}
use Rattle.nn_choose.proofs.ServedLemmas.{refused_here, refused_more}

-- ---- one directory

usable : (i : ℕ) (found : StorageState) → found ≢ NonExistent → unusable i (Ok found) ≡ None
usable i NonExistent there = absurd (there refl)
usable i state.NotFormatted there = refl
usable i Normal there = refl
usable i CompleteUpgrade there = refl
usable i RecoverUpgrade there = refl
usable i CompleteFinalize there = refl
usable i CompleteRollback there = refl
usable i RecoverRollback there = refl
usable i CompleteCheckpoint there = refl
usable i RecoverCheckpoint there = refl

-- it is missing, or inconsistent
which : (i : ℕ) (found : Result StorageState Why) (refusal : Refusal) → unusable i found ≡ Some refusal → (Missing (record { 0 = i }) ≡ refusal) ⊎ ((why : Why) × (Inconsistent (record { 0 = i }) why ≡ refusal))
which i (Ok NonExistent) refusal e = inl (same_Some _ _ e)
which i (Ok state.NotFormatted) refusal e = cc
which i (Ok Normal) refusal e = cc
which i (Ok CompleteUpgrade) refusal e = cc
which i (Ok RecoverUpgrade) refusal e = cc
which i (Ok CompleteFinalize) refusal e = cc
which i (Ok CompleteRollback) refusal e = cc
which i (Ok RecoverRollback) refusal e = cc
which i (Ok CompleteCheckpoint) refusal e = cc
which i (Ok RecoverCheckpoint) refusal e = cc
which i (Err why) refusal e = inr (why, same_Some _ _ e)

-- ---- the refusal

abbrev pub usable_in : Dirs → ℕ → Option Refusal
usable_in dirs j = unusable j (table_of (seven_of (dirs.at j)))

-- no test is before that on states
none_at_all : (dirs : Dirs) (intent : Intent) (earlier : Refusal) → test_of earlier < 1 → ¬ Applies dirs intent earlier
none_at_all dirs intent NotFormatted lt applies = omega (arith, lt)
none_at_all dirs intent earlier lt applies = omega (arith, lt)

pub refuses_state : (dirs : Dirs) (i : ℕ) (refusal : Refusal) → i < dirs.count → first_refused (usable_in dirs) i ≡ None → usable_in dirs i ≡ Some refusal → (intent : Intent) → Refuses dirs intent refusal
refuses_state dirs i refusal below none here intent = elim (which i (table_of (seven_of (dirs.at i))) refusal here) [
  | inl missing ↦ subst (Refuses dirs intent) missing (record { applies = first ∙ ap (λ (r : Refusal). Some r) (sym missing); first = none_at_all dirs intent })
  | inr other ↦ subst (Refuses dirs intent) other.1 (record { applies = first ∙ ap (λ (r : Refusal). Some r) (sym other.1); first = none_at_all dirs intent })
]
  where
    first : first_refused (usable_in dirs) dirs.count ≡ Some refusal
    first = refused_here (usable_in dirs) i dirs.count refusal below none here

-- where none is unusable no test on states applies
pub passed_states : (dirs : Dirs) → first_refused (usable_in dirs) dirs.count ≡ None → NoneBefore dirs 2
passed_states dirs none intent (Missing i) lt applies = let e = sym none ∙ applies in cc
passed_states dirs none intent (Inconsistent i why) lt applies = let e = sym none ∙ applies in cc
passed_states dirs none intent (Formatted i) lt applies = applies
passed_states dirs none intent earlier lt applies = omega (arith, lt)

pub refused_state : (dirs : Dirs) (i : ℕ) (fault : OpenFault) → i < dirs.count → first_refused (usable_in dirs) i ≡ None → ((refusal : Refusal) → fault ≡ Refused refusal → usable_in dirs i ≡ Some refusal) → IsRefusedAnyway dirs fault
refused_state dirs i (Refused refusal) below none here intent = refuses_state dirs i refusal below none (here refusal refl) intent
refused_state dirs i (Failed j) below none here intent = tt
refused_state dirs i Memory below none here intent = tt

-- ---- from directory to directory

-- the first k directories were looked at
pub record Surveyed (told : Type 0) (k : ℕ) (start now : State) (found : List Found) (subs : List (Option Sub)) : Type 0 where
  pub looked : OnlyLooked told start now
  pub long : length found ≡ k
  pub subs_long : length subs ≡ k
  pub placed : (i : ℕ) (it : Found) → i < k → (dir_of (slice_index_or found i it)).0 ≡ i
  pub there : (i : ℕ) (it : Found) → i < k → state_of (slice_index_or found i it) ≢ NonExistent
  pub fits : told → (i : ℕ) (it : Found) → i < k → FitsFound (slice_index_or found i it) (start.reads i)
  pub serves : told → (i : ℕ) (sub : Option Sub) → i < k → slice_index_or subs i sub ≡ serving (start.reads i)
  pub usable : told → first_refused (usable_in (dirs_read start)) k ≡ None

pub surveyed_none : {told : Type 0} {a : State} → Surveyed told 0 a a [] []
surveyed_none = record {
  looked = looked_refl;
  long = refl;
  subs_long = refl;
  placed = λ i it lt. absurd (omega (arith, lt));
  there = λ i it lt. absurd (omega (arith, lt));
  fits = λ tells i it lt. absurd (omega (arith, lt));
  serves = λ tells i sub lt. absurd (omega (arith, lt));
  usable = λ tells. refl;
}

-- the fault of the next one
pub surveyed_fault : {told : Type 0} {k : ℕ} {a b : State} {found : List Found} {subs : List (Option Sub)} → Surveyed told k a b found subs → (fault : OpenFault) → k < a.count → ((refusal : Refusal) → told → fault ≡ Refused refusal → unusable k (table_of (seven_of (b.reads k))) ≡ Some refusal) → told → IsRefusedAnyway (dirs_read a) fault
surveyed_fault {told} {k} {a} {b} so_far fault below here tells = refused_state (dirs_read a) k fault below (so_far.usable tells)
    (λ refusal is. ap (λ (r : Reads). unusable k (table_of (seven_of r))) (sym (so_far.looked.reads tells k)) ∙ here refusal tells is)

module _ {told : Type 0} {k : ℕ} {a b c : State} {found : List Found} {subs : List (Option Sub)} (so_far : Surveyed told k a b found subs) where
  pub surveyed_more : OnlyLooked told b c → (it : Found) (sub : Option Sub) (more : List Found) (more_subs : List (Option Sub)) → more ≡ found ++ it ∷ [] → more_subs ≡ subs ++ sub ∷ []
      → (dir_of it).0 ≡ k → state_of it ≢ NonExistent → (told → table_of (seven_of (b.reads k)) ≡ Ok (state_of it)) → (told → sub ≡ serving (b.reads k)) → Surveyed told (k + 1) a c more more_subs
  surveyed_more looked it sub more more_subs is subs_is placed there found_is serves = record {
    looked = looked_trans so_far.looked looked;
    long = longer (λ i x. i ≡ i) found more it k so_far.long is;
    subs_long = longer (λ i x. i ≡ i) subs more_subs sub k so_far.subs_long subs_is;
    placed = each_more (λ i x. (dir_of x).0 ≡ i) found more it k so_far.long is so_far.placed placed;
    there = each_more (λ i x. state_of x ≢ NonExistent) found more it k so_far.long is so_far.there there;
    fits = λ tells. each_more (λ i x. FitsFound x (a.reads i)) found more it k so_far.long is (so_far.fits tells) (fits tells);
    serves = λ tells. each_more (λ i x. x ≡ serving (a.reads i)) subs more_subs sub k so_far.subs_long subs_is (so_far.serves tells) (serves tells ∙ ap (λ (r : Reads). serving r) (so_far.looked.reads tells k));
    usable = λ tells. refused_more (usable_in (dirs_read a)) k None (so_far.usable tells) (sym (ap (λ (r : Result StorageState Why). unusable k r) (fits tells) ∙ usable k (state_of it) there));
  }
    where
      fits : told → FitsFound it (a.reads k)
      fits tells = ap (λ (r : Reads). table_of (seven_of r)) (sym (so_far.looked.reads tells k)) ∙ found_is tells

-- all were looked at
module _ {told : Type 0} {n : ℕ} {a b : State} {found : List Found} {subs : List (Option Sub)} (all : Surveyed told n a b found subs) (whole : n ≡ a.count) where
  pub all_found : AreFound a.count found
  all_found = record {
    all = all.long ∙ whole;
    placed = λ k it at. subst (λ (x : Found). (dir_of x).0 ≡ k) (sym at.is) (all.placed k it (omega (arith, at.within, all.long)));
    there = λ k it at. subst (λ (x : Found). state_of x ≢ NonExistent) (sym at.is) (all.there k it (omega (arith, at.within, all.long)));
  }

  pub all_states : told → AreStates (dirs_read a) found
  all_states tells = record { each = λ k it at. subst (λ (x : Found). FitsFound x (a.reads k)) (sym at.is) (all.fits tells k it (omega (arith, at.within, all.long))) }

  pub all_serving : told → AreServing (dirs_read a) subs
  all_serving tells = record { each = λ k lt. all.serves tells k None (omega (arith, lt, whole)) }

  pub all_usable : told → NoneBefore (dirs_read a) 2
  all_usable tells = passed_states (dirs_read a) (subst (λ (k : ℕ). first_refused (usable_in (dirs_read a)) k ≡ None) whole (all.usable tells))
