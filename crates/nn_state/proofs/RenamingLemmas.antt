-- A folder that takes the name of another one, call by call.
use Rattle.std.proofs.Common.{◌≡◌, ◌≢◌, inl, inr, ℕ, List, [], ◌++◌, Bool, true, false, Result, Ok, Err, Option, None, refl, ◌∙◌, ap}
use Rattle.std.specs.Prelude.{if◌then◌else◌, ◌&&◌, not, OnOk}
use Rattle.nn_base.specs.declared.sub.Sub.{Sub}
use Rattle.nn_base.specs.declared.file_name.FileName.{FileName}
use Rattle.nn_base.specs.Names.{sub_eq}
use Rattle.nn_host.specs.Disk.{Held, Disk, Reads, RemoveSub, RenameSub, after, with_sub, disk_after, reads_after, fresh_file, add_pending}
use Rattle.nn_host.specs.Moments.{State, IsLawful, disk_at}
use Rattle.nn_host.specs.Calls.{Called, Done}
use Rattle.nn_host.specs.Runs.{OnlyAt}
use Rattle.nn_host.proofs.FilesLemmas.{sub_same, sub_other}
use Rattle.nn_host.proofs.WorkLemmas.{work_once, work_more}
use Rattle.nn_state.specs.Renaming.{put_under, IsPutting, WasPut}

module _ (x y z w : Bool) where
  thrice : (b c : Bool) → (if b then x else (if c then y else (if b then z else w))) ≡ (if b then x else (if c then y else w))
  thrice true c = refl
  thrice false true = refl
  thrice false false = refl

module _ {A : Type 0} (x y y2 w : Option A) where
  thrice_file : (b c : Bool) → y ≡ y2 → (if b then y else (if c then x else (if b then x else w))) ≡ (if b then y2 else (if c then x else w))
  thrice_file true c same = same
  thrice_file false true same = refl
  thrice_file false false same = refl

module _ {A : Type 0} (fresh : A) (add : A → List ℕ → A) (from to : Sub) (apart : from ≢ to) (d : Held A) (there : d.has from ≡ true) where
  abbrev removed : Held A
  removed = with_sub d to false (λ _. None)

  apart_is : sub_eq from to ≡ false
  apart_is = sub_other from to apart

  free : (removed.has from && not (removed.has to)) ≡ true
  free = rw (apart_is, sub_same to, there)

  moved : with_sub (with_sub removed from false (λ _. None)) to true (removed.file from) ≡ put_under from to d
  moved = λ i. record { root = d.root; has = λ q. thrice true false false (d.has q) (sub_eq q to) (sub_eq q from) i; file = λ q m. thrice_file None (removed.file from m) (d.file from m) (d.file q m) (sub_eq q to) (sub_eq q from) (same m) i }
    where
      same : (m : FileName) → removed.file from m ≡ d.file from m
      same m = rw apart_is

  pub put_after : after fresh add (RenameSub from to) (after fresh add (RemoveSub to) d) ≡ put_under from to d
  put_after = (λ i. if free i then with_sub (with_sub removed from false (λ _. None)) to true (removed.file from) else removed) ∙ moved

pub first_put : {told : Type 0} {i : ℕ} {to : Sub} {a b : State} {T E : Type 0} {result : Result T E} (from : Sub) → Called told i (RemoveSub to) a b result → OnlyAt told i a b (IsPutting from to (disk_at a i))
first_put from called = work_once called (λ tells. inl refl) (λ tells part made. inr (inl made))

module _ {told : Type 0} {i : ℕ} {from to : Sub} {a b : State} where
  module _ {T E : Type 0} {v : T} (apart : from ≢ to) (there : told → (disk_at a i).has from ≡ true) (first : Called {E = E} told i (RemoveSub to) a b (Ok v)) where
    put_disk : told → disk_after (RenameSub from to) (b.reads i) (disk_at b i) ≡ put_under from to (disk_at a i)
    put_disk tells = ap (λ (d : Disk). disk_after (RenameSub from to) (b.reads i) d) (first.effect tells).ok.disk ∙ put_after fresh_file add_pending from to apart (disk_at a i) (there tells)

    pub second_put : {U F : Type 0} {c : State} {result : Result U F} → Called told i (RenameSub from to) b c result → OnlyAt told i a c (IsPutting from to (disk_at a i))
    second_put called = work_more (first_put from first) called (λ tells now part made. inr (inr (made ∙ put_disk tells)))

    pub both_put : {U F : Type 0} {c : State} {result : Result U F} → (told → IsLawful a) → Called told i (RenameSub from to) b c result → told → OnOk result (WasPut from to i a c)
    both_put {U} {F} {c} {result} lawful second tells = last result (second.effect tells).ok
      where
        last : (r : Result U F) → OnOk r (Done i (RenameSub from to) b c) → OnOk r (WasPut from to i a c)
        last (Err e) done = tt
        last (Ok w) done = record {
          disk = done.disk ∙ put_disk tells;
          reads = done.reads ∙ ap (λ (r : Reads). reads_after (RenameSub from to) r) (first.effect tells).ok.reads
              ∙ put_after [] (λ old more. old ++ more) from to apart (a.reads i) (((lawful tells).reads i).subs from ∙ there tells);
        }
