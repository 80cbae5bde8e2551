-- An image on the way: what is written of it, and what a stop finds.
use Rattle.std.proofs.Common.{◌≡◌, ℕ, List, [], ◌∷◌, ◌++◌, length, min, Some, Result, Ok, refl, sym, ◌∙◌, ap, subst, append_assoc, arith}
use Rattle.std.proofs.lemmas.List.{append-nil}
use Rattle.std.proofs.lemmas.Bool.{ltb-false}
use Rattle.std.specs.Prelude.{true, false, nat_lt}
use Rattle.md5.specs.Md5.{Holds}
use Rattle.md5.specs.declared.Md5.{Md5 as Hasher}
use Rattle.nn_base.specs.declared.sub.Sub.TheVariants.{Current}
use Rattle.nn_base.specs.declared.file_name.FileName.TheVariants.{Ckpt}
use Rattle.nn_host.specs.Disk.{Disk, Reads, MakeFile, Append, Sync, certain, fresh_file, add_pending, with_file, disk_after, reads_after}
use Rattle.nn_host.specs.Moments.{State, IsLawful, disk_at, faults_at}
use Rattle.nn_host.specs.Calls.{Called, Done}
use Rattle.nn_host.specs.Runs.{OnlyAt}
use Rattle.nn_host.proofs.FilesLemmas.{there, again}
use Rattle.nn_host.proofs.WorkLemmas.{work_once, work_more}
use Rattle.nn_small.specs.Failure.{EndsByFailure}
use Rattle.nn_small.proofs.FailureLemmas.{failed_once, failed_then}
use Rattle.nn_small.proofs.WriteLemmas.{made, filled}
use Rattle.nn_remake.specs.Publishing.{BesideFile, WasFilled, WasStaged}
use Rattle.nn_remake.proofs.BesideLemmas.{file_refl, file_call}

-- the file is made
pub work_made : {T E told : Type 0} {i : ℕ} {id : ℕ} {a b : State} {r : Result T E} → Called told i (MakeFile Current (Ckpt id)) a b r → OnlyAt told i a b (BesideFile (Ckpt id) (disk_at a i))
work_made {i = i} {id = id} {a = a} called = work_once called
    (λ tells. file_refl (Ckpt id) (disk_at a i))
    (λ tells part makes. file_call (Ckpt id) (disk_at a i) (MakeFile Current (Ckpt id)) (a.reads i) (disk_at a i) part (λ s n t. t) (λ s t. t) (file_refl (Ckpt id) (disk_at a i)) makes)

-- bytes are put behind it
pub work_added : {T E told : Type 0} {i : ℕ} {id : ℕ} {a b c : State} {bytes : List ℕ} {r : Result T E} → OnlyAt told i a b (BesideFile (Ckpt id) (disk_at a i)) → Called told i (Append Current (Ckpt id) bytes) b c r → OnlyAt told i a c (BesideFile (Ckpt id) (disk_at a i))
work_added {i = i} {id = id} {a = a} {b = b} {bytes = bytes} work called = work_more work called
    (λ tells p part makes. file_call (Ckpt id) (disk_at a i) (Append Current (Ckpt id) bytes) (b.reads i) (disk_at b i) part (λ s n t. t) (λ s t. t) p makes)

-- it is synced
pub work_synced : {T E told : Type 0} {i : ℕ} {id : ℕ} {a b c : State} {r : Result T E} → OnlyAt told i a b (BesideFile (Ckpt id) (disk_at a i)) → Called told i (Sync Current (Ckpt id)) b c r → OnlyAt told i a c (BesideFile (Ckpt id) (disk_at a i))
work_synced {i = i} {id = id} {a = a} {b = b} work called = work_more work called
    (λ tells p part makes. file_call (Ckpt id) (disk_at a i) (Sync Current (Ckpt id)) (b.reads i) (disk_at b i) part (λ s n t. t) (λ s t. t) p makes)

-- nothing is written yet
pub none_filled : {i : ℕ} {id : ℕ} {a b : State} → IsLawful a → (disk_at a i).has Current ≡ true → Done i (MakeFile Current (Ckpt id)) a b → WasFilled id [] i a b
none_filled {i} {id} {a} {b} lawful has done = record {
  disk = done.disk ∙ made (disk_at a i) Current fresh_file add_pending (Ckpt id) has;
  reads = done.reads ∙ made (a.reads i) Current [] (λ old more. old ++ more) (Ckpt id) ((lawful.reads i).subs Current ∙ has);
}

-- one piece more
pub more_filled : {i : ℕ} {id : ℕ} {so_far piece : List ℕ} {a b c : State} → WasFilled id so_far i a b → Done i (Append Current (Ckpt id) piece) b c → WasFilled id (so_far ++ piece) i a c
more_filled {i} {id} {so_far} {piece} {a} {b} {c} filled_so done = record {
  disk = done.disk ∙ ap (λ (d : Disk). disk_after (Append Current (Ckpt id) piece) (b.reads i) d) filled_so.disk
      ∙ filled (disk_at a i) Current fresh_file add_pending (Ckpt id) (record { synced = []; pending = so_far }) piece;
  reads = done.reads ∙ ap (λ (r : Reads). reads_after (Append Current (Ckpt id) piece) r) filled_so.reads
      ∙ filled (a.reads i) Current [] (λ old more. old ++ more) (Ckpt id) so_far piece;
}

-- once it is synced
pub all_staged : {i : ℕ} {id : ℕ} {bytes : List ℕ} {a b c : State} → WasFilled id bytes i a b → Done i (Sync Current (Ckpt id)) b c → WasStaged id bytes i a c
all_staged {i} {id} {bytes} {a} {b} {c} filled_so done = record {
  disk = done.disk ∙ (λ k. with_file (filled_so.disk k) Current (Ckpt id) (certain ((filled_so.reads k).file Current (Ckpt id))))
      ∙ (λ k. with_file (with_file (disk_at a i) Current (Ckpt id) (Some (record { synced = []; pending = bytes }))) Current (Ckpt id) (certain (there (a.reads i) Current (Ckpt id) (Some bytes) k)))
      ∙ again (disk_at a i) Current (Ckpt id) (Some (record { synced = []; pending = bytes })) (certain (Some bytes));
  reads = done.reads ∙ filled_so.reads;
}

-- ---- while the pieces are written

-- Some bytes are in the file, if its folder is there, and in the digest, and the others are still to come.
pub record Filling (told : Type 0) (id : ℕ) (whole : List ℕ) (i : ℕ) (old new : State) (hasher : Hasher) (left : List ℕ) : Type 0 where
  pub so_far : List ℕ
  pub split : whole ≡ so_far ++ left
  pub held : Holds hasher so_far
  pub filled : told → (disk_at old i).has Current ≡ true → WasFilled id so_far i old new
  pub work : OnlyAt told i old new (BesideFile (Ckpt id) (disk_at old i))
  pub still : EndsByFailure told i old new
  pub counted : faults_at new i ≡ faults_at old i

module _ {T E told : Type 0} {id : ℕ} {whole : List ℕ} {i : ℕ} where
  pub filling_begun : {a b : State} {hasher : Hasher} {v : T} → (told → IsLawful a) → Holds hasher [] → Called {E = E} told i (MakeFile Current (Ckpt id)) a b (Ok v) → Filling told id whole i a b hasher whole
  filling_begun lawful held called = record {
    so_far = [];
    split = refl;
    held = held;
    filled = λ tells has. none_filled (lawful tells) has (called.effect tells).ok;
    work = work_made called;
    still = failed_once called;
    counted = called.counted.ok;
  }

  pub filling_more : {a b c : State} {hasher next : Hasher} {left piece rest : List ℕ} {text : List ℕ} {v : T} → Filling told id whole i a b hasher left → left ≡ piece ++ rest → ((m : List ℕ) → Holds hasher m → Holds next (m ++ piece))
      → text ≡ piece → Called {E = E} told i (Append Current (Ckpt id) text) b c (Ok v) → Filling told id whole i a c next rest
  filling_more {a = a} {c = c} {piece = piece} {rest = rest} f split held same called = record {
    so_far = f.so_far ++ piece;
    split = f.split ∙ ap (λ (l : List ℕ). f.so_far ++ l) split ∙ sym (append_assoc f.so_far piece rest);
    held = held f.so_far f.held;
    filled = λ tells has. subst (λ (l : List ℕ). WasFilled id (f.so_far ++ l) i a c) same (more_filled (f.filled tells has) (called.effect tells).ok);
    work = work_added f.work called;
    still = failed_then f.counted f.still (failed_once called);
    counted = called.counted.ok ∙ f.counted;
  }

module _ {told : Type 0} {id : ℕ} {whole : List ℕ} {i : ℕ} {a b : State} {hasher : Hasher} {left : List ℕ} (f : Filling told id whole i a b hasher left) (none : left ≡ []) where
  all_there : f.so_far ≡ whole
  all_there = sym (f.split ∙ ap (λ (l : List ℕ). f.so_far ++ l) none ∙ append-nil f.so_far)

  pub all_held : Holds hasher whole
  all_held = subst (Holds hasher) all_there f.held

  pub all_filled : told → (disk_at a i).has Current ≡ true → WasFilled id whole i a b
  all_filled tells has = subst (λ (bytes : List ℕ). WasFilled id bytes i a b) all_there (f.filled tells has)

-- no piece is left where the last one was empty
pub none_left : (left piece : List ℕ) → length piece ≡ min 65536 (length left) → nat_lt 0 (length piece) ≡ false → left ≡ []
none_left [] piece len more = refl
none_left (x ∷ left) piece len more = absurd (omega (arith, len, ltb-false 0 (length piece) more))
