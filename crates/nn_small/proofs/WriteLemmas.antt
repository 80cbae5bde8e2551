-- The four steps of writing a small file.
use Rattle.std.proofs.Common.{◌≡◌, ◌≢◌, ◌⊎◌, inl, inr, ⊎_elim, ℕ, List, [], ◌++◌, Option, Some, None, Result, Ok, Err, OnOk, refl, sym, ◌∙◌, ap, subst}
use Rattle.std.specs.Prelude.{Bool, true, false, if◌then◌else◌, is_some}
use Rattle.nn_base.specs.declared.sub.Sub.{Sub}
use Rattle.nn_base.specs.declared.file_name.FileName.{FileName}
use Rattle.nn_host.specs.Disk.{Held, Disk, Reads, File, Call, MakeFile, Append, Sync, RenameFile, with_file, after, reads_after, disk_after, added, add_pending, certain, fresh_file}
use Rattle.nn_host.specs.Moments.{State, IsLawful, disk_at}
use Rattle.nn_host.specs.Calls.{Called, Done}
use Rattle.nn_host.specs.Runs.{OnlyAt}
use Rattle.nn_host.proofs.FilesLemmas.{there, again}
use Rattle.nn_host.proofs.LawfulLemmas.{unread}
use Rattle.nn_host.proofs.MakesLemmas.{Makes}
use Rattle.nn_host.proofs.TouchLemmas.{Touches, Moves, untouched, unmoved, rooted}
use Rattle.nn_host.proofs.WorkLemmas.{work_once, work_more, work_weaker}
use Rattle.nn_small.specs.Small.{OldOrNew, Written, replaced}
use Rattle.nn_small.proofs.SmallLemmas.{replaced_tmp}

-- what each step leaves

module _ {A : Type 0} (d : Held A) (s : Sub) where
  pub made : (fresh : A) (add : A → List ℕ → A) (n : FileName) → d.has s ≡ true → after fresh add (MakeFile s n) d ≡ with_file d s n (Some fresh)
  made fresh add n has = λ i. if has i then with_file d s n (Some fresh) else d

  pub filled : (fresh : A) (add : A → List ℕ → A) (n : FileName) (a : A) (bytes : List ℕ) → after fresh add (Append s n bytes) (with_file d s n (Some a)) ≡ with_file d s n (Some (add a bytes))
  filled fresh add n a bytes = (λ i. with_file (with_file d s n (Some a)) s n (added add bytes (there d s n (Some a) i))) ∙ again d s n (Some a) (Some (add a bytes))

  pub named : (fresh : A) (add : A → List ℕ → A) (tmp name : FileName) (a : A) → after fresh add (RenameFile s tmp name) (with_file d s tmp (Some a)) ≡ replaced d s tmp name (Some a)
  named fresh add tmp name a = λ i. if is_some (there d s tmp (Some a) i) then with_file (again d s tmp (Some a) None i) s name (there d s tmp (Some a) i) else with_file d s tmp (Some a)

-- at each moment the file is the old one or the new one

-- nothing but the .tmp was touched
record Staged (sub : Sub) (tmp : FileName) (old d : Disk) : Type 0 where
  root : d.root ≡ old.root
  subs : (s : Sub) → d.has s ≡ old.has s
  files : (s : Sub) (n : FileName) → ((s ≡ sub) × (n ≡ tmp) → ⊥) → d.file s n ≡ old.file s n

module _ (sub : Sub) (tmp : FileName) (old : Disk) where
  staged_refl : Staged sub tmp old old
  staged_refl = record { root = refl; subs = λ s. refl; files = λ s n other. refl }

  -- a call that touches no name but the .tmp
  staged : (call : Call) (r : Reads) (d part : Disk) → ((s : Sub) (n : FileName) → Touches call s n → (s ≡ sub) × (n ≡ tmp)) → ((s : Sub) → Moves call s → ⊥) → Staged sub tmp old d → Makes call r d part → Staged sub tmp old part
  staged call r d part only still p makes = record {
    root = rooted call r d part makes ∙ p.root;
    subs = λ s. unmoved call r d part s makes (still s) ∙ p.subs s;
    files = λ s n other. untouched call r d part s n makes (λ t. other (only s n t)) ∙ p.files s n other;
  }

module _ (sub : Sub) (tmp name : FileName) (apart : tmp ≢ name) (bytes : List ℕ) (old : Disk) where
  still_old : (d : Disk) → Staged sub tmp old d → OldOrNew sub tmp name bytes old d
  still_old d p = record {
    root = p.root;
    subs = p.subs;
    other_subs = λ s n ne. p.files s n (λ it. ne it.0);
    other_files = λ n a b. p.files sub n (λ it. a it.1);
    file = inl (p.files sub name (λ it. apart (sym it.1)));
  }

  -- the rename, where the .tmp has the bytes, synced, or isn't there
  renamed : (r : Reads) (d part : Disk) → Staged sub tmp old d → (d.file sub tmp ≡ certain (Some bytes)) ⊎ (d.file sub tmp ≡ None) → Makes (RenameFile sub tmp name) r d part → OldOrNew sub tmp name bytes old part
  renamed r d part p ready makes = record {
    root = rooted (RenameFile sub tmp name) r d part makes ∙ p.root;
    subs = λ s. unmoved (RenameFile sub tmp name) r d part s makes (λ t. t) ∙ p.subs s;
    other_subs = λ s n ne. untouched (RenameFile sub tmp name) r d part s n makes (λ t. ne t.0) ∙ p.files s n (λ it. ne it.0);
    other_files = λ n a b. untouched (RenameFile sub tmp name) r d part sub n makes (λ t. ⊎_elim a b t.1) ∙ p.files sub n (λ it. a it.1);
    file = subst Stands (sym makes) (stands (d.file sub tmp) ready);
  }
    where
      Stands : Disk → Type 0
      Stands x = (x.file sub name ≡ old.file sub name) ⊎ ((x.file sub name ≡ certain (Some bytes)) × (x.file sub tmp ≡ None))

      stands : (v : Option File) → (v ≡ certain (Some bytes)) ⊎ (v ≡ None) → Stands (if is_some v then with_file (with_file d sub tmp None) sub name v else d)
      stands None is = inl (p.files sub name (λ it. apart (sym it.1)))
      stands (Some f) is = inr (there (with_file d sub tmp None) sub name (Some f) ∙ ⊎_elim (λ e. e) (λ e. cc) is, replaced_tmp d sub tmp name (Some f) apart)

-- what reads and stands under the .tmp name before the rename

module _ (sub : Sub) (tmp : FileName) (bytes : List ℕ) where
  reads_filled : (r : Reads) → r.has sub ≡ true → reads_after (Append sub tmp bytes) (reads_after (MakeFile sub tmp) r) ≡ with_file r sub tmp (Some bytes)
  reads_filled r has = ap (reads_after (Append sub tmp bytes)) (made r sub [] (λ old more. old ++ more) tmp has) ∙ filled r sub [] (λ old more. old ++ more) tmp [] bytes

  reads_none : (r : Reads) → r.has sub ≡ false → r.file sub tmp ≡ None → (reads_after (Append sub tmp bytes) (reads_after (MakeFile sub tmp) r)).file sub tmp ≡ None
  reads_none r has none = ap (λ (x : Reads). (reads_after (Append sub tmp bytes) x).file sub tmp) (λ i. if has i then with_file r sub tmp (Some []) else r)
      ∙ there r sub tmp _ ∙ ap (λ (f : Option (List ℕ)). added (λ (old more : List ℕ). old ++ more) bytes f) none

  tmp_reads : (r : Reads) → (r.has sub ≡ false → r.file sub tmp ≡ None)
      → ((reads_after (Append sub tmp bytes) (reads_after (MakeFile sub tmp) r)).file sub tmp ≡ Some bytes) ⊎ ((reads_after (Append sub tmp bytes) (reads_after (MakeFile sub tmp) r)).file sub tmp ≡ None)
  tmp_reads r gone = sorted (r.has sub) refl
    where
      sorted : (b : Bool) → r.has sub ≡ b → ((reads_after (Append sub tmp bytes) (reads_after (MakeFile sub tmp) r)).file sub tmp ≡ Some bytes) ⊎ ((reads_after (Append sub tmp bytes) (reads_after (MakeFile sub tmp) r)).file sub tmp ≡ None)
      sorted true is = inl (ap (λ (x : Reads). x.file sub tmp) (reads_filled r is) ∙ there r sub tmp (Some bytes))
      sorted false is = inr (reads_none r is (gone is))

-- the four calls

module _ {told : Type 0} {i : ℕ} {sub : Sub} {tmp : FileName} {s0 : State} where
  first_staged : {T E : Type 0} {s1 : State} {r : Result T E} → Called told i (MakeFile sub tmp) s0 s1 r → OnlyAt told i s0 s1 (Staged sub tmp (disk_at s0 i))
  first_staged a = work_once a
      (λ tells. staged_refl sub tmp (disk_at s0 i))
      (λ tells part makes. staged sub tmp (disk_at s0 i) (MakeFile sub tmp) (s0.reads i) (disk_at s0 i) part (λ s n t. t) (λ s t. t) (staged_refl sub tmp (disk_at s0 i)) makes)

  second_staged : {T E : Type 0} {bytes : List ℕ} {s1 s2 : State} {r q : Result T E} → Called told i (MakeFile sub tmp) s0 s1 r → Called told i (Append sub tmp bytes) s1 s2 q → OnlyAt told i s0 s2 (Staged sub tmp (disk_at s0 i))
  second_staged {bytes = bytes} {s1 = s1} a b = work_more (first_staged a) b (λ tells p part makes. staged sub tmp (disk_at s0 i) (Append sub tmp bytes) (s1.reads i) (disk_at s1 i) part (λ s n t. t) (λ s t. t) p makes)

  third_staged : {T E : Type 0} {bytes : List ℕ} {s1 s2 s3 : State} {r q p : Result T E} → Called told i (MakeFile sub tmp) s0 s1 r → Called told i (Append sub tmp bytes) s1 s2 q → Called told i (Sync sub tmp) s2 s3 p → OnlyAt told i s0 s3 (Staged sub tmp (disk_at s0 i))
  third_staged {s2 = s2} a b c = work_more (second_staged a b) c (λ tells p part makes. staged sub tmp (disk_at s0 i) (Sync sub tmp) (s2.reads i) (disk_at s2 i) part (λ s n t. t) (λ s t. t) p makes)

module _ {told : Type 0} {i : ℕ} {sub : Sub} {tmp name : FileName} {bytes : List ℕ} {s0 : State} (apart : tmp ≢ name) where
  unnamed : {s : State} → OnlyAt told i s0 s (Staged sub tmp (disk_at s0 i)) → OnlyAt told i s0 s (OldOrNew sub tmp name bytes (disk_at s0 i))
  unnamed work = work_weaker work (λ tells d p. still_old sub tmp name apart bytes (disk_at s0 i) d p)

  pub first : {T E : Type 0} {s1 : State} {r : Result T E} → Called told i (MakeFile sub tmp) s0 s1 r → OnlyAt told i s0 s1 (OldOrNew sub tmp name bytes (disk_at s0 i))
  first a = unnamed (first_staged a)

  pub second : {T E : Type 0} {s1 s2 : State} {r q : Result T E} → Called told i (MakeFile sub tmp) s0 s1 r → Called told i (Append sub tmp bytes) s1 s2 q → OnlyAt told i s0 s2 (OldOrNew sub tmp name bytes (disk_at s0 i))
  second a b = unnamed (second_staged a b)

  pub third : {T E : Type 0} {s1 s2 s3 : State} {r q p : Result T E} → Called told i (MakeFile sub tmp) s0 s1 r → Called told i (Append sub tmp bytes) s1 s2 q → Called told i (Sync sub tmp) s2 s3 p → OnlyAt told i s0 s3 (OldOrNew sub tmp name bytes (disk_at s0 i))
  third a b c = unnamed (third_staged a b c)

-- once three calls returned, the .tmp has the bytes, synced, or there is no such subfolder
ready : {i : ℕ} {sub : Sub} {tmp : FileName} {bytes : List ℕ} {s0 s1 s2 s3 : State} → IsLawful s0 → Done i (MakeFile sub tmp) s0 s1 → Done i (Append sub tmp bytes) s1 s2 → Done i (Sync sub tmp) s2 s3
    → ((disk_at s3 i).file sub tmp ≡ certain (Some bytes)) ⊎ ((disk_at s3 i).file sub tmp ≡ None)
ready {i} {sub} {tmp} {bytes} {s0} {s1} {s2} {s3} lawful a b c = ⊎_elim
    (λ e. inl (synced ∙ ap certain (read ∙ e)))
    (λ e. inr (synced ∙ ap certain (read ∙ e)))
    (tmp_reads sub tmp bytes (s0.reads i) (λ out. unread (disk_at s0 i) (s0.reads i) sub tmp (lawful.reads i) (lawful.disks i) (sym ((lawful.reads i).subs sub) ∙ out)))
  where
    read : (s2.reads i).file sub tmp ≡ (reads_after (Append sub tmp bytes) (reads_after (MakeFile sub tmp) (s0.reads i))).file sub tmp
    read = ap (λ (x : Reads). x.file sub tmp) (b.reads ∙ ap (λ (x : Reads). reads_after (Append sub tmp bytes) x) a.reads)

    synced : (disk_at s3 i).file sub tmp ≡ certain ((s2.reads i).file sub tmp)
    synced = ap (λ (d : Disk). d.file sub tmp) c.disk ∙ there (disk_at s2 i) sub tmp (certain ((s2.reads i).file sub tmp))

pub fourth : {T E told : Type 0} {i : ℕ} {sub : Sub} {tmp name : FileName} {bytes : List ℕ} {s0 s1 s2 s3 s4 : State} {v1 v2 v3 : T} {r : Result T E} → tmp ≢ name → (told → IsLawful s0)
    → Called {E = E} told i (MakeFile sub tmp) s0 s1 (Ok v1) → Called {E = E} told i (Append sub tmp bytes) s1 s2 (Ok v2) → Called {E = E} told i (Sync sub tmp) s2 s3 (Ok v3) → Called told i (RenameFile sub tmp name) s3 s4 r
    → OnlyAt told i s0 s4 (OldOrNew sub tmp name bytes (disk_at s0 i))
fourth {i = i} {sub = sub} {tmp = tmp} {name = name} {bytes = bytes} {s0 = s0} {s3 = s3} apart lawful a b c d = work_more (third apart a b c) d
    (λ tells p part makes. renamed sub tmp name apart bytes (disk_at s0 i) (s3.reads i) (disk_at s3 i) part ((third_staged a b c).ends tells) (ready (lawful tells) (a.effect tells).ok (b.effect tells).ok (c.effect tells).ok) makes)

-- all four calls returned in a subfolder that is there
all_done : {i : ℕ} {sub : Sub} {tmp name : FileName} {bytes : List ℕ} {s0 s1 s2 s3 s4 : State} → (s0.reads i).has sub ≡ true → (disk_at s0 i).has sub ≡ true
    → Done i (MakeFile sub tmp) s0 s1 → Done i (Append sub tmp bytes) s1 s2 → Done i (Sync sub tmp) s2 s3 → Done i (RenameFile sub tmp name) s3 s4 → Written i sub tmp name bytes s0 s4
all_done {i} {sub} {tmp} {name} {bytes} {s0} {s1} {s2} {s3} {s4} read_there there_is a b c d = record {
  disk = d.disk ∙ ap (λ (x : Disk). disk_after (RenameFile sub tmp name) (s3.reads i) x) disk3 ∙ named (disk_at s0 i) sub fresh_file add_pending tmp name (record { synced = bytes; pending = [] });
  reads = d.reads ∙ ap (λ (x : Reads). reads_after (RenameFile sub tmp name) x) (c.reads ∙ reads2) ∙ named (s0.reads i) sub [] (λ old more. old ++ more) tmp name bytes;
}
  where
    reads2 : s2.reads i ≡ with_file (s0.reads i) sub tmp (Some bytes)
    reads2 = b.reads ∙ ap (λ (x : Reads). reads_after (Append sub tmp bytes) x) a.reads ∙ reads_filled sub tmp bytes (s0.reads i) read_there

    disk2 : disk_at s2 i ≡ with_file (disk_at s0 i) sub tmp (Some (add_pending fresh_file bytes))
    disk2 = b.disk ∙ ap (λ (x : Disk). disk_after (Append sub tmp bytes) (s1.reads i) x) (a.disk ∙ made (disk_at s0 i) sub fresh_file add_pending tmp there_is) ∙ filled (disk_at s0 i) sub fresh_file add_pending tmp fresh_file bytes

    disk3 : disk_at s3 i ≡ with_file (disk_at s0 i) sub tmp (certain (Some bytes))
    disk3 = c.disk ∙ (λ k. with_file (disk2 k) sub tmp (certain ((reads2 k).file sub tmp))) ∙ (λ k. with_file (with_file (disk_at s0 i) sub tmp (Some (add_pending fresh_file bytes))) sub tmp (certain (there (s0.reads i) sub tmp (Some bytes) k)))
        ∙ again (disk_at s0 i) sub tmp (Some (add_pending fresh_file bytes)) (certain (Some bytes))

pub written : {T E told : Type 0} {i : ℕ} {sub : Sub} {tmp name : FileName} {bytes : List ℕ} {s0 s1 s2 s3 s4 : State} {v1 v2 v3 : T} {r : Result T E} → told → IsLawful s0 → (disk_at s0 i).has sub ≡ true
    → Called {E = E} told i (MakeFile sub tmp) s0 s1 (Ok v1) → Called {E = E} told i (Append sub tmp bytes) s1 s2 (Ok v2) → Called {E = E} told i (Sync sub tmp) s2 s3 (Ok v3) → Called told i (RenameFile sub tmp name) s3 s4 r
    → OnOk r (Written i sub tmp name bytes s0 s4)
written {T} {E} {i = i} {sub = sub} {tmp = tmp} {name = name} {bytes = bytes} {s0 = s0} {s3 = s3} {s4 = s4} {r = r} tells lawful has a b c d = last r (d.effect tells).ok
  where
    last : (q : Result T E) → OnOk q (Done i (RenameFile sub tmp name) s3 s4) → OnOk q (Written i sub tmp name bytes s0 s4)
    last (Ok v) done = all_done ((lawful.reads i).subs sub ∙ has) has (a.effect tells).ok (b.effect tells).ok (c.effect tells).ok done
    last (Err e) done = tt
