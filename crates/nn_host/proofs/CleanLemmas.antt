-- While no call fails, a directory reads as its disk says: each file's synced bytes, and behind them those handed over since.
use Rattle.std.proofs.Common.{◌≡◌, ℕ, ◌≤◌, List, [], ◌∷◌, ◌++◌, length, Option, Some, None, refl, sym, ◌∙◌, ap, subst, arith, append_assoc}
use Rattle.std.proofs.lemmas.List.{append-nil}
use Rattle.std.specs.Prelude.{Bool, true, false, not, if◌then◌else◌, ◌&&◌, is_some}
use Rattle.nn_base.specs.declared.sub.Sub.{Sub}
use Rattle.nn_base.specs.declared.file_name.FileName.{FileName}
use Rattle.nn_base.specs.Names.{sub_eq, file_eq}
use Rattle.nn_host.specs.Disk.{Disk, Reads, File, Call, Look, MakeSub, MakeFile, Append, Sync, RenameFile, RenameSub, RemoveFile, RemoveSub, Settle, Leaves, LeavesFile, with_file, with_sub, disk_after, reads_after, added, certain, add_pending, fresh_file}
use Rattle.nn_host.proofs.FilesLemmas.{same_file}

-- a file as it reads where no call has failed since it was last made, synced or settled
abbrev pub whole : Option File → Option (List ℕ)
whole None = None
whole (Some f) = Some (f.synced ++ f.pending)

-- how a disk reads on which no call has failed
abbrev pub reading : Disk → Reads
reading d = record { root = d.root; has = d.has; file = λ s n. whole (d.file s n) }

whole_if : (c : Bool) (v x : Option File) → whole (if c then v else x) ≡ (if c then whole v else whole x)
whole_if true v x = refl
whole_if false v x = refl

reading_if : (c : Bool) (d e : Disk) → reading (if c then d else e) ≡ (if c then reading d else reading e)
reading_if true d e = refl
reading_if false d e = refl

reading_file : (d : Disk) (s : Sub) (n : FileName) (v : Option File) → reading (with_file d s n v) ≡ with_file (reading d) s n (whole v)
reading_file d s n v = λ i. record { root = d.root; has = d.has; file = λ q m. whole_if (sub_eq q s && file_eq m n) v (d.file q m) i }

reading_sub : (d : Disk) (s : Sub) (b : Bool) (f : FileName → Option File) → reading (with_sub d s b f) ≡ with_sub (reading d) s b (λ m. whole (f m))
reading_sub d s b f = λ i. record { root = d.root; has = λ q. if sub_eq q s then b else d.has q; file = λ q m. whole_if (sub_eq q s) (f m) (d.file q m) i }

whole_added : (bytes : List ℕ) (f : Option File) → whole (added add_pending bytes f) ≡ added (λ (x y : List ℕ). x ++ y) bytes (whole f)
whole_added bytes None = refl
whole_added bytes (Some f) = ap (λ (l : List ℕ). Some l) (sym (append_assoc f.synced f.pending bytes))

whole_certain : (w : Option (List ℕ)) → whole (certain w) ≡ w
whole_certain None = refl
whole_certain (Some bytes) = ap (λ (l : List ℕ). Some l) (append-nil bytes)

some_whole : (f : Option File) → is_some (whole f) ≡ is_some f
some_whole None = refl
some_whole (Some f) = refl

-- a call that returns keeps this
pub clean_after : (call : Call) (d : Disk) → reads_after call (reading d) ≡ reading (disk_after call (reading d) d)
clean_after Look d = refl
clean_after (MakeSub s) d = (λ i. if d.root && not (d.has s) then sym (reading_sub d s true (λ _. None)) i else reading d) ∙ sym (reading_if (d.root && not (d.has s)) _ _)
clean_after (MakeFile s n) d = (λ i. if d.has s then sym (reading_file d s n (Some fresh_file)) i else reading d) ∙ sym (reading_if (d.has s) _ _)
clean_after (Append s n bytes) d = (λ i. with_file (reading d) s n (sym (whole_added bytes (d.file s n)) i)) ∙ sym (reading_file d s n _)
clean_after (Sync s n) d = sym (same_file (reading d) s n (whole (d.file s n)) refl) ∙ (λ i. with_file (reading d) s n (sym (whole_certain (whole (d.file s n))) i)) ∙ sym (reading_file d s n _)
clean_after (RenameFile s a b) d =
    (λ i. if some_whole (d.file s a) i then with_file (with_file (reading d) s a None) s b (whole (d.file s a)) else reading d)
    ∙ (λ i. if is_some (d.file s a) then with_file (sym (reading_file d s a None) i) s b (whole (d.file s a)) else reading d)
    ∙ (λ i. if is_some (d.file s a) then sym (reading_file (with_file d s a None) s b (d.file s a)) i else reading d)
    ∙ sym (reading_if (is_some (d.file s a)) _ _)
clean_after (RenameSub a b) d =
    (λ i. if d.has a && not (d.has b) then with_sub (sym (reading_sub d a false (λ _. None)) i) b true (λ m. whole (d.file a m)) else reading d)
    ∙ (λ i. if d.has a && not (d.has b) then sym (reading_sub (with_sub d a false (λ _. None)) b true (d.file a)) i else reading d)
    ∙ sym (reading_if (d.has a && not (d.has b)) _ _)
clean_after (RemoveFile s n) d = sym (reading_file d s n None)
clean_after (RemoveSub s) d = sym (reading_sub d s false (λ _. None))
clean_after Settle d = λ i. record { root = d.root; has = d.has; file = λ s n. sym (whole_certain (whole (d.file s n))) i }

-- a stop leaves a file whose bytes are all synced as it is
pub sure_left : (d : Disk) (c : Reads) (s : Sub) (n : FileName) (bytes : List ℕ) → Leaves d c → d.file s n ≡ Some (record { synced = bytes; pending = [] }) → c.file s n ≡ Some bytes
sure_left d c s n bytes leaves is = go (c.file s n) (subst (λ (f : Option File). LeavesFile f (c.file s n)) is (leaves.files s n))
  where
    none_more : (l : List ℕ) → length l ≤ 0 → l ≡ []
    none_more [] h = refl
    none_more (x ∷ l) h = absurd (omega arith)

    go : (w : Option (List ℕ)) → LeavesFile (Some (record { synced = bytes; pending = [] })) w → w ≡ Some bytes
    go None l = absurd l
    go (Some b) l = ap (λ (x : List ℕ). Some x) (l.split ∙ ap (λ (t : List ℕ). bytes ++ t) (none_more l.tail l.short) ∙ append-nil bytes)
