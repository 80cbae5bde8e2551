-- What each call makes of a kept directory is what it makes of its disk and of how it reads.
use Rattle.std.proofs.Common.{◌≡◌, inl, inr, ℕ, List, [], ◌++◌, length, take, Option, Some, None, is_some, refl, sym, ◌∙◌, ap, subst}
use Rattle.std.specs.Prelude.{Bool, true, false, not, ◌&&◌, ◌/◌, if◌then◌else◌, option_map}
use Rattle.std.proofs.Math.Seq.{take-length}
use Rattle.std.proofs.lemmas.List.{append-nil}
use Rattle.nn_base.specs.declared.sub.Sub.{Sub}
use Rattle.nn_base.specs.declared.file_name.FileName.{FileName}
use Rattle.nn_base.specs.Names.{sub_eq, file_eq}
use Rattle.nn_base.proofs.NamesLemmas.{sub_tells, file_tells}
use Rattle.nn_host.specs.Disk.{Held, Disk, Reads, Call, Look, MakeSub, MakeFile, Append, Sync, RenameFile, RenameSub, RemoveFile, RemoveSub, Settle, after, added, with_file, with_sub, fresh_file, add_pending, carried_out, disk_after, reads_after, certain, Broken, PartOf, IsSound}
use Rattle.nn_host.proofs.MakesLemmas.{removed_part}
use Rattle.nn_memhost.specs.declared.past.Part.{Part}
use Rattle.nn_memhost.specs.declared.past.Part.TheVariants.{Nothing, Half, All}
use Rattle.nn_memhost.specs.Content.{Content, fresh_content, synced_content, grown, file_of}
use Rattle.nn_memhost.specs.Held.{map_held, disk_of, reads_of, add_content, kept_after, kept_part, kept_left, written}
use Rattle.nn_memhost.specs.Leaving.{reads_left, disk_left, reads_after_half, disk_undone}
use Rattle.nn_memhost.specs.Part.{taken_of}

module _ {A B : Type 0} (f : A → B) where
  map_if : (c : Bool) (v x : Option A) → option_map f (if c then v else x) ≡ (if c then option_map f v else option_map f x)
  map_if true v x = refl
  map_if false v x = refl

  held_if : (c : Bool) (d e : Held A) → map_held f (if c then d else e) ≡ (if c then map_held f d else map_held f e)
  held_if true d e = refl
  held_if false d e = refl

  held_file : (d : Held A) (s : Sub) (n : FileName) (v : Option A) → map_held f (with_file d s n v) ≡ with_file (map_held f d) s n (option_map f v)
  held_file d s n v = λ i. record { root = d.root; has = d.has; file = λ q m. map_if (sub_eq q s && file_eq m n) v (d.file q m) i }

  held_sub : (d : Held A) (s : Sub) (b : Bool) (g : FileName → Option A) → map_held f (with_sub d s b g) ≡ with_sub (map_held f d) s b (λ m. option_map f (g m))
  held_sub d s b g = λ i. record { root = d.root; has = λ q. if sub_eq q s then b else d.has q; file = λ q m. map_if (sub_eq q s) (g m) (d.file q m) i }

  some_mapped : (x : Option A) → is_some (option_map f x) ≡ is_some x
  some_mapped None = refl
  some_mapped (Some a) = refl

  module _ (fresh : A) (add : A → List ℕ → A) (fresh' : B) (add' : B → List ℕ → B) (begins : f fresh ≡ fresh') (adds : (a : A) (bytes : List ℕ) → f (add a bytes) ≡ add' (f a) bytes) where
    map_added : (bytes : List ℕ) (x : Option A) → option_map f (added add bytes x) ≡ added add' bytes (option_map f x)
    map_added bytes None = refl
    map_added bytes (Some a) = ap (λ (b : B). Some b) (adds a bytes)

    map_after : (call : Call) (h : Held A) → map_held f (after fresh add call h) ≡ after fresh' add' call (map_held f h)
    map_after Look h = refl
    map_after (MakeSub s) h = held_if (h.root && not (h.has s)) _ _ ∙ (λ i. if h.root && not (h.has s) then held_sub h s true (λ _. None) i else map_held f h)
    map_after (MakeFile s n) h = held_if (h.has s) _ _ ∙ (λ i. if h.has s then (held_file h s n (Some fresh) ∙ (λ j. with_file (map_held f h) s n (Some (begins j)))) i else map_held f h)
    map_after (Append s n bytes) h = held_file h s n _ ∙ (λ i. with_file (map_held f h) s n (map_added bytes (h.file s n) i))
    map_after (Sync s n) h = refl
    map_after (RenameFile s a b) h =
        held_if (is_some (h.file s a)) _ _
        ∙ (λ i. if is_some (h.file s a) then (held_file (with_file h s a None) s b (h.file s a) ∙ (λ j. with_file (held_file h s a None j) s b (option_map f (h.file s a)))) i else map_held f h)
        ∙ (λ i. if sym (some_mapped (h.file s a)) i then with_file (with_file (map_held f h) s a None) s b (option_map f (h.file s a)) else map_held f h)
    map_after (RenameSub a b) h =
        held_if (h.has a && not (h.has b)) _ _
        ∙ (λ i. if h.has a && not (h.has b) then (held_sub (with_sub h a false (λ _. None)) b true (h.file a) ∙ (λ j. with_sub (held_sub h a false (λ _. None) j) b true (λ m. option_map f (h.file a m)))) i else map_held f h)
    map_after (RemoveFile s n) h = held_file h s n None
    map_after (RemoveSub s) h = held_sub h s false (λ _. None)
    map_after Settle h = refl

disk_map : (call : Call) (h : Held Content) → disk_of (after fresh_content add_content call h) ≡ carried_out call (disk_of h)
disk_map call h = map_after file_of fresh_content add_content fresh_file add_pending refl (λ c bytes. refl) call h

reads_map : (call : Call) (h : Held Content) → reads_of (after fresh_content add_content call h) ≡ reads_after call (reads_of h)
reads_map call h = map_after (λ (c : Content). c.bytes) fresh_content add_content [] (λ (old bytes : List ℕ). old ++ bytes) refl (λ c bytes. ap (λ (l : List ℕ). c.bytes ++ l) (take-length bytes)) call h

synced_reads : (x : Option Content) → option_map (λ (c : Content). c.bytes) (option_map synced_content x) ≡ option_map (λ (c : Content). c.bytes) x
synced_reads None = refl
synced_reads (Some c) = refl

synced_disk : (x : Option Content) → option_map file_of (option_map synced_content x) ≡ certain (option_map (λ (c : Content). c.bytes) x)
synced_disk None = refl
synced_disk (Some c) = refl

same_file : {A : Type 0} (r : Held A) (s : Sub) (n : FileName) → with_file r s n (r.file s n) ≡ r
same_file {A} r s n = λ i. record { root = r.root; has = r.has; file = λ q m. at q m i }
  where
    at : (q : Sub) (m : FileName) → (if sub_eq q s && file_eq m n then r.file s n else r.file q m) ≡ r.file q m
    at q m = elim (sub_tells q s) [
      | inr differ ↦ rw differ.0
      | inl same ↦ elim (file_tells m n) [
        | inr differ ↦ rw (same.0, differ.0)
        | inl name ↦ rw (same.0, name.0) (λ i. r.file (sym same.1 i) (sym name.1 i))
      ]
    ]

-- a call that returns

pub view_reads : (call : Call) (h : Held Content) → reads_of (kept_after call h) ≡ reads_after call (reads_of h)
view_reads (Sync s n) h = held_file (λ (c : Content). c.bytes) h s n _ ∙ (λ i. with_file (reads_of h) s n (synced_reads (h.file s n) i)) ∙ same_file (reads_of h) s n
view_reads Settle h = λ i. record { root = h.root; has = h.has; file = λ s n. synced_reads (h.file s n) i }
view_reads Look h = refl
view_reads (MakeSub s) h = reads_map (MakeSub s) h
view_reads (MakeFile s n) h = reads_map (MakeFile s n) h
view_reads (Append s n bytes) h = reads_map (Append s n bytes) h
view_reads (RenameFile s a b) h = reads_map (RenameFile s a b) h
view_reads (RenameSub a b) h = reads_map (RenameSub a b) h
view_reads (RemoveFile s n) h = reads_map (RemoveFile s n) h
view_reads (RemoveSub s) h = reads_map (RemoveSub s) h

pub view_disk : (call : Call) (h : Held Content) → disk_of (kept_after call h) ≡ disk_after call (reads_of h) (disk_of h)
view_disk (Sync s n) h = held_file file_of h s n _ ∙ (λ i. with_file (disk_of h) s n (synced_disk (h.file s n) i))
view_disk Settle h = λ i. record { root = h.root; has = h.has; file = λ s n. synced_disk (h.file s n) i }
view_disk Look h = refl
view_disk (MakeSub s) h = disk_map (MakeSub s) h
view_disk (MakeFile s n) h = disk_map (MakeFile s n) h
view_disk (Append s n bytes) h = disk_map (Append s n bytes) h
view_disk (RenameFile s a b) h = disk_map (RenameFile s a b) h
view_disk (RenameSub a b) h = disk_map (RenameSub a b) h
view_disk (RemoveFile s n) h = disk_map (RemoveFile s n) h
view_disk (RemoveSub s) h = disk_map (RemoveSub s) h

-- a call that fails

handed : (count : ℕ) (bytes : List ℕ) (x : Option Content) → option_map file_of (option_map (grown count bytes) x) ≡ added add_pending bytes (option_map file_of x)
handed count bytes None = refl
handed count bytes (Some c) = refl

pub view_written : (count : ℕ) (s : Sub) (n : FileName) (bytes : List ℕ) (h : Held Content) → disk_of (written count s n bytes h) ≡ carried_out (Append s n bytes) (disk_of h)
view_written count s n bytes h = held_file file_of h s n _ ∙ (λ i. with_file (disk_of h) s n (handed count bytes (h.file s n) i))

whole_part : (s : Sub) (d : Disk) → IsSound d → PartOf s d d
whole_part s d sound = record { root = refl; other_subs = λ q ne. refl; other_files = λ q n ne. refl; sub = inr refl; files = λ n. inr refl; gone = λ n out. sound.files s n out }

broken_done : (call : Call) (r : Reads) (d part : Disk) → part ≡ disk_after call r d → Broken call r d part
broken_done Look r d part is = inl is
broken_done (MakeSub s) r d part is = inr is
broken_done (MakeFile s n) r d part is = inr is
broken_done (Append s n bytes) r d part is = is
broken_done (Sync s n) r d part is = inr is
broken_done (RenameFile s a b) r d part is = inr is
broken_done (RenameSub a b) r d part is = inr is
broken_done (RemoveFile s n) r d part is = inr is
broken_done (RemoveSub s) r d part is = subst (λ (x : Disk). PartOf s d x) (sym is) (removed_part s d)
broken_done Settle r d part is = inr is

broken_part : (part : Part) (call : Call) (h : Held Content) → IsSound (disk_of h) → Broken call (reads_of h) (disk_of h) (disk_of (kept_part part call h))
broken_part part Look h sound = inl refl
broken_part part (MakeSub s) h sound = inl refl
broken_part part (MakeFile s n) h sound = inl refl
broken_part part (Append s n bytes) h sound = view_written (taken_of (Some part) bytes) s n bytes h
broken_part part (Sync s n) h sound = inl refl
broken_part part (RenameFile s a b) h sound = inl refl
broken_part part (RenameSub a b) h sound = inl refl
broken_part part (RemoveFile s n) h sound = inl refl
broken_part part (RemoveSub s) h sound = whole_part s (disk_of h) sound
broken_part part Settle h sound = inl refl

pub view_broken : (part : Part) (call : Call) (h : Held Content) → IsSound (disk_of h) → Broken call (reads_of h) (disk_of h) (disk_of (kept_left (Some part) call h))
view_broken All call h sound = broken_done call (reads_of h) (disk_of h) (disk_of (kept_after call h)) (view_disk call h)
view_broken Half call h sound = broken_part Half call h sound
view_broken Nothing call h sound = broken_part Nothing call h sound

-- a call of the list

written_reads : (count : ℕ) (bytes : List ℕ) (x : Option Content) → option_map (λ (c : Content). c.bytes) (option_map (grown count bytes) x) ≡ added (λ (old more : List ℕ). old ++ more) (take count bytes) (option_map (λ (c : Content). c.bytes) x)
written_reads count bytes None = refl
written_reads count bytes (Some c) = refl

unwritten_reads : (bytes : List ℕ) (x : Option Content) → option_map (λ (c : Content). c.bytes) (option_map (grown 0 bytes) x) ≡ option_map (λ (c : Content). c.bytes) x
unwritten_reads bytes None = refl
unwritten_reads bytes (Some c) = ap (λ (l : List ℕ). Some l) (append-nil c.bytes)

view_half : (call : Call) (h : Held Content) → reads_of (kept_part Half call h) ≡ reads_after_half call (reads_of h)
view_half (Append s n bytes) h = held_file (λ (c : Content). c.bytes) h s n _ ∙ (λ i. with_file (reads_of h) s n (written_reads (length bytes / 2) bytes (h.file s n) i))
view_half Look h = refl
view_half (MakeSub s) h = refl
view_half (MakeFile s n) h = refl
view_half (Sync s n) h = refl
view_half (RenameFile s a b) h = refl
view_half (RenameSub a b) h = refl
view_half (RemoveFile s n) h = refl
view_half (RemoveSub s) h = refl
view_half Settle h = refl

view_nothing : (call : Call) (h : Held Content) → reads_of (kept_part Nothing call h) ≡ reads_of h
view_nothing (Append s n bytes) h = held_file (λ (c : Content). c.bytes) h s n _ ∙ (λ i. with_file (reads_of h) s n (unwritten_reads bytes (h.file s n) i)) ∙ same_file (reads_of h) s n
view_nothing Look h = refl
view_nothing (MakeSub s) h = refl
view_nothing (MakeFile s n) h = refl
view_nothing (Sync s n) h = refl
view_nothing (RenameFile s a b) h = refl
view_nothing (RenameSub a b) h = refl
view_nothing (RemoveFile s n) h = refl
view_nothing (RemoveSub s) h = refl
view_nothing Settle h = refl

view_undone : (part : Part) (call : Call) (h : Held Content) → disk_of (kept_part part call h) ≡ disk_undone call (disk_of h)
view_undone part (Append s n bytes) h = view_written (taken_of (Some part) bytes) s n bytes h
view_undone part Look h = refl
view_undone part (MakeSub s) h = refl
view_undone part (MakeFile s n) h = refl
view_undone part (Sync s n) h = refl
view_undone part (RenameFile s a b) h = refl
view_undone part (RenameSub a b) h = refl
view_undone part (RemoveFile s n) h = refl
view_undone part (RemoveSub s) h = refl
view_undone part Settle h = refl

pub view_reads_left : (failed : Option Part) (call : Call) (h : Held Content) → reads_of (kept_left failed call h) ≡ reads_left failed call (reads_of h)
view_reads_left None call h = view_reads call h
view_reads_left (Some All) call h = view_reads call h
view_reads_left (Some Half) call h = view_half call h
view_reads_left (Some Nothing) call h = view_nothing call h

pub view_disk_left : (failed : Option Part) (call : Call) (h : Held Content) → disk_of (kept_left failed call h) ≡ disk_left failed call (reads_of h) (disk_of h)
view_disk_left None call h = view_disk call h
view_disk_left (Some All) call h = view_disk call h
view_disk_left (Some Half) call h = view_undone Half call h
view_disk_left (Some Nothing) call h = view_undone Nothing call h
