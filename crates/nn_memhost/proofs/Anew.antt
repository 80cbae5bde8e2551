-- With what is given the record of calls begins anew.
use Rattle.std.proofs.Common.{◌≡◌, ℕ, List, [], length, take, Option, Some, None, refl, sym, ◌∙◌, ap, subst}
use Rattle.std.specs.Prelude.{Bool, true, false, ◌&&◌, if◌then◌else◌, option_map}
use Rattle.std.proofs.Math.Seq.{take-length}
use Rattle.nn_base.specs.declared.sub.Sub.{Sub}
use Rattle.nn_base.specs.declared.file_name.FileName.{FileName}
use Rattle.nn_base.specs.Names.{sub_eq, file_eq}
use Rattle.nn_host.specs.Disk.{Held, Reads, certain}
use Rattle.nn_memhost.specs.declared.kept.KeptDir.{KeptDir}
use Rattle.nn_memhost.specs.declared.mem.MemHost.{MemHost}
use Rattle.nn_memhost.specs.declared.past.Logged.{Logged}
use Rattle.nn_memhost.specs.Content.{Content, synced_content, file_of}
use Rattle.nn_memhost.specs.Held.{disk_of, reads_of, settled, given}
use Rattle.nn_memhost.specs.Past.{kept_at, put_at, start, run, state_of}
use Rattle.nn_memhost.specs.Given.{all_certain, with_given, Anew}
use Rattle.nn_memhost.specs.Mem.{mem_state}
use Rattle.nn_memhost.proofs.PastLemmas.{put_here, put_there}

synced_shown : (x : Option Content) → option_map (λ (c : Content). c.bytes) (option_map synced_content x) ≡ option_map (λ (c : Content). c.bytes) x
synced_shown None = refl
synced_shown (Some c) = refl

synced_kept : (x : Option Content) → option_map file_of (option_map synced_content x) ≡ certain (option_map (λ (c : Content). c.bytes) (option_map synced_content x))
synced_kept None = refl
synced_kept (Some c) = refl

-- settling changes nothing that reads
settled_reads : (h : Held Content) → reads_of (settled h) ≡ reads_of h
settled_reads h = λ i. record { root = h.root; has = h.has; file = λ s n. synced_shown (h.file s n) i }

settled_disk : (h : Held Content) → disk_of (settled h) ≡ all_certain (reads_of (settled h))
settled_disk h = λ i. record { root = h.root; has = h.has; file = λ s n. synced_kept (h.file s n) i }

shown_if : (b : Bool) (bytes : List ℕ) (x : Option Content) → option_map (λ (c : Content). c.bytes) (if b then Some (record { bytes = bytes; synced = bytes; pending = [] }) else x) ≡ (if b then Some bytes else option_map (λ (c : Content). c.bytes) x)
shown_if true bytes x = refl
shown_if false bytes x = refl

pub given_reads : (s : Sub) (n : FileName) (bytes : List ℕ) (h : Held Content) → reads_of (given s n bytes h) ≡ with_given s n bytes (reads_of h)
given_reads s n bytes h = λ i. record { root = true; has = λ q. if sub_eq q s then true else h.has q; file = λ q m. shown_if (sub_eq q s && file_eq m n) bytes (h.file q m) i }

module _ (m : MemHost) (i : ℕ) (h : Held Content) (r : Reads) (dirs : List KeptDir) where
  begun : (said : List ℕ) → said ≡ m.said.items → reads_of h ≡ r → ((j : ℕ) → kept_at dirs j ≡ settled (put_at i h (kept_at m.dirs.items) j)) → length dirs ≡ length m.dirs.items
      → Anew i r (mem_state m) (state_of (start (kept_at dirs) said m.counts) m.counts (length dirs))
  begun said same reads kept count = record {
    reads = ap (λ (k : Held Content). reads_of k) (kept i) ∙ settled_reads (put_at i h (kept_at m.dirs.items) i) ∙ ap (λ (k : Held Content). reads_of k) (put_here i h (kept_at m.dirs.items)) ∙ reads;
    others = λ j ne. ap (λ (k : Held Content). reads_of k) (kept j) ∙ settled_reads (put_at i h (kept_at m.dirs.items) j) ∙ ap (λ (k : Held Content). reads_of k) (put_there i h (kept_at m.dirs.items) j ne ∙ sym (m.tied j));
    disks = λ j. subst (λ (k : Held Content). disk_of k ≡ all_certain (reads_of k)) (sym (kept j)) (settled_disk (put_at i h (kept_at m.dirs.items) j));
    faults = λ j. refl;
    said = same ∙ sym m.spoken;
    out_faults = refl;
    count = count;
    ended = refl;
    trace = refl;
  }

  pub anew : (n : ℕ) (calls : List Logged) → calls ≡ [] → n ≡ length m.said.items → reads_of h ≡ r → ((j : ℕ) → kept_at dirs j ≡ settled (put_at i h (kept_at m.dirs.items) j)) → length dirs ≡ length m.dirs.items
      → Anew i r (mem_state m) (state_of (run (start (kept_at dirs) (take n m.said.items) m.counts) calls) m.counts (length dirs))
  anew n calls none len reads kept count =
      subst (λ (l : List Logged). Anew i r (mem_state m) (state_of (run (start (kept_at dirs) (take n m.said.items) m.counts) l) m.counts (length dirs))) (sym none)
      (begun (take n m.said.items) (ap (λ (k : ℕ). take k m.said.items) len ∙ take-length m.said.items) reads kept count)
