-- A host in memory is lawful: its disks are sound, and what reads is what a stop may leave.
use Rattle.std.specs.Prelude.{◌≡◌, ◌≤◌, ℕ, zero, suc, Bool, true, false, List, [], ◌∷◌, length, drop, Option, Some, None, option_map, if◌then◌else◌, refl}
use Rattle.std.proofs.Common.{sym, ap, subst}
use Rattle.std.proofs.lemmas.List.{take-append-drop, length-drop}
use Rattle.nn_base.specs.declared.sub.Sub.{Sub}
use Rattle.nn_base.specs.declared.file_name.FileName.{FileName}
use Rattle.nn_host.specs.Disk.{Held, IsSound, Leaves, LeavesFile, Torn}
use Rattle.nn_host.specs.Moments.{IsLawful}
use Rattle.nn_memhost.specs.declared.kept.file.KeptFile.{KeptFile}
use Rattle.nn_memhost.specs.declared.kept.KeptDir.{KeptDir}
use Rattle.nn_memhost.specs.declared.mem.MemHost.{MemHost}
use Rattle.nn_memhost.specs.Content.{Content, file_of}
use Rattle.nn_memhost.specs.Kept.{content_of, placed_of, fits, content_at}
use Rattle.nn_memhost.specs.Held.{disk_of, reads_of}
use Rattle.nn_memhost.specs.declared.past.Logged.{Logged}
use Rattle.nn_memhost.specs.Past.{Past, kept_at, one, run}
use Rattle.nn_memhost.specs.Mem.{start_of, past_of, mem_state}

torn : (f : KeptFile) → Torn (file_of (content_of f)) (content_of f).bytes
torn f = record {
  tail = drop f.synced f.bytes.items;
  split = sym (take-append-drop f.synced f.bytes.items);
  short = subst (λ (n : ℕ). n ≤ length f.pending.items) (sym (length-drop f.synced f.bytes.items)) f.handed;
}

leaves_either : (b : Bool) (f : KeptFile) (rest : Option Content) → LeavesFile (option_map file_of rest) (option_map (λ (c : Content). c.bytes) rest)
    → LeavesFile (option_map file_of (if b then Some (content_of f) else rest)) (option_map (λ (c : Content). c.bytes) (if b then Some (content_of f) else rest))
leaves_either true f rest h = torn f
leaves_either false f rest h = h

leaves_at : (fs : List KeptFile) (s : Sub) (n : FileName) → LeavesFile (option_map file_of (content_at fs s n)) (option_map (λ (c : Content). c.bytes) (content_at fs s n))
leaves_at [] s n = tt
leaves_at (f ∷ fs) s n = leaves_either (fits s n (placed_of f)) f (content_at fs s n) (leaves_at fs s n)

none_mapped : {A B : Type 0} (f : A → B) (x : Option A) → x ≡ None → option_map f x ≡ None
none_mapped f x e = ap (λ (y : Option _). option_map f y) e

-- what a kept directory holds is lawful
pub sound_dir : (ds : List KeptDir) (j : ℕ) → IsSound (disk_of (kept_at ds j))
sound_dir [] j = record { subs = λ s gone. refl; files = λ s n gone. refl }
sound_dir (d ∷ ds) zero = record { subs = d.rooted; files = λ s n gone. none_mapped file_of (content_at d.files.items s n) (d.housed s n gone) }
sound_dir (d ∷ ds) (suc j) = sound_dir ds j

pub leaves_dir : (ds : List KeptDir) (j : ℕ) → Leaves (disk_of (kept_at ds j)) (reads_of (kept_at ds j))
leaves_dir [] j = record { root = refl; subs = λ s. refl; files = λ s n. tt }
leaves_dir (d ∷ ds) zero = record { root = refl; subs = λ s. refl; files = leaves_at d.files.items }
leaves_dir (d ∷ ds) (suc j) = leaves_dir ds j

-- the last recorded call ended with the contents and the bytes said of now
record IsEnded (p : Past) : Type 0 where
  disks : (j : ℕ) → (p.ended.dirs j).disk ≡ disk_of (p.now.kept j)
  said : p.ended.said ≡ p.now.said

ended_run : (p : Past) (es : List Logged) → IsEnded p → IsEnded (run p es)
ended_run p [] is = is
ended_run p (e ∷ es) is = ended_run (one p e) es (record { disks = λ j. refl; said = refl })

ended_mem : (m : MemHost) → IsEnded (past_of m)
ended_mem m = ended_run (start_of m) m.calls.items (record { disks = λ j. refl; said = refl })

pub mem_lawful : (m : MemHost) → IsLawful (mem_state m)
mem_lawful m = record {
  disks = λ j. subst (λ (h : Held Content). IsSound (disk_of h)) (sym (m.tied j)) (sound_dir m.dirs.items j);
  reads = λ j. subst (λ (h : Held Content). Leaves (disk_of h) (reads_of h)) (sym (m.tied j)) (leaves_dir m.dirs.items j);
  ended = (ended_mem m).disks;
  said = (ended_mem m).said;
}
