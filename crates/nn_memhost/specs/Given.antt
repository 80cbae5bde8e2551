-- What is given to a host in memory: contents that count as synced, with which the record of calls begins anew.
use Rattle.std.specs.Prelude.{◌≡◌, ◌≢◌, ℕ, true, false, List, [], Some, None, if◌then◌else◌}
use Rattle.nn_base.specs.declared.sub.Sub.{Sub}
use Rattle.nn_base.specs.declared.file_name.FileName.{FileName}
use Rattle.nn_base.specs.Names.{sub_eq}
use Rattle.nn_host.specs.Disk.{Disk, Reads, certain, with_file}
use Rattle.nn_host.specs.Moments.{State, disk_at, faults_at}

-- a disk whose files, as they read, a stop keeps
abbrev pub all_certain : Reads → Disk
all_certain r = record { root = r.root; has = r.has; file = λ s n. certain (r.file s n) }

-- the same with this file; its root and its subfolder are there
abbrev pub with_given : Sub → FileName → List ℕ → Reads → Reads
with_given s n bytes r = record {
  root = true;
  has = λ q. if sub_eq q s then true else r.has q;
  file = (with_file r s n (Some bytes)).file;
}

-- no root, and so nothing else
abbrev pub no_reads : Reads
no_reads = record { root = false; has = λ s. false; file = λ s n. None }

-- directory i now reads so, the others as before, all counts as synced, and the record begins anew; the counts of faults stay
pub record Anew (i : ℕ) (r : Reads) (old new : State) : Type 0 where
  pub reads : new.reads i ≡ r
  pub others : (j : ℕ) → j ≢ i → new.reads j ≡ old.reads j
  pub disks : (j : ℕ) → disk_at new j ≡ all_certain (new.reads j)
  pub faults : (j : ℕ) → faults_at new j ≡ faults_at old j
  pub said : new.now.said ≡ old.now.said
  pub out_faults : new.now.out_faults ≡ old.now.out_faults
  pub count : new.count ≡ old.count
  pub ended : new.ended ≡ new.now
  pub trace : new.trace ≡ []
