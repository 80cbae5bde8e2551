-- A small file between its old and its new contents, and what a stop leaves of it.
use Rattle.std.proofs.Common.{◌≡◌, ◌≢◌, ◌⊎◌, inl, inr, ⊎_elim, ℕ, List, Option, Some, None, refl, ◌∙◌, subst}
use Rattle.nn_base.specs.declared.sub.Sub.{Sub}
use Rattle.nn_base.specs.declared.file_name.FileName.{FileName}
use Rattle.nn_host.specs.Disk.{Held, Disk, Reads, File, Leaves, LeavesFile, with_file}
use Rattle.nn_host.proofs.CleanLemmas.{sure_left}
use Rattle.nn_host.proofs.FilesLemmas.{there, beside, elsewhere}
use Rattle.nn_small.specs.Small.{OldOrNew, replaced}

module _ (sub : Sub) (tmp name : FileName) (bytes : List ℕ) where
  pub old_or_new_refl : (d : Disk) → OldOrNew sub tmp name bytes d d
  old_or_new_refl d = record { root = refl; subs = λ s. refl; other_subs = λ s n ne. refl; other_files = λ n a b. refl; file = inl refl }

  -- a stop leaves the file as one could have left it before, or exactly the new bytes
  pub left_small : (old d : Disk) (c : Reads) → OldOrNew sub tmp name bytes old d → Leaves d c → LeavesFile (old.file sub name) (c.file sub name) ⊎ (c.file sub name ≡ Some bytes)
  left_small old d c p leaves = ⊎_elim
      (λ same. inl (subst (λ (f : Option File). LeavesFile f (c.file sub name)) same (leaves.files sub name)))
      (λ new. inr (sure_left d c sub name bytes leaves new.0))
      p.file

-- what stands where a file was replaced

module _ {A : Type 0} (d : Held A) (sub : Sub) (tmp name : FileName) (v : Option A) where
  pub replaced_name : (replaced d sub tmp name v).file sub name ≡ v
  replaced_name = there (with_file d sub tmp None) sub name v

  pub replaced_tmp : tmp ≢ name → (replaced d sub tmp name v).file sub tmp ≡ None
  replaced_tmp apart = beside (with_file d sub tmp None) sub name tmp v apart ∙ there d sub tmp None

  pub replaced_other : (n : FileName) → n ≢ tmp → n ≢ name → (replaced d sub tmp name v).file sub n ≡ d.file sub n
  replaced_other n a b = beside (with_file d sub tmp None) sub name n v b ∙ beside d sub tmp n None a

  pub replaced_elsewhere : (s : Sub) → s ≢ sub → (replaced d sub tmp name v).file s ≡ d.file s
  replaced_elsewhere s ne = elsewhere (with_file d sub tmp None) sub name v s ne ∙ elsewhere d sub tmp None s ne
