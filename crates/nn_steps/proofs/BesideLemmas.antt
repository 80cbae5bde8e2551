-- What a stop leaves of a disk that differs in some files from another goes back to something that one could leave of the other.
use Rattle.std.proofs.Common.{◌≡◌, ◌⊎◌, inl, inr, ℕ, List, Option, refl, ◌∙◌, subst}
use Rattle.nn_base.specs.declared.sub.Sub.{Sub}
use Rattle.nn_base.specs.declared.file_name.FileName.{FileName}
use Rattle.nn_host.specs.Disk.{Disk, Reads, File, Leaves, LeavesFile}
use Rattle.nn_host.proofs.CleanLemmas.{whole}
use Rattle.nn_chain.specs.Fair.{IsFair}
use Rattle.nn_steps.proofs.SeatLemmas.{FairAt, leaves_whole, reads_fair}

-- the bytes that are left where the file is the same, and else all that it had
chosen : {same other : Type 0} → same ⊎ other → Option (List ℕ) → Option File → Option (List ℕ)
chosen (inl is) left file = left
chosen (inr is) left file = whole file

-- it is as something that a stop could leave before, but for files of which Q holds
pub record LeftBeside (Q : Sub → FileName → Type 0) (old d : Disk) (c : Reads) : Type 0 where
  pub before : Reads
  pub left : Leaves old before
  pub fair : IsFair d c → IsFair old before
  pub root : c.root ≡ before.root
  pub subs : (s : Sub) → c.has s ≡ before.has s
  pub files : (s : Sub) (n : FileName) → (c.file s n ≡ before.file s n) ⊎ Q s n

module _ (Q : Sub → FileName → Type 0) (old d : Disk) (root : d.root ≡ old.root) (subs : (s : Sub) → d.has s ≡ old.has s) (decide : (s : Sub) (n : FileName) → (d.file s n ≡ old.file s n) ⊎ Q s n) (c : Reads) (leaves : Leaves d c) where
  before : Reads
  before = record { root = old.root; has = old.has; file = λ s n. chosen (decide s n) (c.file s n) (old.file s n) }

  -- what holds of what is left, and of all that a file had, holds of these
  each_file : (P : FileName → Option File → Option (List ℕ) → Type 0) → ((s : Sub) (n : FileName) → P n (d.file s n) (c.file s n)) → ((s : Sub) (n : FileName) → P n (old.file s n) (whole (old.file s n))) → (s : Sub) (n : FileName) → P n (old.file s n) (before.file s n)
  unfolding before chosen
  each_file P left others s n = go (decide s n)
    where
      go : (either : (d.file s n ≡ old.file s n) ⊎ Q s n) → P n (old.file s n) (chosen either (c.file s n) (old.file s n))
      go (inl same) = subst (λ (f : Option File). P n f (c.file s n)) same (left s n)
      go (inr is) = others s n

  either_way : (s : Sub) (n : FileName) → (c.file s n ≡ before.file s n) ⊎ Q s n
  unfolding before chosen
  either_way s n = go (decide s n)
    where
      go : (either : (d.file s n ≡ old.file s n) ⊎ Q s n) → (c.file s n ≡ chosen either (c.file s n) (old.file s n)) ⊎ Q s n
      go (inl same) = inl refl
      go (inr is) = inr is

  pub left_beside : LeftBeside Q old d c
  unfolding before
  left_beside = record {
    before = before;
    left = record { root = refl; subs = λ s. refl; files = each_file (λ n f g. LeavesFile f g) leaves.files (λ s n. leaves_whole (old.file s n)) };
    fair = λ fair sub n first file bytes ranged begins there reads. each_file FairAt (λ s m f g b r e x y. fair s m f g b r e x y) (λ s m f g b r e x y. reads_fair old s m f g b r e x y) sub n first file bytes ranged begins there reads;
    root = leaves.root ∙ root;
    subs = λ s. leaves.subs s ∙ subs s;
    files = either_way;
  }
