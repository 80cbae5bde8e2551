-- What stands beside the files of an image.
use Rattle.std.proofs.Common.{◌≡◌, ◌≢◌, Option, refl, ◌∙◌, ℕ, List, ap}
use Rattle.nn_base.specs.declared.sub.Sub.{Sub}
use Rattle.nn_base.specs.declared.sub.Sub.TheVariants.{Current}
use Rattle.nn_base.specs.declared.file_name.FileName.{FileName}
use Rattle.nn_base.specs.declared.file_name.FileName.TheVariants.{Image, Md5, Md5Tmp, Ckpt}
use Rattle.nn_host.specs.Disk.{Held, Disk, Reads, Call, with_file}
use Rattle.nn_host.proofs.FilesLemmas.{beside, elsewhere}
use Rattle.nn_host.proofs.MakesLemmas.{Makes}
use Rattle.nn_host.proofs.TouchLemmas.{Touches, Moves, untouched, unmoved, rooted}
use Rattle.nn_small.specs.Small.{OldOrNew}
use Rattle.nn_remake.specs.Publishing.{BesideFile, BesideImage}

-- ---- beside the four files

-- one of the four files
abbrev pub IsOf : ℕ → FileName → Type 0
IsOf id n = (m : FileName) → m ≢ Image id → m ≢ Md5 id → m ≢ Ckpt id → m ≢ Md5Tmp id → m ≢ n

module _ {A : Type 0} (id : ℕ) where
  pub beside_refl : (d : Held A) → BesideImage id d d
  beside_refl d = record { root = refl; subs = λ s. refl; other_subs = λ s n ne. refl; other_files = λ n a b c e. refl }

  pub beside_trans : (a b c : Held A) → BesideImage id a b → BesideImage id b c → BesideImage id a c
  beside_trans a b c p q = record {
    root = q.root ∙ p.root;
    subs = λ s. q.subs s ∙ p.subs s;
    other_subs = λ s n ne. q.other_subs s n ne ∙ p.other_subs s n ne;
    other_files = λ n w x y z. q.other_files n w x y z ∙ p.other_files n w x y z;
  }

  -- one of them is set
  pub beside_set : (d : Held A) (n : FileName) (v : Option A) → IsOf id n → BesideImage id d (with_file d Current n v)
  beside_set d n v of = record {
    root = refl;
    subs = λ s. refl;
    other_subs = λ s m ne. ap (λ (f : FileName → Option A). f m) (elsewhere d Current n v s ne);
    other_files = λ m w x y z. beside d Current n m v (of m w x y z);
  }

pub of_image : (id : ℕ) → IsOf id (Image id)
of_image id m w x y z = w

pub of_digest : (id : ℕ) → IsOf id (Md5 id)
of_digest id m w x y z = x

pub of_ckpt : (id : ℕ) → IsOf id (Ckpt id)
of_ckpt id m w x y z = y

pub of_tmp : (id : ℕ) → IsOf id (Md5Tmp id)
of_tmp id m w x y z = z

-- ---- beside one file

pub file_refl : (n : FileName) (d : Disk) → BesideFile n d d
file_refl n d = record { root = refl; subs = λ s. refl; files = λ s m out. refl }

-- a call that touches no other name
pub file_call : (n : FileName) (old : Disk) (call : Call) (r : Reads) (d part : Disk) → ((s : Sub) (m : FileName) → Touches call s m → (s ≡ Current) × (m ≡ n)) → ((s : Sub) → Moves call s → ⊥) → BesideFile n old d → Makes call r d part → BesideFile n old part
file_call n old call r d part only still p makes = record {
  root = rooted call r d part makes ∙ p.root;
  subs = λ s. unmoved call r d part s makes (still s) ∙ p.subs s;
  files = λ s m other. untouched call r d part s m makes (λ t. other (only s m t)) ∙ p.files s m other;
}

-- ---- one of the four files

pub file_beside : (id : ℕ) (n : FileName) (old d : Disk) → IsOf id n → BesideFile n old d → BesideImage id old d
file_beside id n old d of p = record {
  root = p.root;
  subs = p.subs;
  other_subs = λ s m ne. p.files s m (λ it. ne it.0);
  other_files = λ m w x y z. p.files Current m (λ it. of m w x y z it.1);
}

-- a small file, if it and its .tmp are of the four
pub small_beside : (id : ℕ) (bytes : List ℕ) (old d : Disk) → OldOrNew Current (Md5Tmp id) (Md5 id) bytes old d → BesideImage id old d
small_beside id bytes old d p = record {
  root = p.root;
  subs = p.subs;
  other_subs = λ s m ne. p.other_subs s m ne;
  other_files = λ m w x y z. p.other_files m z x;
}
