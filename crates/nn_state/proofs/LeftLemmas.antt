-- What a stop leaves has the same state as the disk that it finds.
use Rattle.std.proofs.Common.{◌≡◌, List, ℕ, Option, Some, None, refl, ◌∙◌, ap}
use Rattle.std.specs.Prelude.{is_some}
use Rattle.nn_base.specs.declared.sub.Sub.TheVariants.{Current}
use Rattle.nn_base.specs.declared.file_name.FileName.TheVariants.{Version}
use Rattle.nn_host.specs.Disk.{Disk, Reads, File, Leaves, LeavesFile}
use Rattle.nn_state.specs.declared.state.StorageState.{StorageState}
use Rattle.nn_state.specs.Table.{seven_of, table_of}
use Rattle.nn_state.specs.Typed.{IsIn}
use Rattle.nn_state.proofs.TableLemmas.{seven_by}

-- a stop makes no file, and takes none away
pub some_left : (f : Option File) (b : Option (List ℕ)) → LeavesFile f b → is_some b ≡ is_some f
some_left None None l = refl
some_left None (Some b) l = absurd l
some_left (Some f) None l = absurd l
some_left (Some f) (Some b) l = refl

module _ (d : Disk) (c : Reads) (leaves : Leaves d c) where
  pub seven_left : seven_of c ≡ seven_of d
  seven_left = seven_by d c leaves.root leaves.subs (some_left (d.file Current Version) (c.file Current Version) (leaves.files Current Version))

  pub state_left : (state : StorageState) → IsIn state d → IsIn state c
  state_left state fits = ap table_of seven_left ∙ fits
