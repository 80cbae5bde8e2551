-- What each step of a format makes of a directory.
use Rattle.std.proofs.Common.{◌≡◌, List, ℕ, Option, Some, None, refl, sym, ◌∙◌}
use Rattle.std.specs.Prelude.{is_some}
use Rattle.nn_base.specs.declared.sub.Sub.TheVariants.{Current}
use Rattle.nn_base.specs.declared.file_name.FileName.TheVariants.{Version}
use Rattle.nn_host.specs.Disk.{Disk, Reads, Leaves, Settle, certain, disk_after}
use Rattle.nn_state.specs.Table.{seven_of}
use Rattle.nn_state.proofs.TableLemmas.{seven_by}
use Rattle.nn_state.proofs.LeftLemmas.{seven_left}

-- settling

some_certain : (b : Option (List ℕ)) → is_some (certain b) ≡ is_some b
some_certain None = refl
some_certain (Some b) = refl

pub seven_settled : (d : Disk) (r : Reads) → Leaves d r → seven_of (disk_after Settle r d) ≡ seven_of d
seven_settled d r leaves = seven_by r (disk_after Settle r d) (sym leaves.root) (λ s. sym (leaves.subs s)) (some_certain (r.file Current Version)) ∙ seven_left d r leaves
