-- A body is told by its command, its time and what it assigns.
use Rattle.std.proofs.Common.{◌≡◌, ◌+◌, refl, Some, None, sym, ap, subst}
use Rattle.std.specs.Prelude.{IfSome}
use Rattle.nn_base.proofs.PlainLemmas.{some_is}
use Rattle.nn_tree.specs.Namespace.{Namespace, hdfs}
use Rattle.nn_record.specs.declared.op.Op.{Op}
use Rattle.nn_record.specs.declared.op.Op.TheVariants.{Add, RenameOld, Delete, Mkdir as MkdirOp, SetReplication, SetPermissions, SetOwner, Close as CloseOp, SetQuota as SetQuotaOp, EndLogSegment, StartLogSegment, AddBlock as AddBlockOp}
use Rattle.nn_ops.specs.declared.command.Command.{Command}
use Rattle.nn_ops.specs.Bodies.{group_above, op_of, command_of_op, time_of}
use Rattle.nn_ops.specs.declared.replayed.Assigned.{Assigned}
use Rattle.nn_ops.specs.Replays.{assigned_by}
use Rattle.nn_ops.specs.Step.{Fits, refusal_of}

-- of the command that is read off a body
IsBody : Namespace → Op → Command → Type 0
IsBody ns op command = assigned_by (op_of ns command (time_of op)) ≡ assigned_by op → op_of ns command (time_of op) ≡ op

body : (ns : Namespace) (op : Op) → IfSome (command_of_op op) (IsBody ns op)
unfolding IsBody
body ns (Add inode path replication time owner group mode) = λ same.
    let id : ns.counters.inode + 1 ≡ inode = ap (λ (a : Assigned). a.first) same in
    let bits : 420 ≡ mode = ap (λ (a : Assigned). a.mode) same in
    let labels : (hdfs, group_above ns.nodes path) ≡ (owner, group) = some_is _ _ (ap (λ (a : Assigned). a.labels) same) in
    λ i. Add (id i) path replication time (labels i).0 (labels i).1 (bits i)
body ns (MkdirOp inode path time owner group mode) = λ same.
    let id : ns.counters.inode + 1 ≡ inode = ap (λ (a : Assigned). a.first) same in
    let bits : 493 ≡ mode = ap (λ (a : Assigned). a.mode) same in
    let labels : (hdfs, group_above ns.nodes path) ≡ (owner, group) = some_is _ _ (ap (λ (a : Assigned). a.labels) same) in
    λ i. MkdirOp (id i) path time (labels i).0 (labels i).1 (bits i)
body ns (AddBlockOp path id stamp length) = λ same.
    let given : ns.counters.block + 1 ≡ id = ap (λ (a : Assigned). a.first) same in
    let stamped : ns.counters.stamp + 1 ≡ stamp = ap (λ (a : Assigned). a.second) same in
    λ i. AddBlockOp path (given i) (stamped i) length
body ns (RenameOld from to time) = λ same. refl
body ns (Delete path time) = λ same. refl
body ns (SetReplication path replication) = λ same. refl
body ns (SetPermissions path mode) = λ same. refl
body ns (SetOwner path owner group) = λ same. refl
body ns (CloseOp path time) = λ same. refl
body ns (SetQuotaOp path quota) = λ same. refl
body ns EndLogSegment = tt
body ns StartLogSegment = tt

pub same_body : (ns : Namespace) (op : Op) (command : Command) → command_of_op op ≡ Some command → assigned_by (op_of ns command (time_of op)) ≡ assigned_by op → op_of ns command (time_of op) ≡ op
unfolding IsBody
same_body ns op command is = subst (λ o. IfSome o (IsBody ns op)) is (body ns op)

pub fits_so : (ns : Namespace) (op : Op) (command : Command) → command_of_op op ≡ Some command → refusal_of ns command ≡ None → op_of ns command (time_of op) ≡ op → Fits ns op
fits_so ns op command is taken same = subst (λ o. IfSome o (λ command. (refusal_of ns command ≡ None) × (op_of ns command (time_of op) ≡ op))) (sym is) (taken, same)
