-- What is spelled so is read again, whatever follows: the bodies.
use Rattle.std.proofs.Common.{◌≡◌, ℕ, List, ◌++◌, Some, refl, ap, ◌∙◌, append_assoc}
use Rattle.nn_record.specs.declared.op.Op.{Op}
use Rattle.nn_record.specs.declared.op.Op.TheVariants.{Add, RenameOld, Delete, Mkdir, SetReplication, SetPermissions, SetOwner, Close, SetQuota, EndLogSegment, StartLogSegment, AddBlock}
use Rattle.nn_record.specs.Ops.{opcode_of, IsOp, IsHeld}
use Rattle.nn_record.specs.Spelling.{u16, u64, path, name, bound, body_bytes}
use Rattle.nn_record.specs.RecordReading.{add_at, rename_old_at, delete_at, mkdir_at, set_replication_at, set_permissions_at, set_owner_at, close_at, set_quota_at, add_block_at, op_at}
use Rattle.nn_record.proofs.AgainLemmas.{u16_again, u64_again, long_again, mode_again, path_again, name_again, bound_again}

pub op_again : (op : Op) (rest : List ℕ) → IsOp op → IsHeld op → op_at (opcode_of op) (body_bytes op ++ rest) ≡ Some (op, rest)
unfolding op_at body_bytes add_at rename_old_at delete_at mkdir_at set_replication_at set_permissions_at set_owner_at close_at set_quota_at add_block_at
op_again (Add inode p replication time owner group mode) rest is held =
    let r6 = u16 mode ++ rest in
    let r5 = name group ++ r6 in
    let r4 = name owner ++ r5 in
    let r3 = u64 time ++ r4 in
    let r2 = u16 replication ++ r3 in
    let r1 = path p ++ r2 in
    let parts : body_bytes (Add inode p replication time owner group mode) ++ rest ≡ u64 inode ++ r1 = simp append_assoc refl in
    ap (op_at 0) parts ∙ rw (long_again inode r1 is.0, path_again p r2 held.0, u16_again replication r3 held.3, long_again time r4 is.1, name_again owner r5 held.1, name_again group r6 held.2, mode_again mode rest is.2) refl
op_again (RenameOld old new time) rest is held =
    let r2 = u64 time ++ rest in
    let r1 = path new ++ r2 in
    let parts : body_bytes (RenameOld old new time) ++ rest ≡ path old ++ r1 = simp append_assoc refl in
    ap (op_at 1) parts ∙ rw (path_again old r1 held.0, path_again new r2 held.1, long_again time rest is) refl
op_again (Delete p time) rest is held =
    let r1 = u64 time ++ rest in
    let parts : body_bytes (Delete p time) ++ rest ≡ path p ++ r1 = simp append_assoc refl in
    ap (op_at 2) parts ∙ rw (path_again p r1 held, long_again time rest is) refl
op_again (Mkdir inode p time owner group mode) rest is held =
    let r5 = u16 mode ++ rest in
    let r4 = name group ++ r5 in
    let r3 = name owner ++ r4 in
    let r2 = u64 time ++ r3 in
    let r1 = path p ++ r2 in
    let parts : body_bytes (Mkdir inode p time owner group mode) ++ rest ≡ u64 inode ++ r1 = simp append_assoc refl in
    ap (op_at 3) parts ∙ rw (long_again inode r1 is.0, path_again p r2 held.0, long_again time r3 is.1, name_again owner r4 held.1, name_again group r5 held.2, mode_again mode rest is.2) refl
op_again (SetReplication p replication) rest is held =
    let r1 = u16 replication ++ rest in
    let parts : body_bytes (SetReplication p replication) ++ rest ≡ path p ++ r1 = simp append_assoc refl in
    ap (op_at 4) parts ∙ rw (path_again p r1 held.0, u16_again replication rest held.1) refl
op_again (SetPermissions p mode) rest is held =
    let r1 = u16 mode ++ rest in
    let parts : body_bytes (SetPermissions p mode) ++ rest ≡ path p ++ r1 = simp append_assoc refl in
    ap (op_at 7) parts ∙ rw (path_again p r1 held, mode_again mode rest is) refl
op_again (SetOwner p owner group) rest is held =
    let r2 = name group ++ rest in
    let r1 = name owner ++ r2 in
    let parts : body_bytes (SetOwner p owner group) ++ rest ≡ path p ++ r1 = simp append_assoc refl in
    ap (op_at 8) parts ∙ rw (path_again p r1 held.0, name_again owner r2 held.1, name_again group rest held.2) refl
op_again (Close p time) rest is held =
    let r1 = u64 time ++ rest in
    let parts : body_bytes (Close p time) ++ rest ≡ path p ++ r1 = simp append_assoc refl in
    ap (op_at 9) parts ∙ rw (path_again p r1 held, long_again time rest is) refl
op_again (SetQuota p quota) rest is held =
    let r2 = bound quota.space ++ rest in
    let r1 = bound quota.names ++ r2 in
    let parts : body_bytes (SetQuota p quota) ++ rest ≡ path p ++ r1 = simp append_assoc refl in
    ap (op_at 14) parts ∙ rw (path_again p r1 held, bound_again quota.names r2 is.0, bound_again quota.space rest is.1) refl
op_again (AddBlock p id stamp size) rest is held =
    let r3 = u64 size ++ rest in
    let r2 = u64 stamp ++ r3 in
    let r1 = u64 id ++ r2 in
    let parts : body_bytes (AddBlock p id stamp size) ++ rest ≡ path p ++ r1 = simp append_assoc refl in
    ap (op_at 33) parts ∙ rw (path_again p r1 held.0, long_again id r2 is.0, long_again stamp r3 is.1, u64_again size rest held.1) refl
op_again EndLogSegment rest is held = refl
op_again StartLogSegment rest is held = refl
