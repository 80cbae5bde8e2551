-- What a call on a directory leaves, by what the list of faults says of it.
use Rattle.std.specs.Prelude.{◌≡◌, ◌<◌, ◌/◌, ℕ, length, take, Option, Some, None}
use Rattle.nn_host.specs.Disk.{Disk, Reads, Call, Append, carried_out, disk_after, reads_after}
use Rattle.nn_host.specs.Moments.{moment, disk_at}
use Rattle.nn_memhost.specs.declared.past.Part.{Part}
use Rattle.nn_memhost.specs.declared.past.Part.TheVariants.{Nothing, Half, All}
use Rattle.nn_memhost.specs.declared.mem.MemHost.{MemHost}
use Rattle.nn_memhost.specs.Mem.{mem_state, next_part}

-- half of an append is the first half of its bytes, rounded down; half of any other call is nothing
abbrev pub reads_after_half : Call → Reads → Reads
reads_after_half (Append s n bytes) r = reads_after (Append s n (take (length bytes / 2) bytes)) r
reads_after_half call r = r

-- how the directory reads: as after a call that returned, unless the list says otherwise
abbrev pub reads_left : Option Part → Call → Reads → Reads
reads_left None call r = reads_after call r
reads_left (Some All) call r = reads_after call r
reads_left (Some Half) call r = reads_after_half call r
reads_left (Some Nothing) call r = r

-- a call that wasn't done leaves the disk alone, but that the bytes handed to an append are pending
abbrev pub disk_undone : Call → Disk → Disk
disk_undone (Append s n bytes) d = carried_out (Append s n bytes) d
disk_undone call d = d

-- the disk, which says what is synced and what is pending
abbrev pub disk_left : Option Part → Call → Reads → Disk → Disk
disk_left None call r d = disk_after call r d
disk_left (Some All) call r d = disk_after call r d
disk_left (Some Half) call r d = disk_undone call d
disk_left (Some Nothing) call r d = disk_undone call d

-- where the call was recorded, the directory is left as the list says
pub record LeavesAsListed (i : ℕ) (call : Call) (old new : MemHost) : Type 0 where
  pub reads : moment (mem_state old) < moment (mem_state new) → (mem_state new).reads i ≡ reads_left (next_part old) call ((mem_state old).reads i)
  pub disk : moment (mem_state old) < moment (mem_state new) → disk_at (mem_state new) i ≡ disk_left (next_part old) call ((mem_state old).reads i) (disk_at (mem_state old) i)
