-- The contents for a stop, and a host that starts on them.
use Rattle.std.specs.Prelude.{◌≡◌, ℕ, [], length, take, slice_get, Some}
use Rattle.std.specs.Global.{Vec}
use Rattle.nn_host.specs.Moments.{State, disk_at, faults_at}
use Rattle.nn_memhost.specs.declared.kept.KeptDir.{KeptDir}
use Rattle.nn_memhost.specs.declared.past.Logged.{Logged}
use Rattle.nn_memhost.specs.declared.stop.Choice.{Choice}
use Rattle.nn_memhost.specs.declared.mem.MemHost.{MemHost}
use Rattle.nn_memhost.specs.Flight.{all_flight}
use Rattle.nn_memhost.specs.Given.{all_certain}
use Rattle.nn_memhost.specs.Held.{map_held}
use Rattle.nn_memhost.specs.Past.{kept_at, run}
use Rattle.nn_memhost.specs.Stop.{stopped_content}
use Rattle.nn_memhost.specs.Mem.{start_of}

-- these are the contents that a stop inside call k of this host leaves
pub record IsLeft (k : ℕ) (choice : Choice) (m : MemHost) (left : Vec KeptDir) : Type 0 where
  pub logged : Logged
  pub call : slice_get m.calls.items k ≡ Some logged
  pub count : length left.items ≡ length m.dirs.items
  pub kept : (j : ℕ) → kept_at left.items j ≡ map_held (stopped_content choice.keep) (all_flight choice.done logged.request (run (start_of m) (take k m.calls.items)).now.kept j)

-- all that reads is certain, and nothing was said or recorded, nor has failed
pub record IsFresh (s : State) : Type 0 where
  pub disks : (j : ℕ) → disk_at s j ≡ all_certain (s.reads j)
  pub faults : (j : ℕ) → faults_at s j ≡ 0
  pub out_faults : s.now.out_faults ≡ 0
  pub said : s.now.said ≡ []
  pub ended : s.ended ≡ s.now
  pub trace : s.trace ≡ []
