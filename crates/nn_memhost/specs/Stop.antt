-- What a stop inside a recorded call leaves, by the choice of what took place and of what stays.
use Rattle.std.specs.Prelude.{◌≡◌, ◌⊎◌, ◌-◌, ◌/◌, ◌==◌, ℕ, Bool, List, [], ◌∷◌, ◌++◌, length, take, slice_index, slice_get, Some, option_map, if◌then◌else◌}
use Rattle.nn_host.specs.Disk.{Disk, Reads, File, Call, Look, MakeSub, MakeFile, Append, Sync, RenameFile, RenameSub, RemoveFile, RemoveSub, Settle, Leaves, carried_out}
use Rattle.nn_host.specs.Moments.{Moment, Event, On, Say, Entry, State, Stops}
use Rattle.nn_memhost.specs.declared.stop.Keep.{Keep}
use Rattle.nn_memhost.specs.declared.stop.Keep.TheVariants as keep
use Rattle.nn_memhost.specs.declared.stop.Choice.{Choice}
use Rattle.nn_memhost.specs.Content.{Content}

-- all bytes, with the bits of the last one turned over
abbrev pub turned : List ℕ → List ℕ
turned bytes = if length bytes == 0 then [] else take (length bytes - 1) bytes ++ (255 - slice_index bytes (length bytes - 1)) ∷ []

-- what stays of a file's bytes that weren't synced
abbrev pub stays : Keep → List ℕ → List ℕ
stays keep.Synced pending = []
stays keep.Half pending = take (length pending / 2) pending
stays keep.All pending = pending
stays keep.Torn pending = turned pending

-- how a disk reads after a stop
abbrev pub left_by : Keep → Disk → Reads
left_by keep d = record { root = d.root; has = d.has; file = λ s n. option_map (λ (f : File). f.synced ++ stays keep f.pending) (d.file s n) }

-- the disk inside a call, where its name, rename or removal took place or not; bytes of an append are handed over
abbrev pub in_flight : Bool → Call → Disk → Disk
in_flight done Look d = d
in_flight done (Sync s n) d = d
in_flight done Settle d = d
in_flight done (Append s n bytes) d = carried_out (Append s n bytes) d
in_flight done (MakeSub s) d = if done then carried_out (MakeSub s) d else d
in_flight done (MakeFile s n) d = if done then carried_out (MakeFile s n) d else d
in_flight done (RenameFile s a b) d = if done then carried_out (RenameFile s a b) d else d
in_flight done (RenameSub a b) d = if done then carried_out (RenameSub a b) d else d
in_flight done (RemoveFile s n) d = if done then carried_out (RemoveFile s n) d else d
in_flight done (RemoveSub s) d = if done then carried_out (RemoveSub s) d else d

abbrev pub flown : Bool → Event → ℕ → Disk → Disk
flown done (On i call) j d = if j == i then in_flight done call d else d
flown done (Say bytes) j d = d

-- the moment inside the call
abbrev pub moment_in : Bool → Entry → Moment
moment_in done e = record e.before { dirs = λ j. record { disk = flown done e.event j (e.before.dirs j).disk; faults = (e.before.dirs j).faults } }

-- the new contents are what a stop inside call k leaves
pub record IsStop (k : ℕ) (choice : Choice) (old new : State) : Type 0 where
  pub entry : Entry
  pub call : slice_get old.trace k ≡ Some entry
  pub inside : (moment_in choice.done entry ≡ entry.before) ⊎ Stops entry.event entry.before (moment_in choice.done entry)
  pub reads : (j : ℕ) → new.reads j ≡ left_by choice.keep ((moment_in choice.done entry).dirs j).disk
  pub leaves : (j : ℕ) → Leaves ((moment_in choice.done entry).dirs j).disk (new.reads j)
  pub count : new.count ≡ old.count

-- a file after a stop: what stays of it is synced
abbrev pub stopped_content : Keep → Content → Content
stopped_content keep c = record { bytes = c.synced ++ stays keep c.pending; synced = c.synced ++ stays keep c.pending; pending = [] }
