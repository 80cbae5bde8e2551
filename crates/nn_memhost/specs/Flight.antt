-- What a directory that is kept in memory holds inside a call, and after a stop.
use Rattle.std.specs.Prelude.{ℕ, Bool, if◌then◌else◌}
use Rattle.nn_host.specs.Disk.{Held, Call, Look, MakeSub, MakeFile, Append, Sync, RenameFile, RenameSub, RemoveFile, RemoveSub, Settle}
use Rattle.nn_memhost.specs.declared.past.Part.TheVariants.{Nothing}
use Rattle.nn_memhost.specs.declared.past.Request.{Request}
use Rattle.nn_memhost.specs.declared.past.Request.TheVariants as request
use Rattle.nn_memhost.specs.Asked.{call_of}
use Rattle.nn_memhost.specs.Content.{Content}
use Rattle.nn_memhost.specs.Held.{kept_after, kept_part}
use Rattle.nn_memhost.specs.Past.{put_at}

-- a directory inside a call, as it is kept
abbrev pub kept_flight : Bool → Call → Held Content → Held Content
kept_flight done Look h = h
kept_flight done (Sync s n) h = h
kept_flight done Settle h = h
kept_flight done (Append s n bytes) h = if done then kept_after (Append s n bytes) h else kept_part Nothing (Append s n bytes) h
kept_flight done (MakeSub s) h = if done then kept_after (MakeSub s) h else h
kept_flight done (MakeFile s n) h = if done then kept_after (MakeFile s n) h else h
kept_flight done (RenameFile s a b) h = if done then kept_after (RenameFile s a b) h else h
kept_flight done (RenameSub a b) h = if done then kept_after (RenameSub a b) h else h
kept_flight done (RemoveFile s n) h = if done then kept_after (RemoveFile s n) h else h
kept_flight done (RemoveSub s) h = if done then kept_after (RemoveSub s) h else h

-- each directory inside a call
abbrev pub all_flight : Bool → Request → (ℕ → Held Content) → ℕ → Held Content
all_flight done (request.On i asked) kept = put_at i.0 (kept_flight done (call_of asked) (kept i.0)) kept
all_flight done (request.Say bytes) kept = kept
