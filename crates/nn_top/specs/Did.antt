-- What a run of the program did, from its entry to its return: the table of commands.
use Rattle.std.specs.Prelude.{◌≡◌, ℕ, [], Some, None}
use Rattle.nn_base.specs.Paths.{Bytes}
use Rattle.nn_host.specs.Moments.{State}
use Rattle.nn_server.specs.declared.status.Status.{Status}
use Rattle.nn_server.specs.declared.status.Status.TheVariants.{Usage}
use Rattle.nn_server.specs.Came.{TouchesNoDir}
use Rattle.nn_server.specs.States.{StateRan, state_status}
use Rattle.nn_server.specs.Format.{FormatRan, format_status}
use Rattle.nn_server.specs.Dry.{DryRan}
use Rattle.nn_server.specs.Codes.{dry_status}
use Rattle.nn_generate.specs.Said.{GenerateRan, generate_status}
use Rattle.nn_top.specs.Wanted.{Wanted, States, Format, Dry, Generate, Run}
use Rattle.nn_top.specs.Closes.{Closes}
use Rattle.nn_top.specs.Ended.{Ended}
use Rattle.nn_top.specs.Runs.{RunDid, FillDid}

-- words without a reading: nothing is done but to say `usage`
pub record Unread (told : Type 0) (old new : State) (result : Status) : Type 0 where
  pub dirs : TouchesNoDir told old new
  pub closes : Closes told old.trace old new [] Usage result

-- what a run did that was asked for this; only `dry` and a `run` without generated lines read the source
abbrev pub Did : {Source : Type 0} → Type 0 → Type 0 → (Source → Bytes) → (Source → ℕ) → Wanted → Source → Source → State → State → Status → Type 0
Did told told_source left faults (States dirs) before after old new result = (after ≡ before) × Ended told old new state_status (StateRan told old new) result
Did told told_source left faults (Format cluster namespace dirs) before after old new result =
    (after ≡ before) × Ended told old new format_status (λ lines trace. FormatRan told cluster namespace old new lines) result
Did told told_source left faults Dry before after old new result = Ended told old new dry_status (DryRan told told_source (left before) (left after) (faults before) (faults after) old new) result
Did told told_source left faults (Generate count) before after old new result = (after ≡ before) × Ended told old new generate_status (GenerateRan told count old new) result
Did told told_source left faults (Run at None dirs) before after old new result = RunDid told told_source at (left before) (left after) (faults before) (faults after) old new result
Did told told_source left faults (Run at (Some files) dirs) before after old new result = (after ≡ before) × FillDid told at files old new result
