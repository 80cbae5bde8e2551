-- What a line of a script says, or the first thing that is wrong with it.
use Rattle.std.specs.Prelude.{ℕ, ◌^◌, ◌<◌, not, ◌==◌, nat_lt, List, [], ◌∷◌, length, Option, Some, None, Result, Ok, Err, if◌then◌else◌}
use Rattle.std.specs.List.{list_all, list_any}
use Rattle.std.specs.Option.{ok_or}
use Rattle.nn_base.specs.Limits.{most_line, IsLong}
use Rattle.nn_base.specs.Paths.{Bytes}
use Rattle.nn_quota.specs.declared.quota.Quota.{Quota}
use Rattle.nn_ops.specs.declared.command.Command.{Command}
use Rattle.nn_ops.specs.declared.command.Command.TheVariants as change
use Rattle.nn_ops.specs.Commands.{IsCommand}
use Rattle.nn_script.specs.declared.command.ScriptCommand.{ScriptCommand}
use Rattle.nn_script.specs.declared.command.ScriptCommand.TheVariants as command
use Rattle.nn_script.specs.declared.syntax.Syntax.{Syntax}
use Rattle.nn_script.specs.declared.syntax.Syntax.TheVariants.{Long, Byte, Words, Unknown}
use Rattle.nn_script.specs.declared.verb.Verb.{Verb}
use Rattle.nn_script.specs.declared.verb.Verb.TheVariants.{Change, Clock, List as ListVerb, Dirs, Roll, Checkpoint, Finalize, Restore}
use Rattle.nn_script.specs.declared.verb.Change.{Change as ChangeVerb}
use Rattle.nn_script.specs.declared.verb.Change.TheVariants as verb
use Rattle.nn_script.specs.Lines.{has_no_answer}
use Rattle.nn_script.specs.Words.{words, is_line_byte}
use Rattle.nn_script.specs.Verbs.{verb_of}
use Rattle.nn_script.specs.Arguments.{◌>>=◌, no_word, one, two, three, number_at, mode_at, quota_at, label_at, path_at}

-- ---- the commands

-- the ranges of the numbers in a command
abbrev pub IsInRange : ScriptCommand → Type 0
IsInRange (command.Namespace change) = IsCommand change
IsInRange (command.Clock time) = IsLong time
IsInRange (command.List path) = Unit {0}
IsInRange command.Dirs = Unit {0}
IsInRange command.Roll = Unit {0}
IsInRange command.Checkpoint = Unit {0}
IsInRange command.Finalize = Unit {0}
IsInRange (command.Restore dir) = IsLong dir

abbrev pub quota_of : Option ℕ → Option ℕ → Quota
quota_of names space = record { names = names; space = space }

-- the change that is asked for with the arguments behind its word
abbrev pub change_by : ChangeVerb → List Bytes → Result Command Syntax
change_by verb.Mkdir args = one path_at args >>= (λ path. Ok (change.Mkdir path))
change_by verb.Create args = two path_at number_at args >>= (λ x. Ok (change.Create x.0 x.1))
change_by verb.Block args = two path_at number_at args >>= (λ x. Ok (change.AddBlock x.0 x.1))
change_by verb.Close args = one path_at args >>= (λ path. Ok (change.Close path))
change_by verb.Delete args = one path_at args >>= (λ path. Ok (change.Delete path))
change_by verb.Rename args = two path_at path_at args >>= (λ x. Ok (change.Rename x.0 x.1))
change_by verb.Chmod args = two path_at mode_at args >>= (λ x. Ok (change.Chmod x.0 x.1))
change_by verb.Chown args = three path_at label_at label_at args >>= (λ x. Ok (change.Chown x.0 x.1 x.2))
change_by verb.Quota args = three path_at quota_at quota_at args >>= (λ x. Ok (change.SetQuota x.0 (quota_of x.1 x.2)))
change_by verb.Setrep args = two path_at number_at args >>= (λ x. Ok (change.Setrep x.0 x.1))

-- a command without arguments
abbrev pub bare : ScriptCommand → List Bytes → Result ScriptCommand Syntax
bare command args = no_word args >>= (λ _. Ok command)

abbrev pub command_by : Verb → List Bytes → Result ScriptCommand Syntax
command_by (Change change) args = change_by change args >>= (λ change. Ok (command.Namespace change))
command_by Clock args = one number_at args >>= (λ time. Ok (command.Clock time))
command_by ListVerb args = one path_at args >>= (λ path. Ok (command.List path))
command_by Dirs args = bare command.Dirs args
command_by Roll args = bare command.Roll args
command_by Checkpoint args = bare command.Checkpoint args
command_by Finalize args = bare command.Finalize args
command_by Restore args = one number_at args >>= (λ dir. Ok (command.Restore dir))

abbrev pub command_in : List Bytes → Result ScriptCommand Syntax
command_in [] = Err Unknown
command_in (word ∷ args) = ok_or (verb_of word) Unknown >>= (λ verb. command_by verb args)

-- ---- the line

abbrev pub command_on : Bytes → Result ScriptCommand Syntax
command_on line =
    if nat_lt most_line (length line) then Err Long
    else if not (list_all is_line_byte line) then Err Byte
    else if list_any (λ word. length word == 0) (words line) then Err Words
    else command_in (words line)

-- nothing, where the line has no answer
unfoldable pub reading_of : Bytes → Result (Option ScriptCommand) Syntax
reading_of line = if has_no_answer line then Ok None else command_on line >>= (λ command. Ok (Some command))
