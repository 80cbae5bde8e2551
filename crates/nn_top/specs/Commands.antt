-- What the words of the command line ask for.
use Rattle.std.specs.Prelude.{◌≡◌, ℕ, ◌&&◌, nat_le, List, [], ◌∷◌, codes, Option, Some, None, option_and_then, option_map, if◌then◌else◌}
use Rattle.std.specs.Str.{bytes_eq}
use Rattle.nn_base.specs.Decimal.{number_in}
use Rattle.nn_base.specs.Words.{is_word}
use Rattle.nn_generate.specs.Generated.{most_files}
use Rattle.nn_top.specs.declared.words.Command.{Command}
use Rattle.nn_top.specs.declared.words.Command.TheVariants as command
use Rattle.nn_top.specs.Wanted.{Wanted, States, Format, Dry, Generate, Run}
use Rattle.nn_top.specs.Words.{Word, texts, are_dirs}
use Rattle.nn_top.specs.Parts.{Part, Given, Dir, Mark, Stray, parts_of, is_line, no_dirs, dirs_among, values_of}

-- `state` takes directories alone
abbrev pub states_in : List Part → Option Wanted
states_in parts = if is_line parts && are_dirs (dirs_among parts) then Some (States (dirs_among parts)) else None

-- `dry` takes neither directories nor options
abbrev pub dry_in : List Part → Option Wanted
dry_in parts = if is_line parts && no_dirs parts then Some Dry else None

-- a script is made for one file at least
abbrev pub count_of : ℕ → Option ℕ
count_of number = if nat_le 1 number && nat_le number most_files then Some number else None

abbrev pub count_in : Word → Option ℕ
count_in word = option_and_then count_of (number_in word)

abbrev pub generate_for : Option ℕ → Option Wanted
generate_for None = None
generate_for (Some count) = Some (Generate count)

-- `generate` takes a number, which stands first, and neither directories nor options
abbrev pub generate_in : List Part → Option Wanted
generate_in [] = None
generate_in (Dir number ∷ parts) = if is_line parts && no_dirs parts then generate_for (count_in number) else None
generate_in (Given name value ∷ parts) = None
generate_in (Mark ∷ parts) = None
generate_in (Stray ∷ parts) = None

-- the value of an option that is given once
abbrev pub once : List Word → Option Word
once [] = None
once (value ∷ []) = Some value
once (value ∷ other ∷ values) = None

abbrev pub cluster_in : Word → Option Word
cluster_in word = if is_word word then Some word else None

-- a namespace has a number from 1 to Java's largest `int`
abbrev pub namespace_of : ℕ → Option ℕ
namespace_of number = if nat_le 1 number && nat_le number 2147483647 then Some number else None

abbrev pub namespace_in : Word → Option ℕ
namespace_in word = option_and_then namespace_of (number_in word)

abbrev pub format_for : Option Word → Option ℕ → List Word → Option Wanted
format_for None namespace dirs = None
format_for (Some cluster) None dirs = None
format_for (Some cluster) (Some namespace) dirs = Some (Format cluster namespace dirs)

-- `format` takes directories, a cluster's id and a namespace's number
abbrev pub format_in : List Part → Option Wanted
format_in parts =
    if is_line parts && are_dirs (dirs_among parts)
    then format_for (option_and_then cluster_in (once (values_of (codes "--cluster") parts))) (option_and_then namespace_in (once (values_of (codes "--namespace") parts))) (dirs_among parts)
    else None

abbrev pub format_options : List Word
format_options = codes "--cluster" ∷ codes "--namespace" ∷ []

-- the clock as a run starts: 0, where the words don't give it
abbrev pub at_in : List Word → Option ℕ
at_in [] = Some 0
at_in (value ∷ []) = number_in value
at_in (value ∷ other ∷ values) = None

-- for how many files its lines are generated: for none, where the words don't say it
abbrev pub generated_in : List Word → Option (Option ℕ)
generated_in [] = Some None
generated_in (value ∷ []) = option_map Some (count_in value)
generated_in (value ∷ other ∷ values) = None

abbrev pub run_for : Option ℕ → Option (Option ℕ) → List Word → Option Wanted
run_for None generated dirs = None
run_for (Some at) None dirs = None
run_for (Some at) (Some generated) dirs = Some (Run at generated dirs)

-- `run` takes directories, and perhaps a time and a number of files
abbrev pub run_in : List Part → Option Wanted
run_in parts =
    if is_line parts && are_dirs (dirs_among parts)
    then run_for (at_in (values_of (codes "--at") parts)) (generated_in (values_of (codes "--generate") parts)) (dirs_among parts)
    else None

abbrev pub run_options : List Word
run_options = codes "--at" ∷ codes "--generate" ∷ []

-- the options that a command takes
abbrev pub options_of : Word → List Word
options_of command = if bytes_eq command (codes "format") then format_options else if bytes_eq command (codes "run") then run_options else []

-- what the words ask for, if they have a reading
abbrev pub wanted_by : List Word → Option Wanted
wanted_by [] = None
wanted_by (command ∷ words) =
    if bytes_eq command (codes "state") then states_in (parts_of [] words)
    else if bytes_eq command (codes "format") then format_in (parts_of format_options words)
    else if bytes_eq command (codes "dry") then dry_in (parts_of [] words)
    else if bytes_eq command (codes "generate") then generate_in (parts_of [] words)
    else if bytes_eq command (codes "run") then run_in (parts_of run_options words)
    else None

abbrev pub HaveNoReading : List Word → Type 0
HaveNoReading words = wanted_by words ≡ None

-- what a command that was read does
abbrev pub wanted_in : Command → Wanted
wanted_in (command.State dirs) = States (texts dirs.now)
wanted_in (command.Format cluster namespace dirs) = Format cluster namespace (texts dirs.now)
wanted_in command.Dry = Dry
wanted_in (command.Generate count) = Generate count
wanted_in (command.Run at generated dirs) = Run at generated (texts dirs.now)
