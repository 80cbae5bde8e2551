-- Words that the laws of reading speak of.
use Rattle.std.specs.Prelude.{◌≡◌, ◌≢◌, ◌⊎◌, true, ◌≤◌, length, All, Bool, ◌&&◌, ◌||◌, not, IsTrue, List, [], ◌∷◌, ◌++◌, codes, Option, Some, None, option_and_then, if◌then◌else◌}
use Rattle.std.specs.List.{AllPairs, flat_map, list_all}
use Rattle.std.specs.Str.{bytes_eq}
use Rattle.nn_base.specs.Limits.{most_dirs}
use Rattle.nn_top.specs.Words.{Word, is_plain, can_stand_apart, is_among, are_dirs}
use Rattle.nn_top.specs.Wanted.{Wanted, States}
use Rattle.nn_top.specs.Commands.{once, cluster_in, namespace_in, format_for, at_in, generated_in, run_for, options_of, count_in, generate_for}
use Rattle.nn_top.specs.Begins.{IsEnd}

-- one to eight directories, none without a name, no two with the same
pub record AreDirs (dirs : List Word) : Type 0 where
  pub some : 1 ≤ length dirs
  pub few : length dirs ≤ most_dirs
  pub named : All (λ dir. dir ≢ []) dirs
  pub distinct : AllPairs (λ one other. one ≢ other) dirs

-- an option that this command takes
abbrev pub IsOption : Word → Word → Type 0
IsOption command option = IsTrue (is_among (options_of command) option)

-- no `--` is among the words
abbrev pub is_unmarked : List Word → Bool
is_unmarked words = list_all (λ word. not (bytes_eq word (codes "--"))) words

-- an option with its value, joined to one word or apart as two
pub record GivenOption : Type 0 where
  pub name : Word
  pub value : Word
  pub is_joined : Bool

-- it can be given to this command
abbrev pub can_be_given : Word → GivenOption → Bool
can_be_given command choice = is_among (options_of command) choice.name && (choice.is_joined || can_stand_apart choice.value)

abbrev pub words_of : GivenOption → List Word
words_of choice = if choice.is_joined then (choice.name ++ codes "=" ++ choice.value) ∷ [] else choice.name ∷ choice.value ∷ []

abbrev pub spelling : List GivenOption → List Word
spelling choices = flat_map words_of choices

-- the values that an option is given, in order
abbrev pub values_in : Word → List GivenOption → List Word
values_in option choices = flat_map (λ choice. if bytes_eq choice.name option then choice.value ∷ [] else []) choices

-- options, plain directories, options, and perhaps a last `--`
pub record IsSpelledAround (words : List Word) (choices : List GivenOption) (dirs : List Word) : Type 0 where
  pub front : List GivenOption
  pub back : List GivenOption
  pub end : List Word
  pub both : choices ≡ front ++ back
  pub plain : list_all is_plain dirs ≡ true
  pub ends : IsEnd end
  pub spelled : words ≡ spelling front ++ (dirs ++ (spelling back ++ end))

-- or options, `--`, and directories that may begin with `-`
abbrev pub IsSpelled : List Word → List GivenOption → List Word → Type 0
IsSpelled words choices dirs = IsSpelledAround words choices dirs ⊎ (words ≡ spelling choices ++ codes "--" ∷ dirs)

-- the commands that take options
abbrev pub TakesOptions : Word → Type 0
TakesOptions command = (command ≡ codes "format") ⊎ (command ≡ codes "run")

-- what `format` asks for with these options and directories
abbrev pub format_with : List GivenOption → List Word → Option Wanted
format_with choices dirs =
    if are_dirs dirs
    then format_for (option_and_then cluster_in (once (values_in (codes "--cluster") choices))) (option_and_then namespace_in (once (values_in (codes "--namespace") choices))) dirs
    else None

-- what `run` asks for with these
abbrev pub run_with : List GivenOption → List Word → Option Wanted
run_with choices dirs = if are_dirs dirs then run_for (at_in (values_in (codes "--at") choices)) (generated_in (values_in (codes "--generate") choices)) dirs else None

-- what such a command asks for with them
abbrev pub asked_with : Word → List GivenOption → List Word → Option Wanted
asked_with command choices dirs = if bytes_eq command (codes "format") then format_with choices dirs else if bytes_eq command (codes "run") then run_with choices dirs else None

-- plain directories, and perhaps a last `--`, or `--` and directories that may begin with `-`
abbrev pub AreSpelled : List Word → List Word → Type 0
AreSpelled words dirs = ((list_all is_plain dirs ≡ true) × (end : List Word) × IsEnd end × (words ≡ dirs ++ end)) ⊎ (words ≡ codes "--" ∷ dirs)

-- what `state` asks for with these directories
abbrev pub states_with : List Word → Option Wanted
states_with dirs = if are_dirs dirs then Some (States dirs) else None

-- what `generate` asks for with this number
abbrev pub generate_with : Word → Option Wanted
generate_with number = generate_for (count_in number)
