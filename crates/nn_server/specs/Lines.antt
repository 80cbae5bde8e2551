-- The lines that commands on directories say.
use Rattle.std.specs.Prelude.{ℕ, ◌++◌, codes, Result, Ok, Err}
use Rattle.std.specs.Fmt.{decimal}
use Rattle.nn_base.specs.Paths.{Bytes}
use Rattle.nn_state.specs.declared.state.StorageState.{StorageState}
use Rattle.nn_state.specs.declared.state.Why.{Why}
use Rattle.nn_state.specs.Words.{state_word, why_word}

-- `I STATE` or `I inconsistent WHY`, for directory i
abbrev pub state_line : ℕ → Result StorageState Why → Bytes
state_line i (Ok state) = decimal i ++ (codes " " ++ (state_word state ++ codes "\n"))
state_line i (Err why) = decimal i ++ (codes " inconsistent " ++ (why_word why ++ codes "\n"))

-- `formatted COUNT`, for so many directories
abbrev pub formatted_line : ℕ → Bytes
formatted_line count = codes "formatted " ++ (decimal count ++ codes "\n")
