-- The lines of a run over generated files: each is a change of the namespace.
use Rattle.std.specs.Prelude.{◌≡◌, ◌≤◌, ℕ, ◌^◌, false, true, All, List, [], ◌∷◌, ◌++◌, Some, Ok}
use Rattle.std.specs.List.{list_all}
use Rattle.nn_base.specs.Paths.{Bytes}
use Rattle.nn_ops.specs.declared.command.Command.{Command}
use Rattle.nn_script.specs.declared.command.ScriptCommand.TheVariants.{Namespace as Change}
use Rattle.nn_script.specs.Lines.{lines_of}
use Rattle.nn_script.specs.Reading.{reading_of}
use Rattle.nn_script.specs.Words.{is_line_byte}
use Rattle.nn_generate.specs.Generated.{script_of}
use Rattle.nn_run.specs.Running.{Sight, Missing, Asked}
use Rattle.nn_whole.specs.Leaving.{unreached}

-- nothing is seen of the directories
abbrev pub unseen : Sight
unseen = record { live = λ i. false; faults = λ i. 0; restored = Missing }

-- the lines of the script of so many files; a change is answered alike whatever is seen
abbrev pub generated : ℕ → List Asked
generated files = unreached unseen (lines_of (script_of files))

-- a line that asks for a change of the namespace
abbrev pub IsChangeLine : Bytes → Type 0
IsChangeLine line = (change : Command) × (reading_of line ≡ Ok (Some (Change change)))

-- ---- how such lines stand in a text

-- lines with a newline behind each
abbrev pub with_newlines : List Bytes → Bytes
with_newlines [] = []
with_newlines (line ∷ lines) = line ++ 10 ∷ with_newlines lines

-- a line of bytes that print, and that asks for a change
pub record IsGood (line : Bytes) : Type 0 where
  pub prints : list_all is_line_byte line ≡ true
  pub changes : IsChangeLine line

-- such lines and nothing else
pub record AreGood (text : Bytes) : Type 0 where
  pub whole : text ≡ with_newlines (lines_of text)
  pub each : All IsGood (lines_of text)

-- ---- a law

-- each line of a generated script does
abbrev pub GeneratedAreChanges : Type 0
GeneratedAreChanges = (files : ℕ) → files ≤ 2 ^ 32 → All IsChangeLine (lines_of (script_of files))
