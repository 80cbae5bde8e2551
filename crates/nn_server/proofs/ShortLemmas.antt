-- The lines of commands are short.
use Rattle.std.proofs.Common.{◌≤◌, ◌<◌, ◌++◌, ℕ, List, length, codes, Result, Ok, Err, refl, arith, length-append}
use Rattle.std.specs.Fmt.{decimal}
use Rattle.std.proofs.lemmas.Bool.{leb-true}
use Rattle.std.proofs.lemmas.Fmt.{length-decimal-le}
use Rattle.nn_host.specs.Calls.{most_said}
use Rattle.nn_state.specs.declared.state.StorageState.{StorageState}
use Rattle.nn_state.specs.declared.state.StorageState.TheVariants.{NonExistent, NotFormatted, Normal, CompleteUpgrade, RecoverUpgrade, CompleteFinalize, CompleteRollback, RecoverRollback, CompleteCheckpoint, RecoverCheckpoint}
use Rattle.nn_state.specs.declared.state.Why.{Why}
use Rattle.nn_state.specs.declared.state.Why.TheVariants.{PreviousAlone, SeveralTmp, FinalizedAndPrevious, UpgradeAndPrevious, RollbackBoth, RollbackNeither}
use Rattle.nn_state.specs.Words.{state_word, why_word}
use Rattle.nn_server.specs.Lines.{state_line}

pub digits_short : (i : ℕ) → i < 256 → length (decimal i) ≤ 3
digits_short i below = length-decimal-le 3 i (omega arith) (omega arith) (omega arith)

state_word_short : (state : StorageState) → length (state_word state) ≤ 32
state_word_short NonExistent = leb-true _ _ refl
state_word_short NotFormatted = leb-true _ _ refl
state_word_short Normal = leb-true _ _ refl
state_word_short CompleteUpgrade = leb-true _ _ refl
state_word_short RecoverUpgrade = leb-true _ _ refl
state_word_short CompleteFinalize = leb-true _ _ refl
state_word_short CompleteRollback = leb-true _ _ refl
state_word_short RecoverRollback = leb-true _ _ refl
state_word_short CompleteCheckpoint = leb-true _ _ refl
state_word_short RecoverCheckpoint = leb-true _ _ refl

why_word_short : (why : Why) → length (why_word why) ≤ 32
why_word_short PreviousAlone = leb-true _ _ refl
why_word_short SeveralTmp = leb-true _ _ refl
why_word_short FinalizedAndPrevious = leb-true _ _ refl
why_word_short UpgradeAndPrevious = leb-true _ _ refl
why_word_short RollbackBoth = leb-true _ _ refl
why_word_short RollbackNeither = leb-true _ _ refl

-- four parts of a line
parts_short : (number gap word end : List ℕ) → length number ≤ 3 → length gap ≤ 32 → length word ≤ 32 → length end ≤ 1 → length (number ++ (gap ++ (word ++ end))) ≤ most_said
parts_short number gap word end n g w e = omega (arith, n, g, w, e, length-append number (gap ++ (word ++ end)), length-append gap (word ++ end), length-append word end)

pub state_line_short : (i : ℕ) → i < 256 → (it : Result StorageState Why) → length (state_line i it) ≤ most_said
state_line_short i below (Ok state) = parts_short (decimal i) (codes " ") (state_word state) (codes "\n") (digits_short i below) (leb-true _ _ refl) (state_word_short state) (leb-true _ _ refl)
state_line_short i below (Err why) = parts_short (decimal i) (codes " inconsistent ") (why_word why) (codes "\n") (digits_short i below) (leb-true _ _ refl) (why_word_short why) (leb-true _ _ refl)
