-- How storage states, and the reasons why there is none, are spelled.
use Rattle.std.specs.Prelude.{ℕ, List, codes}
use Rattle.nn_state.specs.declared.state.StorageState.{StorageState}
use Rattle.nn_state.specs.declared.state.StorageState.TheVariants.{NonExistent, NotFormatted, Normal, CompleteUpgrade, RecoverUpgrade, CompleteFinalize, CompleteRollback, RecoverRollback, CompleteCheckpoint, RecoverCheckpoint}
use Rattle.nn_state.specs.declared.state.Why.{Why}
use Rattle.nn_state.specs.declared.state.Why.TheVariants.{PreviousAlone, SeveralTmp, FinalizedAndPrevious, UpgradeAndPrevious, RollbackBoth, RollbackNeither}

abbrev pub state_word : StorageState → List ℕ
state_word NonExistent = codes "NON_EXISTENT"
state_word NotFormatted = codes "NOT_FORMATTED"
state_word Normal = codes "NORMAL"
state_word CompleteUpgrade = codes "COMPLETE_UPGRADE"
state_word RecoverUpgrade = codes "RECOVER_UPGRADE"
state_word CompleteFinalize = codes "COMPLETE_FINALIZE"
state_word CompleteRollback = codes "COMPLETE_ROLLBACK"
state_word RecoverRollback = codes "RECOVER_ROLLBACK"
state_word CompleteCheckpoint = codes "COMPLETE_CHECKPOINT"
state_word RecoverCheckpoint = codes "RECOVER_CHECKPOINT"

abbrev pub why_word : Why → List ℕ
why_word PreviousAlone = codes "previous-alone"
why_word SeveralTmp = codes "several-tmp"
why_word FinalizedAndPrevious = codes "finalized-and-previous"
why_word UpgradeAndPrevious = codes "upgrade-and-previous"
why_word RollbackBoth = codes "rollback-both"
why_word RollbackNeither = codes "rollback-neither"
