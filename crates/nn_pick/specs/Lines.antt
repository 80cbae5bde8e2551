-- The line that is said of a refusal.
use Rattle.std.specs.Prelude.{ℕ, List, ◌++◌, codes}
use Rattle.std.specs.Fmt.{decimal, signed_decimal}
use Rattle.nn_marks.specs.Version.{name_of}
use Rattle.nn_state.specs.Words.{why_word}
use Rattle.nn_chain.specs.Words.{image_word}
use Rattle.nn_pick.specs.declared.refusal.Refusal.{Refusal}
use Rattle.nn_pick.specs.declared.refusal.Refusal.TheVariants.{Missing, Inconsistent, Formatted, NotFormatted, BadVersion, Mismatch, FutureLayout, ForeignLayout, NoImage, Gap, Spent, PreviousExists, CtimeSpent, NoPrevious, BadPrevious}
use Rattle.nn_pick.specs.Words.{previous_word}

abbrev pub refusal_line : Refusal → List ℕ
refusal_line (Missing i) = codes "refused missing " ++ (decimal i.0 ++ codes "\n")
refusal_line (Inconsistent i why) = codes "refused inconsistent " ++ (decimal i.0 ++ (codes " " ++ (why_word why ++ codes "\n")))
refusal_line (Formatted i) = codes "refused formatted " ++ (decimal i.0 ++ codes "\n")
refusal_line NotFormatted = codes "refused not-formatted\n"
refusal_line (BadVersion i fault) = codes "refused bad-version " ++ (decimal i.0 ++ codes "\n")
refusal_line (Mismatch first dir key) = codes "refused mismatch " ++ (decimal first.0 ++ (codes " " ++ (decimal dir.0 ++ (codes " " ++ (name_of key ++ codes "\n")))))
refusal_line (FutureLayout i found) = codes "refused future-layout " ++ (decimal i.0 ++ (codes " " ++ (signed_decimal found ++ codes "\n")))
refusal_line (ForeignLayout i found) = codes "refused foreign-layout " ++ (decimal i.0 ++ (codes " " ++ (signed_decimal found ++ codes "\n")))
refusal_line (NoImage i why) = codes "refused no-image " ++ (decimal i.0 ++ (codes " " ++ (image_word why ++ codes "\n")))
refusal_line (Gap seen last) = codes "refused gap " ++ (decimal seen ++ (codes " " ++ (decimal last ++ codes "\n")))
refusal_line (Spent last) = codes "refused spent " ++ (decimal last ++ codes "\n")
refusal_line (PreviousExists i) = codes "refused previous-exists " ++ (decimal i.0 ++ codes "\n")
refusal_line (CtimeSpent old) = codes "refused ctime-spent " ++ (decimal old ++ codes "\n")
refusal_line NoPrevious = codes "refused no-previous\n"
refusal_line (BadPrevious i why) = codes "refused bad-previous " ++ (decimal i.0 ++ (codes " " ++ (previous_word why ++ codes "\n")))
