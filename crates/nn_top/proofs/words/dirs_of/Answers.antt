-- A command that was read has its directories.
use Rattle.std.proofs.Common.{◌≡◌, sym, ◌∙◌, Option, Some, None}
use Rattle.nn_top.specs.Commands.{wanted_in}
use Rattle.nn_top.proofs.words.dirs_of.Goals as goal

some_and_none : {A : Type 0} {read : Option A} {x : A} → read ≡ Some x → read ≡ None → ⊥
some_and_none some none = let no : Some _ ≡ None = sym some ∙ none in cc

pub returns-in-Ok-clause-ok : goal.returns-in-Ok-clause-ok
returns-in-Ok-clause-ok c = (wanted_in c.in-Some.command, c.in-Some.ensures.some, c.in-Ok.ensures ∙ c.dirs.ensures)

pub returns-in-Ok-clause-usage : goal.returns-in-Ok-clause-usage
returns-in-Ok-clause-usage c = (λ usage. absurd (cc), λ none. absurd (some_and_none c.in-Some.ensures.some none))

pub returns-in-Err-clause-usage : goal.returns-in-Err-clause-usage
returns-in-Err-clause-usage c = (λ usage. absurd (cc), λ none. absurd (some_and_none c.in-Some.ensures.some none))
