-- The copies so far have the texts of the words so far.
use Rattle.std.proofs.Common.{◌≡◌, take}
use Rattle.nn_top.specs.Words.{texts}
use Rattle.nn_top.proofs.words.copied.Given as goal

abbrev pub invariant-loop-word : goal.invariant-loop-word
invariant-loop-word l = texts l.copies.items ≡ texts (take l.word-index l.words)
