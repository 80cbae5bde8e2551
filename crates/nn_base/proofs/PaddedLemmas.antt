-- A text that is copied to the front of an array of zeros.
use Rattle.std.proofs.Common.{◌≡◌, ℕ, ◌≤◌, List, ◌++◌, length, take, drop, replicate, ap, ◌∙◌, arith}
use Rattle.std.proofs.lemmas.List.{length-append, length-drop, length-replicate, take_at, drop_at, drop-replicate}
use Rattle.nn_base.specs.Padded.{IsPadded}

pub copied : (size : ℕ) (text front : List ℕ) → front ≡ text → length text ≤ size → IsPadded size (front ++ drop (length text) (replicate size 0)) (length text)
copied size text front e fits = record {
  size_is = omega (arith, length-append front (drop (length text) (replicate size 0)), length-drop {A = ℕ} (length text) (replicate size 0), length-replicate {A = ℕ} size 0, ap length e);
  within = fits;
  zeros = drop_at front _ (length text) (ap length e) ∙ drop-replicate (length text) size 0;
}

pub text_of_copied : (text front back : List ℕ) → front ≡ text → take (length text) (front ++ back) ≡ text
text_of_copied text front back e = take_at front back (length text) (ap length e) ∙ e
