-- A short text in an array of a fixed size, with zeros behind it: the text gives the array back.
use Rattle.std.specs.Prelude.{◌≡◌, ℕ, ◌-◌, ◌≤◌, List, ◌++◌, length, take, drop, replicate}
use Rattle.std.proofs.Common.{sym, ap, subst, ◌∙◌}
use Rattle.std.proofs.lemmas.List.{take-append-drop, length-take-le}

pub record IsPadded (size : ℕ) (buffer : List ℕ) (len : ℕ) : Type 0 where
  pub size_is : length buffer ≡ size
  pub within : len ≤ size
  pub zeros : drop len buffer ≡ replicate (size - len) 0

-- the array that holds a text
abbrev pub padded : ℕ → List ℕ → List ℕ
padded size text = text ++ replicate (size - length text) 0

pub length-text : (size : ℕ) (buffer : List ℕ) (len : ℕ) → IsPadded size buffer len → length (take len buffer) ≡ len
length-text size buffer len h = length-take-le len buffer (subst (λ (n : ℕ). len ≤ n) (sym h.size_is) h.within)

pub padded-text : (size : ℕ) (buffer : List ℕ) (len : ℕ) → IsPadded size buffer len → padded size (take len buffer) ≡ buffer
padded-text size buffer len h =
    ap (λ n. take len buffer ++ replicate (size - n) 0) (length-text size buffer len h)
    ∙ ap (λ zeros. take len buffer ++ zeros) (sym h.zeros) ∙ take-append-drop len buffer
