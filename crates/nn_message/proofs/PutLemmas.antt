-- What was appended in turn, and a message that was delimited then.
use Rattle.std.proofs.Common.{◌≡◌, ℕ, List, ◌++◌, length, take, drop, ap, sym, [], ◌∙◌}
use Rattle.std.proofs.Math.Seq.{take-append_seam, drop-append_seam}
use Rattle.std.proofs.lemmas.List.{append_assoc, append-nil}
use Rattle.nn_message.specs.Spelling.{delimited}

pub closed : (old now new message : List ℕ) (at : ℕ) → at ≡ length old → now ≡ old ++ message → new ≡ take at now ++ delimited (drop at now) → new ≡ old ++ delimited message
closed old now new message at start put is =
    is ∙ (λ j. take (start j) (put j) ++ delimited (drop (start j) (put j)))
    ∙ (λ j. take-append_seam old message j ++ delimited (drop-append_seam old message j))

pub put_four : (old one two three four a b c d : List ℕ) → one ≡ old ++ a → two ≡ one ++ b → three ≡ two ++ c → four ≡ three ++ d → four ≡ old ++ (a ++ (b ++ (c ++ (d ++ []))))
put_four old one two three four a b c d e f g h =
    h ∙ ap (λ t. t ++ d) (g ∙ ap (λ t. t ++ c) (f ∙ ap (λ t. t ++ b) e))
    ∙ append_assoc (old ++ a ++ b) c d ∙ append_assoc (old ++ a) b (c ++ d) ∙ append_assoc old a (b ++ (c ++ d))
    ∙ ap (λ t. old ++ (a ++ (b ++ (c ++ t)))) (sym (append-nil d))
