-- What the arguments of a command say, from left to right, or the first fault among them.
use Rattle.std.specs.Prelude.{◌≡◌, ◌≢◌, ℕ, ◌&&◌, nat_le, List, [], ◌∷◌, length, codes, Option, Some, None, Result, Ok, Err, if◌then◌else◌}
use Rattle.std.specs.Option.{ok_or}
use Rattle.std.specs.Str.{bytes_eq}
use Rattle.nn_base.specs.Limits.{most_label}
use Rattle.nn_base.specs.Paths.{Bytes, Names}
use Rattle.nn_base.specs.Decimal.{number_in}
use Rattle.nn_base.specs.PathText.{fault_of, parts_of}
use Rattle.nn_base.specs.declared.path.fault.PathFault.{PathFault}
use Rattle.nn_base.specs.declared.path.fault.PathFault.TheVariants as path
use Rattle.nn_script.specs.declared.syntax.Syntax.{Syntax}
use Rattle.nn_script.specs.declared.syntax.Syntax.TheVariants.{Words, Number, Mode, Escape, Name, Path, Memory}
use Rattle.nn_script.specs.Words.{mode_in, unescaped}

-- a step, and the next one where it has no fault
infixl 10 ◌>>=◌
abbrev pub ◌>>=◌ : {A B : Type 0} → Result A Syntax → (A → Result B Syntax) → Result B Syntax
Ok x >>= next = next x
Err fault >>= next = Err fault

-- what was answered, seen by view, is what is read; want of memory may come at any time, and is told as itself
abbrev pub Fails : {Y : Type 0} → Syntax → Result Y Syntax → Type 0
Fails fault read = (fault ≢ Path path.Memory) × (fault ≢ Memory → read ≡ Err fault)

abbrev pub Gives : {X Y : Type 0} → (X → Y) → Result X Syntax → Result Y Syntax → Type 0
Gives view (Ok x) read = read ≡ Ok (view x)
Gives view (Err fault) read = Fails fault read

-- ---- how many there are

abbrev pub no_word : List Bytes → Result (Unit {0}) Syntax
no_word [] = Ok tt
no_word (word ∷ rest) = Err Words

abbrev pub one_word : List Bytes → Result Bytes Syntax
one_word [] = Err Words
one_word (word ∷ rest) = no_word rest >>= (λ _. Ok word)

abbrev pub two_words : List Bytes → Result (Bytes × Bytes) Syntax
two_words [] = Err Words
two_words (word ∷ rest) = one_word rest >>= (λ other. Ok (word, other))

abbrev pub three_words : List Bytes → Result (Bytes × Bytes × Bytes) Syntax
three_words [] = Err Words
three_words (word ∷ rest) = two_words rest >>= (λ others. Ok (word, others.0, others.1))

-- ---- what one says

abbrev pub number_at : Bytes → Result ℕ Syntax
number_at word = ok_or (number_in word) Number

abbrev pub mode_at : Bytes → Result ℕ Syntax
mode_at word = ok_or (mode_in word) Mode

-- a number, or a `-` for no quota
abbrev pub quota_at : Bytes → Result (Option ℕ) Syntax
quota_at word = if bytes_eq word (codes "-") then Ok None else number_at word >>= (λ number. Ok (Some number))

abbrev pub text_at : Bytes → Result Bytes Syntax
text_at word = ok_or (unescaped word) Escape

-- an owner or a group has 1 to 32 bytes
abbrev pub label_of : Bytes → Result Bytes Syntax
label_of text = if nat_le 1 (length text) && nat_le (length text) most_label then Ok text else Err Name

abbrev pub label_at : Bytes → Result Bytes Syntax
label_at word = text_at word >>= label_of

abbrev pub path_by : Option PathFault → Names → Result Names Syntax
path_by None names = Ok names
path_by (Some fault) names = Err (Path fault)

abbrev pub path_of : Bytes → Result Names Syntax
path_of text = path_by (fault_of text) (parts_of text)

-- a path is read behind its escapes, so an escaped `/` separates too
abbrev pub path_at : Bytes → Result Names Syntax
path_at word = text_at word >>= path_of

-- ---- what all say

abbrev pub one : {A : Type 0} → (Bytes → Result A Syntax) → List Bytes → Result A Syntax
one first words = one_word words >>= first

abbrev pub two : {A B : Type 0} → (Bytes → Result A Syntax) → (Bytes → Result B Syntax) → List Bytes → Result (A × B) Syntax
two first second words = two_words words >>= (λ w. first w.0 >>= (λ x. second w.1 >>= (λ y. Ok (x, y))))

abbrev pub three : {A B C : Type 0} → (Bytes → Result A Syntax) → (Bytes → Result B Syntax) → (Bytes → Result C Syntax) → List Bytes → Result (A × B × C) Syntax
three first second third words = three_words words >>= (λ w. first w.0 >>= (λ x. second w.1 >>= (λ y. third w.2 >>= (λ z. Ok (x, y, z)))))
