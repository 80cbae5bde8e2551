-- The bytes that a word with escapes stands for, part by part.
use Rattle.std.proofs.Common.{◌≡◌, ℕ, ◌==◌, false, List, [], ◌∷◌, ◌++◌, Option, Some, None, Result, sym, ap, ◌∙◌, refl, subst, append_assoc, append-nil}
use Rattle.std.specs.Prelude.{map, option_map}
use Rattle.std.specs.Option.{ok_or}
use Rattle.std.specs.List.{slice_split, list_any}
use Rattle.std.proofs.lemmas.Bool.{or_parts}
use Rattle.nn_base.specs.Paths.{Bytes}
use Rattle.nn_script.specs.declared.syntax.Syntax.{Syntax}
use Rattle.nn_script.specs.declared.syntax.Syntax.TheVariants.{Escape}
use Rattle.nn_script.specs.Words.{unescaped_part, unescaped_parts, joined, unescaped}
use Rattle.nn_script.specs.Arguments.{◌>>=◌, text_at}
use Rattle.nn_script.proofs.ReadingLemmas.{step_ok}

-- a text so far, with the bytes of the parts that are left behind it
abbrev pub with_parts : Bytes → List Bytes → Option Bytes
with_parts text parts = option_map (λ rest. text ++ rest) (joined (map unescaped_part parts))

pub first_part : (word first : Bytes) (parts : List Bytes) → slice_split (λ byte. byte == 37) word ≡ first ∷ parts → with_parts first parts ≡ unescaped word
unfolding unescaped
first_part word first parts e = rw e refl

onto_parts : (text part : Bytes) (rest : Option Bytes) → option_map (λ r. text ++ r) (option_map (λ r. part ++ r) rest) ≡ option_map (λ r. (text ++ part) ++ r) rest
onto_parts text part None = refl
onto_parts text part (Some rest) = ap Some (sym (append_assoc text part rest))

-- one part more is read
pub part_more : (text part plain : Bytes) (byte : ℕ) (parts : List Bytes) → unescaped_part part ≡ Some (byte ∷ plain) → with_parts text (part ∷ parts) ≡ with_parts ((text ++ byte ∷ []) ++ plain) parts
part_more text part plain byte parts e =
    rw e (onto_parts text (byte ∷ plain) (joined (map unescaped_part parts)) ∙ ap (λ front. option_map (λ r. front ++ r) (joined (map unescaped_part parts))) (sym (append_assoc text (byte ∷ []) plain)))

-- a part that is none
pub part_missing : (text part : Bytes) (parts : List Bytes) → unescaped_part part ≡ None → with_parts text (part ∷ parts) ≡ None
part_missing text part parts e = rw e refl

-- no part is left
pub parts_end : (text : Bytes) → with_parts text [] ≡ Some text
parts_end text = ap Some (append-nil text)

-- ---- a word without a `%`

one_part : (word : Bytes) → list_any (λ byte. byte == 37) word ≡ false → slice_split (λ byte. byte == 37) word ≡ word ∷ []
one_part [] h = refl
one_part (b ∷ word) h =
    let e = or_parts (b == 37) (list_any (λ byte. byte == 37) word) h in
    let more = one_part word e.1 in
    rw (e.0, more) refl

stands_for_itself : (word : Bytes) → list_any (λ byte. byte == 37) word ≡ false → unescaped word ≡ Some word
unfolding unescaped
stands_for_itself word h = ap unescaped_parts (one_part word h) ∙ ap Some (append-nil word)

pub as_it_is : {A : Type 0} (P : Result A Syntax → Type 0) (word : Bytes) (next : Bytes → Result A Syntax) → list_any (λ byte. byte == 37) word ≡ false → P (next word) → P (text_at word >>= next)
as_it_is P word next h here = subst P (sym (step_ok (text_at word) word next (ap (λ text. ok_or text Escape) (stands_for_itself word h)))) here
