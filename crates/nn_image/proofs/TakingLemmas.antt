-- A call that takes a message off the front takes the first of those that the bytes spell.
use Rattle.std.proofs.Common.{◌≡◌, ◌≢◌, ℕ, List, [], ◌∷◌, ◌++◌, ◌+◌, ◌*◌, length, Bool, true, false, refl, sym, ap, ◌∙◌, arith, length-append}
use Rattle.std.specs.Prelude.{All, ◌==◌, Option, Some, None}
use Rattle.std.specs.List.{flat_map}
use Rattle.std.proofs.lemmas.Option.{none-some}
use Rattle.std.proofs.lemmas.List.Elements.{All-head, All-tail}
use Rattle.std.proofs.lemmas.Bool.{eqb-true, eq-eqb, false≢true}
use Rattle.nn_base.specs.Paths.{Bytes}
use Rattle.nn_wire.proofs.SpellingLemmas.{varint_some}
use Rattle.nn_wire.specs.Varint.{varint}
use Rattle.nn_wire.specs.Field.{bytes_field}
use Rattle.nn_message.specs.Spelling.{delimited}
use Rattle.nn_message.specs.Reading.{Takes}

-- the first of the messages, a view of it, and the others
pub record TakesFirst {V X : Type 0} (IsView : V → X → Type 0) (Is : X → Type 0) (text : X → Bytes) (xs : List X) (result : Option V) (new : Bytes) : Type 0 where
  pub first : X
  pub rest : List X
  pub are : xs ≡ first ∷ rest
  pub view : V
  pub is : result ≡ Some view
  pub shows : IsView view first
  pub left : new ≡ flat_map text rest
  pub range : Is first
  pub others : All Is rest

pub takes_first : {V X : Type 0} (IsView : V → X → Type 0) (Is : X → Type 0) (text : X → Bytes) (xs : List X) (result : Option V) (old new : Bytes)
    → All Is xs → old ≡ flat_map text xs → length old ≢ 0 → Takes IsView Is text result old new → TakesFirst IsView Is text xs result new
takes_first IsView Is text [] result old new all spelled some takes = absurd (some (ap length spelled))
takes_first IsView Is text (x ∷ xs) result old new all spelled some takes =
    let range = All-head Is x xs all in
    let found = takes.again x (flat_map text xs) range spelled in
    record { first = x; rest = xs; are = refl; view = found.0; is = found.1; shows = found.2; left = found.3; range = range; others = All-tail Is x xs all }

-- no bytes are left where nothing is spelled
pub none_left : {X : Type 0} (Is : X → Type 0) (text : X → Bytes) (xs : List X) → ((x : X) → Is x → length (text x) ≢ 0) → All Is xs → length (flat_map text xs) ≡ 0 → xs ≡ []
none_left Is text [] some all none = refl
none_left Is text (x ∷ xs) some all none = absurd (some x (All-head Is x xs all) (omega (arith, length-append (text x) (flat_map text xs))))

-- ---- what a test for no bytes says

pub is_none : {A : Type 0} (xs : List A) (b : Bool) → b ≡ (length xs == 0) → b ≡ true → length xs ≡ 0
is_none xs b is test = eqb-true (length xs) 0 (sym is ∙ test)

pub is_not_none : {A : Type 0} (xs : List A) (b : Bool) → b ≡ (length xs == 0) → b ≡ false → length xs ≢ 0
is_not_none xs b is test none = false≢true (sym test ∙ is ∙ eq-eqb (length xs) 0 none)

pub delimited_some : (message : Bytes) → length (delimited message) ≢ 0
unfolding delimited
delimited_some message none = absurd (omega (arith, varint_some (length message), length-append (varint (length message)) message))

pub field_some : (number : ℕ) (content : Bytes) → length (bytes_field number content) ≢ 0
field_some number content none = absurd (omega (arith, varint_some (8 * number + 2), length-append (varint (8 * number + 2)) (varint (length content) ++ content)))

-- bytes begin with a message, and so there are some
pub begins_some : (message old new : Bytes) → old ≡ delimited message ++ new → length old ≢ 0
begins_some message old new begins none =
    let some = delimited_some message in
    let length_is = ap length begins in
    let sum = length-append (delimited message) new in
    some (omega (arith, length_is, sum, none))

-- nothing is spelled where nothing was taken
pub nothing_taken : {V X : Type 0} (IsView : V → X → Type 0) (Is : X → Type 0) (text : X → Bytes) (xs : List X) (result : Option V) (old new : Bytes) → All Is xs → old ≡ flat_map text xs → result ≡ None → Takes IsView Is text result old new → xs ≡ []
nothing_taken IsView Is text [] result old new all spelled none takes = refl
nothing_taken IsView Is text (x ∷ xs) result old new all spelled none takes =
    let found = takes.again x (flat_map text xs) (All-head Is x xs all) spelled in
    absurd (none-some found.0 (sym none ∙ found.1))
