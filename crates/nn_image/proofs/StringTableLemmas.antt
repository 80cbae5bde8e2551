-- The string table as it is read: each name is new, and has the next number.
use Rattle.std.proofs.Common.{◌≡◌, ◌≢◌, ℕ, suc, ◌+◌, ◌<◌, Bool, true, false, not, cond, ◌||◌, ◌&&◌, ◌==◌, List, [], ◌∷◌, ◌++◌, length, map, refl, sym, ap, subst, ◌∙◌, arith, inl, inr, ◌⊎◌, append-nil, append_assoc, length-append}
use Rattle.std.specs.Prelude.{if◌then◌else◌}
use Rattle.std.specs.List.{IsDistinct, AllByRecursion, list_any, position_or_len}
use Rattle.std.specs.Str.{bytes_eq}
use Rattle.std.proofs.lemmas.Bool.{false≢true, eqb-true, eq-eqb, and_parts, and_from}
use Rattle.std.proofs.lemmas.Map.Keys.{IsDistinct-head, IsDistinct-tail, IsDistinct-push}
use Rattle.nn_base.specs.Paths.{Bytes}
use Rattle.nn_strtab.specs.Numbers.{number_in, with_use}
use Rattle.nn_message.specs.Messages.{Text, Content}
use Rattle.nn_image.specs.Assembly.{table_of, are_distinct, are_numbered, is_table}
use Rattle.nn_image.specs.Building.{are_table}
use Rattle.nn_image.proofs.GivenLemmas.{bytes_equiv, distinct_so, distinct_back}
use Rattle.nn_image.proofs.UsedLemmas.{turned}

-- ---- a name is new where its number is the next

unfound : {A : Type 0} (p : A → Bool) (xs : List A) → list_any p xs ≡ false → position_or_len p xs ≡ length xs
unfound p [] none = refl
unfound p (x ∷ xs) none = by (p x) (λ later. unfound p xs later) none
  where
    by : (b : Bool) → (list_any p xs ≡ false → position_or_len p xs ≡ length xs) → (b || list_any p xs) ≡ false → cond (not b) (1 + position_or_len p xs) 0 ≡ length (x ∷ xs)
    by true later none = absurd (false≢true (sym none))
    by false later none = let more = later none in omega (arith, more)

found : {A : Type 0} (p : A → Bool) (xs : List A) → list_any p xs ≡ true → position_or_len p xs < length xs
found p [] some = absurd (false≢true some)
found p (x ∷ xs) some = by (p x) (λ later. found p xs later) some
  where
    by : (b : Bool) → (list_any p xs ≡ true → position_or_len p xs < length xs) → (b || list_any p xs) ≡ true → cond (not b) (1 + position_or_len p xs) 0 < length (x ∷ xs)
    by true later some = omega arith
    by false later some = let more = later some in omega (arith, more)

pub is_new : (names : List Bytes) (text : Bytes) (n : ℕ) → n ≡ number_in names text → n ≡ length names + 1 → list_any (bytes_eq text) names ≡ false
is_new names text n number next = by (list_any (bytes_eq text) names) refl
  where
    by : (b : Bool) → list_any (bytes_eq text) names ≡ b → b ≡ false
    by true is = let early = found (bytes_eq text) names is in absurd (omega (arith, early, number, next))
    by false is = refl

pub is_old : (names : List Bytes) (text : Bytes) (n : ℕ) → n ≡ number_in names text → n ≢ length names + 1 → list_any (bytes_eq text) names ≡ true
is_old names text n number other = by (list_any (bytes_eq text) names) refl
  where
    by : (b : Bool) → list_any (bytes_eq text) names ≡ b → b ≡ true
    by true is = refl
    by false is = let at = unfound (bytes_eq text) names is in let same : n ≡ length names + 1 = omega (arith, at, number) in absurd (other same)

pub goes_last : (names : List Bytes) (text : Bytes) → list_any (bytes_eq text) names ≡ false → with_use names text ≡ names ++ text ∷ []
goes_last names text none = ap (λ b. if b then names else names ++ text ∷ []) none

pub stays_once : (names : List Bytes) (text : Bytes) → IsDistinct bytes_eq names → list_any (bytes_eq text) names ≡ false → IsDistinct bytes_eq (names ++ text ∷ [])
stays_once names text once none = IsDistinct-push bytes_equiv names text once none

-- ---- a name that stands twice

at_place : {A : Type 0} (P : A → Type 0) (xs : List A) (y : A) (more : List A) → AllByRecursion P (xs ++ y ∷ more) → P y
at_place P [] y more h = h.0
at_place P (x ∷ xs) y more h = at_place P xs y more h.1

not_twice : (names : List Bytes) (text : Bytes) (more : List Bytes) → IsDistinct bytes_eq (names ++ text ∷ more) → list_any (bytes_eq text) names ≡ false
not_twice [] text more once = refl
not_twice (name ∷ names) text more once =
    let apart = turned name text (at_place (λ y. bytes_eq name y ≡ false) names text more (IsDistinct-head bytes_eq name (names ++ text ∷ more) once)) in
    λ i. apart i || not_twice names text more (IsDistinct-tail bytes_eq name (names ++ text ∷ more) once) i

-- ---- the table

pub same_table : (content : Content) → content.text_count ≡ length content.texts → is_table content ≡ are_table content.texts
unfolding are_table is_table
same_table content count = let said = eq-eqb content.text_count (length content.texts) count in λ i. said i && are_numbered 1 content.texts && are_distinct bytes_eq (table_of content)

-- the test, part by part
tests_fail : (a b : Bool) → (a ≡ true → b ≡ true → ⊥) → (a && b) ≡ false
tests_fail true true not = absurd (not refl refl)
tests_fail true false not = refl
tests_fail false b not = refl

table_fails : (texts : List Text) → (are_numbered 1 texts ≡ true → IsDistinct bytes_eq (map (λ (t : Text). t.text) texts) → ⊥) → are_table texts ≡ false
unfolding are_table
table_fails texts not = tests_fail (are_numbered 1 texts) (are_distinct bytes_eq (map (λ t. t.text) texts))
    (λ a b. not a (distinct_so bytes_equiv (map (λ (t : Text). t.text) texts) b))

pub table_holds : (texts : List Text) → are_numbered 1 texts ≡ true → IsDistinct bytes_eq (map (λ (t : Text). t.text) texts) → are_table texts ≡ true
unfolding are_table
table_holds texts a b = and_from _ _ a (distinct_back bytes_equiv (map (λ (t : Text). t.text) texts) b)

-- ---- the strings to come

pub record ToCome (names : List Bytes) (entries ahead : List Text) : Type 0 where
  pub texts : map (λ (t : Text). t.text) entries ≡ names ++ map (λ (t : Text). t.text) ahead
  pub numbers : are_numbered 1 entries ≡ are_numbered (length names + 1) ahead

pub none_yet : (entries : List Text) → ToCome [] entries entries
none_yet entries = record { texts = refl; numbers = refl }

pub refuses : (names : List Bytes) (entries ahead : List Text) (first : Text) (rest : List Text) → ToCome names entries ahead → ahead ≡ first ∷ rest
    → (first.number ≢ length names + 1) ⊎ (list_any (bytes_eq first.text) names ≡ true) → are_table entries ≡ false
refuses names entries ahead first rest come are (inl other) = table_fails entries (λ numbered once.
    other (eqb-true first.number (length names + 1) (and_parts (first.number == length names + 1) _ (sym (come.numbers ∙ ap (are_numbered (length names + 1)) are) ∙ numbered)).0))
refuses names entries ahead first rest come are (inr again) = table_fails entries (λ numbered once.
    false≢true (sym (not_twice names first.text (map (λ (t : Text). t.text) rest) (subst (IsDistinct bytes_eq) (come.texts ∙ ap (λ a. names ++ map (λ (t : Text). t.text) a) are) once)) ∙ again))

pub comes_on : (names more : List Bytes) (entries ahead : List Text) (first : Text) (rest : List Text) → ToCome names entries ahead → ahead ≡ first ∷ rest → first.number ≡ length names + 1 → more ≡ names ++ first.text ∷ []
    → ToCome more entries rest
comes_on names more entries ahead first rest come are number added = record {
  texts = come.texts ∙ ap (λ a. names ++ map (λ (t : Text). t.text) a) are ∙ sym (append_assoc names (first.text ∷ []) (map (λ (t : Text). t.text) rest)) ∙ ap (λ n. n ++ map (λ (t : Text). t.text) rest) (sym added);
  numbers =
      let first_is : (first.number == length names + 1) ≡ true = eq-eqb first.number (length names + 1) number in
      let longer : suc (length names + 1) ≡ length more + 1 = omega (arith, ap length added, length-append names (first.text ∷ [])) in
      come.numbers ∙ ap (are_numbered (length names + 1)) are ∙ (λ i. first_is i && are_numbered (longer i) rest);
}

pub ends : (names : List Bytes) (entries : List Text) → ToCome names entries [] → (map (λ (t : Text). t.text) entries ≡ names) × (are_numbered 1 entries ≡ true)
ends names entries come = (come.texts ∙ append-nil names, come.numbers)
