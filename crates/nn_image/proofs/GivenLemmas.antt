-- What the tests of the assembly say: of a string table, and of ids that were given.
use Rattle.std.proofs.Common.{◌≡◌, ℕ, suc, ◌≤◌, Bool, true, false, ◌==◌, List, [], ◌∷◌, length, map, refl, sym, ap, subst, ◌∙◌, nat_eq}
use Rattle.std.specs.Prelude.{All, nat_le}
use Rattle.std.specs.List.{IsDistinct, list_all}
use Rattle.std.specs.Str.{bytes_eq}
use Rattle.std.specs.Cmp.{IsEquivalence, nat_eq_equiv}
use Rattle.std.specs.Cmp.Lexicographic.{bytes_decides}
use Rattle.std.specs.Set.{distinct_count}
use Rattle.std.proofs.lemmas.Bool.{and_parts, and_from, eqb-true, eq-eqb, leb-true, le-leb}
use Rattle.std.proofs.lemmas.Map.Made.{distinct_count-from_IsDistinct, IsDistinct-from_count}
use Rattle.std.proofs.lemmas.List.Elements.{All-cons, All-head, All-tail, All-nil}
use Rattle.std.proofs.lemmas.List.{length-map}
use Rattle.nn_base.specs.Paths.{Bytes}
use Rattle.nn_message.specs.Messages.{Text, Content}
use Rattle.nn_image.specs.Image.{numbered_from}
use Rattle.nn_tree.specs.Imaged.{AreGiven}
use Rattle.nn_image.proofs.UsedLemmas.{itself}
use Rattle.nn_image.specs.Assembly.{are_distinct, are_numbered, table_of, is_table, are_given}

-- ---- names

pub bytes_equiv : IsEquivalence bytes_eq
bytes_equiv = record {
  refl = itself;
  symm = λ x y. one_way (bytes_eq x y) (bytes_eq y x) (turn x y) (turn y x);
  congr = λ x y z same. ap (λ x. bytes_eq x z) ((bytes_decides x y).0 same);
}
  where
    turn : (x y : Bytes) → bytes_eq x y ≡ true → bytes_eq y x ≡ true
    turn x y h = ap (bytes_eq y) ((bytes_decides x y).0 h) ∙ itself y

    one_way : (a b : Bool) → (a ≡ true → b ≡ true) → (b ≡ true → a ≡ true) → a ≡ b
    one_way true b f g = sym (f refl)
    one_way false true f g = g refl
    one_way false false f g = refl

module _ {A : Type 0} {eq : A → A → Bool} (laws : IsEquivalence eq) (xs : List A) where
  pub distinct_so : are_distinct eq xs ≡ true → IsDistinct eq xs
  distinct_so h = IsDistinct-from_count laws xs (eqb-true (distinct_count eq xs) (length xs) h)

  pub distinct_back : IsDistinct eq xs → are_distinct eq xs ≡ true
  distinct_back once = eq-eqb (distinct_count eq xs) (length xs) (distinct_count-from_IsDistinct laws xs once)

-- ---- the string table

numbered_so : (number : ℕ) (texts : List Text) → are_numbered number texts ≡ true → texts ≡ numbered_from number (map (λ t. t.text) texts)
unfolding numbered_from
numbered_so number [] h = refl
numbered_so number (text ∷ rest) h =
    let parts = and_parts (text.number == number) (are_numbered (suc number) rest) h in
    λ i. record { number = eqb-true text.number number parts.0 i; text = text.text } ∷ numbered_so (suc number) rest parts.1 i

numbered_back : (number : ℕ) (names : List Bytes) → are_numbered number (numbered_from number names) ≡ true
unfolding numbered_from
numbered_back number [] = refl
numbered_back number (name ∷ names) = and_from _ _ (eq-eqb number number refl) (numbered_back (suc number) names)

pub numbered_names : (number : ℕ) (names : List Bytes) → map (λ (t : Text). t.text) (numbered_from number names) ≡ names
unfolding numbered_from
numbered_names number [] = refl
numbered_names number (name ∷ names) = ap (λ t. name ∷ t) (numbered_names (suc number) names)

pub record IsTable (content : Content) : Type 0 where
  pub count : content.text_count ≡ length content.texts
  pub texts : content.texts ≡ numbered_from 1 (table_of content)
  pub once : IsDistinct bytes_eq (table_of content)

pub table_so : (content : Content) → is_table content ≡ true → IsTable content
unfolding is_table
table_so content h =
    let a = and_parts _ _ h in
    let b = and_parts (content.text_count == length content.texts) _ a.0 in
    record { count = eqb-true _ _ b.0; texts = numbered_so 1 content.texts b.1; once = distinct_so bytes_equiv (table_of content) a.1 }

pub table_back : (content : Content) (table : List Bytes) → content.text_count ≡ length table → content.texts ≡ numbered_from 1 table → IsDistinct bytes_eq table → is_table content ≡ true
unfolding is_table
table_back content table count texts once =
    let names : table_of content ≡ table = ap (map (λ (t : Text). t.text)) texts ∙ numbered_names 1 table in
    let long : length content.texts ≡ length table = sym (length-map content.texts (λ (t : Text). t.text)) ∙ ap length names in
    and_from _ _ (and_from _ _ (eq-eqb _ _ (count ∙ sym long)) (ap (are_numbered 1) texts ∙ numbered_back 1 table)) (distinct_back bytes_equiv (table_of content) (subst (IsDistinct bytes_eq) (sym names) once))

-- ---- ids

module _ {A : Type 0} (f : A → ℕ) (last : ℕ) where
  pub within_so : (xs : List A) → list_all (λ x. nat_le (f x) last) xs ≡ true → All (λ x. f x ≤ last) xs
  within_so [] h = All-nil (λ x. f x ≤ last)
  within_so (x ∷ xs) h = let parts = and_parts (nat_le (f x) last) _ h in All-cons (λ x. f x ≤ last) x xs (leb-true (f x) last parts.0) (within_so xs parts.1)

  pub within_back : (xs : List A) → All (λ x. f x ≤ last) xs → list_all (λ x. nat_le (f x) last) xs ≡ true
  within_back [] h = refl
  within_back (x ∷ xs) h = and_from (nat_le (f x) last) _ (le-leb (f x) last (All-head (λ x. f x ≤ last) x xs h)) (within_back xs (All-tail (λ x. f x ≤ last) x xs h))

pub given_so : (ids : List ℕ) (last : ℕ) → are_given ids last ≡ true → AreGiven ids last
given_so ids last h = let parts = and_parts (are_distinct nat_eq ids) _ h in record { once = distinct_so nat_eq_equiv ids parts.0; within = within_so (λ id. id) last ids parts.1 }

pub given_back : (ids : List ℕ) (last : ℕ) → AreGiven ids last → are_given ids last ≡ true
given_back ids last h = and_from _ _ (distinct_back nat_eq_equiv ids h.once) (within_back (λ id. id) last ids h.within)

-- a test that says so is this one
pub given_is : (b : Bool) (ids : List ℕ) (last : ℕ) → (b ≡ true → AreGiven ids last) → (AreGiven ids last → b ≡ true) → b ≡ are_given ids last
given_is b ids last so back = by b (are_given ids last) (λ is. given_back ids last (so is)) (λ is. back (given_so ids last is))
  where
    by : (a b : Bool) → (a ≡ true → b ≡ true) → (b ≡ true → a ≡ true) → a ≡ b
    by true b f g = sym (f refl)
    by false true f g = g refl
    by false false f g = refl
