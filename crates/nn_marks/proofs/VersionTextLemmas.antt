-- What is written of a Version reads back as it.
use Rattle.std.proofs.Common.{◌≡◌, ℕ, suc, ◌+◌, ◌*◌, ◌-◌, ◌<◌, ◌≤◌, ◌^◌, Bool, true, false, not, ◌&&◌, ◌==◌, List, [], ◌∷◌, ◌++◌, length, drop, map, get_or, Option, None, ℤ, pos, negsuc, sym, ap, ◌∙◌, subst, refl, arith, lit≤, append_assoc, append-nil, length-append, leb-true, le-leb, le-ltb}
use Rattle.std.specs.Prelude.{codes, nat_le, neg_ℤ, ◌<ℤ◌, ◌≤ℤ◌}
use Rattle.std.specs.List.{All, list_all, flat_map}
use Rattle.std.specs.Char.{is_ascii_digit}
use Rattle.std.specs.Fmt.{decimal, signed_decimal}
use Rattle.std.specs.Str.Lines.{lines, strip_carriage_return}
use Rattle.std.specs.Str.Parse.{digits_value}
use Rattle.std.proofs.lemmas.List.Folds.{list_all-append}
use Rattle.std.proofs.lemmas.List.Sums.{AllPass-from_list_all}
use Rattle.std.proofs.lemmas.Fmt.{digits_decimal}
use Rattle.std.proofs.lemmas.Option.{cond_some}
use Rattle.std.proofs.lemmas.Bool.Decides.{nat_tests}
use Rattle.std.proofs.lemmas.Int.{ints}
use Rattle.nn_base.specs.Decimal.{is_number}
use Rattle.nn_base.specs.Words.{is_word, is_word_byte}
use Rattle.std.proofs.lemmas.Bool.{and_parts}
use Rattle.nn_base.proofs.DecimalLemmas.{numerals}
use Rattle.nn_marks.specs.declared.key.Key.{Key}
use Rattle.nn_marks.specs.declared.key.Key.TheVariants.{NamespaceId, ClusterId, CTime, StorageType, BlockpoolId, LayoutVersion}
use Rattle.nn_marks.specs.declared.fault.VersionFault.{VersionFault}
use Rattle.nn_marks.specs.declared.fault.VersionFault.TheVariants.{TooLong, NotText}
use Rattle.nn_marks.specs.declared.version.Version.{Version}
use Rattle.nn_base.specs.Limits.{most_version}
use Rattle.nn_base.specs.First.{when, first_of}
use Rattle.nn_marks.specs.Version.{Line, keys, front_of}
use Rattle.nn_marks.specs.VersionFaults.{fault_of, is_text_byte, is_positive, is_value, key_fault, line_faults}
use Rattle.nn_marks.specs.VersionText.{Says, IsVersionText, value_text, line_text, version_text_of}
use Rattle.nn_marks.proofs.SeenLemmas.{number_in-decimal, length-decimal_id}
use Rattle.nn_marks.proofs.LinesLemmas.{lines-append, is_newline}

-- a byte of a line as it is written
abbrev is_plain : ℕ → Bool
is_plain byte = nat_le 32 byte && nat_le byte 126

list_all_weaker : (p q : ℕ → Bool) → ((x : ℕ) → p x ≡ true → q x ≡ true) → (xs : List ℕ) → list_all p xs ≡ true → list_all q xs ≡ true
list_all_weaker p q weaker [] all = refl
list_all_weaker p q weaker (x ∷ xs) all =
    let parts = and_parts (p x) (list_all p xs) all in
    rw (weaker x parts.0, list_all_weaker p q weaker xs parts.1) refl

all_plain-append : (xs ys : List ℕ) → list_all is_plain xs ≡ true → list_all is_plain ys ≡ true → list_all is_plain (xs ++ ys) ≡ true
all_plain-append xs ys a b = list_all-append is_plain xs ys ∙ rw (a, b) refl

plain_front : (key : Key) → list_all is_plain (front_of key) ≡ true
plain_front NamespaceId = refl
plain_front ClusterId = refl
plain_front CTime = refl
plain_front StorageType = refl
plain_front BlockpoolId = refl
plain_front LayoutVersion = refl

length-front : (key : Key) → length (front_of key) ≤ 14
length-front NamespaceId = lit≤ tt
length-front ClusterId = lit≤ tt
length-front CTime = lit≤ tt
length-front StorageType = lit≤ tt
length-front BlockpoolId = lit≤ tt
length-front LayoutVersion = lit≤ tt

plain_range : (b : ℕ) → is_plain b ≡ true → (32 ≤ b) × (b ≤ 126)
plain_range b e = let parts = and_parts _ _ e in (leb-true _ _ parts.0, leb-true _ _ parts.1)

no_newline : (line : List ℕ) → list_all is_plain line ≡ true → All (λ byte. is_newline byte ≡ false) line
no_newline line all = λ k d h.
    let range = plain_range (get_or line k d) (AllPass-from_list_all is_plain line all k d h) in grind (arith, nat_tests, range)

same_without_return : (line : List ℕ) → list_all is_plain line ≡ true → strip_carriage_return line ≡ line
same_without_return [] all = refl
same_without_return (b ∷ bs) all =
    let within : length (b ∷ bs) - 1 < length (b ∷ bs) = omega arith in
    let range = plain_range (get_or (b ∷ bs) (length (b ∷ bs) - 1) 0) (AllPass-from_list_all is_plain (b ∷ bs) all (length (b ∷ bs) - 1) 0 within) in
    let other : (get_or (b ∷ bs) (length (b ∷ bs) - 1) 0 == 13) ≡ false = grind (arith, nat_tests, range) in
    rw other refl

-- a line as it is written is read as the line
line_read : (key : Key) (value rest : List ℕ) → list_all is_plain value ≡ true
    → lines ((front_of key ++ (value ++ codes "\n")) ++ rest) ≡ (front_of key ++ value) ∷ lines rest
line_read key value rest plain =
    let line = front_of key ++ value in
    let all = all_plain-append (front_of key) value (plain_front key) plain in
    let shape : (front_of key ++ (value ++ codes "\n")) ++ rest ≡ line ++ 10 ∷ rest =
    append_assoc (front_of key) (value ++ codes "\n") rest ∙ ap (λ back. front_of key ++ back) (append_assoc value (codes "\n") rest)
    ∙ sym (append_assoc (front_of key) value (10 ∷ rest)) in
    ap lines shape ∙ lines-append line rest (no_newline line all) ∙ ap (λ x. x ∷ lines rest) (same_without_return line all)

-- six lines in the order of the keys, with these values
abbrev lines_with : List ℕ → List ℕ → List ℕ → List ℕ → List ℕ → List ℕ → List Line
lines_with a b c d e f =
    (front_of NamespaceId ++ a) ∷ (front_of ClusterId ++ b) ∷ (front_of CTime ++ c) ∷ (front_of StorageType ++ d) ∷ (front_of BlockpoolId ++ e) ∷ (front_of LayoutVersion ++ f) ∷ []

no_line_fault : (a b c d e f : List ℕ) → first_of (line_faults (lines_with a b c d e f)) ≡ None
no_line_fault a b c d e f = refl

no_key_fault : (a b c d e f : List ℕ) → is_value NamespaceId a ≡ true → is_value ClusterId b ≡ true → is_value CTime c ≡ true → is_value StorageType d ≡ true
    → is_value BlockpoolId e ≡ true → is_value LayoutVersion f ≡ true → first_of (map (key_fault (lines_with a b c d e f)) keys) ≡ None
no_key_fault a b c d e f p q r s t u = rw (p, q, r, s, t, u) refl

-- what a number is as it is written
number_facts : (n : ℕ) → n < 2 ^ 63 → (is_number (decimal n) ≡ true) × (digits_value 10 (decimal n) ≡ n)
number_facts n small = cond_some (is_number (decimal n)) (digits_value 10 (decimal n)) n (number_in-decimal n small)

positive_written : (n : ℕ) → 1 ≤ n → n ≤ 2147483647 → is_positive (decimal n) ≡ true
positive_written n some fits =
    let facts = number_facts n (omega arith) in
    let least : nat_le 1 (digits_value 10 (decimal n)) ≡ true = ap (nat_le 1) facts.1 ∙ le-leb _ _ some in
    let most : nat_le (digits_value 10 (decimal n)) 2147483647 ≡ true = ap (λ m. nat_le m 2147483647) facts.1 ∙ le-leb _ _ fits in
    rw (facts.0, least, most) refl

plain_digits : (n : ℕ) → n < 2 ^ 64 → list_all is_plain (decimal n) ≡ true
plain_digits n wide = list_all_weaker is_ascii_digit is_plain (λ x digit. grind (arith, nat_tests, digit)) (decimal n) (digits_decimal numerals n wide)

plain_word : (word : List ℕ) → is_word word ≡ true → list_all is_plain word ≡ true
plain_word word h =
    list_all_weaker is_word_byte is_plain (λ x byte. grind (arith, nat_tests, byte)) word (and_parts _ _ (and_parts _ _ h).1).1

length-word : (word : List ℕ) → is_word word ≡ true → length word ≤ 255
length-word word h = leb-true _ _ (and_parts _ _ (and_parts _ _ h).1).0

-- what the value of a key is as it is written
pub record Written (version : Version) (key : Key) : Type 0 where
  pub plain : list_all is_plain (value_text version key) ≡ true
  pub value : is_value key (value_text version key) ≡ true
  pub short : length (value_text version key) ≤ 255

-- a negative layout that fits
record LayoutWritten (layout : ℤ) : Type 0 where
  plain : list_all is_plain (signed_decimal layout) ≡ true
  value : is_value LayoutVersion (signed_decimal layout) ≡ true
  short : length (signed_decimal layout) ≤ 255
  says : layout ≡ neg_ℤ (pos (digits_value 10 (drop 1 (signed_decimal layout))))

layout_written : (layout : ℤ) → layout <ℤ pos 0 → negsuc 2147483646 ≤ℤ layout → LayoutWritten layout
layout_written (pos n) negative fits = absurd (omega (arith, ints))
layout_written (negsuc n) negative fits =
    let bound : n ≤ 2147483646 = omega (arith, ints) in
    record {
      plain = plain_digits (suc n) (omega arith);
      value = positive_written (suc n) (omega arith) (omega arith);
      short = omega (arith, length-decimal_id (suc n) (omega arith));
      says = ap (λ m. neg_ℤ (pos m)) (sym (number_facts (suc n) (omega arith)).1);
    }

pub written : (version : Version) (key : Key) → Written version key
written version NamespaceId = record {
  plain = plain_digits version.namespace (omega (arith, version.namespace_fits));
  value = positive_written version.namespace version.some_namespace version.namespace_fits;
  short = omega (arith, length-decimal_id version.namespace (omega (arith, version.namespace_fits)));
}
written version ClusterId = record { plain = plain_word version.cluster version.cluster_is_word; value = version.cluster_is_word; short = length-word version.cluster version.cluster_is_word }
written version CTime = record {
  plain = plain_digits version.ctime (omega (arith, version.ctime_fits));
  value = (number_facts version.ctime version.ctime_fits).0;
  short = omega (arith, length-decimal_id version.ctime version.ctime_fits);
}
written version StorageType = record { plain = refl; value = refl; short = lit≤ tt }
written version BlockpoolId = record { plain = plain_word version.blockpool version.blockpool_is_word; value = version.blockpool_is_word; short = length-word version.blockpool version.blockpool_is_word }
written version LayoutVersion =
    let layout = layout_written version.layout version.layout_is_negative version.layout_fits in
    record { plain = layout.plain; value = layout.value; short = layout.short }

-- the lines of the text
text_lines : (version : Version) → ((key : Key) → Written version key) → (ks : List Key)
    → lines (flat_map (line_text version) ks) ≡ map (λ key. front_of key ++ value_text version key) ks
text_lines version w [] = refl
text_lines version w (key ∷ ks) =
    line_read key (value_text version key) (flat_map (line_text version) ks) (w key).plain
    ∙ ap (λ rest. (front_of key ++ value_text version key) ∷ rest) (text_lines version w ks)

text_short : (version : Version) → ((key : Key) → Written version key) → (ks : List Key) → length (flat_map (line_text version) ks) ≤ 270 * length ks
text_short version w [] = omega arith
text_short version w (key ∷ ks) =
    let line = line_text version key in
    let front = length-front key in
    let value = (w key).short in
    let whole : length line ≡ length (front_of key) + (length (value_text version key) + 1) =
    length-append (front_of key) (value_text version key ++ codes "\n") ∙ ap (λ n. length (front_of key) + n) (length-append (value_text version key) (codes "\n")) in
    omega (arith, text_short version w ks, length-append line (flat_map (line_text version) ks), whole, front, value)

text_byte : (xs : List ℕ) → list_all is_plain xs ≡ true → list_all is_text_byte xs ≡ true
text_byte = list_all_weaker is_plain is_text_byte (λ x plain. grind (arith, nat_tests, plain))

text_bytes : (version : Version) → ((key : Key) → Written version key) → (ks : List Key) → list_all is_text_byte (flat_map (line_text version) ks) ≡ true
text_bytes version w [] = refl
text_bytes version w (key ∷ ks) =
    let value : list_all is_text_byte (value_text version key ++ codes "\n") ≡ true = list_all-append is_text_byte (value_text version key) (codes "\n") ∙ ap (λ b. b && true) (text_byte (value_text version key) (w key).plain) in
    let line : list_all is_text_byte (line_text version key) ≡ true =
    list_all-append is_text_byte (front_of key) (value_text version key ++ codes "\n") ∙ (λ i. text_byte (front_of key) (plain_front key) i && value i) in
    list_all-append is_text_byte (line_text version key) (flat_map (line_text version) ks) ∙ rw (line, text_bytes version w ks) refl

no_first : (a b c : Option VersionFault) (rest : List (Option VersionFault)) → a ≡ None → b ≡ None → c ≡ None → first_of rest ≡ None → first_of (a ∷ b ∷ c ∷ rest) ≡ None
no_first a b c rest p q r s = (λ i. first_of (p i ∷ q i ∷ r i ∷ rest)) ∙ s

sound : (bytes : List ℕ) → length bytes ≤ most_version → list_all is_text_byte bytes ≡ true → first_of (line_faults (lines bytes)) ≡ None
    → first_of (map (key_fault (lines bytes)) keys) ≡ None → fault_of bytes ≡ None
unfolding fault_of
sound bytes short text lines_fine keys_fine =
    no_first _ _ _ (map (key_fault (lines bytes)) keys) (ap (λ b. when b TooLong) (le-ltb most_version (length bytes) short)) (ap (λ b. when (not b) NotText) text) lines_fine keys_fine

-- what is written of a Version reads back as it
pub reads_back : (version : Version) → IsVersionText (version_text_of version) version
reads_back version =
    let w = written version in
    let whole = sym (text_lines version w keys) in
    let lines_fine = no_line_fault (value_text version NamespaceId) (value_text version ClusterId) (value_text version CTime) (value_text version StorageType) (value_text version BlockpoolId) (value_text version LayoutVersion) in
    let keys_fine = no_key_fault (value_text version NamespaceId) (value_text version ClusterId) (value_text version CTime) (value_text version StorageType) (value_text version BlockpoolId) (value_text version LayoutVersion)
    (w NamespaceId).value (w ClusterId).value (w CTime).value (w StorageType).value (w BlockpoolId).value (w LayoutVersion).value in
    record {
      sound = sound (version_text_of version) (omega (arith, text_short version w keys)) (text_bytes version w keys)
          (subst (λ ls. first_of (line_faults ls) ≡ None) whole lines_fine)
          (subst (λ ls. first_of (map (key_fault ls) keys) ≡ None) whole keys_fine);
      says = subst (λ ls. Says ls version) whole (record {
        namespace = sym (number_facts version.namespace (omega (arith, version.namespace_fits))).1;
        cluster = refl;
        ctime = sym (number_facts version.ctime version.ctime_fits).1;
        blockpool = refl;
        layout = (layout_written version.layout version.layout_is_negative version.layout_fits).says;
      });
    }

-- six appends one behind the other
pub six_lines : (a b c d e f t u v x y z : List ℕ) → t ≡ a → u ≡ t ++ b → v ≡ u ++ c → x ≡ v ++ d → y ≡ x ++ e → z ≡ y ++ f
    → z ≡ a ++ (b ++ (c ++ (d ++ (e ++ (f ++ [])))))
six_lines a b c d e f t u v x y z p q r s g h =
    h ∙ ap (λ k. k ++ f) (g ∙ ap (λ k. k ++ e) (s ∙ ap (λ k. k ++ d) (r ∙ ap (λ k. k ++ c) (q ∙ ap (λ k. k ++ b) p))))
    ∙ simp append_assoc (ap (λ k. a ++ (b ++ (c ++ (d ++ (e ++ k))))) (sym (append-nil f)))
