-- The digest of an image, and what its MD5 file says of it.
use Rattle.std.proofs.Common.{◌≡◌, ◌≢◌, inl, inr, ℕ, zero, suc, ◌*◌, ◌<◌, ◌≤◌, List, ◌++◌, length, take, Option, Some, None, Ok, IfSome, IfNone, refl, sym, ◌∙◌, ap, subst, arith, length-append}
use Rattle.std.specs.Int.{w32, to_le_bytes}
use Rattle.std.specs.Prelude.{Bool, true, false, nat_eq, slice_index}
use Rattle.std.specs.Cmp.Lexicographic.{pointwise}
use Rattle.std.proofs.lemmas.Bool.{cases_order}
use Rattle.std.proofs.lemmas.Cmp.{nat_list_eq_equiv}
use Rattle.std.proofs.lemmas.List.{take_all, length-take, get_or_append_left, get_or-append_right}
use Rattle.std.proofs.lemmas.Option.{same_Some}
use Rattle.hex.specs.Hex.{IsBytes, encode_lower}
use Rattle.md5.specs.Md5.{md5, digest_bytes, hash_after, padded_message}
use Rattle.nn_base.specs.Limits.{most_image}
use Rattle.nn_base.specs.declared.sub.Sub.{Sub}
use Rattle.nn_base.specs.declared.file_name.FileName.TheVariants.{Image, Md5}
use Rattle.nn_host.specs.Disk.{Reads}
use Rattle.nn_host.specs.Listing.{IsRead}
use Rattle.nn_marks.specs.declared.version.Version.{Version}
use Rattle.nn_marks.specs.Digest.{md5_text_of}
use Rattle.nn_marks.proofs.DigestLemmas.{md5_parts, decodes}
use Rattle.nn_chain.specs.declared.why.ImageWhy.TheVariants.{Digest}
use Rattle.nn_chain.specs.Folder.{Folder, folder_at}
use Rattle.nn_chain.specs.Images.{IsUnsound}
use Rattle.nn_chain.specs.Reading.{IsDigest}

-- ---- a digest is 16 bytes

both_bytes : (a b : List ℕ) → IsBytes a → IsBytes b → IsBytes (a ++ b)
both_bytes a b p q i = elim (cases_order i (length a)) [
  | inl same ↦ subst (λ n. n < 256) (sym (get_or-append_right a b (length a) i 0 refl (omega (arith, same)))) (q _)
  | inr apart ↦ elim apart [
    | inl below ↦ subst (λ n. n < 256) (sym (get_or_append_left a b 0 i below)) (p i)
    | inr above ↦ subst (λ n. n < 256) (sym (get_or-append_right a b (length a) i 0 refl (omega (arith, above)))) (q _)
  ]
]

word_bytes : (n : ℕ) → IsBytes (to_le_bytes w32 n)
word_bytes n zero = omega arith
word_bytes n (suc zero) = omega arith
word_bytes n (suc (suc zero)) = omega arith
word_bytes n (suc (suc (suc zero))) = omega arith
word_bytes n (suc (suc (suc (suc i)))) = omega arith

words_bytes : (hash : List ℕ) (n : ℕ) → IsBytes (digest_bytes hash n)
unfolding digest_bytes
words_bytes hash zero i = omega arith
words_bytes hash (suc n) i = both_bytes (digest_bytes hash n) (to_le_bytes w32 (slice_index hash n)) (words_bytes hash n) (word_bytes (slice_index hash n)) i

words_length : (hash : List ℕ) (n : ℕ) → length (digest_bytes hash n) ≡ 4 * n
unfolding digest_bytes
words_length hash zero = refl
words_length hash (suc n) = omega (arith, length-append (digest_bytes hash n) (to_le_bytes w32 (slice_index hash n)), words_length hash n)

pub digest_is_bytes : (m : List ℕ) → IsBytes (md5 m)
unfolding md5
digest_is_bytes m = words_bytes (hash_after (padded_message m) _) 4

pub digest_length : (m : List ℕ) → length (md5 m) ≡ 16
unfolding md5
digest_length m = words_length (hash_after (padded_message m) _) 4

-- ---- what was read of its MD5 file, into more room than it takes

-- a file of which so many bytes were read, or none
shown : (file : Option (List ℕ)) {n : ℕ} {old new : List ℕ} → IsRead file 0 n old new → length old ≡ 80 → length (take n new) ≡ 62 → file ≡ Some (take n new)
shown None {n} {old} {new} read room long = absurd (omega (arith, read.count, room, long, length-take n new))
shown (Some bytes) {n} {old} {new} read room long =
    let cut : take n new ≡ take n bytes = read.front in
    let size : length (take n bytes) ≡ 62 = ap length (sym cut) ∙ long in
    let whole : length bytes ≡ n = omega (arith, read.count, room, size, length-take n bytes) in
    ap (λ (t : List ℕ). Some t) (sym (cut ∙ take_all n bytes (omega (arith, whole))))

-- a text of so many bytes was read whole
read_whole : (text : List ℕ) {n : ℕ} {old new : List ℕ} → IsRead (Some text) 0 n old new → length old ≡ 80 → length text ≡ 62 → take n new ≡ text
read_whole text {n} read room long = read.front ∙ take_all n text (omega (arith, read.count, room, long))

pub is_digest : (folder : Folder) (id : ℕ) {n : ℕ} {old new : List ℕ} (found : Option (List ℕ)) → IsRead (folder (Md5 id)) 0 n old new → length old ≡ 80
    → IfSome found (λ digest. (length digest ≡ 16) × IsBytes digest × (take n new ≡ md5_text_of digest id)) → IfNone found ((digest : List ℕ) → length digest ≡ 16 → IsBytes digest → take n new ≢ md5_text_of digest id) → IsDigest folder id found
is_digest folder id {n} {old} {new} (Some digest) read room some none =
    (some.0, some.1, shown (folder (Md5 id)) read room (md5_parts (take n new) digest id some.0 some.2).size ∙ ap (λ (t : List ℕ). Some t) some.2)
is_digest folder id {n} {old} {new} None read room some none = λ bytes has.
    let text = md5_text_of (md5 bytes) id in
    let long = (md5_parts text (md5 bytes) id (digest_length bytes) refl).size in
    none (md5 bytes) (digest_length bytes) (digest_is_bytes bytes) (read_whole text (subst (λ (f : Option (List ℕ)). IsRead f 0 n old new) has read) room long)

-- ---- bytes of another digest

-- one text has one digest
one_digest : (id : ℕ) (a b : List ℕ) → length a ≡ 16 → IsBytes a → length b ≡ 16 → IsBytes b → md5_text_of a id ≡ md5_text_of b id → a ≡ b
one_digest id a b a_long a_bytes b_long b_bytes e =
    let hex : encode_lower a ≡ encode_lower b = sym (md5_parts (md5_text_of a id) a id a_long refl).hex ∙ (md5_parts (md5_text_of a id) b id b_long e).hex in
    let same : Ok a ≡ Ok b = sym (decodes (encode_lower a) a a_long a_bytes refl) ∙ decodes (encode_lower a) b b_long b_bytes hex in
    cc

pub not_equal : (a b : List ℕ) (result : Bool) → result ≡ pointwise nat_eq a b → result ≡ false → a ≢ b
not_equal a b result e differs same =
    let yes : pointwise nat_eq a b ≡ true = subst (λ (x : List ℕ). pointwise nat_eq a x ≡ true) same (nat_list_eq_equiv.refl a) in
    let apart = sym differs ∙ e ∙ yes in
    cc

-- the image has these bytes, and its MD5 file another digest
pub digest_differs : (old one two : Reads) (sub : Sub) (version : Version) (id : ℕ) (found : Option (List ℕ)) (digest bytes : List ℕ) → one ≡ old → two ≡ old → IsDigest (folder_at one sub) id found → found ≡ Some digest
    → folder_at two sub (Image id) ≡ Some bytes → length bytes ≤ most_image → md5 bytes ≢ digest → IsUnsound (folder_at old sub) version id Digest
digest_differs old one two sub version id found digest bytes first second is found_is there small other =
    let of : IsDigest (folder_at one sub) id (Some digest) = subst (IsDigest (folder_at one sub) id) found_is is in (
      bytes,
      subst (λ (r : Reads). folder_at r sub (Image id) ≡ Some bytes) second there,
      (
        small,
        λ has.
            let text : md5_text_of (md5 bytes) id ≡ md5_text_of digest id = same_Some (md5_text_of (md5 bytes) id) (md5_text_of digest id) (sym has ∙ subst (λ (r : Reads). folder_at r sub (Md5 id) ≡ Some (md5_text_of digest id)) first of.2) in
            other (one_digest id (md5 bytes) digest (digest_length bytes) (digest_is_bytes bytes) of.0 of.1 text),
      ),
    )
