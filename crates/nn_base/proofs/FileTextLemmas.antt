-- Which texts the names have, form by form.
use Rattle.std.proofs.Common.{◌≡◌, ◌≢◌, ◌⊎◌, ℕ, ◌^◌, ◌<◌, ◌≤◌, List, [], ◌∷◌, ◌++◌, length, take, drop, get_or, false, ◌==◌, refl, sym, ap, ◌∙◌, subst, inl, inr, arith, Option, Some, None, true, append-nil, lit<}
use Rattle.std.specs.Prelude.{codes, IfSome, cond}
use Rattle.std.specs.Str.{bytes_eq}
use Rattle.std.proofs.lemmas.Slice.Eq.{bytes_eq-Decides}
use Rattle.nn_base.specs.declared.file_name.FileName.{FileName}
use Rattle.nn_base.specs.declared.file_name.FileName.TheVariants.{Version, VersionTmp, Seen, SeenTmp, Image, Md5, Md5Tmp, Ckpt, Edits, InProgress}
use Rattle.std.proofs.lemmas.List.{take_at, drop_at, get_or_append_left}
use Rattle.std.proofs.lemmas.Str.Parse.{digit_at}
use Rattle.std.proofs.lemmas.Option.{same_Some, IfSome_then}
use Rattle.std.proofs.lemmas.Bool.{cases_Bool}
use Rattle.std.proofs.lemmas.Bool.Decides.{not_from_Decides, Decides-eqb}
use Rattle.nn_base.specs.Decimal.{number_in}
use Rattle.nn_base.proofs.DecimalLemmas.{length-last_digits, digits-last_digits, digits_value-last_digits, last_digits-digits_value, writes_from_number_in, number_in_writes, digits_from_test}
use Rattle.nn_base.specs.Names.{form_of}
use Rattle.nn_base.specs.FileText.{text_of, id_text, IsInRange, IsReading}

pub length-id_text : (id : ℕ) → length (id_text id) ≡ 19
length-id_text id = length-last_digits 19 id

-- an id is read from its own text, and from no other of 19 bytes
pub number_in-id_text : (id : ℕ) → id < 2 ^ 63 → number_in (id_text id) ≡ Some id
number_in-id_text id small = number_in_writes (id_text id) id (record {
  some = omega (arith, length-id_text id);
  few = omega (arith, length-id_text id);
  digits = digits-last_digits 19 id;
  value = digits_value-last_digits 19 id (omega arith);
  small = small;
})

pub id_from_text : (text : List ℕ) (id : ℕ) → length text ≡ 19 → number_in text ≡ Some id → (id < 2 ^ 63) × (text ≡ id_text id)
id_from_text text id long e =
    let w = writes_from_number_in text id e in
    (w.small, sym (last_digits-digits_value 19 text long w.digits) ∙ ap id_text w.value)

-- an id's text is the first 19 bytes of a text that begins with it
pub first_19 : (text : List ℕ) (id : ℕ) (back : List ℕ) → text ≡ id_text id ++ back → take 19 text ≡ id_text id
first_19 text id back e = ap (take 19) e ∙ take_at (id_text id) back 19 (length-id_text id)

pub behind_19 : (text : List ℕ) (id : ℕ) (back : List ℕ) → text ≡ id_text id ++ back → drop 19 text ≡ back
behind_19 text id back e = ap (drop 19) e ∙ drop_at (id_text id) back 19 (length-id_text id)

-- what stands behind an id is determined, and so is the id
pub id_text_parts : (a b : ℕ) (x y : List ℕ) → a < 2 ^ 63 → b < 2 ^ 63 → id_text a ++ x ≡ id_text b ++ y → (a ≡ b) × (x ≡ y)
id_text_parts a b x y small_a small_b e =
    let front = sym (first_19 _ a x refl) ∙ first_19 _ b y e in
    let back = sym (behind_19 _ a x refl) ∙ behind_19 _ b y e in
    (same_Some a b (sym (number_in-id_text a small_a) ∙ ap number_in front ∙ number_in-id_text b small_b), back)

-- two texts with different bytes at one place
differ : (i : ℕ) {xs ys : List ℕ} → xs ≡ ys → (get_or xs i 0 == get_or ys i 0) ≡ false → ⊥
differ i {xs} {ys} e apart = not_from_Decides _ (Decides-eqb (get_or xs i 0) (get_or ys i 0)) apart (ap (λ text. get_or text i 0) e)

-- nothing is read where no name has the text; a name is read where no other has it
pub unread : (text : List ℕ) → ((name : FileName) → IsInRange name → text_of name ≡ text → ⊥) → IsReading text None
unread text nobody = record { found = tt; only = λ name r e. absurd (nobody name r e) }

pub read_as : (text : List ℕ) (name : FileName) → IsInRange name → text_of name ≡ text → ((other : FileName) → IsInRange other → text_of other ≡ text → name ≡ other)
    → IsReading text (Some name)
read_as text name r e alone = record { found = (r, e); only = λ other s f. ap Some (alone other s f) }

-- the name of an image's file or its digest, by what stands behind the id
abbrev pub image_named : ℕ → List ℕ → Option FileName
image_named id back =
    cond (bytes_eq back []) (Some (Image id)) (cond (bytes_eq back (codes ".md5")) (Some (Md5 id)) (cond (bytes_eq back (codes ".md5.tmp")) (Some (Md5Tmp id)) None))

-- what a name is whose text begins with `fsimage_`
images : (name : FileName) (rest : List ℕ) → IsInRange name → text_of name ≡ codes "fsimage_" ++ rest
    → (id : ℕ) × (back : List ℕ) × (id < 2 ^ 63) × (rest ≡ id_text id ++ back) × (image_named id back ≡ Some name)
images Version rest r e = absurd (differ 0 e refl)
images VersionTmp rest r e = absurd (differ 0 e refl)
images Seen rest r e = absurd (differ 0 e refl)
images SeenTmp rest r e = absurd (differ 0 e refl)
images (Image id) rest r e = (id, [], r, sym (ap (drop 8) e) ∙ sym (append-nil (id_text id)), refl)
images (Md5 id) rest r e = (id, codes ".md5", r, sym (ap (drop 8) e), refl)
images (Md5Tmp id) rest r e = (id, codes ".md5.tmp", r, sym (ap (drop 8) e), refl)
images (Ckpt id) rest r e = absurd (differ 7 e refl)
images (Edits span) rest r e = absurd (differ 0 e refl)
images (InProgress first) rest r e = absurd (differ 0 e refl)

same_bytes : (a b : List ℕ) → bytes_eq a b ≡ true → a ≡ b
same_bytes a b e = (bytes_eq-Decides a b).0 e

-- such a name has that text
named_image : (id : ℕ) (back : List ℕ) → id < 2 ^ 63 → IfSome (image_named id back) (λ name. IsInRange name × (text_of name ≡ codes "fsimage_" ++ (id_text id ++ back)))
named_image id back small = elim (cases_Bool (bytes_eq back [])) [
  | inl e ↦ rw e (small, ap (λ b. codes "fsimage_" ++ b) (sym (append-nil (id_text id)) ∙ ap (λ b. id_text id ++ b) (sym (same_bytes back [] e))))
  | inr e ↦ elim (cases_Bool (bytes_eq back (codes ".md5"))) [
    | inl f ↦ rw (e, f) (small, ap (λ b. codes "fsimage_" ++ (id_text id ++ b)) (sym (same_bytes back (codes ".md5") f)))
    | inr f ↦ elim (cases_Bool (bytes_eq back (codes ".md5.tmp"))) [
      | inl g ↦ rw (e, f, g) (small, ap (λ b. codes "fsimage_" ++ (id_text id ++ b)) (sym (same_bytes back (codes ".md5.tmp") g)))
      | inr g ↦ rw (e, f, g) tt
    ]
  ]
]

image_reading : (rest : List ℕ) (id : ℕ) (back : List ℕ) → id < 2 ^ 63 → rest ≡ id_text id ++ back → IsReading (codes "fsimage_" ++ rest) (image_named id back)
image_reading rest id back small e = record {
  found = IfSome_then (image_named id back) (named_image id back small) (λ name h. (h.0, h.1 ∙ ap (λ r. codes "fsimage_" ++ r) (sym e)));
  only = λ name r f.
      let w = images name rest r f in
      let same = id_text_parts id w.0 back w.1 small w.2 (sym e ∙ w.3) in
      (λ i. image_named (same.0 i) (same.1 i)) ∙ w.4;
}

pub image_read : (rest : List ℕ) (id : ℕ) (back : List ℕ) (result : Option FileName) → id < 2 ^ 63 → rest ≡ id_text id ++ back → image_named id back ≡ result
    → IsReading (codes "fsimage_" ++ rest) result
image_read rest id back result small e named = subst (IsReading (codes "fsimage_" ++ rest)) named (image_reading rest id back small e)

pub not_empty : (back : List ℕ) → false ≡ (length back == 0) → bytes_eq back [] ≡ false
not_empty [] e = sym e
not_empty (b ∷ back) e = refl

pub image_unread : (rest : List ℕ) → ((id : ℕ) (back : List ℕ) → id < 2 ^ 63 → rest ≡ id_text id ++ back → ⊥) → IsReading (codes "fsimage_" ++ rest) None
image_unread rest nowhere = unread _ (λ name r e. let w = images name rest r e in nowhere w.0 w.1 w.2 w.3)

-- with `fsimage.ckpt_`
pub checkpoints : (name : FileName) (rest : List ℕ) → IsInRange name → text_of name ≡ codes "fsimage.ckpt_" ++ rest
    → (id : ℕ) × (id < 2 ^ 63) × (rest ≡ id_text id) × (name ≡ Ckpt id)
checkpoints Version rest r e = absurd (differ 0 e refl)
checkpoints VersionTmp rest r e = absurd (differ 0 e refl)
checkpoints Seen rest r e = absurd (differ 0 e refl)
checkpoints SeenTmp rest r e = absurd (differ 0 e refl)
checkpoints (Image id) rest r e = absurd (differ 7 e refl)
checkpoints (Md5 id) rest r e = absurd (differ 7 e refl)
checkpoints (Md5Tmp id) rest r e = absurd (differ 7 e refl)
checkpoints (Ckpt id) rest r e = (id, r, sym (ap (drop 13) e), refl)
checkpoints (Edits span) rest r e = absurd (differ 0 e refl)
checkpoints (InProgress first) rest r e = absurd (differ 0 e refl)

-- the first byte of an id's text is a digit, and so no letter
no_letter : (id : ℕ) (back : List ℕ) (letter : ℕ) → get_or (id_text id ++ back) 0 0 ≡ letter → letter ≤ 57
no_letter id back letter e =
    let within : 0 < length (id_text id) = omega (arith, length-id_text id) in
    let digit = digit_at (id_text id) 0 (digits_from_test (id_text id) (digits-last_digits 19 id)) within in
    omega (arith, digit, get_or_append_left (id_text id) back 0 0 within, e)

not_below : 105 ≤ 57 → ⊥
not_below h = omega arith

-- with `edits_inprogress_`
pub in_progresses : (name : FileName) (rest : List ℕ) → IsInRange name → text_of name ≡ codes "edits_inprogress_" ++ rest
    → (first : ℕ) × (1 ≤ first) × (first < 2 ^ 63) × (rest ≡ id_text first) × (name ≡ InProgress first)
in_progresses Version rest r e = absurd (differ 0 e refl)
in_progresses VersionTmp rest r e = absurd (differ 0 e refl)
in_progresses Seen rest r e = absurd (differ 0 e refl)
in_progresses SeenTmp rest r e = absurd (differ 0 e refl)
in_progresses (Image id) rest r e = absurd (differ 0 e refl)
in_progresses (Md5 id) rest r e = absurd (differ 0 e refl)
in_progresses (Md5Tmp id) rest r e = absurd (differ 0 e refl)
in_progresses (Ckpt id) rest r e = absurd (differ 0 e refl)
in_progresses (Edits span) rest r e = absurd (not_below (no_letter span.0 _ 105 (ap (λ text. get_or text 6 0) e)))
in_progresses (InProgress first) rest r e = (first, r.0, r.1, sym (ap (drop 17) e), refl)

-- with `edits_`: that of a finalized segment, or one in progress
pub edits_forms : (name : FileName) (rest : List ℕ) → text_of name ≡ codes "edits_" ++ rest
    → ((span : ℕ × ℕ) × (rest ≡ id_text span.0 ++ (codes "-" ++ id_text span.1)) × (name ≡ Edits span)) ⊎ ((back : List ℕ) × (rest ≡ codes "inprogress_" ++ back))
edits_forms Version rest e = absurd (differ 0 e refl)
edits_forms VersionTmp rest e = absurd (differ 0 e refl)
edits_forms Seen rest e = absurd (differ 0 e refl)
edits_forms SeenTmp rest e = absurd (differ 0 e refl)
edits_forms (Image id) rest e = absurd (differ 0 e refl)
edits_forms (Md5 id) rest e = absurd (differ 0 e refl)
edits_forms (Md5Tmp id) rest e = absurd (differ 0 e refl)
edits_forms (Ckpt id) rest e = absurd (differ 0 e refl)
edits_forms (Edits span) rest e = inl (span, sym (ap (drop 6) e), refl)
edits_forms (InProgress first) rest e = inr (id_text first, sym (ap (drop 6) e))

-- with anything
pub forms : (name : FileName) (text : List ℕ) → text_of name ≡ text
    → (form_of name < 4) ⊎ (((rest : List ℕ) × (text ≡ codes "fsimage_" ++ rest)) ⊎ (((rest : List ℕ) × (text ≡ codes "fsimage.ckpt_" ++ rest)) ⊎ ((rest : List ℕ) × (text ≡ codes "edits_" ++ rest))))
forms Version text e = inl (lit< tt)
forms VersionTmp text e = inl (lit< tt)
forms Seen text e = inl (lit< tt)
forms SeenTmp text e = inl (lit< tt)
forms (Image id) text e = inr (inl (_, sym e))
forms (Md5 id) text e = inr (inl (_, sym e))
forms (Md5Tmp id) text e = inr (inl (_, sym e))
forms (Ckpt id) text e = inr (inr (inl (_, sym e)))
forms (Edits span) text e = inr (inr (inr (_, sym e)))
forms (InProgress first) text e = inr (inr (inr (codes "inprogress_" ++ id_text first, sym e)))

pub edits_reading : (rest : List ℕ) (result : Option FileName) → ((back : List ℕ) → rest ≢ codes "inprogress_" ++ back)
    → IfSome result (λ name. IsInRange name × (text_of name ≡ codes "edits_" ++ rest))
    → ((name : FileName) → IsInRange name → form_of name ≡ 8 → text_of name ≡ codes "edits_" ++ rest → result ≡ Some name)
    → IsReading (codes "edits_" ++ rest) result
edits_reading rest result nowhere found only = record {
  found = found;
  only = λ name r e. elim (edits_forms name rest e) [ inl w ↦ only name r (ap form_of w.2) e | inr w ↦ absurd (nowhere w.0 w.1) ];
}
