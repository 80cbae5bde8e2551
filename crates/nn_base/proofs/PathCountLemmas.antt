-- What a pass over a text shows of its parts: where the first ends, whether it is a name, and how many there are.
use Rattle.std.proofs.Common.{◌≡◌, ◌≢◌, ℕ, zero, suc, ◌+◌, ◌-◌, ◌<◌, ◌≤◌, Bool, true, false, ◌||◌, ◌==◌, nat_lt, [], ◌∷◌, ◌++◌, length, take, drop, get_or, refl, sym, ap, subst, ◌∙◌, arith, inl, inr, Some, None, lt-ltb, le-ltb, one-add}
use Rattle.std.specs.Prelude.{not, unwrap_or}
use Rattle.std.proofs.lemmas.Iterator.Adapters.{position_from-zero}
use Rattle.std.proofs.lemmas.List.Sums.{prefix_len-le-length}
use Rattle.std.specs.List.{position_from, position_or_len, slice_split, onto_first, before_first}
use Rattle.std.proofs.lemmas.Bool.{cases_Bool, cases_lt, or_parts, or_from, or_right, eq-eqb, ne_eqb, eqb-true}
use Rattle.std.proofs.lemmas.List.{take_all, length-drop, length-take-le}
use Rattle.nn_base.specs.Limits.{most_name, most_path}
use Rattle.nn_base.specs.declared.path.fault.PathFault.{PathFault}
use Rattle.nn_base.specs.declared.path.fault.PathFault.TheVariants.{BadName, LongName}
use Rattle.nn_base.specs.Paths.{Names, Bytes, is_dots, has_barred, is_bad_name, is_long_name}
use Rattle.nn_base.specs.First.{when, first_of}
use Rattle.nn_base.specs.PathText.{part_fault, fault_among}
use Rattle.nn_base.specs.PathHeld.{is_slash, is_special}
use Rattle.nn_base.proofs.FirstLemmas.{first_behind}
use Rattle.nn_base.proofs.PathTextLemmas.{split}

-- ---- the first part

pub position_or_end : (p : ℕ → Bool) (text : Bytes) → unwrap_or (position_from p 0 text) (length text) ≡ position_or_len p text
position_or_end p text = ap (λ o. unwrap_or o (length text)) (sym (position_from-zero p text)) ∙ (elim (cases_lt (position_or_len p text) (length text)) [
  | inl within ↦ let e : nat_lt (position_or_len p text) (length text) ≡ true = lt-ltb _ _ within in rw e refl
  | inr past ↦ let e : nat_lt (position_or_len p text) (length text) ≡ false = le-ltb _ _ past in rw e (omega (arith, past, prefix_len-le-length (λ b. not (p b)) text))
])

abbrev pub special_at : Bytes → ℕ
special_at text = position_or_len is_special text

abbrev pub slash_at : Bytes → ℕ
slash_at text = position_or_len is_slash text

-- no barred byte stands before the first special one
front_is_clean : (text : Bytes) → has_barred (take (special_at text) text) ≡ false
front_is_clean [] = refl
front_is_clean (b ∷ text) = elim (cases_Bool (is_special b)) [
  | inl e ↦ rw e refl
  | inr e ↦ let more = front_is_clean text in let p = or_parts (b == 47) (b == 0 || b == 58) e in rw (e, one-add (special_at text)) (or_from (b == 0 || b == 58) _ p.1 more)
]

-- a special byte that is a slash ends the part
ends_at_special : (text : Bytes) → (special_at text < length text → get_or text (special_at text) 0 ≡ 47) → slash_at text ≡ special_at text
ends_at_special [] h = refl
ends_at_special (b ∷ text) h = elim (cases_Bool (is_special b)) [
  | inl e ↦ let slash : (b == 47) ≡ true = eq-eqb b 47 (at_once e h) in rw (e, slash) refl
  | inr e ↦
      let p = or_parts (b == 47) (b == 0 || b == 58) e in
      let more = ends_at_special text (later e h) in
      rw (e, p.0, more) refl
]
  where
    at_once : is_special b ≡ true → (special_at (b ∷ text) < length (b ∷ text) → get_or (b ∷ text) (special_at (b ∷ text)) 0 ≡ 47) → b ≡ 47
    at_once e = rw e (λ h. h (omega arith))

    later : is_special b ≡ false → (special_at (b ∷ text) < length (b ∷ text) → get_or (b ∷ text) (special_at (b ∷ text)) 0 ≡ 47) → special_at text < length text → get_or text (special_at text) 0 ≡ 47
    later e = rw (e, one-add (special_at text)) (λ h within. h (omega (arith, within)))

-- another stands in the part
barred_at_special : (text : Bytes) → special_at text < length text → get_or text (special_at text) 0 ≢ 47 → has_barred (before_first is_slash text) ≡ true
barred_at_special [] within h = absurd (omega arith)
barred_at_special (b ∷ text) within h = elim (cases_Bool (b == 47)) [
  | inl e ↦ absurd (h (rw e (eqb-true b 47 e)))
  | inr e ↦ elim (cases_Bool (b == 0 || b == 58)) [
    | inl barred ↦ rw (e, one-add (slash_at text), barred) refl
    | inr plain ↦
        let special : is_special b ≡ false = or_from (b == 47) _ e plain in
        rw (e, one-add (slash_at text)) (or_right (b == 0 || b == 58) _ (barred_at_special text (rest special within) (rest_is special h)))
  ]
]
  where
    rest : is_special b ≡ false → special_at (b ∷ text) < length (b ∷ text) → special_at text < length text
    rest e = rw e (λ w. omega (arith, w))

    rest_is : is_special b ≡ false → get_or (b ∷ text) (special_at (b ∷ text)) 0 ≢ 47 → get_or text (special_at text) 0 ≢ 47
    rest_is e = rw (e, one-add (special_at text)) (λ h. h)

bad_part : (part : Bytes) → is_bad_name part ≡ true → part_fault part ≡ Some BadName
bad_part part h = rw h refl

pub barred_part : (text : Bytes) (len : ℕ) → len ≡ special_at text → len < length text → (get_or text len 0 ≡ 47 → ⊥) → part_fault (before_first is_slash text) ≡ Some BadName
barred_part text len is within apart =
    bad_part (before_first is_slash text) (or_right _ _ (barred_at_special text (omega (arith, is, within)) (subst (λ (n : ℕ). get_or text n 0 ≢ 47) is apart)))

pub long_part : (part : Bytes) → is_bad_name part ≡ false → most_name < length part → part_fault part ≡ Some LongName
long_part part h long =
    let e : is_long_name part ≡ true = lt-ltb _ _ long in
    rw (h, e) refl

pub fair_part : (part : Bytes) → is_bad_name part ≡ false → length part ≤ most_name → part_fault part ≡ None
fair_part part h short =
    let e : is_long_name part ≡ false = le-ltb _ _ short in
    rw (h, e) refl

-- the bytes before the first special one are a part, where that one is a slash or there is none
pub record IsPart (text : Bytes) (len : ℕ) : Type 0 where
  pub ends : len ≡ slash_at text
  pub clean : has_barred (take len text) ≡ false
  pub within : len ≤ length text

pub part : (text : Bytes) (len : ℕ) → len ≡ special_at text → (len < length text → get_or text len 0 ≡ 47) → IsPart text len
part text len is h =
    subst (λ (n : ℕ). (n < length text → get_or text n 0 ≡ 47) → IsPart text n) (sym is)
    (λ h. record { ends = sym (ends_at_special text h); clean = front_is_clean text; within = prefix_len-le-length (λ b. not (is_special b)) text }) h

pub no_bad_part : (text : Bytes) (len : ℕ) → IsPart text len → (len ≡ 0 → ⊥) → is_dots (take len text) ≡ false → is_bad_name (take len text) ≡ false
no_bad_part text len p some dots =
    or_from _ _ (or_from _ _ (ne_eqb _ 0 (λ e. some (sym (length-take-le len text p.within) ∙ e))) dots) p.clean

pub part_before : (text : Bytes) (len : ℕ) → IsPart text len → before_first is_slash text ≡ take len text
part_before text len p = ap (λ n. take n text) (sym p.ends)

-- ---- the parts behind it

pub split_at : (text : Bytes) → slash_at text < length text → split text ≡ take (slash_at text) text ∷ split (drop (slash_at text + 1) text)
split_at [] within = absurd (omega arith)
split_at (b ∷ text) within = elim (cases_Bool (b == 47)) [
  | inl e ↦ rw e refl
  | inr e ↦
      let one : 1 + slash_at text + 1 ≡ suc (slash_at text + 1) = omega arith in
      rw (e, one, one-add (slash_at text)) (ap (onto_first b) (split_at text (rest e within)))
]
  where
    rest : (b == 47) ≡ false → slash_at (b ∷ text) < length (b ∷ text) → slash_at text < length text
    rest e = rw e (λ w. omega (arith, w))

pub split_end : (text : Bytes) → length text ≤ slash_at text → split text ≡ text ∷ []
split_end [] past = refl
split_end (b ∷ text) past = elim (cases_Bool (b == 47)) [
  | inl e ↦ absurd (none e past)
  | inr e ↦ rw e (ap (onto_first b) (split_end text (rest e past)))
]
  where
    none : (b == 47) ≡ true → length (b ∷ text) ≤ slash_at (b ∷ text) → ⊥
    none e = rw e (λ p. omega (arith, p))

    rest : (b == 47) ≡ false → length (b ∷ text) ≤ slash_at (b ∷ text) → length text ≤ slash_at text
    rest e = rw e (λ p. omega (arith, p))

pub first_fault : (text : Bytes) (fault : PathFault) → part_fault (before_first is_slash text) ≡ Some fault → fault_among (split text) ≡ Some fault
first_fault text fault h = elim (cases_lt (slash_at text) (length text)) [
  | inl within ↦ ap fault_among (split_at text within) ∙ by
  | inr past ↦
      let same : before_first is_slash text ≡ text = take_all (slash_at text) text past in
      let e : part_fault text ≡ Some fault = ap part_fault (sym same) ∙ h in
      ap fault_among (split_end text past) ∙ rw e refl
]
  where
    by : fault_among (before_first is_slash text ∷ split (drop (slash_at text + 1) text)) ≡ Some fault
    by = rw h refl

-- what a loop over the parts has found, once all but those of left were names
pub record AreCounted (text left : Bytes) (count : ℕ) : Type 0 where
  pub fault : fault_among (split text) ≡ fault_among (split left)
  pub parts : length (split text) + 1 ≡ count + length (split left)
  pub few : count + length left ≤ most_path + 1

pub count_start : (text : Bytes) → length text ≤ most_path → AreCounted text text 1
count_start text short = record { fault = refl; parts = omega arith; few = omega arith }

pub count_more : (text left : Bytes) (count len : ℕ) → AreCounted text left count → len ≡ slash_at left → len < length left → part_fault (take len left) ≡ None → AreCounted text (drop (len + 1) left) (count + 1)
count_more text left count len h is within fair =
    let e : split left ≡ take len left ∷ split (drop (len + 1) left) = subst (λ (n : ℕ). split left ≡ take n left ∷ split (drop (n + 1) left)) (sym is) (split_at left (omega (arith, is, within))) in
    record {
      fault = h.fault ∙ ap fault_among e ∙ first_behind (part_fault (take len left)) _ fair;
      parts = let p = h.parts in omega (arith, ap length e);
      few = let f = h.few in omega (arith, length-drop (len + 1) left);
    }

pub count_end : (text left : Bytes) (count len : ℕ) → AreCounted text left count → len ≡ slash_at left → length left ≤ len → part_fault (take len left) ≡ None → (count ≡ length (split text)) × (fault_among (split text) ≡ None)
count_end text left count len h is past fair =
    let e : split left ≡ left ∷ [] = split_end left (omega (arith, is, past)) in
    let same : take len left ≡ left = take_all len left past in
    (let p = h.parts in omega (arith, ap length e), h.fault ∙ ap fault_among e ∙ first_behind (part_fault left) [] (ap part_fault (sym same) ∙ fair))
