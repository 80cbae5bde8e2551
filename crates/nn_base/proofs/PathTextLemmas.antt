-- A path reads back from its text, and a text that reads is the text of its parts.
use Rattle.std.proofs.Common.{◌≡◌, ℕ, zero, suc, ◌+◌, ◌<◌, ◌≤◌, Bool, true, false, not, ◌||◌, ◌==◌, nat_lt, [], ◌∷◌, ◌++◌, length, take, drop, get_or, refl, sym, ap, subst, ◌∙◌, arith, inl, inr, append-nil, Some, None, cond, le-ltb, ltb-false}
use Rattle.std.specs.Prelude.{All, map}
use Rattle.std.specs.List.{slice_split, onto_first}
use Rattle.std.proofs.lemmas.Bool.{cases_Bool, or_parts, or_from, not-true, not-false, eqb-true, ne_eqb}
use Rattle.std.proofs.lemmas.List.{take_more}
use Rattle.std.proofs.lemmas.List.Elements.{All-nil, All-cons, All-head, All-tail}
use Rattle.nn_base.specs.Limits.{most_levels, most_path}
use Rattle.nn_base.specs.declared.path.fault.PathFault.{PathFault}
use Rattle.nn_base.specs.declared.path.fault.PathFault.TheVariants.{Empty, Relative, LongPath, BadName, LongName, Deep}
use Rattle.nn_base.specs.Paths.{Names, Bytes, IsPath, is_name, is_bad_name, is_long_name, has_slash, joined, text_of}
use Rattle.nn_base.specs.First.{when, first_of}
use Rattle.nn_base.proofs.FirstLemmas.{none_first, first_behind, unsaid, untrue}
use Rattle.nn_base.specs.PathText.{parts, parts_of, is_absolute, part_fault, fault_among, fault_of}

abbrev pub split : Bytes → Names
split text = slice_split (λ b. b == 47) text

abbrev pub IsNamed : Bytes → Type 0
IsNamed part = is_name part ≡ true

abbrev pub IsWhole : Bytes → Type 0
IsWhole part = has_slash part ≡ false

-- ---- names and parts

pub name_is_whole : (x : Bytes) → IsNamed x → IsWhole x
name_is_whole x h = (or_parts (is_bad_name x || is_long_name x) (has_slash x) (not-true _ h)).1

name_has_no_fault : (x : Bytes) → IsNamed x → part_fault x ≡ None
name_has_no_fault x h = by (is_bad_name x) (is_long_name x) (or_parts (is_bad_name x || is_long_name x) (has_slash x) (not-true _ h)).0
  where
    by : (bad long : Bool) → (bad || long) ≡ false → first_of (when bad BadName ∷ when long LongName ∷ []) ≡ None
    by true long h = cc
    by false true h = cc
    by false false h = refl

whole_is_name : (x : Bytes) → IsWhole x → part_fault x ≡ None → IsNamed x
whole_is_name x whole h = by (is_bad_name x) (is_long_name x) (has_slash x) whole h
  where
    by : (bad long slash : Bool) → slash ≡ false → first_of (when bad BadName ∷ when long LongName ∷ []) ≡ None → not (bad || long || slash) ≡ true
    by true long slash w h = cc
    by false true slash w h = cc
    by false false true w h = cc
    by false false false w h = refl

-- ---- what stands between slashes

split_name : (x rest : Bytes) → IsWhole x → split (x ++ 47 ∷ rest) ≡ x ∷ split rest
split_name [] rest h = refl
split_name (b ∷ x) rest h =
    let e = or_parts (b == 47) (has_slash x) h in
    let more = split_name x rest e.1 in
    rw (e.0, more) refl

split_last : (x : Bytes) → IsWhole x → split x ≡ x ∷ []
split_last [] h = refl
split_last (b ∷ x) h =
    let e = or_parts (b == 47) (has_slash x) h in
    let more = split_last x e.1 in
    rw (e.0, more) refl

split-joined : (x : Bytes) (rest : Names) → All IsNamed (x ∷ rest) → split (x ++ joined rest) ≡ x ∷ rest
split-joined x [] h = ap split (append-nil x) ∙ split_last x (name_is_whole x (All-head IsNamed x [] h))
split-joined x (y ∷ rest) h =
    split_name x (y ++ joined rest) (name_is_whole x (All-head IsNamed x (y ∷ rest) h))
    ∙ ap (λ more. x ∷ more) (split-joined y rest (All-tail IsNamed x (y ∷ rest) h))

joined_onto : (b : ℕ) (names : Names) (rest : Bytes) → joined names ≡ 47 ∷ rest → joined (onto_first b names) ≡ 47 ∷ b ∷ rest
joined_onto b [] rest e = cc
joined_onto b (x ∷ names) rest e = ap (λ xs. 47 ∷ b ∷ drop 1 xs) e

joined-split : (text : Bytes) → joined (split text) ≡ 47 ∷ text
joined-split [] = refl
joined-split (b ∷ text) = elim (cases_Bool (b == 47)) [
  | inl e ↦ rw e (ap (λ xs. 47 ∷ xs) (joined-split text) ∙ ap (λ c. 47 ∷ c ∷ text) (sym (eqb-true b 47 e)))
  | inr e ↦ rw e (joined_onto b (split text) text (joined-split text))
]

onto_whole : (b : ℕ) (names : Names) → (b == 47) ≡ false → All IsWhole names → All IsWhole (onto_first b names)
onto_whole b [] e h = All-cons IsWhole (b ∷ []) [] (or_from _ _ e refl) (All-nil IsWhole)
onto_whole b (x ∷ names) e h = All-cons IsWhole (b ∷ x) names (or_from _ _ e (All-head IsWhole x names h)) (All-tail IsWhole x names h)

split_whole : (text : Bytes) → All IsWhole (split text)
split_whole [] = All-cons IsWhole [] [] refl (All-nil IsWhole)
split_whole (b ∷ text) = elim (cases_Bool (b == 47)) [
  | inl e ↦ subst (λ (t : Bool). All IsWhole (cond t ([] ∷ split text) (onto_first b (split text)))) (sym e) (All-cons IsWhole [] (split text) refl (split_whole text))
  | inr e ↦ subst (λ (t : Bool). All IsWhole (cond t ([] ∷ split text) (onto_first b (split text)))) (sym e) (onto_whole b (split text) e (split_whole text))
]

pub parts_are_whole : (text : Bytes) → All IsWhole (parts text)
unfolding parts
parts_are_whole [] = All-nil IsWhole
parts_are_whole (b ∷ text) = split_whole (b ∷ text)

-- ---- a path and its text

-- what names are written as reads back as the names
pub parts_of-joined : (names : Names) → All IsNamed names → parts_of (joined names) ≡ names
unfolding parts
parts_of-joined [] h = refl
parts_of-joined ([] ∷ rest) h = absurd (none (All-head IsNamed [] rest h))
  where
    none : IsNamed [] → ⊥
    none e = cc
parts_of-joined ((b ∷ x) ∷ rest) h = split-joined (b ∷ x) rest h

-- what is written reads back as itself
pub parts_of-text_of : (path : Names) → IsPath path → parts_of (text_of path) ≡ path
unfolding parts
parts_of-text_of [] h = refl
parts_of-text_of (x ∷ rest) h = parts_of-joined (x ∷ rest) h.named

-- no two paths have one text
pub text_of_is_injective : (p q : Names) → IsPath p → IsPath q → text_of p ≡ text_of q → p ≡ q
text_of_is_injective p q a b e = sym (parts_of-text_of p a) ∙ ap parts_of e ∙ parts_of-text_of q b

text_of_joined : (names : Names) (rest : Bytes) → joined names ≡ 47 ∷ rest → text_of names ≡ 47 ∷ rest
text_of_joined [] rest e = cc
text_of_joined (x ∷ names) rest e = e

pub text_of-parts_of : (text : Bytes) → is_absolute text ≡ true → text_of (parts_of text) ≡ text
unfolding parts
text_of-parts_of [] h = cc
text_of-parts_of (b ∷ []) h = ap (λ c. c ∷ []) (sym (eqb-true b 47 h))
text_of-parts_of (b ∷ c ∷ rest) h =
    text_of_joined (split (c ∷ rest)) (c ∷ rest) (joined-split (c ∷ rest)) ∙ ap (λ d. d ∷ c ∷ rest) (sym (eqb-true b 47 h))

joined_is_shorter : (names : Names) → length (joined names) ≤ length (text_of names)
joined_is_shorter [] = omega arith
joined_is_shorter (x ∷ names) = omega arith

-- ---- the first fault

names_have_no_fault : (names : Names) → All IsNamed names → fault_among names ≡ None
names_have_no_fault [] h = refl
names_have_no_fault (x ∷ names) h =
    first_behind (part_fault x) (map part_fault names) (name_has_no_fault x (All-head IsNamed x names h))
    ∙ names_have_no_fault names (All-tail IsNamed x names h)

whole_are_names : (names : Names) → All IsWhole names → fault_among names ≡ None → All IsNamed names
whole_are_names [] whole h = All-nil IsNamed
whole_are_names (x ∷ names) whole h =
    let e = none_first (part_fault x) (map part_fault names) h in
    All-cons IsNamed x names (whole_is_name x (All-head IsWhole x names whole) e.0) (whole_are_names names (All-tail IsWhole x names whole) e.1)

-- the first parts of a list have no fault, and the next has one or none
pub fault_at : (names : Names) (k : ℕ) (x : Bytes) (fault : PathFault) → k < length names → x ≡ get_or names k x → fault_among (take k names) ≡ None → part_fault x ≡ Some fault
    → fault_among names ≡ Some fault
fault_at [] k x fault within is h f = absurd (omega arith)
fault_at (y ∷ names) zero x fault within is h f =
    let e : part_fault y ≡ Some fault = ap part_fault (sym is) ∙ f in
    rw e refl
fault_at (y ∷ names) (suc k) x fault within is h f =
    let e = none_first (part_fault y) (map part_fault (take k names)) h in
    first_behind (part_fault y) (map part_fault names) e.0 ∙ fault_at names k x fault (omega arith) is e.1 f

no_fault_push : (names : Names) (x : Bytes) → fault_among names ≡ None → part_fault x ≡ None → fault_among (names ++ x ∷ []) ≡ None
no_fault_push [] x h f = first_behind (part_fault x) [] f
no_fault_push (y ∷ names) x h f =
    let e = none_first (part_fault y) (map part_fault names) h in
    first_behind (part_fault y) (map part_fault (names ++ x ∷ [])) e.0 ∙ no_fault_push names x e.1 f

pub no_fault_more : (names : Names) (k : ℕ) (x : Bytes) → k < length names → x ≡ get_or names k x → fault_among (take k names) ≡ None → part_fault x ≡ None
    → fault_among (take (k + 1) names) ≡ None
no_fault_more names k x within is h f =
    ap fault_among (take_more names k x within ∙ ap (λ y. take k names ++ y ∷ []) (sym is)) ∙ no_fault_push (take k names) x h f

-- ---- a text as a whole

-- a text that begins with `/` and isn't too long, whose fault is one of its parts or their count
pub record IsFair (text : Bytes) : Type 0 where
  pub absolute : is_absolute text ≡ true
  pub size : length text ≤ most_path

-- that it has bytes
pub some_bytes : (b : ℕ) (text : Bytes) → (length (b ∷ text) == 0) ≡ false
some_bytes b text = ne_eqb (length (b ∷ text)) 0 (λ e. omega arith)

some_byte : (text : Bytes) → is_absolute text ≡ true → (length text == 0) ≡ false
some_byte [] h = cc
some_byte (b ∷ text) h = some_bytes b text

pub fault_of_fair : (text : Bytes) → IsFair text → fault_of text ≡ first_of (fault_among (parts_of text) ∷ when (nat_lt most_levels (length (parts_of text))) Deep ∷ [])
unfolding fault_of
fault_of_fair text fair =
    first_behind _ _ (unsaid _ Empty (some_byte text fair.absolute))
    ∙ first_behind _ _ (unsaid _ Relative (ap not fair.absolute))
    ∙ first_behind _ _ (unsaid _ LongPath (le-ltb _ _ fair.size))

fair_from_no_fault : (text : Bytes) → fault_of text ≡ None → IsFair text
unfolding fault_of
fair_from_no_fault text h =
    let a = none_first (when (length text == 0) Empty) _ h in
    let b = none_first (when (not (is_absolute text)) Relative) _ a.1 in
    let c = none_first (when (nat_lt most_path (length text)) LongPath) _ b.1 in
    record { absolute = not-false _ (untrue _ Relative b.0); size = ltb-false _ _ (untrue _ LongPath c.0) }

pub no_fault_of_fair : (text : Bytes) → IsFair text → fault_among (parts_of text) ≡ None → length (parts_of text) ≤ most_levels → fault_of text ≡ None
no_fault_of_fair text fair among levels =
    fault_of_fair text fair ∙ first_behind _ _ among ∙ first_behind _ _ (unsaid _ Deep (le-ltb _ _ levels))

-- the parts of a text without a fault are a path, whose text it is
pub fair_is_path : (text : Bytes) → IsFair text → fault_among (parts_of text) ≡ None → length (parts_of text) ≤ most_levels → IsPath (parts_of text)
fair_is_path text fair among levels = record {
  named = whole_are_names (parts_of text) (parts_are_whole (drop 1 text)) among;
  levels = levels;
  size = omega (arith, joined_is_shorter (parts_of text), ap length (text_of-parts_of text fair.absolute), fair.size);
}

pub path_from_no_fault : (text : Bytes) → fault_of text ≡ None → IsPath (parts_of text) × (text_of (parts_of text) ≡ text)
path_from_no_fault text h =
    let fair = fair_from_no_fault text h in
    let a = none_first (fault_among (parts_of text)) _ (sym (fault_of_fair text fair) ∙ h) in
    let b = none_first (when (nat_lt most_levels (length (parts_of text))) Deep) _ a.1 in
    (fair_is_path text fair a.0 (ltb-false _ _ (untrue _ Deep b.0)), text_of-parts_of text fair.absolute)

-- the text of a path has no fault
pub fault_of-text_of : (path : Names) → IsPath path → fault_of (text_of path) ≡ None
fault_of-text_of path h =
    no_fault_of_fair (text_of path) (record { absolute = absolute path; size = size path h.size })
    (ap fault_among (parts_of-text_of path h) ∙ names_have_no_fault path h.named)
    (omega (arith, ap length (parts_of-text_of path h), h.levels))
  where
    absolute : (path : Names) → is_absolute (text_of path) ≡ true
    absolute [] = refl
    absolute (x ∷ path) = refl

    size : (path : Names) → length (joined path) ≤ most_path → length (text_of path) ≤ most_path
    size [] h = omega arith
    size (x ∷ path) h = h

pub no_path_has_fault : (text : Bytes) (fault : PathFault) → fault_of text ≡ Some fault → (path : Names) → IsPath path → text_of path ≡ text → ⊥
no_path_has_fault text fault h path is e = let none = fault_of-text_of path is in let same = ap fault_of e in cc
