-- What one change to a list of files makes of it, by the place that was found.
use Rattle.std.proofs.Common.{◌≡◌, inl, inr, ℕ, ◌<◌, ◌≤◌, ◌+◌, List, [], ◌∷◌, ◌++◌, length, get_or, map, take, Option, Some, None, refl, sym, ◌∙◌, ap, arith}
use Rattle.std.specs.Prelude.{Bool, true, false, not, filter, ◌&&◌, if◌then◌else◌, slice_set, option_map}
use Rattle.std.specs.List.{position_or_len}
use Rattle.std.proofs.lemmas.List.{map-set, length-map, map-append, take_more}
use Rattle.std.proofs.Math.ListN.{get_or-map}
use Rattle.std.proofs.Math.Seq.{map-set_same}
use Rattle.nn_base.specs.declared.sub.Sub.{Sub}
use Rattle.nn_base.specs.declared.file_name.FileName.{FileName}
use Rattle.nn_base.specs.Names.{sub_eq, file_eq}
use Rattle.nn_base.proofs.NamesLemmas.{sub_tells}
use Rattle.nn_memhost.specs.declared.kept.file.KeptFile.{KeptFile}
use Rattle.nn_memhost.specs.Content.{Content}
use Rattle.nn_memhost.specs.Kept.{Placed, placed_of, content_of, fits, find_in, content_at}
use Rattle.nn_memhost.proofs.FilesLemmas.{find_in-set, find_in-push, found, absent, same_if, fits_self, met, apart, mapped, mapped_at, mapped_more, length-mapped}

pub placed_at : (fs : List KeptFile) (k : ℕ) (x : KeptFile) → x ≡ get_or fs k x → placed_of x ≡ get_or (map placed_of fs) k (placed_of x)
placed_at fs k x is = ap placed_of is ∙ sym (get_or-map placed_of fs k x)

module _ (s : Sub) (n : FileName) (fs : List KeptFile) (k : ℕ) (is : k ≡ position_or_len (fits s n) (map placed_of fs)) where
  below : k < length fs → k < length (map placed_of fs)
  below lt = omega (arith, lt, length-map fs placed_of)

  pub found_file : (x : KeptFile) → k < length fs → x ≡ get_or fs k x → content_at fs s n ≡ Some (content_of x)
  found_file x lt at = (found s n (map placed_of fs) k (placed_of x) is (below lt) (placed_at fs k x at)).1

  pub absent_file : length fs ≤ k → content_at fs s n ≡ None
  absent_file le = absent s n (map placed_of fs) (omega (arith, le, is, length-map fs placed_of))

  -- the file there is changed
  pub edited : (g : Content → Content) (x y : KeptFile) → k < length fs → x ≡ get_or fs k x → y.sub ≡ x.sub → y.name ≡ x.name → content_of y ≡ g (content_of x)
      → (q : Sub) (m : FileName) → content_at (slice_set fs k y) q m ≡ (if sub_eq q s && file_eq m n then option_map g (content_at fs s n) else content_at fs q m)
  edited g x y lt at sub name content q m =
      let there = found s n (map placed_of fs) k (placed_of x) is (below lt) (placed_at fs k x at) in
      let fitting : fits s n (placed_of y) ≡ true = (λ i. sub_eq s (sub i) && file_eq n (name i)) ∙ there.0 in
      ap (λ (ps : List Placed). find_in ps q m) (map-set placed_of fs k y)
      ∙ find_in-set s q n m (placed_of y) fitting (map placed_of fs) k is (below lt)
      ∙ (λ i. if sub_eq q s && file_eq m n then Some (content i) else content_at fs q m)
      ∙ (λ i. if sub_eq q s && file_eq m n then option_map g (sym there.1 i) else content_at fs q m)

  -- there is no such file
  pub unedited : (g : Content → Content) → length fs ≤ k → (q : Sub) (m : FileName) → content_at fs q m ≡ (if sub_eq q s && file_eq m n then option_map g (content_at fs s n) else content_at fs q m)
  unedited g le q m =
      let none = absent s n (map placed_of fs) (omega (arith, le, is, length-map fs placed_of)) in
      same_if s q n m (map placed_of fs) none ∙ (λ i. if sub_eq q s && file_eq m n then option_map g (sym none i) else content_at fs q m)

  -- a new file is put there or behind
  pub put_there : (y : KeptFile) → y.sub ≡ s → y.name ≡ n → k < length fs → (q : Sub) (m : FileName) → content_at (slice_set fs k y) q m ≡ (if sub_eq q s && file_eq m n then Some (content_of y) else content_at fs q m)
  put_there y sub name lt q m =
      let fitting : fits s n (placed_of y) ≡ true = (λ i. sub_eq (sym sub i) y.sub && file_eq (sym name i) y.name) ∙ fits_self (placed_of y) in
      ap (λ (ps : List Placed). find_in ps q m) (map-set placed_of fs k y) ∙ find_in-set s q n m (placed_of y) fitting (map placed_of fs) k is (below lt)

  pub put_behind : (y : KeptFile) → y.sub ≡ s → y.name ≡ n → length fs ≤ k → (q : Sub) (m : FileName) → content_at (fs ++ y ∷ []) q m ≡ (if sub_eq q s && file_eq m n then Some (content_of y) else content_at fs q m)
  put_behind y sub name le q m =
      let fitting : fits s n (placed_of y) ≡ true = (λ i. sub_eq (sym sub i) y.sub && file_eq (sym name i) y.name) ∙ fits_self (placed_of y) in
      ap (λ (ps : List Placed). find_in ps q m) (map-append placed_of fs (y ∷ [])) ∙ find_in-push s q n m (placed_of y) fitting (map placed_of fs) (omega (arith, le, is, length-map fs placed_of))

-- a file whose content stays
pub same_content : (fs : List KeptFile) (k : ℕ) (x y : KeptFile) → k < length fs → x ≡ get_or fs k x → y.sub ≡ x.sub → y.name ≡ x.name → content_of y ≡ content_of x → (q : Sub) (m : FileName) → content_at (slice_set fs k y) q m ≡ content_at fs q m
same_content fs k x y lt at sub name content q m =
    let placed : placed_of y ≡ placed_of (get_or fs k x) = (λ i. record { sub = sub i; name = name i; content = content i }) ∙ ap placed_of at in
    ap (λ (ps : List Placed). find_in ps q m) (map-set_same placed_of fs k y x placed)

-- one more of a list is changed
pub one_changed : (g : Placed → Placed) (es : List Placed) (fs : List KeptFile) (k : ℕ) (x y : KeptFile) → map placed_of fs ≡ mapped g k es → k < length fs → x ≡ get_or fs k x → placed_of y ≡ g (placed_of x)
    → map placed_of (slice_set fs k y) ≡ mapped g (k + 1) es
one_changed g es fs k x y so_far lt at changed =
    map-set placed_of fs k y
    ∙ ap (λ (ps : List Placed). slice_set ps k (placed_of y)) so_far
    ∙ mapped_more g k es (placed_of y) (placed_of x) (omega (arith, lt, length-map fs placed_of, ap length so_far, length-mapped g k es))
    (changed ∙ ap g (placed_at fs k x at ∙ ap (λ (ps : List Placed). get_or ps k (placed_of x)) so_far ∙ mapped_at g k es (placed_of x)))

-- what is left where files are taken out

taken : {A : Type 0} (c f : Bool) (v rest : Option A) → f ≡ c → (if c then None else rest) ≡ (if c then None else if f then v else rest)
taken true f v rest e = refl
taken false true v rest e = cc
taken false false v rest e = refl

kept : {A : Type 0} (c f : Bool) (v before rest : Option A) → (c ≡ true → f ≡ false) → before ≡ (if c then None else rest) → (if f then v else before) ≡ (if c then None else if f then v else rest)
kept true true v before rest e h = let no_way = e refl in cc
kept true false v before rest e h = h
kept false true v before rest e h = refl
kept false false v before rest e h = h

nothing : (b : Bool) → ◌≡◌ {A = Option Content} None (if b then None else None)
nothing true = refl
nothing false = refl

module _ (s : Sub) (n : FileName) (q : Sub) (m : FileName) where
  one_out : (b : Bool) (x : KeptFile) (xs ys : List KeptFile) → fits s n (placed_of x) ≡ b → content_at ys q m ≡ (if sub_eq q s && file_eq m n then None else content_at xs q m)
      → content_at (if not b then x ∷ ys else ys) q m ≡ (if sub_eq q s && file_eq m n then None else content_at (x ∷ xs) q m)
  one_out true x xs ys at so_far = so_far ∙ taken (sub_eq q s && file_eq m n) (fits q m (placed_of x)) (Some (content_of x)) (content_at xs q m) (met s q n m (placed_of x) at)
  one_out false x xs ys at so_far = kept (sub_eq q s && file_eq m n) (fits q m (placed_of x)) (Some (content_of x)) (content_at ys q m) (content_at xs q m) (apart s q n m (placed_of x) at) so_far

pub content_at-remove : (s : Sub) (n : FileName) (xs : List KeptFile) (q : Sub) (m : FileName) → content_at (filter (λ (x : KeptFile). not (fits s n (placed_of x))) xs) q m ≡ (if sub_eq q s && file_eq m n then None else content_at xs q m)
content_at-remove s n [] q m = nothing (sub_eq q s && file_eq m n)
content_at-remove s n (x ∷ xs) q m = one_out s n q m (fits s n (placed_of x)) x xs (filter (λ (y : KeptFile). not (fits s n (placed_of y))) xs) refl (content_at-remove s n xs q m)

module _ (s : Sub) (q : Sub) (m : FileName) where
  sub_met : (x : KeptFile) → sub_eq s x.sub ≡ true → sub_eq q s ≡ false → fits q m (placed_of x) ≡ false
  sub_met x at out = elim (sub_tells s x.sub) [
    | inr differ ↦ cc
    | inl same ↦ let e : sub_eq q x.sub ≡ false = ap (λ (r : Sub). sub_eq q r) (sym same.1) ∙ out in rw e
  ]

  sub_apart : (x : KeptFile) → sub_eq s x.sub ≡ false → sub_eq q s ≡ true → fits q m (placed_of x) ≡ false
  sub_apart x out e = elim (sub_tells q s) [
    | inr differ ↦ cc
    | inl same ↦ let f : sub_eq q x.sub ≡ false = ap (λ (r : Sub). sub_eq r x.sub) same.1 ∙ out in rw f
  ]

  taken_all : {A : Type 0} (c f : Bool) (v rest : Option A) → (c ≡ false → f ≡ false) → (if c then None else rest) ≡ (if c then None else if f then v else rest)
  taken_all true f v rest e = refl
  taken_all false f v rest e = let out = e refl in rw out

  sub_out : (b : Bool) (x : KeptFile) (xs ys : List KeptFile) → sub_eq s x.sub ≡ b → content_at ys q m ≡ (if sub_eq q s then None else content_at xs q m)
      → content_at (if not b then x ∷ ys else ys) q m ≡ (if sub_eq q s then None else content_at (x ∷ xs) q m)
  sub_out true x xs ys at so_far = so_far ∙ taken_all (sub_eq q s) (fits q m (placed_of x)) (Some (content_of x)) (content_at xs q m) (sub_met x at)
  sub_out false x xs ys at so_far = kept (sub_eq q s) (fits q m (placed_of x)) (Some (content_of x)) (content_at ys q m) (content_at xs q m) (sub_apart x at) so_far

pub content_at-remove_all : (s : Sub) (xs : List KeptFile) (q : Sub) (m : FileName) → content_at (filter (λ (x : KeptFile). not (sub_eq s x.sub)) xs) q m ≡ (if sub_eq q s then None else content_at xs q m)
content_at-remove_all s [] q m = nothing (sub_eq q s)
content_at-remove_all s (x ∷ xs) q m = sub_out s q m (sub_eq s x.sub) x xs (filter (λ (y : KeptFile). not (sub_eq s y.sub)) xs) refl (content_at-remove_all s xs q m)

pub same_len : (g : Placed → Placed) (fs es : List KeptFile) (k : ℕ) → map placed_of fs ≡ mapped g k (map placed_of es) → length fs ≡ length es
same_len g fs es k e = omega (arith, ap length e, length-map fs placed_of, length-map es placed_of, length-mapped g k (map placed_of es))

-- one more of a list is copied
pub one_copied : (es : List KeptFile) (k : ℕ) (copies : List KeptFile) (x y : KeptFile) → map placed_of copies ≡ take k (map placed_of es) → k < length es → x ≡ get_or es k x → placed_of y ≡ placed_of x
    → map placed_of (copies ++ y ∷ []) ≡ take (k + 1) (map placed_of es)
one_copied es k copies x y so_far lt at same =
    map-append placed_of copies (y ∷ [])
    ∙ (λ i. so_far i ++ (same ∙ placed_at es k x at) i ∷ [])
    ∙ sym (take_more (map placed_of es) k (placed_of x) (omega (arith, lt, length-map es placed_of)))

-- one more of a list is copied and changed
pub one_made : (g : Placed → Placed) (es : List KeptFile) (k : ℕ) (made : List KeptFile) (x y : KeptFile) → map placed_of made ≡ take k (map g (map placed_of es)) → k < length es → x ≡ get_or es k x → placed_of y ≡ g (placed_of x)
    → map placed_of (made ++ y ∷ []) ≡ take (k + 1) (map g (map placed_of es))
one_made g es k made x y so_far lt at changed =
    map-append placed_of made (y ∷ [])
    ∙ (λ i. so_far i ++ (changed ∙ ap g (placed_at es k x at) ∙ sym (get_or-map g (map placed_of es) k (placed_of x))) i ∷ [])
    ∙ sym (take_more (map g (map placed_of es)) k (g (placed_of x)) (omega (arith, lt, length-map es placed_of, length-map (map placed_of es) g)))
