-- What stands in a list of files after one change.
use Rattle.std.proofs.Common.{◌≡◌, inl, inr, ℕ, zero, suc, ◌<◌, ◌≤◌, ◌+◌, List, [], ◌∷◌, ◌++◌, length, get_or, map, Option, Some, None, refl, sym, ◌∙◌, ap, arith}
use Rattle.std.specs.Prelude.{Bool, true, false, ◌&&◌, if◌then◌else◌, slice_set, option_map}
use Rattle.std.specs.List.{position_or_len}
use Rattle.nn_base.specs.declared.sub.Sub.{Sub}
use Rattle.nn_base.specs.declared.file_name.FileName.{FileName}
use Rattle.nn_base.specs.Names.{sub_eq, file_eq}
use Rattle.nn_base.proofs.NamesLemmas.{sub_tells, file_tells}
use Rattle.nn_memhost.specs.Content.{Content, synced_content}
use Rattle.nn_memhost.specs.Kept.{Placed, fits, find_in}

pub both : (a b : Bool) → (a && b) ≡ true → (a ≡ true) × (b ≡ true)
both true true e = (refl, refl)
both true false e = cc
both false b e = cc

-- a file that fits one name fits another exactly where the two are the same
pub met : (s q : Sub) (n m : FileName) (p : Placed) → fits s n p ≡ true → fits q m p ≡ (sub_eq q s && file_eq m n)
met s q n m p at = elim (sub_tells s p.sub) [
  | inr differ ↦ let none : fits s n p ≡ false = rw differ.0 in cc
  | inl same ↦ elim (file_tells n p.name) [
    | inr differ ↦ let none : fits s n p ≡ false = rw (same.0, differ.0) in cc
    | inl name ↦ (λ i. sub_eq q (sym same.1 i) && file_eq m (sym name.1 i))
  ]
]

-- a file that doesn't fit one name doesn't fit the same name
pub apart : (s q : Sub) (n m : FileName) (p : Placed) → fits s n p ≡ false → (sub_eq q s && file_eq m n) ≡ true → fits q m p ≡ false
apart s q n m p out e =
    let b = both (sub_eq q s) (file_eq m n) e in
    elim (sub_tells q s) [
      | inr differ ↦ cc
      | inl same ↦ elim (file_tells m n) [
        | inr differ ↦ cc
        | inl name ↦ (λ i. sub_eq (same.1 i) p.sub && file_eq (name.1 i) p.name) ∙ out
      ]
    ]

pub fits_self : (p : Placed) → fits p.sub p.name p ≡ true
fits_self p = elim (sub_tells p.sub p.sub) [
  | inr differ ↦ absurd (differ.1 refl)
  | inl same ↦ elim (file_tells p.name p.name) [ inr differ ↦ absurd (differ.1 refl) | inl name ↦ rw (same.0, name.0) ]
]

past : {A : Type 0} (c f : Bool) (v new old rest : Option A) → (c ≡ true → f ≡ false) → rest ≡ (if c then new else old) → (if f then v else rest) ≡ (if c then new else if f then v else old)
past true true v new old rest e h = let no_way = e refl in cc
past true false v new old rest e h = h
past false true v new old rest e h = refl
past false false v new old rest e h = h

here : {A : Type 0} (c f g : Bool) (new v rest : Option A) → f ≡ c → g ≡ c → (if f then new else rest) ≡ (if c then new else if g then v else rest)
here true f g new v rest e h = rw e
here false f g new v rest e h = rw (e, h)

module _ (s q : Sub) (n m : FileName) (y : Placed) (at : fits s n y ≡ true) where
  set_step : (b : Bool) (x : Placed) (xs : List Placed) (k : ℕ) → fits s n x ≡ b → k ≡ position_or_len (fits s n) (x ∷ xs) → k < length (x ∷ xs)
      → ((j : ℕ) → j ≡ position_or_len (fits s n) xs → j < length xs → find_in (slice_set xs j y) q m ≡ (if sub_eq q s && file_eq m n then Some y.content else find_in xs q m))
      → find_in (slice_set (x ∷ xs) k y) q m ≡ (if sub_eq q s && file_eq m n then Some y.content else find_in (x ∷ xs) q m)
  set_step true x xs zero is e lt ih = here (sub_eq q s && file_eq m n) (fits q m y) (fits q m x) (Some y.content) (Some x.content) (find_in xs q m) (met s q n m y at) (met s q n m x is)
  set_step true x xs (suc k) is e lt ih = let none : position_or_len (fits s n) (x ∷ xs) ≡ 0 = rw is in absurd (omega arith)
  set_step false x xs zero is e lt ih = let more : position_or_len (fits s n) (x ∷ xs) ≡ 1 + position_or_len (fits s n) xs = rw is in absurd (omega arith)
  set_step false x xs (suc k) is e lt ih =
      let more : position_or_len (fits s n) (x ∷ xs) ≡ 1 + position_or_len (fits s n) xs = rw is in
      past (sub_eq q s && file_eq m n) (fits q m x) (Some x.content) (Some y.content) (find_in xs q m) (find_in (slice_set xs k y) q m) (apart s q n m x is) (ih k (omega arith) (omega arith))

  pub find_in-set : (xs : List Placed) (k : ℕ) → k ≡ position_or_len (fits s n) xs → k < length xs → find_in (slice_set xs k y) q m ≡ (if sub_eq q s && file_eq m n then Some y.content else find_in xs q m)
  find_in-set [] k e lt = absurd (omega arith)
  find_in-set (x ∷ xs) k e lt = set_step (fits s n x) x xs k refl e lt (λ j f l. find_in-set xs j f l)

  push_step : (b : Bool) (x : Placed) (xs : List Placed) → fits s n x ≡ b → length (x ∷ xs) ≤ position_or_len (fits s n) (x ∷ xs)
      → (length xs ≤ position_or_len (fits s n) xs → find_in (xs ++ y ∷ []) q m ≡ (if sub_eq q s && file_eq m n then Some y.content else find_in xs q m))
      → find_in (x ∷ xs ++ y ∷ []) q m ≡ (if sub_eq q s && file_eq m n then Some y.content else find_in (x ∷ xs) q m)
  push_step true x xs is le ih = let none : position_or_len (fits s n) (x ∷ xs) ≡ 0 = rw is in absurd (omega arith)
  push_step false x xs is le ih =
      let more : position_or_len (fits s n) (x ∷ xs) ≡ 1 + position_or_len (fits s n) xs = rw is in
      past (sub_eq q s && file_eq m n) (fits q m x) (Some x.content) (Some y.content) (find_in xs q m) (find_in (xs ++ y ∷ []) q m) (apart s q n m x is) (ih (omega arith))

  pub find_in-push : (xs : List Placed) → length xs ≤ position_or_len (fits s n) xs → find_in (xs ++ y ∷ []) q m ≡ (if sub_eq q s && file_eq m n then Some y.content else find_in xs q m)
  find_in-push [] le = ap (λ (b : Bool). if b then Some y.content else None) (met s q n m y at)
  find_in-push (x ∷ xs) le = push_step (fits s n x) x xs refl le (λ l. find_in-push xs l)

module _ (s : Sub) (n : FileName) where
  found_step : (z : Placed) (xs : List Placed) (x : Placed) (b : Bool) (k : ℕ) → fits s n z ≡ b → k ≡ position_or_len (fits s n) (z ∷ xs) → k < length (z ∷ xs) → x ≡ get_or (z ∷ xs) k x
      → ((j : ℕ) → j ≡ position_or_len (fits s n) xs → j < length xs → x ≡ get_or xs j x → (fits s n x ≡ true) × (find_in xs s n ≡ Some x.content)) → (fits s n x ≡ true) × (find_in (z ∷ xs) s n ≡ Some x.content)
  found_step z xs x true zero at e lt is ih = (ap (fits s n) is ∙ at, rw at (ap (λ (p : Placed). Some p.content) (sym is)))
  found_step z xs x true (suc k) at e lt is ih = let none : position_or_len (fits s n) (z ∷ xs) ≡ 0 = rw at in absurd (omega arith)
  found_step z xs x false zero at e lt is ih = let more : position_or_len (fits s n) (z ∷ xs) ≡ 1 + position_or_len (fits s n) xs = rw at in absurd (omega arith)
  found_step z xs x false (suc k) at e lt is ih =
      let more : position_or_len (fits s n) (z ∷ xs) ≡ 1 + position_or_len (fits s n) xs = rw at in
      let rest = ih k (omega arith) (omega arith) is in
      (rest.0, rw at rest.1)

  -- the place that was found has the file
  pub found : (xs : List Placed) (k : ℕ) (x : Placed) → k ≡ position_or_len (fits s n) xs → k < length xs → x ≡ get_or xs k x → (fits s n x ≡ true) × (find_in xs s n ≡ Some x.content)
  found [] k x e lt is = absurd (omega arith)
  found (z ∷ xs) k x e lt is = found_step z xs x (fits s n z) k refl e lt is (λ j f l i. found xs j x f l i)

  absent_step : (z : Placed) (xs : List Placed) (b : Bool) → fits s n z ≡ b → length (z ∷ xs) ≤ position_or_len (fits s n) (z ∷ xs) → (length xs ≤ position_or_len (fits s n) xs → find_in xs s n ≡ None) → find_in (z ∷ xs) s n ≡ None
  absent_step z xs true at le ih = let none : position_or_len (fits s n) (z ∷ xs) ≡ 0 = rw at in absurd (omega arith)
  absent_step z xs false at le ih = let more : position_or_len (fits s n) (z ∷ xs) ≡ 1 + position_or_len (fits s n) xs = rw at in rw at (ih (omega arith))

  pub absent : (xs : List Placed) → length xs ≤ position_or_len (fits s n) xs → find_in xs s n ≡ None
  absent [] le = refl
  absent (z ∷ xs) le = absent_step z xs (fits s n z) refl le (absent xs)

-- a name that no file has
pub same_if : (s q : Sub) (n m : FileName) (xs : List Placed) → find_in xs s n ≡ None → find_in xs q m ≡ (if sub_eq q s && file_eq m n then None else find_in xs q m)
same_if s q n m xs none = elim (sub_tells q s) [
  | inr differ ↦ rw differ.0
  | inl same ↦ elim (file_tells m n) [
    | inr differ ↦ rw (same.0, differ.0)
    | inl name ↦ rw (same.0, name.0) ((λ i. find_in xs (same.1 i) (name.1 i)) ∙ none)
  ]
]

-- each of the first k is changed

pub mapped : (Placed → Placed) → ℕ → List Placed → List Placed
mapped g zero ps = ps
mapped g (suc k) [] = []
mapped g (suc k) (p ∷ ps) = g p ∷ mapped g k ps

module _ (g : Placed → Placed) where
  pub mapped_none : (ps : List Placed) → ps ≡ mapped g 0 ps
  unfolding mapped
  mapped_none ps = refl

  pub length-mapped : (k : ℕ) (ps : List Placed) → length (mapped g k ps) ≡ length ps
  unfolding mapped
  length-mapped zero ps = refl
  length-mapped (suc k) [] = refl
  length-mapped (suc k) (p ∷ ps) = ap suc (length-mapped k ps)

  pub mapped_at : (k : ℕ) (ps : List Placed) (d : Placed) → get_or (mapped g k ps) k d ≡ get_or ps k d
  unfolding mapped
  mapped_at zero ps d = refl
  mapped_at (suc k) [] d = refl
  mapped_at (suc k) (p ∷ ps) d = mapped_at k ps d

  go : (k : ℕ) (ps : List Placed) (y d : Placed) → k < length ps → y ≡ g (get_or ps k d) → slice_set (mapped g k ps) k y ≡ mapped g (suc k) ps
  unfolding mapped
  go zero [] y d lt is = refl
  go zero (p ∷ ps) y d lt is = ap (λ (x : Placed). x ∷ ps) is
  go (suc k) [] y d lt is = refl
  go (suc k) (p ∷ ps) y d lt is = ap (λ (xs : List Placed). g p ∷ xs) (go k ps y d (omega arith) is)

  pub mapped_more : (k : ℕ) (ps : List Placed) (y d : Placed) → k < length ps → y ≡ g (get_or ps k d) → slice_set (mapped g k ps) k y ≡ mapped g (k + 1) ps
  mapped_more k ps y d lt is = go k ps y d lt is ∙ ap (λ (j : ℕ). mapped g j ps) (let e : suc k ≡ k + 1 = omega arith in e)

  all : (ps : List Placed) → mapped g (length ps) ps ≡ map g ps
  unfolding mapped
  all [] = refl
  all (p ∷ ps) = ap (λ (xs : List Placed). g p ∷ xs) (all ps)

  pub mapped_all : (k : ℕ) (ps : List Placed) → k ≡ length ps → mapped g k ps ≡ map g ps
  mapped_all k ps e = ap (λ (j : ℕ). mapped g j ps) e ∙ all ps

-- all are synced

abbrev pub synced_placed : Placed → Placed
synced_placed p = record p { content = synced_content p.content }

option_if : {A B : Type 0} (f : A → B) (b : Bool) (x : A) (y : Option A) → (if b then Some (f x) else option_map f y) ≡ option_map f (if b then Some x else y)
option_if f true x y = refl
option_if f false x y = refl

pub find_in-synced : (ps : List Placed) (q : Sub) (m : FileName) → find_in (map synced_placed ps) q m ≡ option_map synced_content (find_in ps q m)
find_in-synced [] q m = refl
find_in-synced (p ∷ ps) q m = ap (λ (rest : Option Content). if fits q m p then Some (synced_content p.content) else rest) (find_in-synced ps q m) ∙ option_if synced_content (fits q m p) p.content (find_in ps q m)

abbrev pub placed_by : (Content → Content) → Placed → Placed
placed_by g p = record p { content = g p.content }

pub find_in-placed_by : (g : Content → Content) (ps : List Placed) (q : Sub) (m : FileName) → find_in (map (placed_by g) ps) q m ≡ option_map g (find_in ps q m)
find_in-placed_by g [] q m = refl
find_in-placed_by g (p ∷ ps) q m = ap (λ (rest : Option Content). if fits q m p then Some (g p.content) else rest) (find_in-placed_by g ps q m) ∙ option_if g (fits q m p) p.content (find_in ps q m)

-- one is renamed

abbrev pub renamed : Sub → FileName → FileName → Placed → Placed
renamed s a b p = if fits s a p then record p { name = b } else p

hit : {A : Type 0} (cb ca f : Bool) (v x rest y : Option A) → f ≡ ca → rest ≡ (if cb then x else if ca then None else y) → (if cb then v else rest) ≡ (if cb then v else if ca then None else if f then v else y)
hit true ca f v x rest y e h = refl
hit false true f v x rest y e h = h
hit false false f v x rest y e h = rw e h

miss : {A : Type 0} (cb ca f : Bool) (v x rest y : Option A) → (cb ≡ true → f ≡ false) → (ca ≡ true → f ≡ false) → rest ≡ (if cb then x else if ca then None else y) → (if f then v else rest) ≡ (if cb then x else if ca then None else if f then v else y)
miss true ca true v x rest y b a h = let no_way = b refl in cc
miss true ca false v x rest y b a h = h
miss false true true v x rest y b a h = let no_way = a refl in cc
miss false true false v x rest y b a h = h
miss false false true v x rest y b a h = refl
miss false false false v x rest y b a h = h

module _ (s : Sub) (a b : FileName) (q : Sub) (m : FileName) where
  renamed_hit : (p : Placed) → fits s a p ≡ true → fits q m (record p { name = b }) ≡ (sub_eq q s && file_eq m b)
  renamed_hit p at = elim (sub_tells s p.sub) [
    | inr differ ↦ let none : fits s a p ≡ false = rw differ.0 in cc
    | inl same ↦ (λ i. sub_eq q (sym same.1 i) && file_eq m b)
  ]

  free : (p : Placed) (rest : Option Content) → (if fits s b p then Some p.content else rest) ≡ None → (fits s b p ≡ false) × (rest ≡ None)
  free p rest none = split (fits s b p) none
    where
      split : (f : Bool) → (if f then Some p.content else rest) ≡ None → (f ≡ false) × (rest ≡ None)
      split true e = cc
      split false e = (refl, e)

  rename_step : (f : Bool) (p : Placed) (ps : List Placed) → fits s a p ≡ f → fits s b p ≡ false
      → find_in (map (renamed s a b) ps) q m ≡ (if sub_eq q s && file_eq m b then find_in ps s a else if sub_eq q s && file_eq m a then None else find_in ps q m)
      → find_in (renamed s a b p ∷ map (renamed s a b) ps) q m ≡ (if sub_eq q s && file_eq m b then find_in (p ∷ ps) s a else if sub_eq q s && file_eq m a then None else find_in (p ∷ ps) q m)
  rename_step true p ps at none ih = rw at (ap (λ (t : Bool). if t then Some p.content else find_in (map (renamed s a b) ps) q m) (renamed_hit p at) ∙ hit (sub_eq q s && file_eq m b) (sub_eq q s && file_eq m a) (fits q m p) (Some p.content) (find_in ps s a) (find_in (map (renamed s a b) ps) q m) (find_in ps q m) (met s q a m p at) ih)
  rename_step false p ps at none ih = rw at (miss (sub_eq q s && file_eq m b) (sub_eq q s && file_eq m a) (fits q m p) (Some p.content) (find_in ps s a) (find_in (map (renamed s a b) ps) q m) (find_in ps q m) (apart s q b m p none) (apart s q a m p at) ih)

  pub find_in-renamed : (ps : List Placed) → find_in ps s b ≡ None → find_in (map (renamed s a b) ps) q m ≡ (if sub_eq q s && file_eq m b then find_in ps s a else if sub_eq q s && file_eq m a then None else find_in ps q m)
  find_in-renamed [] none = nothing (sub_eq q s && file_eq m b) (sub_eq q s && file_eq m a)
    where
      nothing : (x y : Bool) → ◌≡◌ {A = Option Content} None (if x then None else if y then None else None)
      nothing true y = refl
      nothing false true = refl
      nothing false false = refl
  find_in-renamed (p ∷ ps) none =
      let out = free p (find_in ps s b) none in
      rename_step (fits s a p) p ps refl out.0 (find_in-renamed ps out.1)

-- all of one subfolder are given to another

abbrev pub moved : Sub → Sub → Placed → Placed
moved a b p = if sub_eq a p.sub then record p { sub = b } else p

module _ (a b : Sub) (q : Sub) (m : FileName) where
  move_hit : {A : Type 0} (ct cf f : Bool) (v x y rest : Option A) → rest ≡ (if ct then x else if cf then None else y) → (if ct && f then v else rest) ≡ (if ct then (if f then v else x) else if cf then None else if cf && f then v else y)
  move_hit true cf true v x y rest h = refl
  move_hit true cf false v x y rest h = h
  move_hit false true f v x y rest h = h
  move_hit false false f v x y rest h = h

  move_miss : {A : Type 0} (ct cf g f : Bool) (v x y rest : Option A) → (ct ≡ true → g ≡ false) → (cf ≡ true → g ≡ false) → rest ≡ (if ct then x else if cf then None else y) → (if g && f then v else rest) ≡ (if ct then x else if cf then None else if g && f then v else y)
  move_miss true cf true f v x y rest p r h = let no_way = p refl in cc
  move_miss true cf false f v x y rest p r h = h
  move_miss false true true f v x y rest p r h = let no_way = r refl in cc
  move_miss false true false f v x y rest p r h = h
  move_miss false false true true v x y rest p r h = refl
  move_miss false false true false v x y rest p r h = h
  move_miss false false false f v x y rest p r h = h

  -- no file stands in the other subfolder
  not_there : (p : Placed) (ps : List Placed) → ((n : FileName) → find_in (p ∷ ps) b n ≡ None) → (sub_eq b p.sub ≡ false) × ((n : FileName) → find_in ps b n ≡ None)
  not_there p ps none = (first, λ n. (split (fits b n p) (none n)))
    where
      split : {rest : Option Content} (f : Bool) → (if f then Some p.content else rest) ≡ None → rest ≡ None
      split true e = cc
      split false e = e

      first : sub_eq b p.sub ≡ false
      first = elim (sub_tells b p.sub) [
        | inr differ ↦ differ.0
        | inl same ↦ elim (file_tells p.name p.name) [
          | inr differ ↦ absurd (differ.1 refl)
          | inl name ↦ let some : find_in (p ∷ ps) b p.name ≡ Some p.content = rw (same.0, name.0) in let none' = none p.name in cc
        ]
      ]

  other_sub : (r : Sub) (p : Placed) → sub_eq r p.sub ≡ false → sub_eq q r ≡ true → sub_eq q p.sub ≡ false
  other_sub r p out e = elim (sub_tells q r) [
    | inr differ ↦ cc
    | inl same ↦ ap (λ (x : Sub). sub_eq x p.sub) same.1 ∙ out
  ]

  move_step : (f : Bool) (p : Placed) (ps : List Placed) → sub_eq a p.sub ≡ f → sub_eq b p.sub ≡ false
      → find_in (map (moved a b) ps) q m ≡ (if sub_eq q b then find_in ps a m else if sub_eq q a then None else find_in ps q m)
      → find_in (moved a b p ∷ map (moved a b) ps) q m ≡ (if sub_eq q b then find_in (p ∷ ps) a m else if sub_eq q a then None else find_in (p ∷ ps) q m)
  move_step true p ps at none ih = elim (sub_tells a p.sub) [
    | inr differ ↦ cc
    | inl same ↦ rw at (move_hit (sub_eq q b) (sub_eq q a) (file_eq m p.name) (Some p.content) (find_in ps a m) (find_in ps q m) (find_in (map (moved a b) ps) q m) ih ∙ (λ i. if sub_eq q b then (if file_eq m p.name then Some p.content else find_in ps a m) else if sub_eq q a then None else if sub_eq q (same.1 i) && file_eq m p.name then Some p.content else find_in ps q m))
  ]
  move_step false p ps at none ih = rw at (move_miss (sub_eq q b) (sub_eq q a) (sub_eq q p.sub) (file_eq m p.name) (Some p.content) (find_in ps a m) (find_in ps q m) (find_in (map (moved a b) ps) q m) (other_sub b p none) (other_sub a p at) ih)

  pub find_in-moved : (ps : List Placed) → ((n : FileName) → find_in ps b n ≡ None) → find_in (map (moved a b) ps) q m ≡ (if sub_eq q b then find_in ps a m else if sub_eq q a then None else find_in ps q m)
  find_in-moved [] none = nothing (sub_eq q b) (sub_eq q a)
    where
      nothing : (x y : Bool) → ◌≡◌ {A = Option Content} None (if x then None else if y then None else None)
      nothing true y = refl
      nothing false true = refl
      nothing false false = refl
  find_in-moved (p ∷ ps) none =
      let out = not_there p ps none in
      move_step (sub_eq a p.sub) p ps refl out.0 (find_in-moved ps out.1)
