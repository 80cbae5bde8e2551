-- Names in the order of their texts.
use Rattle.std.proofs.Common.{◌≡◌, ◌⊎◌, inl, inr, ⊎_elim, ℕ, zero, suc, ◌<◌, List, [], ◌∷◌, length, get_or, take, map, Option, Some, None, is_some, refl, sym, ◌∙◌, ap, subst, arith}
use Rattle.std.specs.Prelude.{Bool, true, false, if◌then◌else◌, Contains, AllPairs}
use Rattle.std.specs.Global.{Vec}
use Rattle.std.specs.List.{AllByRecursion}
use Rattle.std.specs.List.Sorted.{IsStrictlySortedBy}
use Rattle.std.specs.Ordering.{nat_cmp, ordering_then, match_ordering}
use Rattle.std.specs.declared.cmp.Ordering.{Ordering}
use Rattle.std.specs.declared.cmp.Ordering.TheVariants.{Less, Equal, Greater}
use Rattle.std.specs.Cmp.Lexicographic.{slice_cmp}
use Rattle.std.specs.BTreeMap.{BTreeMap, insert_entry}
use Rattle.nn_base.specs.declared.sub.Sub.{Sub}
use Rattle.nn_base.specs.declared.file_name.FileName.{FileName}
use Rattle.nn_base.specs.Names.{sub_eq}
use Rattle.nn_base.proofs.NamesLemmas.{sub_tells, file_tells}
use Rattle.nn_base.specs.FileText.{text_of, IsInRange}
use Rattle.nn_host.specs.Listing.{IsBefore}
use Rattle.nn_memhost.specs.Content.{Content}
use Rattle.nn_memhost.specs.Kept.{Placed, fits, find_in}
use Rattle.nn_memhost.specs.Names.{text_cmp, IsSpelled, AreSpelled, Among, AllThere, AreListed, IsAdded}
use Rattle.nn_memhost.proofs.FilesLemmas.{fits_self}

-- texts that compare as equal are

first_equal : (a b : Ordering) → ordering_then a b ≡ Equal → (a ≡ Equal) × (b ≡ Equal)
first_equal Less b e = cc
first_equal Equal b e = (refl, e)
first_equal Greater b e = cc

number_equal : (x y : ℕ) → nat_cmp x y ≡ Equal → x ≡ y
number_equal x y e = grind arith

pub text_equal : (a b : List ℕ) → slice_cmp nat_cmp a b ≡ Equal → a ≡ b
text_equal [] [] e = refl
text_equal [] (y ∷ ys) e = cc
text_equal (x ∷ xs) [] e = cc
text_equal (x ∷ xs) (y ∷ ys) e =
    let both = first_equal (nat_cmp x y) (slice_cmp nat_cmp xs ys) e in
    (λ i. number_equal x y both.0 i ∷ text_equal xs ys both.1 i)

-- a name is put among the others

module _ (files : List Placed) (s : Sub) (k : Vec ℕ) (v : FileName) (new : IsSpelled files s (k, v)) where
  spelled_step : (o : Ordering) (e : Vec ℕ × FileName) (es : List (Vec ℕ × FileName)) → o ≡ text_cmp k e.0 → AreSpelled files s (e ∷ es) → AreSpelled files s (insert_entry text_cmp es k v) → AreSpelled files s (match_ordering o ((k, v) ∷ e ∷ es) ((e.0, v) ∷ es) (e ∷ insert_entry text_cmp es k v))
  spelled_step Less e es is all ih = (new, all)
  spelled_step Equal e es is all ih = (record { text = new.text ∙ text_equal k.items e.0.items (sym is); range = new.range; there = new.there }, all.1)
  spelled_step Greater e es is all ih = (all.0, ih)

  pub insert_spelled : (es : List (Vec ℕ × FileName)) → AreSpelled files s es → AreSpelled files s (insert_entry text_cmp es k v)
  insert_spelled [] all = (new, tt)
  insert_spelled (e ∷ es) all = spelled_step (text_cmp k e.0) e es refl all (insert_spelled es all.1)

  new_step : (o : Ordering) (e : Vec ℕ × FileName) (es : List (Vec ℕ × FileName)) → Among (insert_entry text_cmp es k v) v → Among (match_ordering o ((k, v) ∷ e ∷ es) ((e.0, v) ∷ es) (e ∷ insert_entry text_cmp es k v)) v
  new_step Less e es ih = inl refl
  new_step Equal e es ih = inl refl
  new_step Greater e es ih = inr ih

  pub insert_new : (es : List (Vec ℕ × FileName)) → Among (insert_entry text_cmp es k v) v
  insert_new [] = inl refl
  insert_new (e ∷ es) = new_step (text_cmp k e.0) e es (insert_new es)

  -- no other name has this text
  module _ (alone : (other : FileName) → IsInRange other → text_of other ≡ k.items → other ≡ v) where
    among_step : (n : FileName) (o : Ordering) (e : Vec ℕ × FileName) (es : List (Vec ℕ × FileName)) → o ≡ text_cmp k e.0 → IsSpelled files s e → (e.1 ≡ n) ⊎ Among es n → (Among es n → Among (insert_entry text_cmp es k v) n)
        → Among (match_ordering o ((k, v) ∷ e ∷ es) ((e.0, v) ∷ es) (e ∷ insert_entry text_cmp es k v)) n
    among_step n Less e es is spelled among ih = inr among
    among_step n Equal e es is spelled among ih = ⊎_elim (λ here. inl (sym (alone e.1 spelled.range (spelled.text ∙ sym (text_equal k.items e.0.items (sym is)))) ∙ here)) (λ later. inr later) among
    among_step n Greater e es is spelled among ih = ⊎_elim (λ here. inl here) (λ later. inr (ih later)) among

    pub insert_among : (n : FileName) (es : List (Vec ℕ × FileName)) → AreSpelled files s es → Among es n → Among (insert_entry text_cmp es k v) n
    insert_among n [] all among = absurd among
    insert_among n (e ∷ es) all among = among_step n (text_cmp k e.0) e es refl all.0 among (λ later. insert_among n es all.1 later)

-- names among pairs and in a list

pub contains_among : (es : List (Vec ℕ × FileName)) (n : FileName) → Among es n → Contains (map (λ (e : Vec ℕ × FileName). e.1) es) n
contains_among [] n among = absurd among
contains_among (e ∷ es) n among = ⊎_elim (λ here. (0, omega arith, here)) (λ later. let rest = contains_among es n later in (suc rest.0, omega (arith, rest.1), rest.2)) among

there_step : (files : List Placed) (s : Sub) (e : Vec ℕ × FileName) (es : List (Vec ℕ × FileName)) (n : FileName) (k : ℕ) → IsSpelled files s e → k < length (map (λ (x : Vec ℕ × FileName). x.1) (e ∷ es)) → get_or (map (λ (x : Vec ℕ × FileName). x.1) (e ∷ es)) k n ≡ n
    → ((j : ℕ) → j < length (map (λ (x : Vec ℕ × FileName). x.1) es) → get_or (map (λ (x : Vec ℕ × FileName). x.1) es) j n ≡ n → is_some (find_in files s n) ≡ true) → is_some (find_in files s n) ≡ true
there_step files s e es n zero spelled lt at ih = ap (λ (m : FileName). is_some (find_in files s m)) (sym at) ∙ spelled.there
there_step files s e es n (suc k) spelled lt at ih = ih k (omega arith) at

pub all_there : (files : List Placed) (s : Sub) (es : List (Vec ℕ × FileName)) → AreSpelled files s es → (n : FileName) (k : ℕ) → k < length (map (λ (e : Vec ℕ × FileName). e.1) es) → get_or (map (λ (e : Vec ℕ × FileName). e.1) es) k n ≡ n → is_some (find_in files s n) ≡ true
all_there files s [] all n k lt at = absurd (omega arith)
all_there files s (e ∷ es) all n k lt at = there_step files s e es n k all.0 lt at (λ j l a. all_there files s es all.1 n j l a)

-- the texts ascend

module _ (files : List Placed) (s : Sub) where
  before_step : (e f : Vec ℕ × FileName) → IsSpelled files s e → IsSpelled files s f → text_cmp e.0 f.0 ≡ Less → IsBefore e.1 f.1
  before_step e f p q less = (λ i. slice_cmp nat_cmp (p.text i) (q.text i)) ∙ less

  first_before : (e : Vec ℕ × FileName) (es : List (Vec ℕ × FileName)) → IsSpelled files s e → AreSpelled files s es → AllByRecursion (λ y. text_cmp e.0 y ≡ Less) (map (λ (x : Vec ℕ × FileName). x.0) es)
      → (j : ℕ) (d : FileName) → j < length (map (λ (x : Vec ℕ × FileName). x.1) es) → IsBefore e.1 (get_or (map (λ (x : Vec ℕ × FileName). x.1) es) j d)
  first_before e [] p all less j d lt = absurd (omega arith)
  first_before e (f ∷ es) p all less zero d lt = before_step e f p all.0 less.0
  first_before e (f ∷ es) p all less (suc j) d lt = first_before e es p all.1 less.1 j d (omega arith)

  pairs : (es : List (Vec ℕ × FileName)) → AreSpelled files s es → IsStrictlySortedBy text_cmp (map (λ (x : Vec ℕ × FileName). x.0) es) → (i j : ℕ) (d : FileName) → i < j → j < length (map (λ (x : Vec ℕ × FileName). x.1) es)
      → IsBefore (get_or (map (λ (x : Vec ℕ × FileName). x.1) es) i d) (get_or (map (λ (x : Vec ℕ × FileName). x.1) es) j d)
  unfolding IsStrictlySortedBy
  pairs [] all sorted i j d lt lj = absurd (omega arith)
  pairs (e ∷ es) all sorted i zero d lt lj = absurd (omega arith)
  pairs (e ∷ es) all sorted zero (suc j) d lt lj = first_before e es all.0 all.1 sorted.0 j d (omega arith)
  pairs (e ∷ es) all sorted (suc i) (suc j) d lt lj = pairs es all.1 sorted.1 i j d (omega arith) (omega arith)

  pub ascending : (es : List (Vec ℕ × FileName)) → AreSpelled files s es → IsStrictlySortedBy text_cmp (map (λ (x : Vec ℕ × FileName). x.0) es) → AllPairs IsBefore (map (λ (x : Vec ℕ × FileName). x.1) es)
  ascending es all sorted = λ i j d lt lj. pairs es all sorted i j d lt lj

-- the files before and with one more

either_some : (b : Bool) (c : Content) (x : Option Content) → is_some x ≡ true → is_some (if b then Some c else x) ≡ true
either_some true c x e = refl
either_some false c x e = e

-- a file of the list is there
pub file_there : (ps : List Placed) (k : ℕ) (p : Placed) → k < length ps → p ≡ get_or ps k p → is_some (find_in ps p.sub p.name) ≡ true
file_there [] k p lt is = absurd (omega arith)
file_there (x ∷ ps) zero p lt is =
    let fit : fits p.sub p.name x ≡ true = ap (λ (y : Placed). fits p.sub p.name y) (sym is) ∙ fits_self p in
    ap (λ (b : Bool). is_some (if b then Some x.content else find_in ps p.sub p.name)) fit
file_there (x ∷ ps) (suc k) p lt is = either_some (fits p.sub p.name x) x.content (find_in ps p.sub p.name) (file_there ps k p (omega arith) is)

split_some : (b : Bool) (c : Content) (x : Option Content) → is_some (if b then Some c else x) ≡ true → (b ≡ true) ⊎ (is_some x ≡ true)
split_some true c x e = inl refl
split_some false c x e = inr e

-- a name that is among one more is among those before, or is that one's
pub one_more : (ps : List Placed) (k : ℕ) (p : Placed) → k < length ps → p ≡ get_or ps k p → (s : Sub) (n : FileName) → is_some (find_in (take (suc k) ps) s n) ≡ true → (is_some (find_in (take k ps) s n) ≡ true) ⊎ (fits s n p ≡ true)
one_more [] k p lt is s n e = absurd (omega arith)
one_more (x ∷ ps) zero p lt is s n e = ⊎_elim (λ fit. inr (ap (λ (y : Placed). fits s n y) is ∙ fit)) (λ none. cc) (split_some (fits s n x) x.content None e)
one_more (x ∷ ps) (suc k) p lt is s n e = ⊎_elim
    (λ fit. inl (ap (λ (b : Bool). is_some (if b then Some x.content else find_in (take k ps) s n)) fit))
    (λ later. ⊎_elim (λ before. inl (either_some (fits s n x) x.content (find_in (take k ps) s n) before)) (λ fit. inr fit) (one_more ps k p (omega arith) is s n later))
    (split_some (fits s n x) x.content (find_in (take (suc k) ps) s n) e)

-- what fits a name has it
pub fitting : (s : Sub) (n : FileName) (p : Placed) → fits s n p ≡ true → (s ≡ p.sub) × (n ≡ p.name)
fitting s n p fit = elim (sub_tells s p.sub) [
  | inr differ ↦ let none : fits s n p ≡ false = rw differ.0 in cc
  | inl same ↦ elim (file_tells n p.name) [
    | inr differ ↦ let none : fits s n p ≡ false = rw (same.0, differ.0) in cc
    | inl name ↦ (same.1, name.1)
  ]
]

-- one step over the files

module _ (files : List Placed) (s : Sub) (i : ℕ) (p : Placed) (lt : i < length files) (at : p ≡ get_or files i p) (es : List (Vec ℕ × FileName)) (all : AllThere (take i files) s es) where
  pub all_out : sub_eq s p.sub ≡ false → AllThere (take (suc i) files) s es
  all_out out = record { all = λ n e. ⊎_elim (λ before. all.all n before) (λ fit. elim (sub_tells s p.sub) [ inl same ↦ cc | inr differ ↦ absurd (differ.1 (fitting s n p fit).0) ]) (one_more files i p lt at s n e) }

  module _ (spelled : AreSpelled files s es) (inside : sub_eq s p.sub ≡ true) (old new : BTreeMap (Vec ℕ) FileName) (is : old.entries ≡ es) (added : IsAdded p.name old new) where
    this : IsSpelled files s (added.text, p.name)
    this = record {
      text = added.spells;
      range = added.range;
      there = elim (sub_tells s p.sub) [ inl same ↦ ap (λ (q : Sub). is_some (find_in files q p.name)) same.1 ∙ file_there files i p lt at | inr differ ↦ cc ];
    }

    become : new.entries ≡ insert_entry text_cmp es added.text p.name
    become = added.entries ∙ ap (λ (l : List (Vec ℕ × FileName)). insert_entry text_cmp l added.text p.name) is

    pub spelled_in : AreSpelled files s new.entries
    spelled_in = subst (λ (l : List (Vec ℕ × FileName)). AreSpelled files s l) (sym become) (insert_spelled files s added.text p.name this es spelled)

    pub all_in : AllThere (take (suc i) files) s new.entries
    all_in = subst (λ (l : List (Vec ℕ × FileName)). AllThere (take (suc i) files) s l) (sym become) (record {
      all = λ n e. ⊎_elim
          (λ before. insert_among files s added.text p.name this added.alone n es spelled (all.all n before))
          (λ fit. subst (λ (m : FileName). Among (insert_entry text_cmp es added.text p.name) m) (sym (fitting s n p fit).1) (insert_new files s added.text p.name this es))
          (one_more files i p lt at s n e);
    })

-- the names of the pairs are the listing
pub listed : (files : List Placed) (s : Sub) (es : List (Vec ℕ × FileName)) (names : List FileName) → AreSpelled files s es → AllThere files s es → IsStrictlySortedBy text_cmp (map (λ (x : Vec ℕ × FileName). x.0) es) → names ≡ map (λ (x : Vec ℕ × FileName). x.1) es → AreListed files s names
listed files s es names spelled all sorted is = subst (λ (l : List FileName). AreListed files s l) (sym is) (record {
  all = λ n there. contains_among es n (all.all n there);
  only = λ n among. all_there files s es spelled n among.0 among.1 among.2;
  ascending = ascending files s es spelled sorted;
})
