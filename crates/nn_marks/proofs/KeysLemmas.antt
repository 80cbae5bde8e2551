-- A line gives at most one key, and flags that are set along the lines say which keys they gave.
use Rattle.std.proofs.Common.{◌≡◌, ◌≢◌, ℕ, zero, suc, ◌<◌, Bool, true, false, List, [], ◌∷◌, ◌++◌, length, drop, map, set, get_or, Option, Some, None, sym, ap, ◌∙◌, refl, inl, inr, arith, cond, lit<}
use Rattle.std.specs.Option.{is_some, option_or}
use Rattle.std.specs.Prelude.{nat_eq}
use Rattle.std.specs.List.{starts_with}
use Rattle.std.proofs.lemmas.List.{get_or-set_same, get_or-set_other, map_push}
use Rattle.std.proofs.lemmas.Option.{cond_some, same_Some, none-some}
use Rattle.std.proofs.lemmas.Slice.Eq.{starts_is}
use Rattle.std.proofs.lemmas.Bool.{cases_eq}
use Rattle.std.proofs.lemmas.Bool.Decides.{Decides-eqb}
use Rattle.nn_marks.specs.declared.key.Key.{Key}
use Rattle.nn_marks.specs.declared.key.Key.TheVariants.{NamespaceId, ClusterId, CTime, StorageType, BlockpoolId, LayoutVersion}
use Rattle.nn_marks.specs.Given.{place_of, Marks}
use Rattle.nn_base.specs.First.{first_of}
use Rattle.nn_base.proofs.FirstLemmas.{first_push}
use Rattle.nn_marks.specs.Version.{Line, keys, front_of, value_in, value_of, key_in}

key_at : ℕ → Key
key_at zero = NamespaceId
key_at (suc zero) = ClusterId
key_at (suc (suc zero)) = CTime
key_at (suc (suc (suc zero))) = StorageType
key_at (suc (suc (suc (suc zero)))) = BlockpoolId
key_at (suc (suc (suc (suc (suc n))))) = LayoutVersion

key_at-place_of : (key : Key) → key_at (place_of key) ≡ key
unfolding key_at
key_at-place_of NamespaceId = refl
key_at-place_of ClusterId = refl
key_at-place_of CTime = refl
key_at-place_of StorageType = refl
key_at-place_of BlockpoolId = refl
key_at-place_of LayoutVersion = refl

place_is_injective : (a b : Key) → place_of a ≡ place_of b → a ≡ b
place_is_injective a b e = sym (key_at-place_of a) ∙ ap key_at e ∙ key_at-place_of b

place_below : (key : Key) → place_of key < 6
place_below NamespaceId = lit< tt
place_below ClusterId = lit< tt
place_below CTime = lit< tt
place_below StorageType = lit< tt
place_below BlockpoolId = lit< tt
place_below LayoutVersion = lit< tt

key_in-front : (key : Key) (value : List ℕ) → key_in (front_of key ++ value) ≡ Some key
key_in-front NamespaceId value = refl
key_in-front ClusterId value = refl
key_in-front CTime value = refl
key_in-front StorageType value = refl
key_in-front BlockpoolId value = refl
key_in-front LayoutVersion value = refl

-- a line that gives a key begins with its front
line_from_value : (key : Key) (line value : List ℕ) → value_in key line ≡ Some value → line ≡ front_of key ++ value
line_from_value key line value e =
    let found = cond_some (starts_with nat_eq line (front_of key)) (drop (length (front_of key)) line) value e in
    (starts_is Decides-eqb line (front_of key) _ refl).0 found.0 ∙ ap (λ rest. front_of key ++ rest) found.1

pub key_from_value : (key : Key) (line value : List ℕ) → value_in key line ≡ Some value → key_in line ≡ Some key
key_from_value key line value e = ap key_in (line_from_value key line value e) ∙ key_in-front key value

-- no other key has a value in it
pub no_value : (key : Key) (line : List ℕ) → key_in line ≢ Some key → value_in key line ≡ None
no_value key line apart = go (value_in key line) refl where
  go : (o : Option (List ℕ)) → value_in key line ≡ o → value_in key line ≡ None
  go None e = e
  go (Some value) e = absurd (apart (key_from_value key line value e))

passes_if_first : (test : Key → Bool) (ks : List Key) (key : Key) → first_of (map (λ k. cond (test k) (Some k) None) ks) ≡ Some key → test key ≡ true
passes_if_first test [] key e = absurd (none-some key e)
passes_if_first test (k ∷ ks) key e = go (test k) (passes_if_first test ks key) refl e where
  go : (b : Bool) → (first_of (map (λ x. cond (test x) (Some x) None) ks) ≡ Some key → test key ≡ true) → test k ≡ b
      → first_of (cond b (Some k) None ∷ map (λ x. cond (test x) (Some x) None) ks) ≡ Some key → test key ≡ true
  go true rest t f = ap test (sym (same_Some k key f)) ∙ t
  go false rest t f = rest f

pub value_from_key : (key : Key) (line : List ℕ) → key_in line ≡ Some key → is_some (value_in key line) ≡ true
value_from_key key line e = passes_if_first (λ k. is_some (value_in k line)) keys key e

-- the value of a key among lines, with one more
pub value_of-push : (key : Key) (lines : List Line) (line : Line) → value_of key (lines ++ line ∷ []) ≡ option_or (value_of key lines) (value_in key line)
value_of-push key lines line = ap first_of (map_push (value_in key) lines line) ∙ first_push (map (value_in key) lines) (value_in key line)

is_some-or_none : (o : Option (List ℕ)) → is_some (option_or o None) ≡ is_some o
is_some-or_none None = refl
is_some-or_none (Some x) = refl

is_some-or_some : (o p : Option (List ℕ)) → is_some p ≡ true → is_some (option_or o p) ≡ true
is_some-or_some None p e = e
is_some-or_some (Some x) p e = refl

-- a key that the line doesn't give is given by the lines with it where it is by those before
same_given : (key : Key) (lines : List Line) (line : Line) → key_in line ≢ Some key → is_some (value_of key (lines ++ line ∷ [])) ≡ is_some (value_of key lines)
same_given key lines line apart = ap is_some (value_of-push key lines line ∙ ap (option_or (value_of key lines)) (no_value key line apart)) ∙ is_some-or_none (value_of key lines)

pub marks_pass : (flags : List Bool) (lines : List Line) (line : Line) → key_in line ≡ None → Marks flags lines → Marks flags (lines ++ line ∷ [])
marks_pass flags lines line none marks = λ key. marks key ∙ sym (same_given key lines line (λ e. none-some key (sym none ∙ e)))

pub marks_set : (flags : List Bool) (lines : List Line) (line : Line) (key : Key) → length flags ≡ 6 → key_in line ≡ Some key → Marks flags lines
    → Marks (set flags (place_of key) true) (lines ++ line ∷ [])
marks_set flags lines line key long some marks = λ k. elim (cases_eq (place_of k) (place_of key)) [
  | inl same ↦
      let e = place_is_injective k key same in
      let within : place_of k < length flags = omega (arith, place_below k, long) in
      ap (λ n. get_or (set flags n true) (place_of k) false) (sym same) ∙ get_or-set_same flags (place_of k) true false within
      ∙ sym (ap is_some (value_of-push k lines line) ∙ is_some-or_some (value_of k lines) (value_in k line) (value_from_key k line (some ∙ ap Some (sym e))))
  | inr apart ↦
      get_or-set_other flags (place_of key) (place_of k) true false apart ∙ marks k
      ∙ sym (same_given k lines line (λ e. apart (ap place_of (same_Some k key (sym e ∙ some)))))
]

pub marks_none : Marks (false ∷ false ∷ false ∷ false ∷ false ∷ false ∷ []) []
marks_none NamespaceId = refl
marks_none ClusterId = refl
marks_none CTime = refl
marks_none StorageType = refl
marks_none BlockpoolId = refl
marks_none LayoutVersion = refl
