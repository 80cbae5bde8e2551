-- What a list of directories holds after one change.
use Rattle.std.proofs.Common.{◌≡◌, ◌≢◌, inl, inr, ℕ, zero, suc, ◌<◌, ◌≤◌, ◌+◌, List, [], ◌∷◌, ◌++◌, length, get_or, take, map, refl, sym, ◌∙◌, ap, arith}
use Rattle.std.specs.Prelude.{slice_set}
use Rattle.std.proofs.lemmas.Bool.Decides.{eqb_tells}
use Rattle.std.proofs.lemmas.List.{length-map, map-append, take_more}
use Rattle.std.proofs.Math.ListN.{get_or-map}
use Rattle.nn_host.specs.Disk.{Held}
use Rattle.nn_memhost.specs.declared.kept.KeptDir.{KeptDir}
use Rattle.nn_memhost.specs.Content.{Content}
use Rattle.nn_memhost.specs.Held.{held_of, bare, settled}
use Rattle.nn_memhost.specs.Past.{kept_at, put_at}

pub kept_at-push : (ds : List KeptDir) (d : KeptDir) → ((j : ℕ) → kept_at ds j ≡ bare) → held_of d ≡ bare → (j : ℕ) → kept_at (ds ++ d ∷ []) j ≡ bare
kept_at-push [] d all is zero = is
kept_at-push [] d all is (suc j) = refl
kept_at-push (x ∷ ds) d all is zero = all zero
kept_at-push (x ∷ ds) d all is (suc j) = kept_at-push ds d (λ k. all (suc k)) is j

pub kept_at-read : (ds : List KeptDir) (i : ℕ) (d : KeptDir) → i < length ds → d ≡ get_or ds i d → kept_at ds i ≡ held_of d
kept_at-read [] i d lt is = absurd (omega arith)
kept_at-read (x ∷ ds) zero d lt is = ap held_of (sym is)
kept_at-read (x ∷ ds) (suc i) d lt is = kept_at-read ds i d (omega arith) is

kept_at-set_same : (ds : List KeptDir) (i : ℕ) (d : KeptDir) → i < length ds → kept_at (slice_set ds i d) i ≡ held_of d
kept_at-set_same [] i d lt = absurd (omega arith)
kept_at-set_same (x ∷ ds) zero d lt = refl
kept_at-set_same (x ∷ ds) (suc i) d lt = kept_at-set_same ds i d (omega arith)

kept_at-set_other : (ds : List KeptDir) (i : ℕ) (d : KeptDir) (j : ℕ) → j ≢ i → kept_at (slice_set ds i d) j ≡ kept_at ds j
kept_at-set_other [] i d j ne = refl
kept_at-set_other (x ∷ ds) zero d zero ne = absurd (ne refl)
kept_at-set_other (x ∷ ds) zero d (suc j) ne = refl
kept_at-set_other (x ∷ ds) (suc i) d zero ne = refl
kept_at-set_other (x ∷ ds) (suc i) d (suc j) ne = kept_at-set_other ds i d j (λ e. ne (ap suc e))

-- one directory is changed
pub kept_at-set : (ds : List KeptDir) (i : ℕ) (x d : KeptDir) (h : Held Content → Held Content) → i < length ds → x ≡ get_or ds i x → held_of d ≡ h (held_of x)
    → (j : ℕ) → kept_at (slice_set ds i d) j ≡ put_at i (h (kept_at ds i)) (kept_at ds) j
kept_at-set ds i x d h lt at is j = elim (eqb_tells j i) [
  | inl same ↦ rw same.0 (ap (λ (k : ℕ). kept_at (slice_set ds i d) k) same.1 ∙ kept_at-set_same ds i d lt ∙ is ∙ ap h (sym (kept_at-read ds i x lt at)))
  | inr other ↦ rw other.0 (kept_at-set_other ds i d j other.1)
]

-- one directory holds what it held
pub kept_at-same : (ds : List KeptDir) (i : ℕ) (x d : KeptDir) → i < length ds → x ≡ get_or ds i x → held_of d ≡ held_of x → (j : ℕ) → kept_at (slice_set ds i d) j ≡ kept_at ds j
kept_at-same ds i x d lt at is j = elim (eqb_tells j i) [
  | inl same ↦ ap (λ (k : ℕ). kept_at (slice_set ds i d) k) same.1 ∙ kept_at-set_same ds i d lt ∙ is ∙ sym (kept_at-read ds i x lt at) ∙ ap (λ (k : ℕ). kept_at ds k) (sym same.1)
  | inr other ↦ kept_at-set_other ds i d j other.1
]

-- one more of a list is settled
module _ (now first : List KeptDir) (k : ℕ) (x d : KeptDir) (lt : k < length now) (at : x ≡ get_or now k x) where
  pub settled_more : held_of d ≡ settled (held_of x) → ((j : ℕ) → j < k → kept_at now j ≡ settled (kept_at first j)) → ((j : ℕ) → k ≤ j → kept_at now j ≡ kept_at first j)
      → (j : ℕ) → j < k + 1 → kept_at (slice_set now k d) j ≡ settled (kept_at first j)
  settled_more is done rest j below = elim (eqb_tells j k) [
    | inl same ↦
        ap (λ (i : ℕ). kept_at (slice_set now k d) i) same.1 ∙ kept_at-set_same now k d lt ∙ is
        ∙ ap (λ (h : Held Content). settled h) (sym (kept_at-read now k x lt at) ∙ rest k (omega arith))
        ∙ ap (λ (i : ℕ). settled (kept_at first i)) (sym same.1)
    | inr other ↦ let less : j < k = omega (arith, other.1) in kept_at-set_other now k d j other.1 ∙ done j less
  ]

  pub settled_rest : ((j : ℕ) → k ≤ j → kept_at now j ≡ kept_at first j) → (j : ℕ) → k + 1 ≤ j → kept_at (slice_set now k d) j ≡ kept_at first j
  settled_rest rest j above = let other : j ≢ k = omega arith in kept_at-set_other now k d j other ∙ rest j (omega arith)

-- one more of a list is copied
pub dir_copied : (ds : List KeptDir) (k : ℕ) (copies : List KeptDir) (x y : KeptDir) → map held_of copies ≡ take k (map held_of ds) → k < length ds → x ≡ get_or ds k x → held_of y ≡ held_of x
    → map held_of (copies ++ y ∷ []) ≡ take (k + 1) (map held_of ds)
dir_copied ds k copies x y so_far lt at same =
    map-append held_of copies (y ∷ [])
    ∙ (λ i. so_far i ++ (same ∙ ap held_of at ∙ sym (get_or-map held_of ds k x)) i ∷ [])
    ∙ sym (take_more (map held_of ds) k (held_of x) (omega (arith, lt, length-map ds held_of)))

-- one more of a list is copied and changed
pub dir_made : (h : Held Content → Held Content) (ds : List KeptDir) (k : ℕ) (made : List KeptDir) (x y : KeptDir) → map held_of made ≡ take k (map h (map held_of ds)) → k < length ds → x ≡ get_or ds k x → held_of y ≡ h (held_of x)
    → map held_of (made ++ y ∷ []) ≡ take (k + 1) (map h (map held_of ds))
dir_made h ds k made x y so_far lt at changed =
    map-append held_of made (y ∷ [])
    ∙ (λ i. so_far i ++ (changed ∙ ap h (ap held_of at ∙ sym (get_or-map held_of ds k x)) ∙ sym (get_or-map h (map held_of ds) k (held_of x))) i ∷ [])
    ∙ sym (take_more (map h (map held_of ds)) k (h (held_of x)) (omega (arith, lt, length-map ds held_of, length-map (map held_of ds) h)))

-- all were
pub dirs_made : (h : Held Content → Held Content) → h bare ≡ bare → (ds made : List KeptDir) → map held_of made ≡ map h (map held_of ds) → (j : ℕ) → kept_at made j ≡ h (kept_at ds j)
dirs_made h same ds made e j =
    ap (λ (hs : List (Held Content)). get_or hs j bare) e
    ∙ ap (λ (d : Held Content). get_or (map h (map held_of ds)) j d) (sym same)
    ∙ get_or-map h (map held_of ds) j bare
