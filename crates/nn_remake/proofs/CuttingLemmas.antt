-- What goes when the last of the segments are removed, and then the later images.
use Rattle.std.proofs.Common.{◌≡◌, ◌⊎◌, inl, inr, ⊎_elim, ℕ, zero, suc, ◌+◌, ◌<◌, List, [], ◌∷◌, ◌++◌, length, get_or, Contains, Bool, true, false, cond, Option, Some, None, is_some, refl, sym, ◌∙◌, ap, subst, arith, length-append}
use Rattle.std.specs.List.{filter, AllPairs}
use Rattle.std.proofs.lemmas.Cmp.{nat_list_cmp_total}
use Rattle.std.proofs.lemmas.List.{get_or_append_left, get_or-append-add}
use Rattle.std.proofs.lemmas.List.Kept.{AllPairs-filter}
use Rattle.std.proofs.lemmas.List.Elements.{All-contains, filter_passes, Contains-append_left, Contains-append_right, Contains-append_cases, Contains-push, Contains-push_cases}
use Rattle.nn_base.specs.declared.sub.Sub.TheVariants.{Current}
use Rattle.nn_base.specs.declared.file_name.FileName.{FileName}
use Rattle.nn_base.specs.declared.file_name.FileName.TheVariants as name
use Rattle.nn_base.specs.FileText.{text_of}
use Rattle.nn_base.proofs.NamesLemmas.{file_tells}
use Rattle.nn_host.specs.Disk.{Held, Disk, Reads, File, Leaves, LeavesFile}
use Rattle.nn_host.specs.Listing.{IsListing, IsBefore}
use Rattle.nn_remake.specs.Removing.{is_segment, is_later_image, IsWithout, IsCutBack}
use Rattle.nn_remake.specs.Cutting.{IsCutting, IsCutDown}

-- ---- lists of names

one_of : (x n : FileName) → Contains (x ∷ []) n → x ≡ n
one_of x n has = ⊎_elim (λ none. absurd (omega (arith, none.1))) (λ same. same) (Contains-push_cases [] x n has)

first_one : (x : FileName) (xs : List FileName) → Contains (x ∷ xs) x
first_one x xs = Contains-append_left (x ∷ []) xs x (Contains-push [] x)

pub contains_or : (xs : List FileName) (n : FileName) → Contains xs n ⊎ ¬ Contains xs n
contains_or [] n = inr (λ has. omega (arith, has.1))
contains_or (x ∷ xs) n = elim (file_tells n x) [
  | inl same ↦ inl (subst (Contains (x ∷ xs)) (sym same.1) (first_one x xs))
  | inr other ↦ elim (contains_or xs n) [
    | inl later ↦ inl (Contains-append_right (x ∷ []) xs n later)
    | inr none ↦ inr (λ has. ⊎_elim (λ here. other.1 (sym (one_of x n here))) (λ later. none later) (Contains-append_cases (x ∷ []) xs n has))
  ]
]

in_filter_by : (p : FileName → Bool) (x n : FileName) (ys : List FileName) (b : Bool) → p x ≡ b → p n ≡ true → (x ≡ n) ⊎ Contains ys n → Contains (cond b (x ∷ ys) ys) n
in_filter_by p x n ys true is passes (inl same) = subst (Contains (x ∷ ys)) same (first_one x ys)
in_filter_by p x n ys true is passes (inr later) = Contains-append_right (x ∷ []) ys n later
in_filter_by p x n ys false is passes (inl same) = let e = sym is ∙ ap p same ∙ passes in cc
in_filter_by p x n ys false is passes (inr later) = later

in_filter : (p : FileName → Bool) (xs : List FileName) (n : FileName) → Contains xs n → p n ≡ true → Contains (filter p xs) n
in_filter p [] n has passes = absurd (omega (arith, has.1))
in_filter p (x ∷ xs) n has passes = in_filter_by p x n (filter p xs) (p x) refl passes
    (⊎_elim (λ here. inl (one_of x n here)) (λ later. inr (in_filter p xs n later passes)) (Contains-append_cases (x ∷ []) xs n has))

in_whole_by : (p : FileName → Bool) (x n : FileName) (xs ys : List FileName) (b : Bool) → (Contains ys n → Contains xs n) → Contains (cond b (x ∷ ys) ys) n → Contains (x ∷ xs) n
in_whole_by p x n xs ys true rest has = ⊎_elim (λ here. subst (Contains (x ∷ xs)) (one_of x n here) (first_one x xs)) (λ later. Contains-append_right (x ∷ []) xs n (rest later)) (Contains-append_cases (x ∷ []) ys n has)
in_whole_by p x n xs ys false rest has = Contains-append_right (x ∷ []) xs n (rest has)

in_whole : (p : FileName → Bool) (xs : List FileName) (n : FileName) → Contains (filter p xs) n → Contains xs n
in_whole p [] n has = has
in_whole p (x ∷ xs) n has = in_whole_by p x n xs (filter p xs) (p x) (in_whole p xs n) has

same_default : (xs : List FileName) (j : ℕ) (d e : FileName) → j < length xs → get_or xs j d ≡ get_or xs j e
same_default [] j d e lt = absurd (omega (arith, lt))
same_default (x ∷ xs) zero d e lt = refl
same_default (x ∷ xs) (suc j) d e lt = same_default xs j d e (omega (arith, lt))

across : (xs ys : List FileName) (a b : FileName) → AllPairs IsBefore (xs ++ ys) → Contains xs a → Contains ys b → IsBefore a b
across xs ys a b pairs a_in b_in =
    let first : get_or (xs ++ ys) a_in.0 a ≡ a = get_or_append_left xs ys a a_in.0 a_in.1 ∙ a_in.2 in
    let second : get_or (xs ++ ys) (length xs + b_in.0) a ≡ b = get_or-append-add xs ys b_in.0 a ∙ same_default ys b_in.0 a b b_in.1 ∙ b_in.2 in
    subst (λ (x : FileName). IsBefore x b) first
    (subst (λ (y : FileName). IsBefore (get_or (xs ++ ys) a_in.0 a) y) second (pairs a_in.0 (length xs + b_in.0) a (omega (arith, a_in.1)) (omega (arith, b_in.1, length-append xs ys))))

not_both : (a b : FileName) → IsBefore a b → IsBefore b a → ⊥
not_both a b one other = let turned = nat_list_cmp_total.antisymm (text_of a) (text_of b) in cc

-- ---- a listing, of contents or of the disk that reads so

-- no other file is there, and the names rise
pub record IsListed {A : Type 0} (names : List FileName) (d : Held A) : Type 0 where
  pub none : (n : FileName) → ¬ Contains names n → d.file Current n ≡ None
  pub ascending : AllPairs IsBefore names

none_by : (w : Option (List ℕ)) → (is_some w ≡ true → ⊥) → w ≡ None
none_by None out = refl
none_by (Some b) out = absurd (out refl)

pub listed : (r : Reads) (names : List FileName) → IsListing r Current names → IsListed names r
listed r names is = record { none = λ n out. none_by (r.file Current n) (λ there. out (is.all n there)); ascending = is.ascending }

none_there : (f : Option File) → LeavesFile f None → f ≡ None
none_there None l = refl
none_there (Some f) l = absurd l

pub listed_disk : (d : Disk) (r : Reads) (names : List FileName) → Leaves d r → IsListed names r → IsListed names d
listed_disk d r names leaves is = record { none = λ n out. none_there (d.file Current n) (subst (LeavesFile (d.file Current n)) (is.none n out) (leaves.files Current n)); ascending = is.ascending }

-- ---- the segments

not_image : (id : ℕ) (n : FileName) → is_later_image id n ≡ true → is_segment n ≡ false
not_image id (name.Image other) e = refl
not_image id name.Version e = refl
not_image id name.VersionTmp e = refl
not_image id name.Seen e = refl
not_image id name.SeenTmp e = refl
not_image id (name.Md5 other) e = refl
not_image id (name.Md5Tmp other) e = refl
not_image id (name.Ckpt other) e = refl
not_image id (name.Edits span) e = cc
not_image id (name.InProgress first) e = cc

pub cut_none : {A : Type 0} (id : ℕ) (old : Held A) → IsCutting id old old
cut_none id old = record { root = refl; subs = λ s. refl; other_subs = λ s n ne. refl; files = λ n. inl refl; others = λ n a b. refl; falling = λ n m a b before. inl refl; images = inl (λ n out. refl) }

module _ {A : Type 0} (id : ℕ) (names : List FileName) (old : Held A) (list : IsListed names old) where
  module _ (d : Held A) (is : IsCutBack (filter is_segment names) old d) where
    only_segments : (n : FileName) → Contains is.gone n → is_segment n ≡ true
    only_segments n has =
        All-contains (λ (x : FileName). is_segment x ≡ true) (filter is_segment names) n (filter_passes is_segment names) (subst (λ (xs : List FileName). Contains xs n) (sym is.split) (Contains-append_right is.left is.gone n has))

    kept_other : (n : FileName) → is_segment n ≡ false → d.file Current n ≡ old.file Current n
    kept_other n other = is.without.kept n (λ has. let e = sym other ∙ only_segments n has in cc)

    rising : AllPairs IsBefore (is.left ++ is.gone)
    rising = subst (AllPairs IsBefore) is.split (AllPairs-filter IsBefore is_segment names list.ascending)

    later_gone : (n m : FileName) → is_segment m ≡ true → IsBefore n m → Contains is.gone n → d.file Current m ≡ None
    later_gone n m segment before has = elim (contains_or is.gone m) [
      | inl gone ↦ is.without.removed m gone
      | inr out ↦ elim (contains_or names m) [
        | inr none ↦ is.without.kept m out ∙ list.none m none
        | inl there ↦ ⊎_elim
            (λ left. absurd (not_both n m before (across is.left is.gone m n rising left has)))
            (λ gone. absurd (out gone))
            (Contains-append_cases is.left is.gone m (subst (λ (xs : List FileName). Contains xs m) is.split (in_filter is_segment names m there segment)))
      ]
    ]

    pub cut_segments : IsCutting id old d
    cut_segments = record {
      root = is.without.root;
      subs = is.without.subs;
      other_subs = is.without.other_subs;
      files = λ n. ⊎_elim (λ gone. inr (is.without.removed n gone)) (λ out. inl (is.without.kept n out)) (contains_or is.gone n);
      others = λ n segment image. kept_other n segment;
      falling = λ n m one other before. ⊎_elim (λ gone. inr (later_gone n m other before gone)) (λ out. inl (is.without.kept n out)) (contains_or is.gone n);
      images = inl kept_other;
    }

  -- all of them
  pub cut_mid : (d : Held A) → IsWithout (filter is_segment names) old d → IsCutting id old d
  cut_mid d is = cut_segments d (record { left = []; gone = filter is_segment names; split = refl; without = is })

  pub no_segment : (d : Held A) → IsWithout (filter is_segment names) old d → (n : FileName) → is_segment n ≡ true → d.file Current n ≡ None
  no_segment d is n segment = elim (contains_or names n) [
    | inl there ↦ is.removed n (in_filter is_segment names n there segment)
    | inr none ↦ is.kept n (λ has. none (in_whole is_segment names n has)) ∙ list.none n none
  ]

  -- ---- and then the later images

  module _ (mid d : Held A) (cut : IsCutting id old mid) (none : (n : FileName) → is_segment n ≡ true → mid.file Current n ≡ None) where
    module _ (is : IsCutBack (filter (is_later_image id) names) mid d) where
      only_images : (n : FileName) → Contains is.gone n → is_later_image id n ≡ true
      only_images n has = All-contains (λ (x : FileName). is_later_image id x ≡ true) (filter (is_later_image id) names) n (filter_passes (is_later_image id) names)
          (subst (λ (xs : List FileName). Contains xs n) (sym is.split) (Contains-append_right is.left is.gone n has))

      still : (n : FileName) → is_later_image id n ≡ false → d.file Current n ≡ mid.file Current n
      still n other = is.without.kept n (λ has. let e = sym other ∙ only_images n has in cc)

      still_none : (n : FileName) → is_segment n ≡ true → d.file Current n ≡ None
      still_none n segment = is.without.kept n (λ has. let e = sym segment ∙ not_image id n (only_images n has) in cc) ∙ none n segment

      pub cut_images : IsCutting id old d
      cut_images = record {
        root = is.without.root ∙ cut.root;
        subs = λ s. is.without.subs s ∙ cut.subs s;
        other_subs = λ s n ne. is.without.other_subs s n ne ∙ cut.other_subs s n ne;
        files = λ n. ⊎_elim
            (λ gone. inr (is.without.removed n gone))
            (λ out. let same = is.without.kept n out in ⊎_elim (λ was. inl (same ∙ was)) (λ no. inr (same ∙ no)) (cut.files n))
            (contains_or is.gone n);
        others = λ n segment image. still n image ∙ cut.others n segment image;
        falling = λ n m one other before. inr (still_none m other);
        images = inr still_none;
      }

    pub cut_all : IsWithout (filter (is_later_image id) names) mid d → IsCutDown id old d
    cut_all is = record {
      cutting = cut_images whole;
      segments = still_none whole;
      images = λ n image. elim (contains_or names n) [
        | inl there ↦ is.removed n (in_filter (is_later_image id) names n there image)
        | inr out ↦ ⊎_elim (λ same. same ∙ list.none n out) (λ gone. gone) ((cut_images whole).files n)
      ];
    }
      where
        whole : IsCutBack (filter (is_later_image id) names) mid d
        whole = record { left = []; gone = filter (is_later_image id) names; split = refl; without = is }
