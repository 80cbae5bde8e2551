-- What stands in a directory after one change.
use Rattle.std.proofs.Common.{◌≡◌, ◌≢◌, inl, inr, Option, refl, sym, ◌∙◌}
use Rattle.std.specs.Prelude.{Bool, true, false, if◌then◌else◌, ◌&&◌}
use Rattle.std.proofs.Math.Path.{fun_ext}
use Rattle.nn_base.specs.declared.sub.Sub.{Sub}
use Rattle.nn_base.specs.declared.file_name.FileName.{FileName}
use Rattle.nn_base.specs.Names.{sub_eq, file_eq}
use Rattle.nn_base.proofs.NamesLemmas.{sub_tells, file_tells}
use Rattle.nn_host.specs.Disk.{Held, with_file}

pub sub_same : (s : Sub) → sub_eq s s ≡ true
sub_same s = elim (sub_tells s s) [ inl same ↦ same.0 | inr other ↦ absurd (other.1 refl) ]

pub sub_other : (q s : Sub) → q ≢ s → sub_eq q s ≡ false
sub_other q s ne = elim (sub_tells q s) [ inl same ↦ absurd (ne same.1) | inr other ↦ other.0 ]

pub file_same : (n : FileName) → file_eq n n ≡ true
file_same n = elim (file_tells n n) [ inl same ↦ same.0 | inr other ↦ absurd (other.1 refl) ]

pub file_other : (m n : FileName) → m ≢ n → file_eq m n ≡ false
file_other m n ne = elim (file_tells m n) [ inl same ↦ absurd (ne same.1) | inr other ↦ other.0 ]

pub either : {A : Type 0} (P : A → Type 0) (b : Bool) (x y : A) → P x → P y → P (if b then x else y)
either P true x y p q = p
either P false x y p q = q

module _ {A : Type 0} (d : Held A) where
  pub there : (s : Sub) (n : FileName) (v : Option A) → (with_file d s n v).file s n ≡ v
  there s n v = rw (sub_same s, file_same n)

  pub beside : (s : Sub) (n m : FileName) (v : Option A) → m ≢ n → (with_file d s n v).file s m ≡ d.file s m
  beside s n m v ne = rw (sub_same s, file_other m n ne)

  pub elsewhere : (s : Sub) (n : FileName) (v : Option A) (q : Sub) → q ≢ s → (with_file d s n v).file q ≡ d.file q
  elsewhere s n v q ne = fun_ext (λ m. let e = sub_other q s ne in rw e)

  -- another file than the one that was set
  pub file_kept : (q : Sub) (m : FileName) (v : Option A) (s : Sub) (n : FileName) → ((s ≡ q) × (n ≡ m) → ⊥) → (with_file d q m v).file s n ≡ d.file s n
  file_kept q m v s n out = elim (sub_tells s q) [
    | inr differ ↦ rw differ.0
    | inl same ↦ elim (file_tells n m) [ inr differ ↦ rw (same.0, differ.0) | inl name ↦ absurd (out (same.1, name.1)) ]
  ]

  -- to set a file to what stands there changes nothing
  pub same_file : (s : Sub) (n : FileName) (v : Option A) → d.file s n ≡ v → with_file d s n v ≡ d
  same_file s n v is = λ i. record { root = d.root; has = d.has; file = λ q m. at q m i }
    where
      at : (q : Sub) (m : FileName) → (if sub_eq q s && file_eq m n then v else d.file q m) ≡ d.file q m
      at q m = elim (sub_tells q s) [
        | inr differ ↦ rw differ.0
        | inl same ↦ elim (file_tells m n) [
          | inr differ ↦ rw (same.0, differ.0)
          | inl name ↦ rw (same.0, name.0) (sym is ∙ (λ i. d.file (sym same.1 i) (sym name.1 i)))
        ]
      ]

  -- of two contents of one file the last stays
  pub again : (s : Sub) (n : FileName) (v w : Option A) → with_file (with_file d s n v) s n w ≡ with_file d s n w
  again s n v w = λ i. record { root = d.root; has = d.has; file = λ q m. last (sub_eq q s && file_eq m n) (d.file q m) i }
    where
      last : (c : Bool) (x : Option A) → (if c then w else (if c then v else x)) ≡ (if c then w else x)
      last true x = refl
      last false x = refl
