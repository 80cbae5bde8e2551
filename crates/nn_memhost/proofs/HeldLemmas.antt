-- What a directory holds after a file was renamed.
use Rattle.std.proofs.Common.{◌≡◌, inl, inr, Option, None, is_some, refl, sym, ◌∙◌, subst}
use Rattle.std.specs.Prelude.{Bool, true, false, ◌&&◌, if◌then◌else◌}
use Rattle.nn_base.specs.declared.sub.Sub.{Sub}
use Rattle.nn_base.specs.declared.file_name.FileName.{FileName}
use Rattle.nn_base.specs.Names.{sub_eq, file_eq}
use Rattle.nn_base.proofs.NamesLemmas.{sub_tells, file_tells}
use Rattle.nn_host.specs.Disk.{Held, with_file}

module _ {A : Type 0} (h : Held A) (s : Sub) (a b : FileName) where
  itself : (q : Sub) (m : FileName) → a ≡ b → h.file q m ≡ (if sub_eq q s && file_eq m b then h.file s a else if sub_eq q s && file_eq m a then None else h.file q m)
  itself q m e = elim (sub_tells q s) [
    | inr differ ↦ rw differ.0
    | inl same ↦ elim (file_tells m b) [
      | inl name ↦ rw (same.0, name.0) (λ i. h.file (same.1 i) ((name.1 ∙ sym e) i))
      | inr differ ↦ let other : file_eq m a ≡ false = (λ i. file_eq m (e i)) ∙ differ.0 in rw (same.0, differ.0, other)
    ]
  ]

  itself_held : a ≡ b → h ≡ with_file (with_file h s a None) s b (h.file s a)
  itself_held e = λ i. record { root = h.root; has = h.has; file = λ q m. itself q m e i }

  pub renamed_itself : (there : Bool) → a ≡ b → h ≡ (if there then with_file (with_file h s a None) s b (h.file s a) else h)
  renamed_itself true e = itself_held e
  renamed_itself false e = refl

  -- the file of the other name was taken away before
  pub renamed_over : (freed now : Sub → FileName → Option A) → file_eq a b ≡ false → is_some (h.file s a) ≡ true
      → ((q : Sub) (m : FileName) → freed q m ≡ (if sub_eq q s && file_eq m b then None else h.file q m))
      → ((q : Sub) (m : FileName) → now q m ≡ (if sub_eq q s && file_eq m b then freed s a else if sub_eq q s && file_eq m a then None else freed q m))
      → record h { file = now } ≡ (if is_some (h.file s a) then with_file (with_file h s a None) s b (h.file s a) else h)
  renamed_over freed now differ there frees renames =
      subst (λ (t : Bool). record h { file = now } ≡ (if t then with_file (with_file h s a None) s b (h.file s a) else h)) (sym there)
      (λ i. record { root = h.root; has = h.has; file = λ q m. at q m i })
    where
      second : (x y : Bool) (u v w : Option A) → u ≡ (if x then None else w) → (if x then v else if y then None else u) ≡ (if x then v else if y then None else w)
      second true y u v w e = refl
      second false true u v w e = refl
      second false false u v w e = e

      source : freed s a ≡ h.file s a
      source = frees s a ∙ (let no : (sub_eq s s && file_eq a b) ≡ false = both (sub_eq s s) differ in rw no)
        where
          both : (x : Bool) → file_eq a b ≡ false → (x && file_eq a b) ≡ false
          both true e = e
          both false e = refl

      at : (q : Sub) (m : FileName) → now q m ≡ (if sub_eq q s && file_eq m b then h.file s a else if sub_eq q s && file_eq m a then None else h.file q m)
      at q m = renames q m ∙ (λ i. if sub_eq q s && file_eq m b then source i else if sub_eq q s && file_eq m a then None else freed q m) ∙ second (sub_eq q s && file_eq m b) (sub_eq q s && file_eq m a) (freed q m) (h.file s a) (h.file q m) (frees q m)
