-- What a front of bytes that spells a record, or that none does, says of every record.
use Rattle.std.proofs.Common.{◌≡◌, ℕ, ◌+◌, ◌-◌, ◌≤◌, List, ◌++◌, length, take, drop, Option, Some, None, Result, Ok, Err, refl, sym, ap, subst, ◌∙◌, unwrap_or, arith, length-append}
use Rattle.std.specs.Prelude.{◌↔◌, IfOk, IfSome, IfNone}
use Rattle.std.proofs.lemmas.List.{take_at, drop_at, take-append-drop, length-take-le}
use Rattle.nn_base.specs.declared.ids.NoMemory.{NoMemory}
use Rattle.nn_record.specs.declared.transaction.Record.{Record}
use Rattle.nn_record.specs.Spelling.{spelling, IsRecord, Begins}
use Rattle.nn_record.proofs.RecordLemmas.{none_begins_another}

abbrev pub Place : Type 0
Place = Option (Record × ℕ)

abbrev place : Record → ℕ → Place
place r n = Some (r, n)

place_is : (r s : Record) (m n : ℕ) → place r m ≡ place s n → (r ≡ s) × (m ≡ n)
place_is r s m n e =
    let first : Record × ℕ = (r, m) in
    let p = ap (λ (o : Place). unwrap_or o first) e in
    (ap (λ (z : Record × ℕ). z.0) p, ap (λ (z : Record × ℕ). z.1) p)

-- where the record ends
pub end_of : (bytes text rest : List ℕ) → bytes ≡ text ++ rest → (length bytes - length rest ≡ length text) × (drop (length bytes - length rest) bytes ≡ rest) × (length text ≤ length bytes)
end_of bytes text rest e =
    let size : length bytes ≡ length text + length rest = ap length e ∙ length-append text rest in
    let end : length bytes - length rest ≡ length text = omega (arith, size) in
    (end, ap (λ n. drop n bytes) end ∙ ap (drop (length text)) e ∙ drop_at text rest (length text) refl, omega (arith, size))

begins_at : (bytes : List ℕ) (r : Record) (n : ℕ) → IsRecord r → take n bytes ≡ spelling r → Begins bytes r (drop n bytes)
begins_at bytes r n is text = record { formed = is; text = sym (take-append-drop n bytes) ∙ ap (λ t. t ++ drop n bytes) text }

pub record IsFirst (bytes : List ℕ) (found : Place) : Type 0 where
  pub some : IfSome found (λ at. Begins bytes at.0 (drop at.1 bytes))
  pub len : IfSome found (λ at. (at.1 ≡ length (spelling at.0)) × (at.1 ≤ length bytes))
  pub none : IfNone found ((r : Record) (rest : List ℕ) → ¬ Begins bytes r rest)

first_again : (bytes : List ℕ) (found : Place) → IsFirst bytes found → (r : Record) (rest : List ℕ) → Begins bytes r rest → found ≡ Some (r, length (spelling r))
first_again bytes None is r rest begins = absurd (is.none r rest begins)
first_again bytes (Some at) is r rest begins =
    let same = none_begins_another at.0 r (drop at.1 bytes) rest is.some.formed begins.formed (sym is.some.text ∙ begins.text) in
    let n : at.1 ≡ length (spelling r) = is.len.0 ∙ ap (λ s. length (spelling s)) same.0 in
    λ i. place (same.0 i) (n i)

there : (bytes : List ℕ) (found : Place) → IsFirst bytes found → (r : Record) (n : ℕ) → found ≡ Some (r, n) → IsRecord r × (n ≤ length bytes) × (take n bytes ≡ spelling r)
there bytes None is r n e = absurd cc
there bytes (Some at) is r n e =
    let same = place_is at.0 r at.1 n e in
    let text : take at.1 bytes ≡ spelling at.0 = ap (take at.1) is.some.text ∙ take_at (spelling at.0) (drop at.1 bytes) at.1 (sym is.len.0) in
    (subst IsRecord same.0 is.some.formed, subst (λ (k : ℕ). k ≤ length bytes) same.1 is.len.1, (λ i. take (sym same.1 i) bytes) ∙ text ∙ ap spelling same.0)

first_exact : (bytes : List ℕ) (found : Place) → IsFirst bytes found → (r : Record) (n : ℕ) → (found ≡ Some (r, n)) ↔ (IsRecord r × (n ≤ length bytes) × (take n bytes ≡ spelling r))
first_exact bytes found is r n = (
  there bytes found is r n,
  λ h.
      let again = first_again bytes found is r (drop n bytes) (begins_at bytes r n h.0 h.2) in
      let size : length (spelling r) ≡ n = sym (ap length h.2) ∙ length-take-le n bytes h.1 in
      again ∙ ap (place r) size,
)

first_none : (bytes : List ℕ) (found : Place) → IsFirst bytes found → (found ≡ None) ↔ ((r : Record) (rest : List ℕ) → ¬ Begins bytes r rest)
first_none bytes None is = (λ e. is.none, λ h. refl)
first_none bytes (Some at) is = ((λ e. absurd cc), λ h. absurd (h at.0 (drop at.1 bytes) is.some))

-- ---- the same of what a call returned

pub record IsFirstOk (bytes : List ℕ) (result : Result Place NoMemory) : Type 0 where
  pub some : IfOk result (λ found. IfSome found (λ at. Begins bytes at.0 (drop at.1 bytes)))
  pub len : IfOk result (λ found. IfSome found (λ at. (at.1 ≡ length (spelling at.0)) × (at.1 ≤ length bytes)))
  pub none : IfOk result (λ found. IfNone found ((r : Record) (rest : List ℕ) → ¬ Begins bytes r rest))

pub ok_again : (bytes : List ℕ) (result : Result Place NoMemory) → IsFirstOk bytes result → IfOk result (λ found. (r : Record) (rest : List ℕ) → Begins bytes r rest → found ≡ Some (r, length (spelling r)))
ok_again bytes (Ok found) is = first_again bytes found (record { some = is.some; len = is.len; none = is.none })
ok_again bytes (Err e) is = tt

pub ok_exact : (bytes : List ℕ) (result : Result Place NoMemory) → IsFirstOk bytes result → IfOk result (λ found. (r : Record) (n : ℕ) → (found ≡ Some (r, n)) ↔ (IsRecord r × (n ≤ length bytes) × (take n bytes ≡ spelling r)))
ok_exact bytes (Ok found) is = first_exact bytes found (record { some = is.some; len = is.len; none = is.none })
ok_exact bytes (Err e) is = tt

pub ok_none : (bytes : List ℕ) (result : Result Place NoMemory) → IsFirstOk bytes result → IfOk result (λ found. (found ≡ None) ↔ ((r : Record) (rest : List ℕ) → ¬ Begins bytes r rest))
ok_none bytes (Ok found) is = first_none bytes found (record { some = is.some; len = is.len; none = is.none })
ok_none bytes (Err e) is = tt
