-- A number that is read is the number that was written.
use Rattle.std.proofs.Common.{◌≡◌, ℕ, ◌<◌, ◌≤◌, List, ◌++◌, length, get_or, take, drop, refl, sym, subst, arith, inl, inr}
use Rattle.std.specs.Int.{w16, w32, w64, from_be_bytes, to_be_bytes}
use Rattle.std.proofs.lemmas.Bool.{cases_lt}
use Rattle.std.proofs.lemmas.List.{take-append-drop, length-take, length-take-le, get_or-take, get_or_past, take_at}
use Rattle.std.proofs.lemmas.Nat.{be_bytes_2, be_bytes_4, be_bytes_8}
use Rattle.nn_record.specs.Spelling.{u16, u32, u64}

abbrev pub IsBytes : List ℕ → Type 0
IsBytes bytes = (i : ℕ) → get_or bytes i 0 < 256

pub IsBytes-take : (n : ℕ) (bytes : List ℕ) → IsBytes bytes → IsBytes (take n bytes)
IsBytes-take n bytes h i =
    elim (cases_lt i n) [
      | inl lt ↦ rw (get_or-take n bytes i 0 lt) (h i)
      | inr le ↦ rw (get_or_past (take n bytes) i 0 (omega (arith, length-take n bytes))) (omega arith)
    ]

pub IsBytes-front : (a b : List ℕ) → IsBytes (a ++ b) → IsBytes a
IsBytes-front a b h = subst IsBytes (take_at a b (length a) refl) (IsBytes-take (length a) (a ++ b) h)

-- ---- the bytes of a number, and what is left

rejoined : (text bytes rest : List ℕ) (n : ℕ) → text ≡ take n bytes → rest ≡ drop n bytes → bytes ≡ text ++ rest
rejoined text bytes rest n t r = sym (rw (t, r) (take-append-drop n bytes))

pub u16_found : (bytes rest : List ℕ) (n : ℕ) → IsBytes bytes → 2 ≤ length bytes → rest ≡ drop 2 bytes → n ≡ from_be_bytes w16 (take 2 bytes) → bytes ≡ u16 n ++ rest
unfolding u16
u16_found bytes rest n fits long r e =
    rejoined (to_be_bytes w16 n) bytes rest 2 (be_bytes_2 (take 2 bytes) n (length-take-le 2 bytes long) (IsBytes-take 2 bytes fits) e) r

pub u32_found : (bytes rest : List ℕ) (n : ℕ) → IsBytes bytes → 4 ≤ length bytes → rest ≡ drop 4 bytes → n ≡ from_be_bytes w32 (take 4 bytes) → bytes ≡ u32 n ++ rest
unfolding u32
u32_found bytes rest n fits long r e =
    rejoined (to_be_bytes w32 n) bytes rest 4 (be_bytes_4 (take 4 bytes) n (length-take-le 4 bytes long) (IsBytes-take 4 bytes fits) e) r

pub u64_found : (bytes rest : List ℕ) (n : ℕ) → IsBytes bytes → 8 ≤ length bytes → rest ≡ drop 8 bytes → n ≡ from_be_bytes w64 (take 8 bytes) → bytes ≡ u64 n ++ rest
unfolding u64
u64_found bytes rest n fits long r e =
    rejoined (to_be_bytes w64 n) bytes rest 8 (be_bytes_8 (take 8 bytes) n (length-take-le 8 bytes long) (IsBytes-take 8 bytes fits) e) r
