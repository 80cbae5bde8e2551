-- Reading a varint byte by byte: what the bytes that are left give, with what was read before, the whole gives.
use Rattle.std.proofs.Common.{◌≡◌, ℕ, zero, suc, ◌+◌, ◌-◌, ◌*◌, ◌/◌, ◌%◌, ◌^◌, ◌<◌, ◌≤◌, List, [], ◌∷◌, ◌++◌, length, drop, get_or, length-append, length-drop, bit_or, Result, Ok, Err, refl, sym, ap, subst, ◌∙◌, inl, inr, arith}
use Rattle.std.proofs.lemmas.Bool.{cases_lt}
use Rattle.std.proofs.lemmas.Nat.{pow-add, mul-add-lt, shl_whole, or_comm, or_shifted}
use Rattle.std.proofs.lemmas.List.{append-nil, at_drop_more, drop_all}
use Rattle.nn_wire.specs.declared.fault.WireFault.{WireFault}
use Rattle.nn_wire.specs.declared.fault.WireFault.TheVariants.{Short, BadKey, NotCanonical}
use Rattle.nn_wire.specs.Varint.{spelled_within, varint, Begins}
use Rattle.nn_wire.specs.Fault.{IsVarintFault}
use Rattle.nn_wire.proofs.SpellingLemmas.{room, two_fit, one_byte, spelled_last, spelled_joined, by_first}

-- A number in at most k bytes, from a place of the varint on: after the first byte it isn't 0.
pub record Fits (place k n : ℕ) : Type 0 where
  pub some : 0 < place → 0 < n
  pub small : n < room k

pub record Starts (place k : ℕ) (bytes : List ℕ) (n : ℕ) (rest : List ℕ) : Type 0 where
  pub fits : Fits place k n
  pub text : bytes ≡ spelled_within k n ++ rest

pub record Stops (place k : ℕ) (bytes : List ℕ) (n : ℕ) (more : List ℕ) : Type 0 where
  pub fits : Fits place k n
  pub text : spelled_within k n ≡ bytes ++ more
  pub lacks : 0 < length more

-- No number goes along with the bytes, however both go on.
abbrev pub Differs : ℕ → ℕ → List ℕ → Type 0
Differs place k bytes = (n : ℕ) (x y : List ℕ) → Fits place k n → bytes ++ y ≡ spelled_within k n ++ x → ⊥

-- what reads at a place: a number and the rest, or a fault
abbrev pub Reads : ℕ → ℕ → List ℕ → Result (ℕ × List ℕ) WireFault → Type 0
Reads place k bytes (Ok found) = Starts place k bytes found.0 found.1
Reads place k bytes (Err Short) = (n : ℕ) × (more : List ℕ) × Stops place k bytes n more
Reads place k bytes (Err NotCanonical) = Differs place k bytes
Reads place k bytes (Err BadKey) = ⊥

-- low bits below a number that was read
abbrev pub above : ℕ → ℕ → Result (ℕ × List ℕ) WireFault → Result (ℕ × List ℕ) WireFault
above low weight (Ok found) = Ok (low + weight * found.0, found.1)
above low weight (Err fault) = Err fault

-- ---- one byte

-- the byte says that another follows
Fits-more : (place k b h : ℕ) → 128 ≤ b → b < 256 → Fits (suc place) (suc k) h → Fits place (suc (suc k)) (b - 128 + 128 * h)
unfolding room
Fits-more place k b h more byte fits = record { some = λ _. omega (arith, fits.some (omega arith)); small = omega (arith, fits.small) }

Differs-more : (place k b : ℕ) (bs : List ℕ) → 128 ≤ b → Differs (suc place) (suc k) bs → Differs place (suc (suc k)) (b ∷ bs)
unfolding room
Differs-more place k b bs more differs n x y fits e = elim (by_first (suc k) n b (bs ++ y) x e) [
  | inl last ↦ absurd (omega arith)
  | inr on ↦ differs (n / 128) x y (record { some = λ _. omega arith; small = omega (arith, fits.small) }) on.rest
]

pub Reads-more : (place k b : ℕ) (bs : List ℕ) (found : Result (ℕ × List ℕ) WireFault) → 128 ≤ b → b < 256 → Reads (suc place) (suc k) bs found → Reads place (suc (suc k)) (b ∷ bs) (above (b - 128) 128 found)
Reads-more place k b bs (Ok found) more byte reads =
    let joined = spelled_joined (suc k) b found.0 more byte (reads.fits.some (omega arith)) in
    record {
      fits = Fits-more place k b found.0 more byte reads.fits;
      text = ap (λ t. b ∷ t) reads.text ∙ sym (ap (λ t. t ++ found.1) joined);
    }
Reads-more place k b bs (Err Short) more byte reads =
    let h = reads.0 in
    let stops = reads.2 in (
      b - 128 + 128 * h,
      reads.1,
      record {
        fits = Fits-more place k b h more byte stops.fits;
        text = spelled_joined (suc k) b h more byte (stops.fits.some (omega arith)) ∙ ap (λ t. b ∷ t) stops.text;
        lacks = stops.lacks;
      },
    )
Reads-more place k b bs (Err NotCanonical) more byte reads = Differs-more place k b bs more reads
Reads-more place k b bs (Err BadKey) more byte reads = absurd reads

-- the byte is the last
pub Reads-last : (place k b : ℕ) (bs : List ℕ) → b < 128 → (0 < place → 0 < b) → b < room (suc k) → Reads place (suc k) (b ∷ bs) (Ok (b, bs))
Reads-last place k b bs low some small = record { fits = record { some = some; small = small }; text = sym (ap (λ t. t ++ bs) (spelled_last k b low)) }

-- a byte of 0 after others
pub Reads-needless : (place k : ℕ) (bs : List ℕ) → 0 < place → Reads place (suc k) (0 ∷ bs) (Err NotCanonical)
Reads-needless place k bs later n x y fits e = elim (by_first k n 0 (bs ++ y) x e) [
  | inl last ↦ let some = fits.some later in omega arith
  | inr on ↦ omega arith
]

-- the last byte that may be, with more than one bit
pub Reads-large : (place b : ℕ) (bs : List ℕ) → 1 < b → Reads place 1 (b ∷ bs) (Err NotCanonical)
unfolding room
Reads-large place b bs large n x y fits e = elim (by_first 0 n b (bs ++ y) x e) [
  | inl last ↦ omega (arith, fits.small)
  | inr on ↦ omega (arith, fits.small)
]

-- no byte is left
pub Reads-short : (place k : ℕ) → Reads place (suc k) [] (Err Short)
Reads-short place k = (
  1,
  1 ∷ [],
  record {
    fits = record { some = λ _. omega arith; small = omega (arith, two_fit k) };
    text = spelled_last k 1 (omega arith);
    lacks = omega arith;
  },
)

-- ---- from the first byte on

-- so many bytes were read, and made the lower bits
pub record Along (bytes : List ℕ) (place low : ℕ) : Type 0 where
  pub within : place ≤ 9
  pub small : low < 2 ^ (7 * place)
  pub whole : (found : Result (ℕ × List ℕ) WireFault) → Reads place (suc (9 - place)) (drop place bytes) found → Reads 0 10 bytes (above low (2 ^ (7 * place)) found)

above_none : (found : Result (ℕ × List ℕ) WireFault) → above 0 1 found ≡ found
above_none (Ok found) = let same : 0 + 1 * found.0 ≡ found.0 = omega arith in ap (λ n. Ok (n, found.1)) same
above_none (Err fault) = refl

above_twice : (low w c : ℕ) (found : Result (ℕ × List ℕ) WireFault) → above low w (above c 128 found) ≡ above (c * w + low) (w * 128) found
above_twice low w c (Ok found) = let same : low + w * (c + 128 * found.0) ≡ c * w + low + w * 128 * found.0 = omega arith in ap (λ n. Ok (n, found.1)) same
above_twice low w c (Err fault) = refl

next_weight : (place : ℕ) → 2 ^ (7 * (place + 1)) ≡ 2 ^ (7 * place) * 128
next_weight place = let bits : 7 * (place + 1) ≡ 7 * place + 7 = omega arith in ap (λ k. 2 ^ k) bits ∙ pow-add 2 (7 * place) 7

pub Along-none : (bytes : List ℕ) → Along bytes 0 0
Along-none bytes = record { within = omega arith; small = omega arith; whole = λ found reads. subst (Reads 0 10 bytes) (sym (above_none found)) reads }

-- the first byte of the rest
at_place : (bytes : List ℕ) (place b : ℕ) → place < length bytes → b ≡ get_or bytes place 0 → drop place bytes ≡ b ∷ drop (place + 1) bytes
at_place bytes place b within is = at_drop_more (λ t. t) bytes place 0 within ∙ ap (λ x. x ∷ drop (place + 1) bytes) (sym is)

pub Along-more : (bytes : List ℕ) (place low b : ℕ) → place < 9 → place < length bytes → b ≡ get_or bytes place 0 → 128 ≤ b → b < 256 → Along bytes place low → Along bytes (place + 1) ((b - 128) * 2 ^ (7 * place) + low)
Along-more bytes place low b early within is more byte along =
    let w = 2 ^ (7 * place) in
    let j = 9 - (place + 1) in
    let c = b - 128 in
    let left : suc (suc j) ≡ suc (9 - place) = omega arith in
    let next : place + 1 ≡ suc place = omega arith in
    let twice : (found : Result (ℕ × List ℕ) WireFault) → above low w (above c 128 found) ≡ above (c * w + low) (2 ^ (7 * (place + 1))) found =
    λ found. above_twice low w c found ∙ ap (λ v. above (c * w + low) v found) (sym (next_weight place)) in
    let whole : (found : Result (ℕ × List ℕ) WireFault) → Reads (place + 1) (suc j) (drop (place + 1) bytes) found → Reads 0 10 bytes (above (c * w + low) (2 ^ (7 * (place + 1))) found) =
    λ found reads.
    let here : Reads place (suc (suc j)) (b ∷ drop (place + 1) bytes) (above c 128 found) = Reads-more place j b (drop (place + 1) bytes) found more byte (subst (λ k. Reads k (suc j) (drop (place + 1) bytes) found) next reads) in
    let there : Reads place (suc (9 - place)) (drop place bytes) (above c 128 found) = subst (λ t. Reads place (suc (9 - place)) t (above c 128 found)) (sym (at_place bytes place b within is)) (subst (λ k. Reads place k (b ∷ drop (place + 1) bytes) (above c 128 found)) left here) in
    subst (Reads 0 10 bytes) (twice found) (along.whole (above c 128 found) there) in
    record {
      within = omega arith;
      small = omega (arith, next_weight place, mul-add-lt c w low 128 (omega arith) along.small);
      whole = whole;
    }

-- ---- what comes of it

last_fits : (k b : ℕ) → b < 128 → (k ≡ 0 → b ≤ 1) → b < room (suc k)
unfolding room
last_fits zero b low top = let one = top refl in omega arith
last_fits (suc k) b low top = omega (arith, two_fit k)

pub read_last : (bytes : List ℕ) (place low b : ℕ) → place < length bytes → b ≡ get_or bytes place 0 → b < 128 → (0 < place → 0 < b) → (place ≡ 9 → b ≤ 1) → Along bytes place low
    → Begins bytes (b * 2 ^ (7 * place) + low) (drop (place + 1) bytes)
unfolding varint room
read_last bytes place low b within is last some top along =
    let w = 2 ^ (7 * place) in
    let rest = drop (place + 1) bytes in
    let here : Reads place (suc (9 - place)) (b ∷ rest) (Ok (b, rest)) = Reads-last place (9 - place) b rest last some (last_fits (9 - place) b last (λ e. top (omega (arith, along.within)))) in
    let start = along.whole (Ok (b, rest)) (subst (λ t. Reads place (suc (9 - place)) t (Ok (b, rest))) (sym (at_place bytes place b within is)) here) in
    let same : low + w * b ≡ b * w + low = omega arith in
    subst (λ n. Begins bytes n rest) same (record { small = start.fits.small; text = start.text })

pub read_len : (bytes : List ℕ) (n len : ℕ) → len ≤ length bytes → Begins bytes n (drop len bytes) → len ≡ length (varint n)
read_len bytes n len within begins = omega (arith, ap length begins.text, length-append (varint n) (drop len bytes), length-drop len bytes)

-- a fault at the rest is one of the whole
read_fault : (bytes : List ℕ) (fault : WireFault) → Reads 0 10 bytes (Err fault) → IsVarintFault bytes fault
unfolding varint room
read_fault bytes Short reads = (reads.0, reads.1, record { small = reads.2.fits.small; text = reads.2.text; lacks = reads.2.lacks })
read_fault bytes NotCanonical differs = (
  (λ n rest begins. differs n rest [] (record { some = λ none. absurd (omega arith); small = begins.small }) (append-nil bytes ∙ begins.text)),
  (λ n more cut. differs n [] more (record { some = λ none. absurd (omega arith); small = cut.small }) (sym cut.text ∙ sym (append-nil (varint n)))),
)
read_fault bytes BadKey reads = absurd reads

pub read_short : (bytes : List ℕ) (place low : ℕ) → length bytes ≤ place → Along bytes place low → IsVarintFault bytes Short
read_short bytes place low all along =
    read_fault bytes Short (along.whole (Err Short) (subst (λ t. Reads place (suc (9 - place)) t (Err Short)) (sym (drop_all place bytes all)) (Reads-short place (9 - place))))

pub read_needless : (bytes : List ℕ) (place low b : ℕ) → place < length bytes → b ≡ get_or bytes place 0 → b ≡ 0 → 0 < place → Along bytes place low → IsVarintFault bytes NotCanonical
read_needless bytes place low b within is none later along =
    let here : Reads place (suc (9 - place)) (b ∷ drop (place + 1) bytes) (Err NotCanonical) = subst (λ x. Reads place (suc (9 - place)) (x ∷ drop (place + 1) bytes) (Err NotCanonical)) (sym none) (Reads-needless place (9 - place) (drop (place + 1) bytes) later) in
    read_fault bytes NotCanonical (along.whole (Err NotCanonical) (subst (λ t. Reads place (suc (9 - place)) t (Err NotCanonical)) (sym (at_place bytes place b within is)) here))

pub read_large : (bytes : List ℕ) (place low b : ℕ) → place < length bytes → b ≡ get_or bytes place 0 → 1 < b → place ≡ 9 → Along bytes place low → IsVarintFault bytes NotCanonical
read_large bytes place low b within is large top along =
    let one : 1 ≡ suc (9 - place) = omega arith in
    let here : Reads place (suc (9 - place)) (b ∷ drop (place + 1) bytes) (Err NotCanonical) = subst (λ k. Reads place k (b ∷ drop (place + 1) bytes) (Err NotCanonical)) one (Reads-large place b (drop (place + 1) bytes) large) in
    read_fault bytes NotCanonical (along.whole (Err NotCanonical) (subst (λ t. Reads place (suc (9 - place)) t (Err NotCanonical)) (sym (at_place bytes place b within is)) here))

-- a varint of one byte
pub begins_byte : (bytes : List ℕ) (n b : ℕ) → 0 < length bytes → b ≡ get_or bytes 0 0 → n ≡ b → n < 128 → Begins bytes n (drop 1 bytes)
begins_byte bytes n b some is same low =
    let first : bytes ≡ b ∷ drop 1 bytes = at_place bytes 0 b some is in
    record {
      small = omega arith;
      text = first ∙ ap (λ x. x ∷ drop 1 bytes) (sym same) ∙ sym (ap (λ t. t ++ drop 1 bytes) (one_byte n low));
    }

-- what the code makes of a byte's bits and the lower ones
pub joined_bits : (value bits place : ℕ) → place ≤ 9 → bits < 128 → (place ≡ 9 → bits ≤ 1) → value < 2 ^ (7 * place) → bit_or value (bits * 2 ^ (7 * place) % 2 ^ 64) ≡ bits * 2 ^ (7 * place) + value
joined_bits value bits place within low top small =
    let whole : bits * 2 ^ (7 * place) % 2 ^ 64 ≡ bits * 2 ^ (7 * place) = elim (cases_lt place 9) [
      | inl early ↦ shl_whole bits 7 (7 * place) 64 low (omega arith)
      | inr last ↦ let one = top (omega arith) in shl_whole bits 1 (7 * place) 64 (omega arith) (omega arith)
    ] in
    ap (bit_or value) whole ∙ or_comm value (bits * 2 ^ (7 * place)) ∙ or_shifted bits (7 * place) value small
