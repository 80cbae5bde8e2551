-- Sections that fill a text, one after the other, and the places that say so.
use Rattle.std.proofs.Common.{◌≡◌, ◌≢◌, ℕ, ◌+◌, ◌^◌, ◌<◌, ◌≤◌, true, false, not, List, [], ◌∷◌, ◌++◌, length, refl, sym, ap, ◌∙◌, append_assoc, arith, length-append}
use Rattle.std.specs.Prelude.{codes}
use Rattle.std.specs.Str.{bytes_eq}
use Rattle.std.proofs.lemmas.List.{append-nil}
use Rattle.std.proofs.lemmas.Slice.Eq.{bytes_eq-Decides}
use Rattle.nn_base.specs.Paths.{Bytes}
use Rattle.nn_base.specs.Limits.{most_image}
use Rattle.nn_wire.specs.Field.{bytes_field}
use Rattle.nn_message.specs.Frame.{Section, IsSection, section_message, sections_field, Sections, places, named, lengths_of, body}
use Rattle.nn_message.proofs.FrameLemmas.{same_parts}
use Rattle.nn_message.proofs.PlaceLemmas.{nothing_left, one_bytes, content_few, one_section}

-- the field that says where a part is
abbrev pub place : Bytes → Bytes → ℕ → Bytes
place name part offset = bytes_field 4 (section_message (record { name = name; length = length part; offset = offset }))

pub one_place : (fields x y : Bytes) (s t : Section) → IsSection s → IsSection t → length fields < 2 ^ 64 → fields ≡ bytes_field 4 (section_message s) ++ x → fields ≡ bytes_field 4 (section_message t) ++ y → (s ≡ t) × (x ≡ y)
one_place fields x y s t s_ok t_ok small first second =
    let same = one_bytes fields (section_message s) (section_message t) x y 4 small first second in
    (one_section (section_message s) s t s_ok t_ok (content_few fields (section_message s) x 4 small first) refl same.0, same.1)

pub names_apart : (a b : Bytes) → true ≡ not (bytes_eq a b) → a ≢ b
names_apart a b told same =
    let equal = (bytes_eq-Decides a b).1 same in
    let never : true ≡ false = told ∙ ap not equal in
    absurd cc

-- the place that stands there is the one that a part would have
pub claimed_place : (text fields name part left after rest : Bytes) (offset : ℕ) (v : Section) → length text < 2 ^ 64 → length fields < 2 ^ 64 → offset < 2 ^ 64 → IsSection v → fields ≡ bytes_field 4 (section_message v) ++ rest
    → text ≡ part ++ left → fields ≡ place name part offset ++ after → v ≡ record { name = name; length = length part; offset = offset }
claimed_place text fields name part left after rest offset v few short low ok stands parts claimed =
    let s : Section = record { name = name; length = length part; offset = offset } in
    (one_place fields rest after v s ok (record { length = omega (arith, ap length parts, length-append part left, few); offset = low }) short stands claimed).0

-- ---- parts with their names, from an offset on

abbrev pub Parts : Type 0
Parts = List (Bytes × Bytes)

unfoldable pub parts_text : Parts → Bytes
parts_text [] = []
parts_text ((name, part) ∷ rest) = part ++ parts_text rest

unfoldable pub parts_places : ℕ → Parts → Bytes
parts_places offset [] = []
parts_places offset ((name, part) ∷ rest) = place name part offset ++ parts_places (offset + length part) rest

-- The text is these parts, and the fields say where they are.
pub record Fills (text fields : Bytes) (offset : ℕ) (parts : Parts) : Type 0 where
  pub filled : text ≡ parts_text parts
  pub placed : fields ≡ parts_places offset parts
  pub low : offset + length text < 2 ^ 64
  pub short : length fields < 2 ^ 64

pub first_text : (text fields name part : Bytes) (offset : ℕ) (rest : Parts) → Fills text fields offset ((name, part) ∷ rest) → text ≡ part ++ parts_text rest
unfolding parts_text
first_text text fields name part offset rest fills = fills.filled

pub first_place : (text fields name part : Bytes) (offset : ℕ) (rest : Parts) → Fills text fields offset ((name, part) ∷ rest) → fields ≡ place name part offset ++ parts_places (offset + length part) rest
unfolding parts_places
first_place text fields name part offset rest fills = fills.placed

section_in_range : (name part left text : Bytes) (offset : ℕ) → offset + length text < 2 ^ 64 → text ≡ part ++ left → IsSection (record { name = name; length = length part; offset = offset })
section_in_range name part left text offset low parts = record { length = omega (arith, ap length parts, length-append part left, low); offset = omega (arith, low) }

-- a part that was taken is the first one
pub part_taken : (text fields name part : Bytes) (offset : ℕ) (rest : Parts) (taken left after : Bytes) → Fills text fields offset ((name, part) ∷ rest) → text ≡ taken ++ left → fields ≡ place name taken offset ++ after
    → (taken ≡ part) × Fills left after (offset + length taken) rest
part_taken text fields name part offset rest taken left after fills cut placed =
    let split = first_text text fields name part offset rest fills in
    let says = first_place text fields name part offset rest fills in
    let s : Section = record { name = name; length = length taken; offset = offset } in
    let t : Section = record { name = name; length = length part; offset = offset } in
    let same = one_place fields after (parts_places (offset + length part) rest) s t (section_in_range name taken left text offset fills.low cut) (section_in_range name part (parts_text rest) text offset fills.low split) fills.short placed says in
    let size : length taken ≡ length part = ap (λ (x : Section). x.length) same.0 in
    let parts = same_parts taken part left (parts_text rest) size (sym cut ∙ split) in (
      parts.0,
      record {
        filled = parts.1;
        placed = same.1 ∙ ap (λ n. parts_places (offset + n) rest) (sym size);
        low = omega (arith, fills.low, ap length cut, length-append taken left);
        short = omega (arith, fills.short, ap length placed, length-append (place name taken offset) after);
      },
    )

pub no_parts : (text fields : Bytes) (offset : ℕ) → Fills text fields offset [] → (length text ≡ 0) × (length fields ≡ 0)
unfolding parts_text parts_places
no_parts text fields offset fills = (ap length fills.filled, ap length fills.placed)

-- ---- the four sections

abbrev pub four : Sections → Parts
four s = (codes "NS_INFO", s.info) ∷ (codes "STRING_TABLE", s.strings) ∷ (codes "INODE", s.inodes) ∷ (codes "INODE_DIR", s.directories) ∷ []

four_text : (s : Sections) → body s ≡ parts_text (four s)
unfolding body parts_text
four_text s =
    append_assoc (s.info ++ s.strings) s.inodes s.directories ∙ append_assoc s.info s.strings (s.inodes ++ s.directories)
    ∙ ap (λ t. s.info ++ (s.strings ++ (s.inodes ++ t))) (sym (append-nil s.directories))

four_places : (s : Sections) → sections_field (places 8 (named (lengths_of s))) ≡ parts_places 8 (four s)
unfolding sections_field places lengths_of parts_places
four_places s = refl

pub four_fill : (text fields : Bytes) (s : Sections) → length text ≤ most_image → length fields < 2 ^ 64 → text ≡ body s → fields ≡ sections_field (places 8 (named (lengths_of s))) → Fills text fields 8 (four s)
four_fill text fields s few short filled placed = record { filled = filled ∙ four_text s; placed = placed ∙ four_places s; low = omega (arith, few); short = short }

-- four that were taken in turn
pub four_taken : (text fields one two three four info_after strings_after inodes_after after : Bytes) (s : Sections) → text ≡ s.info ++ one → fields ≡ place (codes "NS_INFO") s.info 8 ++ info_after
    → one ≡ s.strings ++ two → info_after ≡ place (codes "STRING_TABLE") s.strings (8 + length s.info) ++ strings_after
    → two ≡ s.inodes ++ three → strings_after ≡ place (codes "INODE") s.inodes (8 + length s.info + length s.strings) ++ inodes_after
    → three ≡ s.directories ++ four → inodes_after ≡ place (codes "INODE_DIR") s.directories (8 + length s.info + length s.strings + length s.inodes) ++ after → length four ≡ 0 → length after ≡ 0
    → (text ≡ body s) × (fields ≡ sections_field (places 8 (named (lengths_of s))))
unfolding parts_text parts_places
four_taken text fields one two three four info_after strings_after inodes_after after s a b c d e f g h none also = (
  a ∙ ap (λ t. s.info ++ t) (c ∙ ap (λ t. s.strings ++ t) (e ∙ ap (λ t. s.inodes ++ t) (g ∙ ap (λ t. s.directories ++ t) (nothing_left four none)))) ∙ sym (four_text s),
  b ∙ ap (λ t. place (codes "NS_INFO") s.info 8 ++ t) (d ∙ ap (λ t. place (codes "STRING_TABLE") s.strings (8 + length s.info) ++ t)
      (f ∙ ap (λ t. place (codes "INODE") s.inodes (8 + length s.info + length s.strings) ++ t)
      (h ∙ ap (λ t. place (codes "INODE_DIR") s.directories (8 + length s.info + length s.strings + length s.inodes) ++ t) (nothing_left after also)))) ∙ sym (four_places s),
)
