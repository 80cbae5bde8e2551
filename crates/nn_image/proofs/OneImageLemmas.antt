-- Bytes are the image of one namespace: they have one layout, one text of sections, one content, and that is put together to one namespace.
use Rattle.std.proofs.Common.{◌≡◌, ℕ, ◌+◌, ◌^◌, ◌<◌, [], ◌∷◌, length, refl, sym, arith}
use Rattle.std.specs.Prelude.{codes}
use Rattle.nn_base.specs.Paths.{Bytes}
use Rattle.nn_message.specs.Frame.{sections_field, Sections, summary_message, summary_with, summary_of, places, named, lengths_of, body}
use Rattle.nn_image.specs.Faults.{HasSections}
use Rattle.nn_message.proofs.SectionLemmas.{Parts, Fills, four, four_fill, part_taken, first_text, first_place, parts_text, parts_places}
use Rattle.nn_image.proofs.HasLemmas.{framed_short, one_has, places_few}

-- parts of the same texts, by the same names
same_part : (text fields name p q : Bytes) (offset : ℕ) (ps qs : Parts) → Fills text fields offset ((name, p) ∷ ps) → Fills text fields offset ((name, q) ∷ qs)
    → (q ≡ p) × Fills (parts_text qs) (parts_places (offset + length q) qs) (offset + length q) ps × Fills (parts_text qs) (parts_places (offset + length q) qs) (offset + length q) qs
same_part text fields name p q offset ps qs first second =
    let cut = first_text text fields name q offset qs second in
    let placed = first_place text fields name q offset qs second in
    let is = part_taken text fields name p offset ps q (parts_text qs) (parts_places (offset + length q) qs) first cut placed in
    (is.0, is.1, record { filled = refl; placed = refl; low = is.1.low; short = is.1.short })

same_four : (text fields : Bytes) (s t : Sections) → Fills text fields 8 (four s) → Fills text fields 8 (four t) → s ≡ t
same_four text fields s t first second =
    let a = same_part text fields (codes "NS_INFO") s.info t.info 8 _ _ first second in
    let b = same_part _ _ (codes "STRING_TABLE") s.strings t.strings _ _ _ a.1 a.2 in
    let c = same_part _ _ (codes "INODE") s.inodes t.inodes _ _ _ b.1 b.2 in
    let d = same_part _ _ (codes "INODE_DIR") s.directories t.directories _ [] [] c.1 c.2 in
    sym (λ i. record { info = a.0 i; strings = b.0 i; inodes = c.0 i; directories = d.0 i })

pub record AreSame (layout mayout : ℕ) (s t : Sections) : Type 0 where
  pub laid : layout ≡ mayout
  pub cut : s ≡ t

pub one_sections : (bytes : Bytes) (layout mayout : ℕ) (s t : Sections) → HasSections bytes layout s → HasSections bytes mayout t → AreSame layout mayout s t
unfolding summary_with
one_sections bytes layout mayout s t first second =
    let one = one_has bytes (body s) (body t) (summary_of layout s) (summary_of mayout t) first second in
    let short = framed_short bytes (body s) (summary_message (summary_of layout s)) first.1 in
    let fields = sections_field (places 8 (named (lengths_of s))) in
    let few : length fields < 2 ^ 64 = omega (arith, short.1, places_few layout (lengths_of s)) in
    record {
      laid = one.alike.layout;
      cut = same_four (body s) fields s t (four_fill (body s) fields s (omega (arith, short.0)) few refl refl) (four_fill (body s) fields t (omega (arith, short.0)) few one.same one.alike.places);
    }
