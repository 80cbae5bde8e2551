-- Bytes have one frame, one summary as far as the frame asks, and one text of sections.
use Rattle.std.proofs.Common.{◌≡◌, ℕ, ◌+◌, ◌^◌, ◌<◌, ◌≤◌, false, [], ◌∷◌, ◌++◌, length, Option, None, Some, refl, sym, ap, ◌∙◌, arith, length-append}
use Rattle.std.specs.Prelude.{codes, All, is_some}
use Rattle.std.proofs.lemmas.List.Elements.{All-cons}
use Rattle.nn_base.specs.Paths.{Bytes}
use Rattle.nn_base.specs.Limits.{most_image}
use Rattle.nn_wire.specs.Field.{varint_field}
use Rattle.nn_message.specs.declared.summary.Lengths.{Lengths}
use Rattle.nn_message.specs.Frame.{Section, IsSection, codec_field, sections_field, Sections, Summary, IsSummary, summary_message, summary_with, summary_of, places, named, lengths_of, body, framed}
use Rattle.nn_image.specs.Faults.{IsFramed, HasSummary, IsPlain, HasSections}
use Rattle.nn_message.proofs.FrameLemmas.{one_frame, framed_few}
use Rattle.nn_message.proofs.PlaceLemmas.{AreAlike, one_summary}

pub one_framed : (bytes text other summary message : Bytes) → IsFramed bytes text summary → IsFramed bytes other message → (text ≡ other) × (summary ≡ message)
one_framed bytes text other summary message first second = one_frame text other summary message (omega (arith, first.0, ap length first.1)) (sym first.1 ∙ second.1)

pub framed_short : (bytes text summary : Bytes) → IsFramed bytes text summary → (8 + length text ≤ most_image) × (length summary ≤ most_image)
framed_short bytes text summary is = let few = framed_few text summary in (omega (arith, few, is.0, ap length is.1), omega (arith, few, is.0, ap length is.1))

pub body_few : (bytes text summary : Bytes) → IsFramed bytes text summary → length text ≤ most_image
body_few bytes text summary is = omega (arith, (framed_short bytes text summary is).0)

-- ---- summaries

pub has_summary : (bytes text message : Bytes) (s : Summary) → IsFramed bytes text message → IsSummary s → message ≡ summary_message s → HasSummary bytes text s
has_summary bytes text message s framed_so ok is = (ok, (framed_so.0, framed_so.1 ∙ ap (framed text) is))

-- two of the same bytes
pub record AreOne (text other : Bytes) (s t : Summary) : Type 0 where
  pub same : text ≡ other
  pub alike : AreAlike s t

pub one_has : (bytes text other : Bytes) (s t : Summary) → HasSummary bytes text s → HasSummary bytes other t → AreOne text other s t
one_has bytes text other s t first second =
    let same = one_framed bytes text other (summary_message s) (summary_message t) first.1 second.1 in
    let short = (framed_short bytes text (summary_message s) first.1).1 in
    record { same = same.0; alike = one_summary (summary_message s) s t first.0 second.0 (omega (arith, short)) refl same.1 }

-- ---- sections

ranged : (l : Lengths) → l.info + l.strings + l.inodes + l.directories ≤ most_image → All IsSection (places 8 (named l))
unfolding places
ranged l few =
    let p : Section = record { name = codes "NS_INFO"; length = l.info; offset = 8 } in
    let q : Section = record { name = codes "STRING_TABLE"; length = l.strings; offset = 8 + l.info } in
    let r : Section = record { name = codes "INODE"; length = l.inodes; offset = 8 + l.info + l.strings } in
    let s : Section = record { name = codes "INODE_DIR"; length = l.directories; offset = 8 + l.info + l.strings + l.inodes } in
    All-cons IsSection p (q ∷ r ∷ s ∷ []) (record { length = omega (arith, few); offset = omega arith })
    (All-cons IsSection q (r ∷ s ∷ []) (record { length = omega (arith, few); offset = omega (arith, few) })
    (All-cons IsSection r (s ∷ []) (record { length = omega (arith, few); offset = omega (arith, few) })
    (All-cons IsSection s [] (record { length = omega (arith, few); offset = omega (arith, few) }) (λ k d below. absurd (omega (arith, below))))))

body_length : (s : Sections) → length (body s) ≡ length s.info + length s.strings + length s.inodes + length s.directories
unfolding body
body_length s = omega (arith, length-append (s.info ++ s.strings ++ s.inodes) s.directories, length-append (s.info ++ s.strings) s.inodes, length-append s.info s.strings)

-- a summary that says nothing but where four sections of these lengths are
plain_message : (layout : ℕ) (l : Lengths) (summary : Summary) → summary.version ≡ 1 → summary.layout ≡ layout → summary.codec ≡ None → sections_field summary.sections ≡ sections_field (places 8 (named l)) → summary_message summary ≡ summary_message (summary_with layout l)
unfolding summary_message summary_with
plain_message layout l summary version laid codec fields =
    λ i. varint_field 1 (version i) ++ varint_field 2 (laid i) ++ codec_field (codec i) ++ fields i

no_name : (codec : Option Bytes) → false ≡ is_some codec → codec ≡ None
no_name None told = refl
no_name (Some codec) told = absurd cc

-- the places are a part of the summary
pub places_few : (layout : ℕ) (l : Lengths) → length (sections_field (places 8 (named l))) ≤ length (summary_message (summary_with layout l))
unfolding summary_message summary_with
places_few layout l =
    let fields = sections_field (places 8 (named l)) in
    omega (arith, length-append (varint_field 1 1 ++ varint_field 2 layout ++ codec_field None) fields)

pub some_sections : (layout : ℕ) (l : Lengths) → layout < 2 ^ 64 → l.info + l.strings + l.inodes + l.directories ≤ most_image → IsSummary (summary_with layout l)
unfolding summary_with
some_sections layout l small few = record { version = refl; layout = small; sections = ranged l few }

pub lengths_few : (s : Sections) → length (body s) ≤ most_image → (lengths_of s).info + (lengths_of s).strings + (lengths_of s).inodes + (lengths_of s).directories ≤ most_image
unfolding lengths_of
lengths_few s few = omega (arith, few, body_length s)

pub is_plain : (bytes text : Bytes) (summary : Summary) → HasSummary bytes text summary → false ≡ is_some summary.codec → IsPlain bytes text summary
is_plain bytes text summary has none = (has, no_name summary.codec none)

pub has_sections : (bytes text : Bytes) (layout : ℕ) (summary : Summary) (s : Sections) → HasSummary bytes text summary → false ≡ is_some summary.codec → summary.layout ≡ layout
    → text ≡ body s → sections_field summary.sections ≡ sections_field (places 8 (named (lengths_of s))) → HasSections bytes layout s
has_sections bytes text layout summary s has none laid filled fields =
    let l = lengths_of s in
    let few = (framed_short bytes text (summary_message summary) has.1).0 in
    let small : layout < 2 ^ 64 = omega (arith, laid, has.0.layout) in
    let message = plain_message layout l summary has.0.version laid (no_name summary.codec none) fields in (
      some_sections layout l small (lengths_few s (omega (arith, few, ap length filled))),
      (has.1.0, has.1.1 ∙ (λ i. framed (filled i) (message i))),
    )

-- sections of the same bytes are cut from the same text, at the same places
pub sections_cut : (bytes text : Bytes) (layout : ℕ) (summary : Summary) (s : Sections) → HasSummary bytes text summary → HasSections bytes layout s → (text ≡ body s) × (sections_field summary.sections ≡ sections_field (places 8 (named (lengths_of s))))
unfolding summary_with
sections_cut bytes text layout summary s has cut =
    let one = one_has bytes text (body s) summary (summary_of layout s) has cut in
    (one.same, one.alike.places)
