-- What stands behind each field of a place and of a summary, and that a text is of one place and of one summary.
use Rattle.std.proofs.Common.{◌≡◌, ◌≢◌, ℕ, ◌+◌, ◌*◌, ◌^◌, ◌<◌, true, false, List, [], ◌∷◌, ◌++◌, length, Option, None, Some, refl, sym, ap, ◌∙◌, append_assoc, arith, length-append}
use Rattle.std.specs.Prelude.{◌↔◌, All, IfNone, IfSome, is_some}
use Rattle.std.proofs.lemmas.List.{append-nil, append_cancel_left}
use Rattle.std.proofs.lemmas.List.Elements.{All-head, All-tail, All-cons}
use Rattle.nn_base.specs.Paths.{Bytes}
use Rattle.nn_wire.specs.Varint.{varint}
use Rattle.nn_wire.specs.Field.{varint_field, bytes_field}
use Rattle.nn_wire.proofs.SpellingLemmas.{same_varint, varint_some}
use Rattle.nn_message.specs.declared.places.PlaceView.{PlaceView}
use Rattle.nn_message.specs.Frame.{Section, IsSection, section_message, codec_field, sections_field, Summary, IsSummary, summary_message}
use Rattle.nn_message.specs.FrameViews.{seen, ArePlaces}
use Rattle.nn_message.proofs.FrameLemmas.{same_parts}

pub nothing_left : (x : Bytes) → length x ≡ 0 → x ≡ []
nothing_left [] none = refl
nothing_left (b ∷ x) none = absurd (omega (arith, none))

-- ---- one field

pub one_number : (number m n : ℕ) (x y : Bytes) → m < 2 ^ 64 → n < 2 ^ 64 → varint_field number m ++ x ≡ varint_field number n ++ y → (m ≡ n) × (x ≡ y)
one_number number m n x y m_fits n_fits e =
    let key = varint (8 * number) in
    same_varint m n x y m_fits n_fits (append_cancel_left key (varint m ++ x) (varint n ++ y) (sym (append_assoc key (varint m) x) ∙ e ∙ append_assoc key (varint n) y))

pub bytes_parted : (number : ℕ) (content after : Bytes) → bytes_field number content ++ after ≡ varint (8 * number + 2) ++ (varint (length content) ++ (content ++ after))
bytes_parted number content after =
    let key = varint (8 * number + 2) in
    append_assoc key (varint (length content) ++ content) after ∙ ap (λ t. key ++ t) (append_assoc (varint (length content)) content after)

pub content_few : (text content after : Bytes) (number : ℕ) → length text < 2 ^ 64 → text ≡ bytes_field number content ++ after → length content < 2 ^ 64
content_few text content after number small is =
    let key = varint (8 * number + 2) in
    let len = varint (length content) in
    omega (arith, ap length (is ∙ bytes_parted number content after), length-append key (len ++ (content ++ after)), length-append len (content ++ after), length-append content after)

pub one_bytes : (text a b x y : Bytes) (number : ℕ) → length text < 2 ^ 64 → text ≡ bytes_field number a ++ x → text ≡ bytes_field number b ++ y → (a ≡ b) × (x ≡ y)
one_bytes text a b x y number small first second =
    let key = varint (8 * number + 2) in
    let e = sym (bytes_parted number a x) ∙ sym first ∙ second ∙ bytes_parted number b y in
    let f = append_cancel_left key (varint (length a) ++ (a ++ x)) (varint (length b) ++ (b ++ y)) e in
    let lens = same_varint (length a) (length b) (a ++ x) (b ++ y) (content_few text a x number small first) (content_few text b y number small second) f in
    same_parts a b x y lens.0 lens.1

-- ---- a place, field by field

pub section_parted : (s : Section) → section_message s ≡ bytes_field 1 s.name ++ (varint_field 2 s.length ++ (varint_field 3 s.offset ++ []))
unfolding section_message
section_parted s =
    append_assoc (bytes_field 1 s.name) (varint_field 2 s.length) (varint_field 3 s.offset)
    ∙ ap (λ t. bytes_field 1 s.name ++ (varint_field 2 s.length ++ t)) (sym (append-nil (varint_field 3 s.offset)))

pub behind_name : (text name rest : Bytes) (s : Section) → length text < 2 ^ 64 → text ≡ bytes_field 1 name ++ rest → text ≡ section_message s → (name ≡ s.name) × (rest ≡ varint_field 2 s.length ++ (varint_field 3 s.offset ++ []))
behind_name text name rest s small taken is = one_bytes text name s.name rest (varint_field 2 s.length ++ (varint_field 3 s.offset ++ [])) 1 small taken (is ∙ section_parted s)

pub behind_length : (text name rest left : Bytes) (len : ℕ) (s : Section) → IsSection s → length text < 2 ^ 64 → text ≡ bytes_field 1 name ++ rest → len < 2 ^ 64 → rest ≡ varint_field 2 len ++ left → text ≡ section_message s
    → (len ≡ s.length) × (left ≡ varint_field 3 s.offset ++ [])
behind_length text name rest left len s ok small taken fits then is =
    one_number 2 len s.length left (varint_field 3 s.offset ++ []) fits ok.length (sym then ∙ (behind_name text name rest s small taken is).1)

pub behind_offset : (text name rest left none : Bytes) (len offset : ℕ) (s : Section) → IsSection s → length text < 2 ^ 64 → text ≡ bytes_field 1 name ++ rest → len < 2 ^ 64 → rest ≡ varint_field 2 len ++ left
    → offset < 2 ^ 64 → left ≡ varint_field 3 offset ++ none → text ≡ section_message s → (offset ≡ s.offset) × (none ≡ [])
behind_offset text name rest left none len offset s ok small taken fits then also last is =
    one_number 3 offset s.offset none [] also ok.offset (sym last ∙ (behind_length text name rest left len s ok small taken fits then is).1)

pub place_found : (text name rest left none : Bytes) (len offset : ℕ) → text ≡ bytes_field 1 name ++ rest → rest ≡ varint_field 2 len ++ left → left ≡ varint_field 3 offset ++ none → none ≡ []
    → text ≡ section_message (record { name = name; length = len; offset = offset })
place_found text name rest left none len offset first second third last =
    first ∙ ap (λ t. bytes_field 1 name ++ t) (second ∙ ap (λ t. varint_field 2 len ++ t) (third ∙ ap (λ t. varint_field 3 offset ++ t) last))
    ∙ sym (section_parted (record { name = name; length = len; offset = offset }))

pub one_section : (text : Bytes) (s t : Section) → IsSection s → IsSection t → length text < 2 ^ 64 → text ≡ section_message s → text ≡ section_message t → s ≡ t
one_section text s t s_ok t_ok small first second =
    let rest = varint_field 2 s.length ++ (varint_field 3 s.offset ++ []) in
    let taken = first ∙ section_parted s in
    let name = behind_name text s.name rest t small taken second in
    let len = behind_length text s.name rest (varint_field 3 s.offset ++ []) s.length t t_ok small taken s_ok.length refl second in
    let offset = behind_offset text s.name rest (varint_field 3 s.offset ++ []) [] s.length s.offset t t_ok small taken s_ok.length refl s_ok.offset refl second in
    λ i. record { name = name.0 i; length = len.0 i; offset = offset.0 i }

pub no_place : {X : Type 0} (r : Option X) (text content rest : Bytes) → length text < 2 ^ 64 → text ≡ bytes_field 4 content ++ rest → IfNone r ((s : Section) → IsSection s → content ≢ section_message s)
    → IfNone r ((s : Section) (after : Bytes) → IsSection s → text ≢ bytes_field 4 (section_message s) ++ after)
no_place None text content rest small taken none = λ s after ok is. none s ok (one_bytes text content (section_message s) rest after 4 small taken is).0
no_place (Some x) text content rest small taken none = none

pub some_place : (r : Option PlaceView) (text content rest : Bytes) → text ≡ bytes_field 4 content ++ rest → IfSome r (λ v. IsSection (seen v) × (content ≡ section_message (seen v)))
    → IfSome r (λ v. IsSection (seen v) × (text ≡ bytes_field 4 (section_message (seen v)) ++ rest))
some_place None text content rest taken some = some
some_place (Some v) text content rest taken some = (some.0, taken ∙ ap (λ t. bytes_field 4 t ++ rest) some.1)

-- ---- places one after the other

pub more_places : (s : Section) (sections : List Section) → sections_field (s ∷ sections) ≡ bytes_field 4 (section_message s) ++ sections_field sections
unfolding sections_field
more_places s sections = refl

pub no_more_places : sections_field [] ≡ []
unfolding sections_field
no_more_places = refl

pub field_some : (number : ℕ) (content after : Bytes) → 0 < length (bytes_field number content ++ after)
field_some number content after =
    let key = varint (8 * number + 2) in
    omega (arith, varint_some (8 * number + 2), ap length (bytes_parted number content after), length-append key (varint (length content) ++ (content ++ after)))

pub place_smaller : (text rest : Bytes) (s : Section) → text ≡ bytes_field 4 (section_message s) ++ rest → length rest < length text
place_smaller text rest s taken =
    let field = bytes_field 4 (section_message s) in
    omega (arith, ap length taken, length-append field rest, field_some 4 (section_message s) [], length-append field [])

are_behind : (text rest : Bytes) (s : Section) (sections : List Section) → length text < 2 ^ 64 → text ≡ bytes_field 4 (section_message s) ++ rest → All IsSection sections → text ≡ sections_field sections → ArePlaces rest
are_behind text rest s [] small taken all is = absurd (omega (arith, field_some 4 (section_message s) rest, ap length taken, ap length (is ∙ no_more_places)))
are_behind text rest s (t ∷ ts) small taken all is = (ts, All-tail IsSection t ts all, (one_bytes text (section_message s) (section_message t) rest (sections_field ts) 4 small taken (is ∙ more_places t ts)).1)

pub place_taken : (text rest : Bytes) (s : Section) → IsSection s → length text < 2 ^ 64 → text ≡ bytes_field 4 (section_message s) ++ rest → ArePlaces text ↔ ArePlaces rest
place_taken text rest s ok small taken = (
  (λ are. are_behind text rest s are.0 small taken are.1 are.2),
  (λ are. (s ∷ are.0, All-cons IsSection s are.0 ok are.1, taken ∙ ap (λ t. bytes_field 4 (section_message s) ++ t) are.2 ∙ sym (more_places s are.0))),
)

none_are_places : (text : Bytes) (sections : List Section) → 0 < length text → ((s : Section) (after : Bytes) → IsSection s → text ≢ bytes_field 4 (section_message s) ++ after) → All IsSection sections → text ≢ sections_field sections
none_are_places text [] some none all is = omega (arith, ap length (is ∙ no_more_places))
none_are_places text (s ∷ sections) some none all is = none s (sections_field sections) (All-head IsSection s sections all) (is ∙ more_places s sections)

pub no_places : (text : Bytes) → 0 < length text → ((s : Section) (after : Bytes) → IsSection s → text ≢ bytes_field 4 (section_message s) ++ after) → ¬ ArePlaces text
no_places text some none are = none_are_places text are.0 some none are.1 are.2

pub empty_places : (text : Bytes) → length text ≡ 0 → ArePlaces text
empty_places [] none = ([], (λ k d below. absurd (omega (arith, below))), sym no_more_places)
empty_places (b ∷ text) none = absurd (omega (arith, none))

-- ---- the codec before them

-- fields of two numbers don't stand in one place
apart_keys : (text a b x y : Bytes) → text ≡ bytes_field 3 a ++ x → text ≢ bytes_field 4 b ++ y
apart_keys text a b x y first second =
    let keys : 26 ≡ 34 = (same_varint 26 34 (varint (length a) ++ (a ++ x)) (varint (length b) ++ (b ++ y)) (omega arith) (omega arith) (sym (bytes_parted 3 a x) ∙ sym first ∙ second ∙ bytes_parted 4 b y)).0 in
    omega (arith, keys)

pub codec_behind : (text content rest : Bytes) (codec : Option Bytes) (sections : List Section) → length text < 2 ^ 64 → text ≡ bytes_field 3 content ++ rest → text ≡ codec_field codec ++ sections_field sections → (true ≡ is_some codec) × (rest ≡ sections_field sections)
unfolding codec_field
codec_behind text content rest None [] small taken is = absurd (omega (arith, field_some 3 content rest, ap length taken, ap length (is ∙ no_more_places)))
codec_behind text content rest None (s ∷ sections) small taken is = absurd (apart_keys text content (section_message s) rest (sections_field sections) taken (is ∙ more_places s sections))
codec_behind text content rest (Some codec) sections small taken is = (refl, (one_bytes text content codec rest (sections_field sections) 3 small taken is).1)

pub no_codec : (text : Bytes) (codec : Option Bytes) (sections : List Section) → ((content after : Bytes) → text ≢ bytes_field 3 content ++ after) → text ≡ codec_field codec ++ sections_field sections → (false ≡ is_some codec) × (text ≡ sections_field sections)
unfolding codec_field
no_codec text None sections none is = (refl, is)
no_codec text (Some codec) sections none is = absurd (none codec (sections_field sections) is)

-- ---- a summary, field by field

pub summary_parted : (s : Summary) → summary_message s ≡ varint_field 1 s.version ++ (varint_field 2 s.layout ++ (codec_field s.codec ++ sections_field s.sections))
unfolding summary_message
summary_parted s =
    append_assoc (varint_field 1 s.version ++ varint_field 2 s.layout) (codec_field s.codec) (sections_field s.sections)
    ∙ append_assoc (varint_field 1 s.version) (varint_field 2 s.layout) (codec_field s.codec ++ sections_field s.sections)

pub behind_version : (text rest : Bytes) (version : ℕ) (s : Summary) → IsSummary s → version < 2 ^ 64 → text ≡ varint_field 1 version ++ rest → text ≡ summary_message s
    → (version ≡ 1) × (rest ≡ varint_field 2 s.layout ++ (codec_field s.codec ++ sections_field s.sections))
behind_version text rest version s ok fits taken is =
    let same = one_number 1 version s.version rest _ fits (omega (arith, ok.version)) (sym taken ∙ is ∙ summary_parted s) in
    (same.0 ∙ ok.version, same.1)

pub behind_layout : (text rest left : Bytes) (version layout : ℕ) (s : Summary) → IsSummary s → version < 2 ^ 64 → text ≡ varint_field 1 version ++ rest → layout < 2 ^ 64 → rest ≡ varint_field 2 layout ++ left → text ≡ summary_message s
    → (layout ≡ s.layout) × (left ≡ codec_field s.codec ++ sections_field s.sections)
behind_layout text rest left version layout s ok fits taken also then is =
    one_number 2 layout s.layout left _ also ok.layout (sym then ∙ (behind_version text rest version s ok fits taken is).1)

pub summary_found : (text rest left fields : Bytes) (layout : ℕ) (codec : Option Bytes) (sections : List Section) → text ≡ varint_field 1 1 ++ rest → rest ≡ varint_field 2 layout ++ left → left ≡ codec_field codec ++ fields → fields ≡ sections_field sections
    → text ≡ summary_message (record { version = 1; layout = layout; codec = codec; sections = sections })
summary_found text rest left fields layout codec sections first second third last =
    first ∙ ap (λ t. varint_field 1 1 ++ t) (second ∙ ap (λ t. varint_field 2 layout ++ t) (third ∙ ap (λ t. codec_field codec ++ t) last))
    ∙ sym (summary_parted (record { version = 1; layout = layout; codec = codec; sections = sections }))

-- ---- a message is of one summary, as far as the frame asks

same_codec : (text : Bytes) (c d : Option Bytes) (ss ts : List Section) → length text < 2 ^ 64 → text ≡ codec_field c ++ sections_field ss → text ≡ codec_field d ++ sections_field ts → (is_some c ≡ is_some d) × (sections_field ss ≡ sections_field ts)
unfolding codec_field
same_codec text (Some content) d ss ts small first second = codec_behind text content (sections_field ss) d ts small first second
same_codec text None (Some content) ss ts small first second = let same = codec_behind text content (sections_field ts) None ss small second first in (sym same.0, sym same.1)
same_codec text None None ss ts small first second = (refl, sym first ∙ second)

pub record AreAlike (s t : Summary) : Type 0 where
  pub layout : s.layout ≡ t.layout
  pub codec : is_some s.codec ≡ is_some t.codec
  pub places : sections_field s.sections ≡ sections_field t.sections

pub one_summary : (message : Bytes) (s t : Summary) → IsSummary s → IsSummary t → length message < 2 ^ 64 → message ≡ summary_message s → message ≡ summary_message t → AreAlike s t
one_summary message s t s_ok t_ok small first second =
    let left = codec_field s.codec ++ sections_field s.sections in
    let rest = varint_field 2 s.layout ++ left in
    let taken = first ∙ summary_parted s in
    let fits : s.version < 2 ^ 64 = omega (arith, s_ok.version) in
    let layout = behind_layout message rest left s.version s.layout t t_ok fits taken s_ok.layout refl second in
    let few : length left < 2 ^ 64 = omega (arith, small, ap length taken, length-append (varint_field 1 s.version) rest, length-append (varint_field 2 s.layout) left) in
    let codec = same_codec left s.codec t.codec s.sections t.sections few refl layout.1 in
    record { layout = layout.0; codec = codec.0; places = codec.1 }
