-- Sections that are spelled are read again, and so the sections of no two contents are the same.
use Rattle.std.proofs.Common.{◌≡◌, ℕ, ◌^◌, ◌<◌, false, List, ◌++◌, length, Some, refl, sym, ap, ◌∙◌, arith, length-append}
use Rattle.std.specs.List.{flat_map, All}
use Rattle.nn_base.specs.Limits.{IsLong}
use Rattle.nn_base.specs.Paths.{Bytes}
use Rattle.nn_base.proofs.PlainLemmas.{some_is}
use Rattle.nn_wire.specs.Varint.{varint}
use Rattle.nn_wire.specs.Field.{varint_field}
use Rattle.nn_message.specs.Messages.{IsNsInfo, Text, IsText, Inode, IsInode, IsVarintNumber, DirEntry, IsDirEntry, Content, IsContent}
use Rattle.nn_message.specs.Spelling.{delimited, ns_info, strings, string, inodes, inode, dir_entry}
use Rattle.nn_message.specs.Frame.{Sections, sections_of, body}
use Rattle.nn_message.specs.Reading.{Spells, Anywhere, inside, field_with, is_some_byte, many, whole}
use Rattle.nn_message.specs.MessageReading.{long_at, child_at, children_at, dir_entry_at, strings_at, string_at, inodes_at, inode_at, info_section_at, strings_section_at, inodes_section_at, directories_section_at}
use Rattle.nn_message.specs.Views.{AreInodes}
use Rattle.nn_message.proofs.SpellsLemmas.{Spells-then, Spells-mapped, Spells-same, whole_again, whole_exact}
use Rattle.nn_message.proofs.FieldLemmas.{Spells-inside, Spells-field_with}
use Rattle.nn_message.proofs.ManyLemmas.{Spells-many}
use Rattle.nn_message.proofs.MessageLemmas.{Spells-long, Spells-info_section, Spells-strings, Spells-string, Spells-inodes, Repeats-child, Repeats-inside}
use Rattle.nn_message.proofs.NodeLemmas.{Spells-inode}

-- no byte is left
abbrev pub NoneLeft : Bytes → Type 0
NoneLeft rest = is_some_byte rest ≡ false

-- ---- INODE_DIR

pub Spells-children : Spells children_at (flat_map varint) (All IsLong) NoneLeft
unfolding children_at
Spells-children = Spells-many is_some_byte child_at varint IsLong Repeats-child

pub Spells-dir_entry : Spells dir_entry_at dir_entry IsDirEntry Anywhere
unfolding dir_entry_at dir_entry
Spells-dir_entry =
    let children = Spells-field_with 2 children_at (flat_map varint) (All IsLong) NoneLeft (omega arith) refl Spells-children in
    let both = Spells-then (long_at 1) (field_with 2 children_at) (varint_field 1) _ IsLong (All IsLong) Anywhere Anywhere (Spells-long 1 (omega arith)) children (λ y rest h k. tt) in
    let all = Spells-mapped (λ (x : ℕ × List ℕ). let d : DirEntry = record { parent = x.0; children = x.1 } in d) (λ d. (d.parent, d.children)) _ _ _ Anywhere (λ x h. refl) (λ d. refl) both in
    Spells-same dir_entry_at _ dir_entry _ IsDirEntry Anywhere Anywhere (λ d h. refl) (λ d h. record { parent = h.0; children = h.1 }) (λ d h. (h.parent, h.children)) (λ rest h. h) all

-- ---- sections

abbrev pub strings_text : ℕ × List Text → Bytes
strings_text x = delimited (strings x.0) ++ flat_map (λ t. delimited (string t)) x.1

abbrev pub inodes_text : (ℕ × ℕ) × List Inode → Bytes
inodes_text x = delimited (inodes x.0.0 x.0.1) ++ flat_map (λ i. delimited (inode i)) x.1

abbrev pub directories_text : List DirEntry → Bytes
directories_text entries = flat_map (λ d. delimited (dir_entry d)) entries

abbrev pub AreStrings : ℕ × List Text → Type 0
AreStrings x = IsVarintNumber x.0 × All IsText x.1

abbrev pub AreNodes : (ℕ × ℕ) × List Inode → Type 0
AreNodes x = AreInodes x.0 × All IsInode x.1

pub Spells-strings_section : Spells strings_section_at strings_text AreStrings NoneLeft
unfolding strings_section_at
Spells-strings_section =
    Spells-then (inside strings_at) (many is_some_byte (inside string_at)) (λ n. delimited (strings n)) (flat_map (λ t. delimited (string t))) IsVarintNumber (All IsText) Anywhere NoneLeft
    (Spells-inside strings_at strings IsVarintNumber Anywhere tt Spells-strings) (Spells-many is_some_byte (inside string_at) (λ t. delimited (string t)) IsText (Repeats-inside string_at string IsText Spells-string)) (λ y rest h k. tt)

pub Spells-inodes_section : Spells inodes_section_at inodes_text AreNodes NoneLeft
unfolding inodes_section_at
Spells-inodes_section =
    Spells-then (inside inodes_at) (many is_some_byte (inside inode_at)) (λ x. delimited (inodes x.0 x.1)) (flat_map (λ i. delimited (inode i))) AreInodes (All IsInode) Anywhere NoneLeft
    (Spells-inside inodes_at (λ x. inodes x.0 x.1) AreInodes Anywhere tt Spells-inodes) (Spells-many is_some_byte (inside inode_at) (λ i. delimited (inode i)) IsInode (Repeats-inside inode_at inode IsInode Spells-inode)) (λ y rest h k. tt)

pub Spells-directories_section : Spells directories_section_at directories_text (All IsDirEntry) NoneLeft
unfolding directories_section_at
Spells-directories_section = Spells-many is_some_byte (inside dir_entry_at) (λ d. delimited (dir_entry d)) IsDirEntry (Repeats-inside dir_entry_at dir_entry IsDirEntry Spells-dir_entry)

-- ---- what is read of the sections of a content

-- a section is no longer than a u64 counts
pub record AreShort (s : Sections) : Type 0 where
  pub info : length s.info < 2 ^ 64
  pub strings : length s.strings < 2 ^ 64
  pub inodes : length s.inodes < 2 ^ 64
  pub directories : length s.directories < 2 ^ 64

pub record AreRead (content : Content) (s : Sections) : Type 0 where
  pub info : whole info_section_at s.info ≡ Some content.info
  pub strings : whole strings_section_at s.strings ≡ Some (content.text_count, content.texts)
  pub inodes : whole inodes_section_at s.inodes ≡ Some ((content.last_inode, content.inode_count), content.inodes)
  pub directories : whole directories_section_at s.directories ≡ Some content.dir_entries

pub content_again : (content : Content) (s : Sections) → IsContent content → AreShort s → s ≡ sections_of content → AreRead content s
unfolding sections_of
content_again content s is short e =
    let info = ap (λ z. z.info) e in
    let strings = ap (λ z. z.strings) e in
    let inodes = ap (λ z. z.inodes) e in
    let directories = ap (λ z. z.directories) e in
    record {
      info = ap (whole info_section_at) info ∙ whole_again info_section_at (λ i. delimited (ns_info i)) IsNsInfo Anywhere Spells-info_section tt content.info is.info (omega (arith, short.info, ap length info));
      strings = ap (whole strings_section_at) strings ∙ whole_again strings_section_at strings_text AreStrings NoneLeft Spells-strings_section refl (content.text_count, content.texts) (is.text_count, is.texts) (omega (arith, short.strings, ap length strings));
      inodes = ap (whole inodes_section_at) inodes ∙ whole_again inodes_section_at inodes_text AreNodes NoneLeft Spells-inodes_section refl ((content.last_inode, content.inode_count), content.inodes) ((is.last_inode, is.inode_count), is.inodes) (omega (arith, short.inodes, ap length inodes));
      directories = ap (whole directories_section_at) directories ∙ whole_again directories_section_at directories_text (All IsDirEntry) NoneLeft Spells-directories_section refl content.dir_entries is.dir_entries (omega (arith, short.directories, ap length directories));
    }

pub content_exact : (content : Content) (s : Sections) → AreRead content s → IsContent content × (s ≡ sections_of content)
unfolding sections_of
content_exact content s read =
    let info = whole_exact info_section_at (λ i. delimited (ns_info i)) IsNsInfo Anywhere Spells-info_section s.info content.info read.info in
    let strings = whole_exact strings_section_at strings_text AreStrings NoneLeft Spells-strings_section s.strings _ read.strings in
    let inodes = whole_exact inodes_section_at inodes_text AreNodes NoneLeft Spells-inodes_section s.inodes _ read.inodes in
    let directories = whole_exact directories_section_at directories_text (All IsDirEntry) NoneLeft Spells-directories_section s.directories _ read.directories in (
      record { info = info.0; text_count = strings.0.0; texts = strings.0.1; last_inode = inodes.0.0.0; inode_count = inodes.0.0.1; inodes = inodes.0.1; dir_entries = directories.0 },
      λ i. record { info = info.1 i; strings = strings.1 i; inodes = inodes.1 i; directories = directories.1 i },
    )

one_read : (a b : Content) (s : Sections) → AreRead a s → AreRead b s → a ≡ b
one_read a b s p q =
    let info = some_is _ _ (sym p.info ∙ q.info) in
    let strings = some_is _ _ (sym p.strings ∙ q.strings) in
    let inodes = some_is _ _ (sym p.inodes ∙ q.inodes) in
    let directories = some_is _ _ (sym p.directories ∙ q.directories) in
    λ i. record { info = info i; text_count = (strings i).0; texts = (strings i).1; last_inode = (inodes i).0.0; inode_count = (inodes i).0.1; inodes = (inodes i).1; dir_entries = directories i }

-- A length of 2 ^ 64 and more has no varint, so nothing is said of sections as long as that.
pub content_apart : (a b : Content) → IsContent a → IsContent b → length (body (sections_of a)) < 2 ^ 64 → sections_of a ≡ sections_of b → a ≡ b
content_apart a b a_is b_is short e =
    let parts = body_parts (sections_of a) short in
    one_read a b (sections_of a) (content_again a (sections_of a) a_is parts refl) (content_again b (sections_of a) b_is parts e)
  where
    body_parts : (s : Sections) → length (body s) < 2 ^ 64 → AreShort s
    body_parts s short = unfold body in
        let all : length (((s.info ++ s.strings) ++ s.inodes) ++ s.directories) < 2 ^ 64 = short in
        let three = length-append ((s.info ++ s.strings) ++ s.inodes) s.directories in
        let two = length-append (s.info ++ s.strings) s.inodes in
        let one = length-append s.info s.strings in
        record { info = omega arith; strings = omega arith; inodes = omega arith; directories = omega arith }
