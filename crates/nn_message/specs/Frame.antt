-- The frame of an image: the mark at its front, four sections, and at its end a summary that says where they are.
use Rattle.std.specs.Prelude.{◌≡◌, ℕ, ◌+◌, List, [], ◌∷◌, ◌++◌, length, codes, All, Option, Some, None}
use Rattle.std.specs.Int.{w32, to_be_bytes}
use Rattle.std.specs.List.{flat_map}
use Rattle.nn_base.specs.Paths.{Bytes}
use Rattle.nn_wire.specs.Field.{varint_field, bytes_field}
use Rattle.nn_message.specs.declared.summary.Lengths.{Lengths}
use Rattle.nn_message.specs.Messages.{Content, IsVarintNumber}
use Rattle.nn_message.specs.Spelling.{delimited, ns_info, strings, string, inodes, inode, dir_entry}

abbrev pub magic : Bytes
magic = codes "HDFSIMG1"

-- ---- sections

pub record Sections : Type 0 where
  pub info : Bytes
  pub strings : Bytes
  pub inodes : Bytes
  pub directories : Bytes

-- the messages of each section, one after the other
unfoldable pub sections_of : Content → Sections
sections_of content = record {
  info = delimited (ns_info content.info);
  strings = delimited (strings content.text_count) ++ flat_map (λ t. delimited (string t)) content.texts;
  inodes = delimited (inodes content.last_inode content.inode_count) ++ flat_map (λ i. delimited (inode i)) content.inodes;
  directories = flat_map (λ d. delimited (dir_entry d)) content.dir_entries;
}

unfoldable pub body : Sections → Bytes
body s = s.info ++ s.strings ++ s.inodes ++ s.directories

-- ---- the summary

-- where a section is: its name, its length, and its place counted from the front of the file
pub record Section : Type 0 where
  pub name : Bytes
  pub length : ℕ
  pub offset : ℕ

pub record Summary : Type 0 where
  pub version : ℕ
  pub layout : ℕ
  pub codec : Option Bytes
  pub sections : List Section

pub record IsSection (section : Section) : Type 0 where
  pub length : IsVarintNumber section.length
  pub offset : IsVarintNumber section.offset

-- the version of the format itself is always 1
pub record IsSummary (summary : Summary) : Type 0 where
  pub version : summary.version ≡ 1
  pub layout : IsVarintNumber summary.layout
  pub sections : All IsSection summary.sections

unfoldable pub section_message : Section → Bytes
section_message section = bytes_field 1 section.name ++ varint_field 2 section.length ++ varint_field 3 section.offset

unfoldable pub codec_field : Option Bytes → Bytes
codec_field None = []
codec_field (Some codec) = bytes_field 3 codec

unfoldable pub sections_field : List Section → Bytes
sections_field sections = flat_map (λ section. bytes_field 4 (section_message section)) sections

unfoldable pub summary_message : Summary → Bytes
summary_message summary = varint_field 1 summary.version ++ varint_field 2 summary.layout ++ codec_field summary.codec ++ sections_field summary.sections

-- each section begins where the one before it ends
unfoldable pub places : ℕ → List (Bytes × ℕ) → List Section
places offset [] = []
places offset ((name, len) ∷ rest) = record { name = name; length = len; offset = offset } ∷ places (offset + len) rest

abbrev pub named : Lengths → List (Bytes × ℕ)
named l = (codes "NS_INFO", l.info) ∷ (codes "STRING_TABLE", l.strings) ∷ (codes "INODE", l.inodes) ∷ (codes "INODE_DIR", l.directories) ∷ []

unfoldable pub lengths_of : Sections → Lengths
lengths_of s = record { info = length s.info; strings = length s.strings; inodes = length s.inodes; directories = length s.directories }

-- the one summary of sections of these lengths, which begin after the mark
unfoldable pub summary_with : ℕ → Lengths → Summary
summary_with layout l = record { version = 1; layout = layout; codec = None; sections = places 8 (named l) }

abbrev pub summary_of : ℕ → Sections → Summary
summary_of layout s = summary_with layout (lengths_of s)

-- ---- the file

-- a summary, and how many bytes it takes with its own length
unfoldable pub end : Bytes → Bytes
end summary = delimited summary ++ to_be_bytes w32 (length (delimited summary))

unfoldable pub framed : Bytes → Bytes → Bytes
framed text summary = magic ++ text ++ end summary
