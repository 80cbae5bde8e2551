-- What is read of the frame of an image: views of a section's place, of the summary and of the four sections.
use Rattle.std.specs.Prelude.{◌≡◌, List, All, is_some}
use Rattle.nn_base.specs.Paths.{Bytes}
use Rattle.nn_message.specs.declared.places.PlaceView.{PlaceView}
use Rattle.nn_message.specs.declared.places.SummaryView.{SummaryView}
use Rattle.nn_message.specs.declared.sections.SectionBytes.{SectionBytes}
use Rattle.nn_message.specs.Frame.{Sections, Section, IsSection, sections_field, Summary}

-- where a section is, as it was read
abbrev pub seen : PlaceView → Section
seen v = record { name = v.name.now; length = v.len; offset = v.offset }

-- the fields of a summary that say where its sections are
abbrev pub ArePlaces : Bytes → Type 0
ArePlaces fields = (sections : List Section) × All IsSection sections × (fields ≡ sections_field sections)

-- the view is that of a summary: its layout, whether it names a codec, and the fields of its sections
pub record IsSeen (v : SummaryView) (summary : Summary) : Type 0 where
  pub layout : v.layout ≡ summary.layout
  pub codec : v.has_codec ≡ is_some summary.codec
  pub places : v.places.now ≡ sections_field summary.sections

abbrev pub sections_seen : SectionBytes → Sections
sections_seen s = record { info = s.info.now; strings = s.strings.now; inodes = s.inodes.now; directories = s.directories.now }
