use Rattle.std.proofs.Common.{◌≡◌, ◌≢◌, false, Option, Some, None, is_some, sym, ◌∙◌, arith}
use Rattle.nn_base.specs.Paths.{Bytes}
use Rattle.nn_base.proofs.PlainLemmas.{some_of}
use Rattle.nn_message.specs.Messages.{Content, IsContent}
use Rattle.nn_message.specs.Frame.{Sections, sections_of}
use Rattle.nn_message.specs.Reading.{whole}
use Rattle.nn_message.specs.MessageReading.{info_section_at, strings_section_at, inodes_section_at, directories_section_at}
use Rattle.nn_message.proofs.SpelledContentLemmas.{AreShort, content_again, content_exact}
use Rattle.nn_message.proofs.reading.check.check_messages.Goals as goal

abbrev four : Bytes → Bytes → Bytes → Bytes → Sections
four info strings inodes directories = record { info = info; strings = strings; inodes = inodes; directories = directories }

-- nothing is read of a section
data Lacks (s : Sections) : Type 0 where
  no_info : is_some (whole info_section_at s.info) ≡ false → Lacks s
  no_strings : is_some (whole strings_section_at s.strings) ≡ false → Lacks s
  no_inodes : is_some (whole inodes_section_at s.inodes) ≡ false → Lacks s
  no_directories : is_some (whole directories_section_at s.directories) ≡ false → Lacks s

none_read : {X : Type 0} (m : Option X) (x : X) → is_some m ≡ false → m ≡ Some x → ⊥
none_read None x none e = cc
none_read (Some y) x none e = cc

no_content : (s : Sections) → AreShort s → Lacks s → (content : Content) → IsContent content → sections_of content ≢ s
no_content s short lacks content is e =
    let read = content_again content s is short (sym e) in
    elim lacks [
      | no_info none ↦ none_read _ _ none read.info
      | no_strings none ↦ none_read _ _ none read.strings
      | no_inodes none ↦ none_read _ _ none read.inodes
      | no_directories none ↦ none_read _ _ none read.directories
    ]

pub returns-then-not-is_info-clause-no : goal.returns-then-not-is_info-clause-no
returns-then-not-is_info-clause-no c u =
    no_content (four c.args.info.now c.args.strings.now c.args.inodes.now c.args.directories.now) (record { info = omega arith; strings = omega arith; inodes = omega arith; directories = omega arith })
    (no_info (sym c.is_info.ensures ∙ c.if-not-is_info.true))

pub returns-then-not-are_strings-clause-no : goal.returns-then-not-are_strings-clause-no
returns-then-not-are_strings-clause-no c u =
    no_content (four c.args.info.now c.args.strings.now c.args.inodes.now c.args.directories.now) (record { info = omega arith; strings = omega arith; inodes = omega arith; directories = omega arith })
    (no_strings (sym c.are_strings.ensures ∙ c.if-not-are_strings.true))

pub returns-then-not-are_inodes-clause-no : goal.returns-then-not-are_inodes-clause-no
returns-then-not-are_inodes-clause-no c u =
    no_content (four c.args.info.now c.args.strings.now c.args.inodes.now c.args.directories.now) (record { info = omega arith; strings = omega arith; inodes = omega arith; directories = omega arith })
    (no_inodes (sym c.are_inodes.ensures ∙ c.if-not-are_inodes.true))

pub returns-clause-no : goal.returns-clause-no
returns-clause-no c none =
    no_content (four c.args.info.now c.args.strings.now c.args.inodes.now c.args.directories.now) (record { info = omega arith; strings = omega arith; inodes = omega arith; directories = omega arith })
    (no_directories (sym c.are_directories.ensures ∙ none))

pub returns-clause-yes : goal.returns-clause-yes
returns-clause-yes c all =
    let info = some_of (whole info_section_at c.args.info.now) (sym c.is_info.ensures ∙ c.if-not-is_info.false) in
    let strings = some_of (whole strings_section_at c.args.strings.now) (sym c.are_strings.ensures ∙ c.if-not-are_strings.false) in
    let inodes = some_of (whole inodes_section_at c.args.inodes.now) (sym c.are_inodes.ensures ∙ c.if-not-are_inodes.false) in
    let directories = some_of (whole directories_section_at c.args.directories.now) (sym c.are_directories.ensures ∙ all) in
    let content : Content = record { info = info.0; text_count = strings.0.0; texts = strings.0.1; last_inode = inodes.0.0.0; inode_count = inodes.0.0.1; inodes = inodes.0.1; dir_entries = directories.0 } in
    let exact = content_exact content (four c.args.info.now c.args.strings.now c.args.inodes.now c.args.directories.now) (record { info = info.1; strings = strings.1; inodes = inodes.1; directories = directories.1 }) in
    (content, exact.0, exact.1)
