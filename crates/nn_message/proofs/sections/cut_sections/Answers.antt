use Rattle.std.proofs.Common.{length, sym, ◌∙◌, arith}
use Rattle.std.proofs.lemmas.Bool.{eqb-true}
use Rattle.nn_message.specs.FrameViews.{sections_seen}
use Rattle.nn_message.proofs.SectionLemmas.{four_fill, part_taken, first_text, first_place, no_parts, four_taken}
use Rattle.nn_message.proofs.sections.cut_sections.Goals as goal

pub returns-in_err-info-clause-none : goal.returns-in_err-info-clause-none
returns-in_err-info-clause-none c = rw c.from_residual.ensures (λ s text fields.
    let fill = four_fill c.args.text.now c.args.fields.now s c.requires (omega arith) text fields in
    c.in_err-info.ensures.none s.info _ _ (first_text _ _ _ _ _ _ fill) (first_place _ _ _ _ _ _ fill))

pub returns-in_err-strings-clause-none : goal.returns-in_err-strings-clause-none
returns-in_err-strings-clause-none c = rw c.from_residual-in_err-strings.ensures (λ s text fields.
    let fill = four_fill c.args.text.now c.args.fields.now s c.requires (omega arith) text fields in
    let one = (part_taken _ _ _ _ _ _ c.in_ok-info.info.now c.take_section.new.text.now c.take_section.new.places.now fill c.in_ok-info.ensures.some.0 c.in_ok-info.ensures.some.1).1 in
    c.in_err-strings.ensures.none s.strings _ _ (first_text _ _ _ _ _ _ one) (first_place _ _ _ _ _ _ one))

pub returns-in_err-inodes-clause-none : goal.returns-in_err-inodes-clause-none
returns-in_err-inodes-clause-none c = rw c.from_residual-in_err-inodes.ensures (λ s text fields.
    let fill = four_fill c.args.text.now c.args.fields.now s c.requires (omega arith) text fields in
    let one = (part_taken _ _ _ _ _ _ c.in_ok-info.info.now c.take_section.new.text.now c.take_section.new.places.now fill c.in_ok-info.ensures.some.0 c.in_ok-info.ensures.some.1).1 in
    let two = (part_taken _ _ _ _ _ _ c.in_ok-strings.strings.now c.take_section-2.new.text.now c.take_section-2.new.places.now one c.in_ok-strings.ensures.some.0 c.in_ok-strings.ensures.some.1).1 in
    c.in_err-inodes.ensures.none s.inodes _ _ (first_text _ _ _ _ _ _ two) (first_place _ _ _ _ _ _ two))

pub returns-in_err-directories-clause-none : goal.returns-in_err-directories-clause-none
returns-in_err-directories-clause-none c = rw c.from_residual-in_err-directories.ensures (λ s text fields.
    let fill = four_fill c.args.text.now c.args.fields.now s c.requires (omega arith) text fields in
    let one = (part_taken _ _ _ _ _ _ c.in_ok-info.info.now c.take_section.new.text.now c.take_section.new.places.now fill c.in_ok-info.ensures.some.0 c.in_ok-info.ensures.some.1).1 in
    let two = (part_taken _ _ _ _ _ _ c.in_ok-strings.strings.now c.take_section-2.new.text.now c.take_section-2.new.places.now one c.in_ok-strings.ensures.some.0 c.in_ok-strings.ensures.some.1).1 in
    let three = (part_taken _ _ _ _ _ _ c.in_ok-inodes.inodes.now c.take_section-3.new.text.now c.take_section-3.new.places.now two c.in_ok-inodes.ensures.some.0 c.in_ok-inodes.ensures.some.1).1 in
    c.in_err-directories.ensures.none s.directories _ _ (first_text _ _ _ _ _ _ three) (first_place _ _ _ _ _ _ three))

pub returns-then-not-is_empty-clause-none : goal.returns-then-not-is_empty-clause-none
returns-then-not-is_empty-clause-none c = λ s text fields.
    let fill = four_fill c.args.text.now c.args.fields.now s c.requires (omega arith) text fields in
    let one = (part_taken _ _ _ _ _ _ c.in_ok-info.info.now c.take_section.new.text.now c.take_section.new.places.now fill c.in_ok-info.ensures.some.0 c.in_ok-info.ensures.some.1).1 in
    let two = (part_taken _ _ _ _ _ _ c.in_ok-strings.strings.now c.take_section-2.new.text.now c.take_section-2.new.places.now one c.in_ok-strings.ensures.some.0 c.in_ok-strings.ensures.some.1).1 in
    let three = (part_taken _ _ _ _ _ _ c.in_ok-inodes.inodes.now c.take_section-3.new.text.now c.take_section-3.new.places.now two c.in_ok-inodes.ensures.some.0 c.in_ok-inodes.ensures.some.1).1 in
    let last = (part_taken _ _ _ _ _ _ c.in_ok-directories.directories.now c.take_section-4.new.text.now c.take_section-4.new.places.now three c.in_ok-directories.ensures.some.0 c.in_ok-directories.ensures.some.1).1 in
    let none = (no_parts _ _ _ last).1 in
    let told = c.if-not-is_empty.ensures in
    grind (arith, none, told)

pub returns-then-not-is_empty-2-clause-none : goal.returns-then-not-is_empty-2-clause-none
returns-then-not-is_empty-2-clause-none c = λ s text fields.
    let fill = four_fill c.args.text.now c.args.fields.now s c.requires (omega arith) text fields in
    let one = (part_taken _ _ _ _ _ _ c.in_ok-info.info.now c.take_section.new.text.now c.take_section.new.places.now fill c.in_ok-info.ensures.some.0 c.in_ok-info.ensures.some.1).1 in
    let two = (part_taken _ _ _ _ _ _ c.in_ok-strings.strings.now c.take_section-2.new.text.now c.take_section-2.new.places.now one c.in_ok-strings.ensures.some.0 c.in_ok-strings.ensures.some.1).1 in
    let three = (part_taken _ _ _ _ _ _ c.in_ok-inodes.inodes.now c.take_section-3.new.text.now c.take_section-3.new.places.now two c.in_ok-inodes.ensures.some.0 c.in_ok-inodes.ensures.some.1).1 in
    let last = (part_taken _ _ _ _ _ _ c.in_ok-directories.directories.now c.take_section-4.new.text.now c.take_section-4.new.places.now three c.in_ok-directories.ensures.some.0 c.in_ok-directories.ensures.some.1).1 in
    let none = (no_parts _ _ _ last).0 in
    let told = c.if-not-is_empty-2.ensures in
    grind (arith, none, told)

pub returns-clause-some : goal.returns-clause-some
returns-clause-some c =
    let s = sections_seen (record { info = c.in_ok-info.info; strings = c.in_ok-strings.strings; inodes = c.in_ok-inodes.inodes; directories = c.in_ok-directories.directories }) in
    let text = eqb-true (length c.take_section-4.new.text.now) 0 (sym c.is_empty-2.ensures ∙ c.if-not-is_empty-2.false) in
    let places = eqb-true (length c.take_section-4.new.places.now) 0 (sym c.is_empty.ensures ∙ c.if-not-is_empty.false) in
    four_taken c.args.text.now c.args.fields.now c.take_section.new.text.now c.take_section-2.new.text.now c.take_section-3.new.text.now c.take_section-4.new.text.now
    c.take_section.new.places.now c.take_section-2.new.places.now c.take_section-3.new.places.now c.take_section-4.new.places.now s
    c.in_ok-info.ensures.some.0 c.in_ok-info.ensures.some.1 c.in_ok-strings.ensures.some.0 c.in_ok-strings.ensures.some.1
    c.in_ok-inodes.ensures.some.0 c.in_ok-inodes.ensures.some.1 c.in_ok-directories.ensures.some.0 c.in_ok-directories.ensures.some.1 text places
