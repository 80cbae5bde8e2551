use Rattle.nn_message.specs.Messages.{IsDirEntry}
use Rattle.nn_message.specs.Spelling.{delimited, dir_entry}
use Rattle.nn_message.specs.Reading.{inside}
use Rattle.nn_message.specs.MessageReading.{dir_entry_at, directories_section_at}
use Rattle.nn_message.specs.Views.{IsDirView}
use Rattle.nn_message.proofs.LoopLemmas.{loop_next, loop_smaller, loop_fail, loop_end}
use Rattle.nn_message.proofs.MessageLemmas.{Repeats-inside}
use Rattle.nn_message.proofs.SpelledContentLemmas.{Spells-dir_entry}
use Rattle.nn_message.proofs.reading.check.are_directories.Goals as goal

pub directories-preserved : goal.directories-preserved
directories-preserved c =
    loop_next IsDirView (inside dir_entry_at) (λ x. delimited (dir_entry x)) IsDirEntry (Repeats-inside dir_entry_at dir_entry IsDirEntry Spells-dir_entry) c.args.section.now c.directories.rest.now c.next_dir_entry.new.rest.now c.next_dir_entry.result c.is_none.result c.is_empty.result
    c.is_none.ensures c.if-is_none.false c.is_empty.ensures c.directories-test.true c.next_dir_entry.ensures c.directories.invariant

pub directories-smaller : goal.directories-smaller
directories-smaller c =
    loop_smaller IsDirView (inside dir_entry_at) (λ x. delimited (dir_entry x)) IsDirEntry (Repeats-inside dir_entry_at dir_entry IsDirEntry Spells-dir_entry) c.directories.rest.now c.next_dir_entry.new.rest.now c.next_dir_entry.result c.is_none.result c.is_none.ensures c.if-is_none.false c.next_dir_entry.ensures

pub returns-then-is_none : goal.returns-then-is_none
unfolding directories_section_at
returns-then-is_none c =
    loop_fail IsDirView (inside dir_entry_at) c.args.section.now c.directories.rest.now c.next_dir_entry.new.rest.now c.next_dir_entry.result c.is_none.result c.is_empty.result
    c.is_none.ensures c.if-is_none.true c.is_empty.ensures c.directories-test.true c.next_dir_entry.ensures c.directories.invariant

pub returns : goal.returns
unfolding directories_section_at
returns c = loop_end (inside dir_entry_at) c.args.section.now c.directories.rest.now c.is_empty.result c.is_empty.ensures c.directories-test.false c.directories.invariant
