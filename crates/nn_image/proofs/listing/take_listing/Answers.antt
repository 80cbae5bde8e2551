use Rattle.std.proofs.Common.{sym, subst, ◌∙◌}
use Rattle.std.proofs.lemmas.Option.{none-some}
use Rattle.nn_message.specs.Messages.{IsDirEntry}
use Rattle.nn_message.specs.Spelling.{delimited, dir_entry}
use Rattle.nn_message.specs.Views.{IsDirView}
use Rattle.nn_image.proofs.TakingLemmas.{takes_first, is_none, is_not_none}
use Rattle.nn_image.proofs.ListingLemmas.{NextEntry, nothing_listed, none_of_a_file, none_at_the_end, listed_elsewhere, listed_without_children, listed_here}
use Rattle.nn_image.proofs.listing.take_listing.Goals as goal

pub returns-then-not-is_dir : goal.returns-then-not-is_dir
returns-then-not-is_dir c = λ inode entries id dir all spelled.
    nothing_listed inode entries _ all spelled (none_of_a_file inode entries (dir ∙ c.if-not-is_dir.true))

pub returns-then-is_empty : goal.returns-then-is_empty
returns-then-is_empty c = λ inode entries id dir all spelled.
    let none = is_none c.args.directories.now.now c.is_empty.result c.is_empty.ensures c.if-is_empty.true in
    nothing_listed inode entries _ all spelled (none_at_the_end inode entries _ all spelled none)

pub returns-in_err-entry : goal.returns-in_err-entry
returns-in_err-entry c = λ inode entries id dir all spelled.
    let some = is_not_none c.args.directories.now.now c.is_empty.result c.is_empty.ensures c.if-is_empty.false in
    let next = takes_first IsDirView IsDirEntry (λ d. delimited (dir_entry d)) entries c.take_dir_entry.result _ _ all spelled some c.take_dir_entry.ensures in
    absurd (none-some _ (sym c.in_err-entry.was ∙ next.is))

pub returns-then-entry-id : goal.returns-then-entry-id
returns-then-entry-id c = λ inode entries id dir all spelled.
    let some = is_not_none c.args.directories.now.now c.is_empty.result c.is_empty.ensures c.if-is_empty.false in
    let next = takes_first IsDirView IsDirEntry (λ d. delimited (dir_entry d)) entries c.take_dir_entry.result _ _ all spelled some c.take_dir_entry.ensures in
    listed_elsewhere inode entries c.args.id id _ c.take_dir_entry.new.rest.now all spelled c.in_ok-entry.entry
    (subst (λ r. NextEntry entries r c.take_dir_entry.new.rest.now) c.in_ok-entry.was next) c.if-entry-id.true

pub returns-then-is_empty-2 : goal.returns-then-is_empty-2
returns-then-is_empty-2 c = λ inode entries id dir all spelled.
    let some = is_not_none c.args.directories.now.now c.is_empty.result c.is_empty.ensures c.if-is_empty.false in
    let next = takes_first IsDirView IsDirEntry (λ d. delimited (dir_entry d)) entries c.take_dir_entry.result _ _ all spelled some c.take_dir_entry.ensures in
    listed_without_children inode entries c.args.id id _ c.take_dir_entry.new.rest.now all spelled c.in_ok-entry.entry
    (subst (λ r. NextEntry entries r c.take_dir_entry.new.rest.now) c.in_ok-entry.was next)
    (is_none c.in_ok-entry.entry.children.now c.is_empty-2.result c.is_empty-2.ensures c.if-is_empty-2.true)

pub returns : goal.returns
returns c = λ inode entries id dir all spelled.
    let some = is_not_none c.args.directories.now.now c.is_empty.result c.is_empty.ensures c.if-is_empty.false in
    let next = takes_first IsDirView IsDirEntry (λ d. delimited (dir_entry d)) entries c.take_dir_entry.result _ _ all spelled some c.take_dir_entry.ensures in
    listed_here inode entries c.args.id id c.args.directories.now.now c.take_dir_entry.new.rest.now all spelled c.in_ok-entry.entry
    (subst (λ r. NextEntry entries r c.take_dir_entry.new.rest.now) c.in_ok-entry.was next)
    (dir ∙ c.if-not-is_dir.false) c.if-entry-id.false
    (is_not_none c.in_ok-entry.entry.children.now c.is_empty-2.result c.is_empty-2.ensures c.if-is_empty-2.false)
