-- The image of a namespace that may be saved is small enough to be read.
use Rattle.std.proofs.Common.{◌≡◌, ℕ, ◌+◌, ◌++◌, length, sym, subst, arith, length-append}
use Rattle.std.specs.Int.{w32, to_be_bytes}
use Rattle.nn_base.specs.Paths.{Bytes}
use Rattle.nn_tree.specs.Namespace.{Namespace}
use Rattle.nn_message.specs.Spelling.{delimited}
use Rattle.nn_message.specs.Frame.{magic, Sections, sections_of, body, summary_message, summary_of, lengths_of, end, framed}
use Rattle.nn_image.specs.Image.{string_table, content_with, content_of, image_of}
use Rattle.nn_tree.specs.Imaged.{IsImaged}
use Rattle.nn_image.specs.Imaged.{AreLabelled, IsImage}
use Rattle.nn_image.specs.Faults.{IsSmall}
use Rattle.nn_message.proofs.SummaryLemmas.{summary_few}
use Rattle.nn_image.proofs.CollectLemmas.{few_nodes}
use Rattle.nn_image.proofs.ContentLemmas.{table_labelled, table_few}
use Rattle.nn_image.proofs.ModestLemmas.{sections_few}

length-body : (s : Sections) → length (body s) ≡ length s.info + length s.strings + length s.inodes + length s.directories
unfolding body
length-body s = omega (arith, length-append (s.info ++ s.strings ++ s.inodes) s.directories, length-append (s.info ++ s.strings) s.inodes, length-append s.info s.strings)

length-framed : (text summary : Bytes) → length (framed text summary) ≡ 8 + length text + (length (delimited summary) + 4)
unfolding framed end
length-framed text summary = omega (arith, length-append (magic ++ text) (end summary), length-append magic text, length-append (delimited summary) (to_be_bytes w32 (length (delimited summary))))

pub image_few : (ns : Namespace) (id namespace layout : ℕ) → IsImaged ns → AreLabelled ns.nodes → IsSmall (image_of ns id namespace layout)
unfolding image_of content_of
image_few ns id namespace layout is labelled =
    let table = string_table ns.nodes in
    let s = sections_of (content_with table ns id namespace) in
    let few = sections_few ns table id namespace is (table_labelled ns.nodes labelled) in
    omega (
      arith,
      length-framed (body s) (summary_message (summary_of layout s)),
      length-body s,
      few.info,
      few.strings,
      few.inodes,
      few.directories,
      summary_few layout (lengths_of s),
      table_few ns is,
      few_nodes ns.nodes is.limits,
      is.limits.blocks,
    )

-- An image is at most 2^30 bytes long, as those are that are read.
pub image_is_small : (bytes : Bytes) (ns : Namespace) (id namespace layout : ℕ) → IsImage bytes ns id namespace layout → IsSmall bytes
image_is_small bytes ns id namespace layout is = subst IsSmall (sym is.text) (image_few ns id namespace layout is.imaged is.labelled)
