-- How a refusal spells why an image isn't intact.
use Rattle.std.specs.Prelude.{ℕ, List, codes}
use Rattle.nn_image.specs.declared.fault.ImageFault.{ImageFault}
use Rattle.nn_image.specs.declared.fault.ImageFault.TheVariants.{TooLarge, Magic, Short, Field, Codec, Layout, Section, Tree, Memory}
use Rattle.nn_chain.specs.declared.why.ImageWhy.{ImageWhy}
use Rattle.nn_chain.specs.declared.why.ImageWhy.TheVariants.{Absent, Digest, Named, Fault}

abbrev pub fault_word : ImageFault → List ℕ
fault_word TooLarge = codes "too-large"
fault_word Magic = codes "magic"
fault_word Short = codes "short"
fault_word Field = codes "field"
fault_word Codec = codes "codec"
fault_word (Layout found) = codes "layout"
fault_word Section = codes "section"
fault_word Tree = codes "tree"
fault_word Memory = codes "memory"

abbrev pub image_word : ImageWhy → List ℕ
image_word Absent = codes "absent"
image_word Digest = codes "digest"
image_word Named = codes "named"
image_word (Fault found) = fault_word found
