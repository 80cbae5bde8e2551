-- What is wrong with bytes that are no image: the first fault that applies, from the frame inward.
use Rattle.std.specs.Prelude.{◌≡◌, ◌≢◌, ℕ, ◌≤◌, ◌⊎◌, true, length, take, None, is_some}
use Rattle.nn_base.specs.Limits.{most_image, most_blocks}
use Rattle.nn_base.specs.Paths.{Bytes}
use Rattle.nn_tree.specs.Namespace.{Namespace}
use Rattle.nn_image.specs.declared.fault.ImageFault.{ImageFault}
use Rattle.nn_image.specs.declared.fault.ImageFault.TheVariants.{TooLarge, Magic, Short, Field, Codec, Layout, Section, Tree, Memory}
use Rattle.nn_message.specs.Messages.{Content, IsContent}
use Rattle.nn_message.specs.Frame.{magic, Sections, sections_of, body, Summary, IsSummary, summary_message, summary_of, framed}
use Rattle.nn_image.specs.Assembly.{all_blocks}
use Rattle.nn_image.specs.Imaged.{IsImage}

-- ---- how far bytes are an image: each word holds of less than the one before it

abbrev pub IsSmall : Bytes → Type 0
IsSmall bytes = length bytes ≤ most_image

abbrev pub IsMarked : Bytes → Type 0
IsMarked bytes = IsSmall bytes × (take (length magic) bytes ≡ magic)

-- The last four bytes say where the summary begins, and there it is.
abbrev pub IsFramed : Bytes → Bytes → Bytes → Type 0
IsFramed bytes text summary = IsSmall bytes × (bytes ≡ framed text summary)

abbrev pub HasSummary : Bytes → Bytes → Summary → Type 0
HasSummary bytes text summary = IsSummary summary × IsFramed bytes text (summary_message summary)

-- a summary of a text that isn't packed
abbrev pub IsPlain : Bytes → Bytes → Summary → Type 0
IsPlain bytes text summary = HasSummary bytes text summary × (summary.codec ≡ None)

-- the four sections fill the space before the summary, as the summary says
abbrev pub HasSections : Bytes → ℕ → Sections → Type 0
HasSections bytes layout sections = HasSummary bytes (body sections) (summary_of layout sections)

abbrev pub HasContent : Bytes → ℕ → Content → Type 0
HasContent bytes layout content = IsContent content × HasSections bytes layout (sections_of content)

-- As many strings and nodes as is said, and no more blocks than a namespace has. That the nodes are no more is in the range of their count.
abbrev pub IsCounted : Content → Type 0
IsCounted content = (content.text_count ≡ length content.texts) × (content.inode_count ≡ length content.inodes) × (length (all_blocks content) ≤ most_blocks)

-- ---- faults of what one message shows by itself

abbrev pub HasNoSummary : Bytes → Type 0
HasNoSummary bytes = (text : Bytes) × (message : Bytes) × IsFramed bytes text message × ((summary : Summary) → IsSummary summary → message ≢ summary_message summary)

abbrev pub HasNoContent : Bytes → ℕ → Type 0
HasNoContent bytes layout = (sections : Sections) × HasSections bytes layout sections × ((content : Content) → ¬ HasContent bytes layout content)

-- ---- the first fault of bytes that are read as an image of a layout

-- `Tree` is what only several messages show together. Memory is asked for only where each message is whole, each count is true, and no count is above its limit.
abbrev pub IsFault : ImageFault → Bytes → ℕ → Type 0
IsFault TooLarge bytes layout = ¬ IsSmall bytes
IsFault Magic bytes layout = IsSmall bytes × ¬ IsMarked bytes
IsFault Short bytes layout = IsMarked bytes × ((text summary : Bytes) → ¬ IsFramed bytes text summary)
IsFault Field bytes layout = HasNoSummary bytes ⊎ HasNoContent bytes layout
IsFault Codec bytes layout = (text : Bytes) × (summary : Summary) × HasSummary bytes text summary × (is_some summary.codec ≡ true)
IsFault (Layout found) bytes layout = (text : Bytes) × (summary : Summary) × IsPlain bytes text summary × (summary.layout ≡ found) × (found ≢ layout)
IsFault Section bytes layout = (text : Bytes) × (summary : Summary) × IsPlain bytes text summary × (summary.layout ≡ layout) × ((sections : Sections) → ¬ HasSections bytes layout sections)
IsFault Tree bytes layout = (content : Content) × HasContent bytes layout content × ((ns : Namespace) (id namespace : ℕ) → ¬ IsImage bytes ns id namespace layout)
IsFault Memory bytes layout = (content : Content) × HasContent bytes layout content × IsCounted content

-- ---- each fault comes exactly where it is the first

abbrev pub OneFault : Type 0
OneFault = (f g : ImageFault) (bytes : Bytes) (layout : ℕ) → f ≢ Memory → g ≢ Memory → IsFault f bytes layout → IsFault g bytes layout → f ≡ g

abbrev pub NoFaultOfAnImage : Type 0
NoFaultOfAnImage = (f : ImageFault) (bytes : Bytes) (ns : Namespace) (id namespace layout : ℕ) → f ≢ Memory → IsImage bytes ns id namespace layout → ¬ IsFault f bytes layout

-- bytes are the image of one namespace, under one id, namespaceID and layout
abbrev pub OneImage : Type 0
OneImage = (bytes : Bytes) (ns other : Namespace) (id jd namespace namesake layout mayout : ℕ) → IsImage bytes ns id namespace layout → IsImage bytes other jd namesake mayout → (ns ≡ other) × (id ≡ jd) × (namespace ≡ namesake) × (layout ≡ mayout)
