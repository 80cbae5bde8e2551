-- How the lines of an answer are spelled.
use Rattle.std.specs.Prelude.{◌≢◌, ℕ, zero, suc, ◌/◌, ◌%◌, Bool, not, ◌&&◌, ◌==◌, nat_le, List, [], ◌∷◌, ◌++◌, codes, if◌then◌else◌}
use Rattle.std.specs.List.{flat_map, join_with_byte}
use Rattle.std.specs.Char.{digit_char}
use Rattle.std.specs.Fmt.{decimal}
use Rattle.nn_base.specs.Paths.{Bytes}
use Rattle.nn_base.specs.declared.path.fault.PathFault.{PathFault}
use Rattle.nn_base.specs.declared.path.fault.PathFault.TheVariants as path
use Rattle.nn_ops.specs.declared.refusal.OpRefusal.{OpRefusal}
use Rattle.nn_ops.specs.declared.refusal.OpRefusal.TheVariants as refusal
use Rattle.nn_script.specs.declared.syntax.Syntax.{Syntax}
use Rattle.nn_script.specs.declared.syntax.Syntax.TheVariants as syntax
use Rattle.nn_script.specs.declared.answer.Answer.{Answer}
use Rattle.nn_script.specs.declared.answer.Answer.TheVariants.{Done, Count, Refused, Dry, Later, NotRestored, Unread}
use Rattle.nn_script.specs.declared.answer.Unrestored.{Unrestored}
use Rattle.nn_script.specs.declared.answer.Unrestored.TheVariants as unrestored

-- words with a space between each two, and a newline
abbrev pub line_of : List Bytes → Bytes
line_of words = join_with_byte 32 words ++ codes "\n"

-- words behind a first one
abbrev pub spaced : List Bytes → Bytes
spaced [] = []
spaced (word ∷ words) = 32 ∷ (word ++ spaced words)

-- ---- escapes

-- what ASCII prints, but for the space and the `%`
abbrev pub is_plain : ℕ → Bool
is_plain byte = nat_le 33 byte && nat_le byte 126 && not (byte == 37)

-- any other byte is a `%` and two hex digits with small letters
abbrev pub escaped_byte : ℕ → Bytes
escaped_byte byte = if is_plain byte then byte ∷ [] else 37 ∷ digit_char (byte / 16) ∷ digit_char (byte % 16) ∷ []

abbrev pub escaped : Bytes → Bytes
escaped text = flat_map escaped_byte text

-- ---- the words of refusals and faults. Want of memory has none

abbrev pub refusal_word : OpRefusal → Bytes
refusal_word refusal.Exists = codes "exists"
refusal_word refusal.NotFound = codes "not-found"
refusal_word refusal.NotDir = codes "not-dir"
refusal_word refusal.IsDir = codes "is-dir"
refusal_word refusal.Under = codes "under"
refusal_word refusal.Root = codes "root"
refusal_word refusal.Closed = codes "closed"
refusal_word refusal.Quota = codes "quota"
refusal_word refusal.Limit = codes "limit"
refusal_word refusal.Memory = []

abbrev pub unrestored_word : Unrestored → Bytes
unrestored_word unrestored.NoSuchDir = codes "no-such-dir"
unrestored_word unrestored.Missing = codes "missing"
unrestored_word unrestored.Inconsistent = codes "inconsistent"
unrestored_word unrestored.Failed = codes "failed"

abbrev pub path_word : PathFault → Bytes
path_word path.Empty = codes "empty"
path_word path.Relative = codes "relative"
path_word path.LongPath = codes "long-path"
path_word path.BadName = codes "bad-name"
path_word path.LongName = codes "long-name"
path_word path.Deep = codes "deep"
path_word path.Memory = []

abbrev pub syntax_words : Syntax → List Bytes
syntax_words syntax.Long = codes "long" ∷ []
syntax_words syntax.Byte = codes "byte" ∷ []
syntax_words syntax.Words = codes "words" ∷ []
syntax_words syntax.Unknown = codes "unknown" ∷ []
syntax_words syntax.Number = codes "number" ∷ []
syntax_words syntax.Mode = codes "mode" ∷ []
syntax_words syntax.Escape = codes "escape" ∷ []
syntax_words syntax.Name = codes "name" ∷ []
syntax_words (syntax.Path fault) = codes "path" ∷ path_word fault ∷ []
syntax_words syntax.Memory = []

-- ---- answers

abbrev pub answer_words : Answer → List Bytes
answer_words Done = codes "ok" ∷ []
answer_words (Count count) = codes "ok" ∷ decimal count ∷ []
answer_words (Refused refusal) = codes "refused" ∷ refusal_word refusal ∷ []
answer_words Dry = codes "refused" ∷ codes "dry" ∷ []
answer_words Later = codes "refused" ∷ codes "later" ∷ []
answer_words (NotRestored why) = codes "refused" ∷ unrestored_word why ∷ []
answer_words (Unread fault) = codes "syntax" ∷ syntax_words fault

-- want of memory is never said
abbrev pub IsSaid : Answer → Type 0
IsSaid Done = Unit {0}
IsSaid (Count count) = Unit {0}
IsSaid (Refused why) = why ≢ refusal.Memory
IsSaid Dry = Unit {0}
IsSaid Later = Unit {0}
IsSaid (NotRestored why) = Unit {0}
IsSaid (Unread fault) = (fault ≢ syntax.Memory) × (fault ≢ syntax.Path path.Memory)

abbrev pub answer_text : Answer → Bytes
answer_text answer = line_of (answer_words answer)

-- the most bytes that the last line of an answer has, as `MAX_ANSWER` of the code
abbrev pub max_answer : ℕ
max_answer = 24

-- ---- directories

-- whether a directory is still written to
abbrev pub dir_line : ℕ → Bool → Bytes
dir_line i live = line_of (codes "dir" ∷ decimal i ∷ (if live then codes "live" else codes "dropped") ∷ [])

-- the lines of the first n directories
abbrev pub dir_lines : (ℕ → Bool) → ℕ → Bytes
dir_lines live zero = []
dir_lines live (suc n) = dir_lines live n ++ dir_line n (live n)

-- the most bytes that such a line has, as `MAX_DIR_LINE` of the code
abbrev pub max_dir_line : ℕ
max_dir_line = 33
