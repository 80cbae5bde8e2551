-- The commands of a script, each by the word that it begins with.
use Rattle.std.specs.Prelude.{List, [], ◌∷◌, Option, codes}
use Rattle.std.specs.List.{find}
use Rattle.std.specs.Str.{bytes_eq}
use Rattle.nn_base.specs.Paths.{Bytes}
use Rattle.nn_script.specs.declared.verb.Change.{Change as ChangeVerb}
use Rattle.nn_script.specs.declared.verb.Change.TheVariants.{Mkdir, Create, Block, Close, Delete, Rename, Chmod, Chown, Quota, Setrep}
use Rattle.nn_script.specs.declared.verb.Verb.{Verb}
use Rattle.nn_script.specs.declared.verb.Verb.TheVariants.{Change, Clock, List as ListVerb, Dirs, Roll, Checkpoint, Finalize, Restore}

abbrev pub change_word : ChangeVerb → Bytes
change_word Mkdir = codes "mkdir"
change_word Create = codes "create"
change_word Block = codes "block"
change_word Close = codes "close"
change_word Delete = codes "delete"
change_word Rename = codes "rename"
change_word Chmod = codes "chmod"
change_word Chown = codes "chown"
change_word Quota = codes "quota"
change_word Setrep = codes "setrep"

abbrev pub word_of : Verb → Bytes
word_of (Change change) = change_word change
word_of Clock = codes "clock"
word_of ListVerb = codes "list"
word_of Dirs = codes "dirs"
word_of Roll = codes "roll"
word_of Checkpoint = codes "checkpoint"
word_of Finalize = codes "finalize"
word_of Restore = codes "restore"

abbrev pub verbs : List Verb
verbs =
    Change Mkdir ∷ Change Create ∷ Change Block ∷ Change Close ∷ Change Delete ∷ Change Rename ∷ Change Chmod
    ∷ Change Chown ∷ Change Quota ∷ Change Setrep
    ∷ Clock ∷ ListVerb ∷ Dirs ∷ Roll ∷ Checkpoint ∷ Finalize ∷ Restore ∷ []

-- the command that a word names
unfoldable pub verb_of : Bytes → Option Verb
verb_of word = find (λ verb. bytes_eq (word_of verb) word) verbs
