-- The options of a line that is read from left to right, and the words behind them.
use Rattle.std.specs.Prelude.{◌≡◌, ◌⊎◌, ◌≤◌, false, true, List, [], ◌∷◌, ◌++◌, length, map, codes, IsTrue, Some, None, Option}
use Rattle.std.specs.Borrow.{Bor}
use Rattle.std.specs.List.{list_all}
use Rattle.nn_top.specs.declared.words.options.OptionName.{OptionName}
use Rattle.nn_top.specs.declared.words.options.OptionName.TheVariants.{Cluster, Namespace, At, Generate}
use Rattle.nn_top.specs.declared.words.line.Values.{Values}
use Rattle.nn_top.specs.declared.words.line.Line.{Line}
use Rattle.nn_top.specs.Words.{Word, texts, is_among}
use Rattle.nn_top.specs.Parts.{Part, parts_of, is_line, dirs_among, values_of}
use Rattle.nn_top.specs.Begins.{BeginWith, is_given, begins}

-- how an option is written
abbrev pub text_of : OptionName → Word
text_of Cluster = codes "--cluster"
text_of Namespace = codes "--namespace"
text_of At = codes "--at"
text_of Generate = codes "--generate"

abbrev pub texts_of : List OptionName → List Word
texts_of names = map text_of names

-- it is one of these options
abbrev pub IsTaken : List OptionName → OptionName → Type 0
IsTaken names name = IsTrue (is_among (texts_of names) (text_of name))

-- the words begin with none of them
abbrev pub BeginWithNone : List OptionName → List Word → Type 0
BeginWithNone names words = (name : OptionName) (value : Word) (rest : List Word) → IsTaken names name → BeginWith words (text_of name) value rest → ⊥

-- the value that was given, if one was
abbrev pub given_value : Option (Bor Word) → List Word
given_value None = []
given_value (Some value) = value.now ∷ []

-- the values that an option was given so far
abbrev pub given_to : Values → OptionName → List Word
given_to values Cluster = given_value values.cluster
given_to values Namespace = given_value values.namespace
given_to values At = given_value values.at
given_to values Generate = given_value values.generate

-- ---- a whole line

-- it was read to its end: its directories, and the values of its options, each of which is given once at most
pub record IsReadAs (parts : List Part) (read : Values) (found : List Word) : Type 0 where
  pub whole : is_line parts ≡ true
  pub dirs : dirs_among parts ≡ found
  pub values : (name : OptionName) → given_to read name ≡ values_of (text_of name) parts

-- it is no line, or an option has two values
abbrev pub IsUnread : List OptionName → List Part → Type 0
IsUnread names parts = (is_line parts ≡ false) ⊎ ((name : OptionName) × IsTaken names name × (2 ≤ length (values_of (text_of name) parts)))

-- ---- as it is read

-- the parts of what is left of a line
abbrev pub parts_left : List OptionName → Line → List Part
parts_left names line = parts_of (texts_of names) (texts line.rest.now)

-- each option has the values that it had, and behind those the ones of these parts
abbrev pub Adds : List Part → Values → Values → Type 0
Adds parts old new = (name : OptionName) → given_to new name ≡ given_to old name ++ values_of (text_of name) parts

-- with the values of these parts, an option has two
abbrev pub IsTwice : List OptionName → List Part → Values → Type 0
IsTwice names parts values = (name : OptionName) × IsTaken names name × (2 ≤ length (given_to values name ++ values_of (text_of name) parts))

-- these options stood next, and no further one does
pub record ReadOptions (names : List OptionName) (old new : Line) : Type 0 where
  pub given : List Part
  pub all : list_all is_given given ≡ true
  pub parts : parts_left names old ≡ given ++ parts_left names new
  pub ended : begins is_given (parts_left names new) ≡ false
  pub added : Adds given old.values new.values

-- what was left was read to its end
pub record ReadLine (names : List OptionName) (old : Line) (values : Values) (found : List Word) : Type 0 where
  pub whole : is_line (parts_left names old) ≡ true
  pub dirs : dirs_among (parts_left names old) ≡ found
  pub added : Adds (parts_left names old) old.values values

-- what was left can't be read
abbrev pub IsUnreadFrom : List OptionName → Line → Type 0
IsUnreadFrom names line = (is_line (parts_left names line) ≡ false) ⊎ IsTwice names (parts_left names line) line.values
