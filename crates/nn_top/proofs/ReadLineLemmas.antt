-- Lemmas on a line that is read from left to right.
use Rattle.std.proofs.Common.{◌≡◌, ◌≢◌, ◌≤◌, true, false, List, [], ◌∷◌, ◌++◌, length, map, codes, Option, Some, None, Bor, IfSome, IfNone, MatchOption, inl, inr, refl, sym, ap, ◌∙◌, subst, append_assoc, arith}
use Rattle.std.specs.Option.{is_some}
use Rattle.std.proofs.lemmas.Bool.{true≢false, false≢true}
use Rattle.std.proofs.lemmas.Grind.{flat_map-append}
use Rattle.std.proofs.lemmas.List.{append-nil}
use Rattle.nn_top.specs.declared.words.options.OptionName.{OptionName}
use Rattle.nn_top.specs.declared.words.options.OptionName.TheVariants.{Cluster, Namespace, At, Generate}
use Rattle.nn_top.specs.declared.words.line.Values.{Values}
use Rattle.nn_top.specs.declared.words.line.Line.{Line}
use Rattle.nn_top.specs.Words.{Word, texts}
use Rattle.nn_top.specs.Parts.{Part, Given, Dir, Mark, parts_of, is_dir, is_line, dirs_among, value_in, values_of}
use Rattle.nn_top.specs.Begins.{IsEnd, is_given, begins}
use Rattle.nn_top.specs.Options.{text_of, texts_of, IsTaken, given_value, given_to, parts_left, Adds, IsTwice, IsReadAs, IsUnread, ReadOptions, ReadLine, IsUnreadFrom}
use Rattle.nn_top.proofs.PartsLemmas.{First, a_dir, a_mark, an_option, a_stray, first_of, is_itself, skipped, skipped_line, named, line_of_dirs, marked_line, ended, stray_first, unended_line}

-- ---- values

not_given : (value : Option (Bor Word)) → is_some value ≡ false → given_value value ≡ []
not_given None none = refl
not_given (Some value) none = absurd (true≢false none)

pub none_given : (values : Values) (name : OptionName) (value : Option (Bor Word)) → given_value value ≡ given_to values name → is_some value ≡ false → given_to values name ≡ []
none_given values name value is none = sym is ∙ not_given value none

-- an option that had no value is given one
pub gives_cluster : (old new : Values) (value : Bor Word) → given_value old.cluster ≡ [] → new.cluster ≡ Some value → new.namespace ≡ old.namespace → new.at ≡ old.at → new.generate ≡ old.generate → Adds (Given (codes "--cluster") value.now ∷ []) old new
gives_cluster old new value none cluster namespace at generate Cluster = ap given_value cluster ∙ ap (λ vs. vs ++ value.now ∷ []) (sym none)
gives_cluster old new value none cluster namespace at generate Namespace = ap given_value namespace ∙ sym (append-nil (given_value old.namespace))
gives_cluster old new value none cluster namespace at generate At = ap given_value at ∙ sym (append-nil (given_value old.at))
gives_cluster old new value none cluster namespace at generate Generate = ap given_value generate ∙ sym (append-nil (given_value old.generate))

pub gives_namespace : (old new : Values) (value : Bor Word) → given_value old.namespace ≡ [] → new.cluster ≡ old.cluster → new.namespace ≡ Some value → new.at ≡ old.at → new.generate ≡ old.generate → Adds (Given (codes "--namespace") value.now ∷ []) old new
gives_namespace old new value none cluster namespace at generate Cluster = ap given_value cluster ∙ sym (append-nil (given_value old.cluster))
gives_namespace old new value none cluster namespace at generate Namespace = ap given_value namespace ∙ ap (λ vs. vs ++ value.now ∷ []) (sym none)
gives_namespace old new value none cluster namespace at generate At = ap given_value at ∙ sym (append-nil (given_value old.at))
gives_namespace old new value none cluster namespace at generate Generate = ap given_value generate ∙ sym (append-nil (given_value old.generate))

pub gives_at : (old new : Values) (value : Bor Word) → given_value old.at ≡ [] → new.cluster ≡ old.cluster → new.namespace ≡ old.namespace → new.at ≡ Some value → new.generate ≡ old.generate → Adds (Given (codes "--at") value.now ∷ []) old new
gives_at old new value none cluster namespace at generate Cluster = ap given_value cluster ∙ sym (append-nil (given_value old.cluster))
gives_at old new value none cluster namespace at generate Namespace = ap given_value namespace ∙ sym (append-nil (given_value old.namespace))
gives_at old new value none cluster namespace at generate At = ap given_value at ∙ ap (λ vs. vs ++ value.now ∷ []) (sym none)
gives_at old new value none cluster namespace at generate Generate = ap given_value generate ∙ sym (append-nil (given_value old.generate))

pub gives_generate : (old new : Values) (value : Bor Word) → given_value old.generate ≡ [] → new.cluster ≡ old.cluster → new.namespace ≡ old.namespace → new.at ≡ old.at → new.generate ≡ Some value → Adds (Given (codes "--generate") value.now ∷ []) old new
gives_generate old new value none cluster namespace at generate Cluster = ap given_value cluster ∙ sym (append-nil (given_value old.cluster))
gives_generate old new value none cluster namespace at generate Namespace = ap given_value namespace ∙ sym (append-nil (given_value old.namespace))
gives_generate old new value none cluster namespace at generate At = ap given_value at ∙ sym (append-nil (given_value old.at))
gives_generate old new value none cluster namespace at generate Generate = ap given_value generate ∙ ap (λ vs. vs ++ value.now ∷ []) (sym none)

-- values of some parts, and then of those behind them
added_values : (option : Word) (front back : List Part) (before middle after : List Word) → middle ≡ before ++ values_of option front → after ≡ middle ++ values_of option back → after ≡ before ++ values_of option (front ++ back)
added_values option front back before middle after one two =
    two ∙ (ap (λ vs. vs ++ values_of option back) one ∙ (append_assoc before (values_of option front) (values_of option back) ∙ ap (λ vs. before ++ vs) (sym (flat_map-append (value_in option) front back))))

adds_on : (front back : List Part) (old middle new : Values) → Adds front old middle → Adds back middle new → Adds (front ++ back) old new
adds_on front back old middle new one two = λ name. added_values (text_of name) front back (given_to old name) (given_to middle name) (given_to new name) (one name) (two name)

-- the same where the values of those behind are two
twice_on : (names : List OptionName) (front back : List Part) (old middle : Values) → Adds front old middle → IsTwice names back middle → IsTwice names (front ++ back) old
twice_on names front back old middle one twice =
    let name = twice.0 in
    (name, twice.1, subst (λ vs. 2 ≤ length vs) (added_values (text_of name) front back (given_to old name) (given_to middle name) (given_to middle name ++ values_of (text_of name) back) (one name) refl) twice.2)

-- ---- reading options

pub read_none : (names : List OptionName) (line : Line) → begins is_given (parts_left names line) ≡ false → ReadOptions names line line
read_none names line none = record {
  given = [];
  all = refl;
  parts = refl;
  ended = none;
  added = λ name. sym (append-nil (given_to line.values name));
}

pub some_more : (names : List OptionName) (found : Option Line) (name : OptionName) (value : Word) (old middle : Line) → parts_left names old ≡ Given (text_of name) value ∷ parts_left names middle → Adds (Given (text_of name) value ∷ []) old.values middle.values
    → IfSome found (ReadOptions names middle) → IfSome found (ReadOptions names old)
some_more names None name value old middle parts added some = tt
some_more names (Some new) name value old middle parts added read = record {
  given = Given (text_of name) value ∷ read.given;
  all = read.all;
  parts = parts ∙ ap (λ ps. Given (text_of name) value ∷ ps) read.parts;
  ended = read.ended;
  added = adds_on (Given (text_of name) value ∷ []) read.given old.values middle.values new.values added read.added;
}

pub none_more : (names : List OptionName) (found : Option Line) (name : OptionName) (value : Word) (old middle : Line) → parts_left names old ≡ Given (text_of name) value ∷ parts_left names middle → Adds (Given (text_of name) value ∷ []) old.values middle.values
    → IfNone found (IsTwice names (parts_left names middle) middle.values) → IfNone found (IsTwice names (parts_left names old) old.values)
none_more names (Some new) name value old middle parts added none = tt
none_more names None name value old middle parts added none =
    subst (λ ps. IsTwice names ps old.values) (sym parts) (twice_on names (Given (text_of name) value ∷ []) (parts_left names middle) old.values middle.values added none)

-- an option that has its value already
two : (given : Option (Bor Word)) (value : Word) (values : List Word) → is_some given ≡ true → 2 ≤ length (given_value given ++ (value ∷ values))
two None value values some = absurd (false≢true some)
two (Some first) value values some = omega arith

pub twice_now : (names : List OptionName) (line : Line) (name : OptionName) (value : Word) (rest : List Part) (given : Option (Bor Word)) → IsTaken names name → given_value given ≡ given_to line.values name → is_some given ≡ true
    → parts_left names line ≡ Given (text_of name) value ∷ rest → IsTwice names (parts_left names line) line.values
twice_now names line name value rest given taken is some parts =
    let values = values_of (text_of name) rest in
    let more : values_of (text_of name) (parts_left names line) ≡ value ∷ values = ap (values_of (text_of name)) parts ∙ rw (is_itself (text_of name)) refl in
    (name, taken, subst (λ vs. 2 ≤ length (given_to line.values name ++ vs)) (sym more) (subst (λ vs. 2 ≤ length (vs ++ (value ∷ values))) is (two given value values some)))

-- ---- a whole line

-- behind options that were read
pub unread_on : (names : List OptionName) (old middle : Line) → ReadOptions names old middle → IsUnreadFrom names middle → IsUnreadFrom names old
unread_on names old middle read (inl broken) = inl (ap is_line read.parts ∙ (skipped_line read.given (parts_left names middle) read.all ∙ broken))
unread_on names old middle read (inr twice) = inr (subst (λ ps. IsTwice names ps old.values) (sym read.parts) (twice_on names read.given (parts_left names middle) old.values middle.values read.added twice))

pub read_on : (names : List OptionName) (old middle : Line) (values : Values) (dirs : List Word) → ReadOptions names old middle → ReadLine names middle values dirs → ReadLine names old values dirs
read_on names old middle values dirs read line = record {
  whole = ap is_line read.parts ∙ (skipped_line read.given (parts_left names middle) read.all ∙ line.whole);
  dirs = ap dirs_among read.parts ∙ ((skipped read.given (parts_left names middle) read.all).dirs ∙ line.dirs);
  added = subst (λ ps. Adds ps old.values values) (sym read.parts) (adds_on read.given (parts_left names middle) old.values middle.values values read.added line.added);
}

pub line_on : {P : Type 0} (names : List OptionName) (found : Option P) (values_in : P → Values) (dirs_in : P → List Word) (old middle : Line) → ReadOptions names old middle
    → MatchOption found (IsUnreadFrom names middle) (λ f. ReadLine names middle (values_in f) (dirs_in f)) → MatchOption found (IsUnreadFrom names old) (λ f. ReadLine names old (values_in f) (dirs_in f))
line_on names None values_in dirs_in old middle read unread = unread_on names old middle read unread
line_on names (Some f) values_in dirs_in old middle read line = read_on names old middle (values_in f) (dirs_in f) read line

-- `--` next
no_values : (option : Word) (dirs : List Word) → values_of option (map Dir dirs) ≡ []
no_values option dirs = ap (values_of option) (sym (append-nil (map Dir dirs))) ∙ (named dirs []).values option

pub marked : (names : List OptionName) (line : Line) (dirs : List Word) → parts_left names line ≡ Mark ∷ map Dir dirs → ReadLine names line line.values dirs
marked names line dirs is = record {
  whole = ap is_line is ∙ (marked_line dirs).0;
  dirs = ap dirs_among is ∙ (marked_line dirs).1;
  added = λ name.
      sym (ap (λ ps. given_to line.values name ++ values_of (text_of name) ps) is ∙ (ap (λ vs. given_to line.values name ++ vs) (no_values (text_of name) dirs) ∙ append-nil (given_to line.values name)));
}

-- directories next, with options and the end behind them
values_behind : (names : List Word) (option : Word) (dirs words : List Word) (given : List Part) → IsEnd words → values_of option (map Dir dirs ++ (given ++ parts_of names words)) ≡ values_of option given
values_behind names option dirs words given end =
    (named dirs (given ++ parts_of names words)).values option
    ∙ (flat_map-append (value_in option) given (parts_of names words) ∙ (ap (λ vs. values_of option given ++ vs) ((ended names words end).2 option) ∙ append-nil (values_of option given)))

pub plain_read : (names : List OptionName) (line middle new : Line) (dirs : List Word) → parts_left names line ≡ map Dir dirs ++ parts_left names middle → middle.values ≡ line.values → ReadOptions names middle new → IsEnd (texts new.rest.now)
    → ReadLine names line new.values dirs
plain_read names line middle new dirs parts values read end =
    let is : parts_left names line ≡ map Dir dirs ++ (read.given ++ parts_left names new) = parts ∙ ap (λ ps. map Dir dirs ++ ps) read.parts in
    let s = skipped read.given (parts_left names new) read.all in
    let e = ended (texts_of names) (texts new.rest.now) end in
    let whole = line_of_dirs dirs (read.given ++ parts_left names new) (s.known ∙ e.0) (s.none ∙ e.1) in
    record {
      whole = ap is_line is ∙ whole.0;
      dirs = ap dirs_among is ∙ whole.1;
      added = λ name.
          read.added name
          ∙ (ap (λ (v : Values). given_to v name ++ values_of (text_of name) read.given) values
          ∙ ap (λ vs. given_to line.values name ++ vs) (sym (ap (values_of (text_of name)) is ∙ values_behind (texts_of names) (text_of name) dirs (texts new.rest.now) read.given end)));
    }

pub plain_twice : (names : List OptionName) (line middle : Line) (dirs : List Word) → parts_left names line ≡ map Dir dirs ++ parts_left names middle → middle.values ≡ line.values → IsTwice names (parts_left names middle) middle.values
    → IsTwice names (parts_left names line) line.values
plain_twice names line middle dirs parts values twice =
    let name = twice.0 in
    let same = ap (values_of (text_of name)) parts ∙ (named dirs (parts_left names middle)).values (text_of name) in
    (name, twice.1, subst (λ vs. 2 ≤ length vs) (ap (λ (v : Values). given_to v name ++ values_of (text_of name) (parts_left names middle)) values ∙ ap (λ vs. given_to line.values name ++ vs) (sym same)) twice.2)

-- where nothing but an end is left, nothing is
no_parts : (names words : List Word) → parts_of names words ≡ [] → words ≡ []
no_parts names [] is = refl
no_parts names (word ∷ words) is = by (first_of names word words)
  where
    by : First names word words → word ∷ words ≡ []
    by (a_dir plain e) = let no : Dir word ∷ parts_of names words ≡ [] = sym e ∙ is in cc
    by (a_mark mark e) = let no : Mark ∷ map Dir words ≡ [] = sym e ∙ is in cc
    by (an_option name value rest among begin e) = let no : Given name value ∷ parts_of names rest ≡ [] = sym e ∙ is in cc
    by (a_stray e) = cc

behind_nothing : (given parts : List Part) → given ++ parts ≡ [] → parts ≡ []
behind_nothing [] parts is = is
behind_nothing (part ∷ given) parts is = cc

-- directories, and something that is no option behind them
pub plain_unended : (names : List OptionName) (line middle new : Line) (dirs : List Word) → parts_left names line ≡ map Dir dirs ++ parts_left names middle → begins is_given (parts_left names line) ≡ false → ((later : List Word) → texts line.rest.now ≢ codes "--" ∷ later)
    → begins is_dir (parts_left names middle) ≡ false → ReadOptions names middle new → (IsEnd (texts new.rest.now) → ⊥) → is_line (parts_left names line) ≡ false
plain_unended names line middle new (dir ∷ dirs) parts option unmarked first read more =
    ap is_line (parts ∙ ap (λ ps. map Dir (dir ∷ dirs) ++ ps) read.parts)
    ∙ unended_line (texts_of names) dir dirs (texts new.rest.now) read.given read.all (ap (begins is_dir) (sym read.parts) ∙ first) read.ended more
plain_unended names line middle new [] parts option unmarked first read more =
    stray_first (texts_of names) (texts line.rest.now) some option (ap (begins is_dir) parts ∙ first) unmarked
  where
    some : texts line.rest.now ≢ []
    some none =
        let nothing : read.given ++ parts_left names new ≡ [] = sym read.parts ∙ (sym parts ∙ ap (parts_of (texts_of names)) none) in
        more (inl (no_parts (texts_of names) (texts new.rest.now) (behind_nothing read.given (parts_left names new) nothing)))

-- ---- from the start

start_given : (line : Line) (name : OptionName) → line.values.cluster ≡ None → line.values.namespace ≡ None → line.values.at ≡ None → line.values.generate ≡ None → given_to line.values name ≡ []
start_given line Cluster cluster namespace at generate = ap given_value cluster
start_given line Namespace cluster namespace at generate = ap given_value namespace
start_given line At cluster namespace at generate = ap given_value at
start_given line Generate cluster namespace at generate = ap given_value generate

pub line_read : {P : Type 0} (names : List OptionName) (found : Option P) (values_in : P → Values) (dirs_in : P → List Word) (line : Line) → line.values.cluster ≡ None → line.values.namespace ≡ None → line.values.at ≡ None → line.values.generate ≡ None
    → MatchOption found (IsUnreadFrom names line) (λ f. ReadLine names line (values_in f) (dirs_in f)) → MatchOption found (IsUnread names (parts_left names line)) (λ f. IsReadAs (parts_left names line) (values_in f) (dirs_in f))
line_read names None values_in dirs_in line cluster namespace at generate (inl broken) = inl broken
line_read names None values_in dirs_in line cluster namespace at generate (inr twice) =
    inr (twice.0, twice.1, subst (λ vs. 2 ≤ length (vs ++ values_of (text_of twice.0) (parts_left names line))) (start_given line twice.0 cluster namespace at generate) twice.2)
line_read names (Some f) values_in dirs_in line cluster namespace at generate read = record {
  whole = read.whole;
  dirs = read.dirs;
  values = λ name. read.added name ∙ ap (λ vs. vs ++ values_of (text_of name) (parts_left names line)) (start_given line name cluster namespace at generate);
}
