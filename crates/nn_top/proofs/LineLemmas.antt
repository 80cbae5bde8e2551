-- What follows for whole lines, and for the directories of a reading.
use Rattle.std.proofs.Common.{suc, All, nat_le, ◌≡◌, ◌≢◌, ◌⊎◌, Bool, true, false, not, ◌&&◌, ◌||◌, List, [], ◌∷◌, ◌++◌, length, map, codes, Some, None, if◌then◌else◌, inl, inr, ⊎_elim, refl, sym, ap, ◌∙◌, append_assoc, subst, arith}
use Rattle.std.specs.List.{AllPairs, list_all}
use Rattle.std.specs.Str.{bytes_eq}
use Rattle.std.proofs.lemmas.Bool.{true≢false, false≢true, and_from, and_parts, le-leb, leb-true, or_from, or_parts}
use Rattle.std.proofs.lemmas.Grind.{flat_map-append}
use Rattle.std.proofs.lemmas.List.{append-nil}
use Rattle.std.proofs.lemmas.List.Elements.{All-cons, All-head, All-nil, All-tail}
use Rattle.std.proofs.lemmas.List.Kept.{AllPairs-cons}
use Rattle.std.proofs.lemmas.Slice.Eq.{bytes_eq-Decides}
use Rattle.nn_base.specs.Limits.{most_dirs}
use Rattle.nn_top.specs.Words.{Word, is_plain, can_stand_apart, is_among, is_named, are_distinct, are_dirs}
use Rattle.nn_top.specs.Parts.{Part, Given, Dir, Mark, parts_of, is_line, dirs_among, value_in, values_of}
use Rattle.nn_top.specs.Wanted.{Wanted, dirs_in}
use Rattle.nn_top.specs.Commands.{format_in, format_options, run_in, run_options, options_of, wanted_by}
use Rattle.nn_top.specs.Begins.{BeginWith, IsEnd, is_given}
use Rattle.nn_top.specs.Laws.{AreDirs, GivenOption, can_be_given, words_of, spelling, values_in, TakesOptions, format_with, run_with, asked_with}
use Rattle.nn_top.proofs.PartsLemmas.{mark_first, plain_parts, ended, line_of_dirs, marked_line, named, skipped, skipped_line}
use Rattle.nn_top.proofs.LawLemmas.{not_not, option_first}
use Rattle.nn_top.proofs.ReadingLemmas.{read_by}

-- ---- whole lines of options and directories

abbrev pub part_for : GivenOption → Part
part_for choice = Given choice.name choice.value

begin_choice : (command : Word) (choice : GivenOption) (rest : List Word) → can_be_given command choice ≡ true → BeginWith (words_of choice ++ rest) choice.name choice.value rest
begin_choice command choice rest is = by choice.is_joined refl
  where
    by : (joined : Bool) → choice.is_joined ≡ joined → BeginWith (words_of choice ++ rest) choice.name choice.value rest
    by true e = inl (rw e refl)
    by false e = inr (rw e refl, ap (λ b. b || can_stand_apart choice.value) (sym e) ∙ (and_parts (is_among (options_of command) choice.name) (choice.is_joined || can_stand_apart choice.value) is).1)

pub choices_parts : (command : Word) (choices : List GivenOption) (rest : List Word) → list_all (can_be_given command) choices ≡ true
    → parts_of (options_of command) (spelling choices ++ rest) ≡ map part_for choices ++ parts_of (options_of command) rest
choices_parts command [] rest all = refl
choices_parts command (choice ∷ choices) rest all =
    let parts = and_parts (can_be_given command choice) (list_all (can_be_given command) choices) all in
    let is = (and_parts (is_among (options_of command) choice.name) (choice.is_joined || can_stand_apart choice.value) parts.0).0 in
    ap (parts_of (options_of command)) (append_assoc (words_of choice) (spelling choices) rest)
    ∙ (option_first command choice.name choice.value (words_of choice ++ (spelling choices ++ rest)) (spelling choices ++ rest) is (begin_choice command choice (spelling choices ++ rest) parts.0)
    ∙ ap (λ ps. part_for choice ∷ ps) (choices_parts command choices rest parts.1))

pub all_given : (choices : List GivenOption) → list_all is_given (map part_for choices) ≡ true
all_given [] = refl
all_given (choice ∷ choices) = all_given choices

choice_values : (option : Word) (choices : List GivenOption) → values_of option (map part_for choices) ≡ values_in option choices
choice_values option [] = refl
choice_values option (choice ∷ choices) = ap (λ vs. (if bytes_eq choice.name option then choice.value ∷ [] else []) ++ vs) (choice_values option choices)

-- a line of these directories and values asks for this
abbrev pub AsksWith : Word → Type 0
AsksWith command = (words : List Word) (choices : List GivenOption) (dirs : List Word) → is_line (parts_of (options_of command) words) ≡ true → dirs_among (parts_of (options_of command) words) ≡ dirs
    → ((option : Word) → values_of option (parts_of (options_of command) words) ≡ values_in option choices) → wanted_by (command ∷ words) ≡ asked_with command choices dirs

format_line : (parts : List Part) (choices : List GivenOption) (dirs : List Word) → is_line parts ≡ true → dirs_among parts ≡ dirs → ((option : Word) → values_of option parts ≡ values_in option choices) → format_in parts ≡ format_with choices dirs
format_line parts choices dirs line is values = rw line (rw is (rw (values (codes "--cluster")) (rw (values (codes "--namespace")) refl)))

run_line : (parts : List Part) (choices : List GivenOption) (dirs : List Word) → is_line parts ≡ true → dirs_among parts ≡ dirs → ((option : Word) → values_of option parts ≡ values_in option choices) → run_in parts ≡ run_with choices dirs
run_line parts choices dirs line is values = rw line (rw is (rw (values (codes "--at")) (rw (values (codes "--generate")) refl)))

asks_with : (command : Word) → TakesOptions command → AsksWith command
asks_with command (inl is) = subst AsksWith (sym is) (λ words choices dirs line same values. format_line (parts_of format_options words) choices dirs line same values)
asks_with command (inr is) = subst AsksWith (sym is) (λ words choices dirs line same values. run_line (parts_of run_options words) choices dirs line same values)

pub marked_read : (command : Word) (choices : List GivenOption) (dirs : List Word) → TakesOptions command → list_all (can_be_given command) choices ≡ true → wanted_by (command ∷ (spelling choices ++ codes "--" ∷ dirs)) ≡ asked_with command choices dirs
marked_read command choices dirs takes all =
    let names = options_of command in
    let front = map part_for choices in
    let s = skipped front (Mark ∷ map Dir dirs) (all_given choices) in
    let is = choices_parts command choices (codes "--" ∷ dirs) all ∙ ap (λ ps. front ++ ps) (mark_first names dirs) in
    asks_with command takes (spelling choices ++ codes "--" ∷ dirs) choices dirs
    (ap is_line is ∙ (skipped_line front (Mark ∷ map Dir dirs) (all_given choices) ∙ (marked_line dirs).0))
    (ap dirs_among is ∙ (s.dirs ∙ (marked_line dirs).1))
    (λ option.
    ap (values_of option) is
    ∙ (flat_map-append (value_in option) front (Mark ∷ map Dir dirs) ∙ (ap (λ vs. values_of option front ++ vs) (ap (values_of option) (sym (append-nil (map Dir dirs))) ∙ (named dirs []).values option) ∙ (append-nil (values_of option front) ∙ choice_values option choices))))

pub plain_read_line : (command : Word) (front back : List GivenOption) (dirs end : List Word) → TakesOptions command → list_all (can_be_given command) front ≡ true → list_all (can_be_given command) back ≡ true → list_all is_plain dirs ≡ true → IsEnd end
    → wanted_by (command ∷ (spelling front ++ (dirs ++ (spelling back ++ end)))) ≡ asked_with command (front ++ back) dirs
plain_read_line command front back dirs end takes all all' plain ends =
    let names = options_of command in
    let before = map part_for front in
    let behind = map part_for back in
    let last = parts_of names end in
    let e = ended names end ends in
    let s = skipped behind last (all_given back) in
    let line = line_of_dirs dirs (behind ++ last) (s.known ∙ e.0) (s.none ∙ e.1) in
    let is = choices_parts command front (dirs ++ (spelling back ++ end)) all
    ∙ ap (λ ps. before ++ ps) (plain_parts names dirs (spelling back ++ end) plain ∙ ap (λ ps. map Dir dirs ++ ps) (choices_parts command back end all')) in
    asks_with command takes (spelling front ++ (dirs ++ (spelling back ++ end))) (front ++ back) dirs
    (ap is_line is ∙ (skipped_line before (map Dir dirs ++ (behind ++ last)) (all_given front) ∙ line.0))
    (ap dirs_among is ∙ ((skipped before (map Dir dirs ++ (behind ++ last)) (all_given front)).dirs ∙ line.1))
    (λ option.
    ap (values_of option) is
    ∙ (flat_map-append (value_in option) before (map Dir dirs ++ (behind ++ last))
    ∙ (ap (λ vs. values_of option before ++ vs) ((named dirs (behind ++ last)).values option ∙ (flat_map-append (value_in option) behind last ∙ (ap (λ vs. values_of option behind ++ vs) (e.2 option) ∙ append-nil (values_of option behind))))
    ∙ (ap (λ vs. vs ++ values_of option behind) (choice_values option front) ∙ (ap (λ vs. values_in option front ++ vs) (choice_values option back)
    ∙ sym (flat_map-append (λ choice. if bytes_eq choice.name option then choice.value ∷ [] else []) front back))))))

-- ---- the directories of a reading

none_among : (word : Word) (words : List Word) → is_among words word ≡ false → All (λ other. word ≢ other) words
none_among word [] none = All-nil (λ other. word ≢ other)
none_among word (other ∷ words) none =
    let parts = or_parts (bytes_eq word other) (is_among words word) none in
    All-cons (λ other. word ≢ other) other words (λ same. true≢false (sym ((bytes_eq-Decides word other).1 same) ∙ parts.0)) (none_among word words parts.1)

all_distinct : (words : List Word) → are_distinct words ≡ true → AllPairs (λ one other. one ≢ other) words
all_distinct [] distinct = λ i j d less below. absurd (omega arith)
all_distinct (word ∷ words) distinct =
    let parts = and_parts (not (is_among words word)) (are_distinct words) distinct in
    AllPairs-cons (λ one other. one ≢ other) word words (none_among word words (not_not (is_among words word) parts.0)) (all_distinct words parts.1)

all_named : (dirs : List Word) → list_all is_named dirs ≡ true → All (λ dir. dir ≢ []) dirs
all_named [] all = All-nil (λ dir. dir ≢ [])
all_named ([] ∷ dirs) all = absurd (false≢true all)
all_named ((first ∷ name) ∷ dirs) all = All-cons (λ dir. dir ≢ []) (first ∷ name) dirs (λ none. cc) (all_named dirs (and_parts (is_named (first ∷ name)) (list_all is_named dirs) all).1)

-- one to eight, none without a name, no two with the same
pub directories : (dirs : List Word) → are_dirs dirs ≡ true → AreDirs dirs
directories dirs are =
    let some = and_parts (nat_le 1 (length dirs)) (nat_le (length dirs) most_dirs && (list_all is_named dirs && are_distinct dirs)) are in
    let few = and_parts (nat_le (length dirs) most_dirs) (list_all is_named dirs && are_distinct dirs) some.1 in
    let named = and_parts (list_all is_named dirs) (are_distinct dirs) few.1 in
    record { some = leb-true 1 (length dirs) some.0; few = leb-true (length dirs) most_dirs few.0; named = all_named dirs named.0; distinct = all_distinct dirs named.1 }

among_none : (word : Word) (words : List Word) → All (λ other. word ≢ other) words → is_among words word ≡ false
among_none word [] all = refl
among_none word (other ∷ words) all = or_from (bytes_eq word other) (is_among words word) (by (bytes_eq word other) refl) (among_none word words (All-tail (λ other. word ≢ other) other words all))
  where
    by : (b : Bool) → bytes_eq word other ≡ b → bytes_eq word other ≡ false
    by false e = e
    by true e = absurd (All-head (λ other. word ≢ other) other words all ((bytes_eq-Decides word other).0 e))

distinct_all : (words : List Word) → AllPairs (λ one other. one ≢ other) words → are_distinct words ≡ true
distinct_all [] pairs = refl
distinct_all (word ∷ words) pairs =
    and_from (not (is_among words word)) (are_distinct words) (ap not (among_none word words (λ k d below. pairs 0 (suc k) d (omega arith) (omega arith)))) (distinct_all words (λ i j d less below. pairs (suc i) (suc j) d (omega arith) (omega arith)))

named_all : (dirs : List Word) → All (λ dir. dir ≢ []) dirs → list_all is_named dirs ≡ true
named_all [] all = refl
named_all ([] ∷ dirs) all = absurd (All-head (λ dir. dir ≢ []) [] dirs all refl)
named_all ((first ∷ name) ∷ dirs) all = and_from (is_named (first ∷ name)) (list_all is_named dirs) (le-leb 1 (length (first ∷ name)) (omega arith)) (named_all dirs (All-tail (λ dir. dir ≢ []) (first ∷ name) dirs all))

pub directories_are : (dirs : List Word) → AreDirs dirs → are_dirs dirs ≡ true
directories_are dirs are =
    and_from (nat_le 1 (length dirs)) _ (le-leb 1 (length dirs) are.some)
    (and_from (nat_le (length dirs) most_dirs) _ (le-leb (length dirs) most_dirs are.few) (and_from (list_all is_named dirs) (are_distinct dirs) (named_all dirs are.named) (distinct_all dirs are.distinct)))

pub read_dirs : (words : List Word) (wanted : Wanted) → wanted_by words ≡ Some wanted → (dirs_in wanted ≡ []) ⊎ AreDirs (dirs_in wanted)
read_dirs [] wanted asks = let no : None ≡ Some wanted = asks in cc
read_dirs (command ∷ words) wanted asks = ⊎_elim (λ are. inr (directories (dirs_in wanted) are)) (λ none. inl none) (read_by command words wanted asks).allowed
