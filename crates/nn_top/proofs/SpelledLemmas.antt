-- Each line with a reading is spelled by options and directories.
use Rattle.std.proofs.Common.{◌≡◌, ◌≢◌, ◌⊎◌, ◌<◌, ◌≤◌, ℕ, zero, suc, Bool, true, false, ◌&&◌, List, [], ◌∷◌, ◌++◌, length, map, codes, Some, inl, inr, ⊎_elim, refl, sym, ap, ◌∙◌, subst, append_assoc, arith}
use Rattle.std.specs.List.{list_all}
use Rattle.std.specs.Str.{bytes_eq}
use Rattle.std.proofs.lemmas.Bool.{cases_Bool, true≢false, and_parts, and_from}
use Rattle.std.proofs.lemmas.List.Folds.{list_all-append}
use Rattle.std.proofs.lemmas.Slice.Eq.{bytes_eq-Decides}
use Rattle.nn_top.specs.Words.{Word, is_plain, can_stand_apart, is_among, are_dirs}
use Rattle.nn_top.specs.Parts.{Part, Dir, parts_of, is_dir, no_dirs, is_line, dirs_among}
use Rattle.nn_top.specs.Wanted.{Wanted, States, Dry}
use Rattle.nn_top.specs.Commands.{states_in, options_of, wanted_by}
use Rattle.nn_top.specs.Begins.{BeginWith, IsEnd, is_given, begins}
use Rattle.nn_top.specs.Laws.{GivenOption, can_be_given, words_of, spelling, TakesOptions, asked_with, IsSpelled, AreSpelled, states_with}
use Rattle.nn_top.proofs.PartsLemmas.{First, a_dir, a_mark, an_option, a_stray, first_of, unplain_first, plain_parts, mark_first, marked_line, ended, line_of_dirs, dirless, plain_unread, skipped_line, stray_first, unended_line}
use Rattle.nn_top.proofs.ReadingLemmas.{if_some, read_by}
use Rattle.nn_top.proofs.LineLemmas.{part_for, all_given, choices_parts, marked_read, plain_read_line}

-- ---- options in front

-- the option that stands first, as it is spelled
record Spells (command : Word) (words rest : List Word) : Type 0 where
  choice : GivenOption
  is : can_be_given command choice ≡ true
  spelled : words ≡ words_of choice ++ rest
  shorter : length rest < length words

spells : (command : Word) (words : List Word) (name value : Word) (rest : List Word) → is_among (options_of command) name ≡ true → BeginWith words name value rest → Spells command words rest
spells command words name value rest among (inl is) = record {
  choice = record { name = name; value = value; is_joined = true };
  is = and_from (is_among (options_of command) name) true among refl;
  spelled = is;
  shorter = omega (arith, ap length is);
}
spells command words name value rest among (inr (is, apart)) = record {
  choice = record { name = name; value = value; is_joined = false };
  is = and_from (is_among (options_of command) name) (can_stand_apart value) among apart;
  spelled = is;
  shorter = omega (arith, ap length is);
}

-- options, and then none
record Front (command : Word) (words : List Word) : Type 0 where
  choices : List GivenOption
  rest : List Word
  all : list_all (can_be_given command) choices ≡ true
  spelled : words ≡ spelling choices ++ rest
  ended : begins is_given (parts_of (options_of command) rest) ≡ false

front_of : (command : Word) (most : ℕ) (words : List Word) → length words ≤ most → Front command words
front_of command most [] few = record { choices = []; rest = []; all = refl; spelled = refl; ended = refl }
front_of command zero (word ∷ words) few = absurd (omega arith)
front_of command (suc most) (word ∷ words) few = by (λ rest less. front_of command most rest less) (first_of (options_of command) word words)
  where
    by : ((rest : List Word) → length rest ≤ most → Front command rest) → First (options_of command) word words → Front command (word ∷ words)
    by again (a_dir plain e) = record { choices = []; rest = word ∷ words; all = refl; spelled = refl; ended = rw e refl }
    by again (a_mark is e) = record { choices = []; rest = word ∷ words; all = refl; spelled = refl; ended = rw e refl }
    by again (a_stray e) = record { choices = []; rest = word ∷ words; all = refl; spelled = refl; ended = rw e refl }
    by again (an_option name value rest among begin e) =
        let first = spells command (word ∷ words) name value rest among begin in
        let later = again rest (omega (arith, few, first.shorter)) in
        record {
          choices = first.choice ∷ later.choices;
          rest = later.rest;
          all = and_from (can_be_given command first.choice) (list_all (can_be_given command) later.choices) first.is later.all;
          spelled = first.spelled ∙ (ap (λ ws. words_of first.choice ++ ws) later.spelled ∙ sym (append_assoc (words_of first.choice) (spelling later.choices) later.rest));
          ended = later.ended;
        }

-- ---- directories in front

record Plain (names words : List Word) : Type 0 where
  dirs : List Word
  rest : List Word
  all : list_all is_plain dirs ≡ true
  spelled : words ≡ dirs ++ rest
  ended : begins is_dir (parts_of names rest) ≡ false

plain_of : (names words : List Word) → Plain names words
plain_of names [] = record { dirs = []; rest = []; all = refl; spelled = refl; ended = refl }
plain_of names (word ∷ words) = ⊎_elim
    (λ (plain : is_plain word ≡ true).
    let later = plain_of names words in
    record { dirs = word ∷ later.dirs; rest = later.rest; all = and_from (is_plain word) (list_all is_plain later.dirs) plain later.all; spelled = ap (λ ws. word ∷ ws) later.spelled; ended = later.ended })
    (λ (unplain : is_plain word ≡ false). record { dirs = []; rest = word ∷ words; all = refl; spelled = refl; ended = unplain_first names word words unplain })
    (cases_Bool (is_plain word))

-- ---- the end, and the mark

pub ends_or_not : (words : List Word) → IsEnd words ⊎ (IsEnd words → ⊥)
ends_or_not [] = inl (inl refl)
ends_or_not (word ∷ next ∷ words) = inr (λ end. ⊎_elim (λ (none : word ∷ next ∷ words ≡ []). cc) (λ (mark : word ∷ next ∷ words ≡ codes "--" ∷ []). let no : next ∷ words ≡ [] = cc in cc) end)
ends_or_not (word ∷ []) = ⊎_elim
    (λ (mark : bytes_eq word (codes "--") ≡ true). inl (inr (ap (λ w. w ∷ []) ((bytes_eq-Decides word (codes "--")).0 mark))))
    (λ (other : bytes_eq word (codes "--") ≡ false). inr (λ end. ⊎_elim (λ (none : word ∷ [] ≡ []). cc) (λ (mark : word ∷ [] ≡ codes "--" ∷ []). let is : word ≡ codes "--" = cc in true≢false (sym ((bytes_eq-Decides word (codes "--")).1 is) ∙ other)) end))
    (cases_Bool (bytes_eq word (codes "--")))

marked_or_not : (words : List Word) → ((later : List Word) × (words ≡ codes "--" ∷ later)) ⊎ ((later : List Word) → words ≢ codes "--" ∷ later)
marked_or_not [] = inr (λ later is. cc)
marked_or_not (word ∷ words) = ⊎_elim
    (λ (mark : bytes_eq word (codes "--") ≡ true). inl (words, ap (λ w. w ∷ words) ((bytes_eq-Decides word (codes "--")).0 mark)))
    (λ (other : bytes_eq word (codes "--") ≡ false). inr (λ later is. let same : word ≡ codes "--" = cc in true≢false (sym ((bytes_eq-Decides word (codes "--")).1 same) ∙ other)))
    (cases_Bool (bytes_eq word (codes "--")))

-- ---- lines with options

-- a line that isn't marked ends behind the options that follow its directories
no_more : (command : Word) (rest dirs behind end : List Word) (choices : List GivenOption) → is_line (parts_of (options_of command) rest) ≡ true → begins is_given (parts_of (options_of command) rest) ≡ false → ((later : List Word) → rest ≢ codes "--" ∷ later)
    → rest ≡ dirs ++ behind → list_all is_plain dirs ≡ true → begins is_dir (parts_of (options_of command) behind) ≡ false → behind ≡ spelling choices ++ end → list_all (can_be_given command) choices ≡ true → begins is_given (parts_of (options_of command) end) ≡ false → (IsEnd end → ⊥) → ⊥
no_more command rest [] behind end choices line option unmarked is plain dir spelled all none more =
    let broken = stray_first (options_of command) rest (λ nothing. more (inl (last choices end (sym spelled ∙ (sym is ∙ nothing))))) option (ap (λ ws. begins is_dir (parts_of (options_of command) ws)) is ∙ dir) unmarked in
    true≢false (sym line ∙ broken)
  where
    last : (choices : List GivenOption) (end : List Word) → spelling choices ++ end ≡ [] → end ≡ []
    last [] end e = e
    last (choice ∷ choices) end e = absurd (by choice.is_joined refl)
      where
        by : (joined : Bool) → choice.is_joined ≡ joined → ⊥
        by true j = let no : ((choice.name ++ codes "=") ++ choice.value) ∷ (spelling choices ++ end) ≡ [] = rw j at e in cc
        by false j = let no : choice.name ∷ choice.value ∷ (spelling choices ++ end) ≡ [] = rw j at e in cc
no_more command rest (first ∷ dirs) behind end choices line option unmarked is plain dir spelled all none more =
    let back = choices_parts command choices end all in
    let parts : parts_of (options_of command) behind ≡ map part_for choices ++ parts_of (options_of command) end = ap (parts_of (options_of command)) spelled ∙ back in
    let whole : parts_of (options_of command) rest ≡ map Dir (first ∷ dirs) ++ (map part_for choices ++ parts_of (options_of command) end) =
    ap (parts_of (options_of command)) is ∙ (plain_parts (options_of command) (first ∷ dirs) behind plain ∙ ap (λ ps. map Dir (first ∷ dirs) ++ ps) parts)
    in
    true≢false (sym line ∙ (ap is_line whole ∙ unended_line (options_of command) first dirs end (map part_for choices) (all_given choices) (ap (begins is_dir) (sym parts) ∙ dir) none more))

-- a line is spelled by these
pub record Found (command : Word) (words : List Word) : Type 0 where
  pub choices : List GivenOption
  pub dirs : List Word
  pub all : list_all (can_be_given command) choices ≡ true
  pub spelled : IsSpelled words choices dirs

line_found : (command : Word) (words : List Word) → is_line (parts_of (options_of command) words) ≡ true → Found command words
line_found command words line = ⊎_elim
    (λ (marked : (later : List Word) × (front.rest ≡ codes "--" ∷ later)). record { choices = front.choices; dirs = marked.0; all = front.all; spelled = inr (front.spelled ∙ ap (λ ws. spelling front.choices ++ ws) marked.1) })
    (λ (unmarked : (later : List Word) → front.rest ≢ codes "--" ∷ later). ⊎_elim
    (λ (ends : IsEnd back.rest). record {
      choices = front.choices ++ back.choices;
      dirs = plain.dirs;
      all = list_all-append (can_be_given command) front.choices back.choices ∙ and_from (list_all (can_be_given command) front.choices) (list_all (can_be_given command) back.choices) front.all back.all;
      spelled = inl (record {
        front = front.choices;
        back = back.choices;
        end = back.rest;
        both = refl;
        plain = plain.all;
        ends = ends;
        spelled = front.spelled ∙ ap (λ ws. spelling front.choices ++ ws) (plain.spelled ∙ ap (λ ws. plain.dirs ++ ws) back.spelled);
      });
    })
    (λ (more : IsEnd back.rest → ⊥). absurd (no_more command front.rest plain.dirs plain.rest back.rest back.choices rest_line front.ended unmarked plain.spelled plain.all plain.ended back.spelled back.all back.ended more))
    (ends_or_not back.rest))
    (marked_or_not front.rest)
  where
    front : Front command words
    front = front_of command (length words) words (omega arith)

    plain : Plain (options_of command) front.rest
    plain = plain_of (options_of command) front.rest

    back : Front command plain.rest
    back = front_of command (length plain.rest) plain.rest (omega arith)

    rest_line : is_line (parts_of (options_of command) front.rest) ≡ true
    rest_line = sym (skipped_line (map part_for front.choices) (parts_of (options_of command) front.rest) (all_given front.choices)) ∙ (ap is_line (sym (choices_parts command front.choices front.rest front.all)) ∙ (ap (λ ws. is_line (parts_of (options_of command) ws)) (sym front.spelled) ∙ line))

pub options_spelled : (command : Word) (words : List Word) (wanted : Wanted) → TakesOptions command → wanted_by (command ∷ words) ≡ Some wanted
    → (choices : List GivenOption) × (dirs : List Word) × (list_all (can_be_given command) choices ≡ true) × IsSpelled words choices dirs × (asked_with command choices dirs ≡ Some wanted)
options_spelled command words wanted takes asks =
    let found = line_found command words (read_by command words wanted asks).line in
    (found.choices, found.dirs, found.all, found.spelled, value found found.spelled)
  where
    value : (found : Found command words) → IsSpelled words found.choices found.dirs → asked_with command found.choices found.dirs ≡ Some wanted
    value found (inr marked) = sym (marked_read command found.choices found.dirs takes found.all) ∙ (ap (λ ws. wanted_by (command ∷ ws)) (sym marked) ∙ asks)
    value found (inl around) =
        let all = ap (list_all (can_be_given command)) (sym around.both) ∙ found.all in
        let both = and_parts (list_all (can_be_given command) around.front) (list_all (can_be_given command) around.back) (sym (list_all-append (can_be_given command) around.front around.back) ∙ all) in
        ap (λ cs. asked_with command cs found.dirs) around.both
        ∙ (sym (plain_read_line command around.front around.back found.dirs around.end takes both.0 both.1 around.plain around.ends) ∙ (ap (λ ws. wanted_by (command ∷ ws)) (sym around.spelled) ∙ asks))

-- ---- `state` and `dry`

states_line : (parts : List Part) (dirs : List Word) → is_line parts ≡ true → dirs_among parts ≡ dirs → states_in parts ≡ states_with dirs
states_line parts dirs line is = rw line (rw is refl)

-- the parts of directories without options
plain_line : (words dirs : List Word) → AreSpelled words dirs → (is_line (parts_of [] words) ≡ true) × (dirs_among (parts_of [] words) ≡ dirs)
plain_line words dirs (inr marked) =
    let is = ap (parts_of []) marked ∙ mark_first [] dirs in
    (ap is_line is ∙ (marked_line dirs).0, ap dirs_among is ∙ (marked_line dirs).1)
plain_line words dirs (inl (plain, end, ends, spelled)) =
    let is = ap (parts_of []) spelled ∙ plain_parts [] dirs end plain in
    let last = ended [] end ends in
    let line = line_of_dirs dirs (parts_of [] end) last.0 last.1 in
    (ap is_line is ∙ line.0, ap dirs_among is ∙ line.1)

plain_found : (words : List Word) → is_line (parts_of [] words) ≡ true → (dirs : List Word) × AreSpelled words dirs
plain_found words line = ⊎_elim
    (λ (marked : (later : List Word) × (words ≡ codes "--" ∷ later)). (marked.0, inr marked.1))
    (λ (unmarked : (later : List Word) → words ≢ codes "--" ∷ later). ⊎_elim
    (λ (ends : IsEnd front.rest). (front.dirs, inl (front.all, front.rest, ends, front.spelled)))
    (λ (more : IsEnd front.rest → ⊥).
    let parts = ap (parts_of []) front.spelled ∙ plain_parts [] front.dirs front.rest front.all in
    absurd (true≢false (sym line ∙ plain_unread words front.dirs front.rest parts front.ended (λ none. sym (front.spelled ∙ ap (λ ds. ds ++ front.rest) none)) unmarked more)))
    (ends_or_not front.rest))
    (marked_or_not words)
  where
    front : Plain [] words
    front = plain_of [] words

pub states_read : (words dirs : List Word) → AreSpelled words dirs → wanted_by (codes "state" ∷ words) ≡ states_with dirs
states_read words dirs spelled = let line = plain_line words dirs spelled in states_line (parts_of [] words) dirs line.0 line.1

pub states_spelled : (words : List Word) (wanted : Wanted) → wanted_by (codes "state" ∷ words) ≡ Some wanted → (dirs : List Word) × AreSpelled words dirs × (states_with dirs ≡ Some wanted)
states_spelled words wanted asks =
    let parts = parts_of [] words in
    let test = if_some (is_line parts && are_dirs (dirs_among parts)) (Some (States (dirs_among parts))) wanted asks in
    let found = plain_found words (and_parts (is_line parts) (are_dirs (dirs_among parts)) test.0).0 in
    (found.0, found.1, sym (states_read words found.0 found.1) ∙ asks)

pub dry_read : (words : List Word) → IsEnd words → wanted_by (codes "dry" ∷ words) ≡ Some Dry
dry_read words (inl is) = rw is refl
dry_read words (inr is) = rw is refl

pub dry_spelled : (words : List Word) (wanted : Wanted) → wanted_by (codes "dry" ∷ words) ≡ Some wanted → (wanted ≡ Dry) × IsEnd words
dry_spelled words wanted asks =
    let parts = parts_of [] words in
    let test = if_some (is_line parts && no_dirs parts) (Some Dry) wanted asks in
    let both = and_parts (is_line parts) (no_dirs parts) test.0 in
    let found = plain_found words both.0 in
    let none : found.0 ≡ [] = sym (plain_line words found.0 found.1).1 ∙ (dirless parts both.1).dirs in
    let is : wanted ≡ Dry = let e = test.1 in cc in
    (is, end words found.0 none found.1)
  where
    end : (words dirs : List Word) → dirs ≡ [] → AreSpelled words dirs → IsEnd words
    end words dirs none (inr marked) = inr (marked ∙ ap (λ ds. codes "--" ∷ ds) none)
    end words dirs none (inl (plain, last, ends, spelled)) = subst IsEnd (sym (spelled ∙ ap (λ ds. ds ++ last) none)) ends
