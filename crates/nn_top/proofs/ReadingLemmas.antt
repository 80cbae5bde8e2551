-- Lemmas on what words ask for.
use Rattle.std.proofs.Common.{IsTrue, subst, ◌≡◌, ◌⊎◌, ◌≤◌, ℕ, Bool, true, false, ◌&&◌, nat_le, nat_lt, ◌<◌, ◌^◌, List, [], ◌∷◌, length, codes, Option, Some, None, option_and_then, option_map, if◌then◌else◌, inl, inr, ⊎_elim, refl, sym, ap, ◌∙◌, arith}
use Rattle.std.specs.List.{list_all}
use Rattle.std.specs.Str.{bytes_eq}
use Rattle.std.proofs.lemmas.Bool.{and_parts, and_from, leb-true, ltb-true, true≢false}
use Rattle.std.proofs.lemmas.Slice.Eq.{bytes_eq-Decides}
use Rattle.nn_base.specs.Decimal.{is_number, number_in}
use Rattle.std.specs.Char.{is_ascii_digit}
use Rattle.std.specs.Str.Parse.{digits_value}
use Rattle.nn_base.specs.Words.{is_word}
use Rattle.nn_base.specs.Limits.{most_dirs}
use Rattle.nn_generate.specs.Generated.{most_files}
use Rattle.nn_top.specs.Words.{Word, is_named, are_distinct, are_dirs}
use Rattle.nn_top.specs.Parts.{Part, Given, Dir, Mark, Stray, parts_of, is_dir, is_known, follow, stand_together, is_line, no_dirs, dirs_among, values_of}
use Rattle.nn_top.specs.Begins.{begins}
use Rattle.nn_top.specs.Wanted.{Wanted, States, Format, Dry, Generate, Run, dirs_in}
use Rattle.nn_top.specs.Commands.{states_in, dry_in, count_of, count_in, generate_for, generate_in, once, cluster_in, namespace_of, namespace_in, format_for, format_in, format_options, at_in, generated_in, run_for, run_in, run_options, options_of, wanted_by, HaveNoReading}
use Rattle.nn_top.proofs.PartsLemmas.{dirless}

-- words that ask for something have a reading
pub read_or_not : (words : List Word) (wanted : Wanted) → wanted_by words ≡ Some wanted → HaveNoReading words → ⊥
read_or_not words wanted asks none = let no : Some wanted ≡ None = sym asks ∙ none in cc

-- and ask for nothing else
pub one_reading : (words : List Word) (one other : Wanted) → wanted_by words ≡ Some one → wanted_by words ≡ Some other → one ≡ other
one_reading words one other asks asks' = let same : Some one ≡ Some other = sym asks ∙ asks' in cc

-- ---- which command a word is

pub data Called (command : Word) : Type 0 where
  a_state : command ≡ codes "state" → Called command
  a_format : command ≡ codes "format" → Called command
  a_dry : command ≡ codes "dry" → Called command
  a_generate : command ≡ codes "generate" → Called command
  a_run : command ≡ codes "run" → Called command
  no_command : ((words : List Word) → HaveNoReading (command ∷ words)) → Called command

pub called : (command : Word) → Called command
called command = by (bytes_eq command (codes "state")) (bytes_eq command (codes "format")) (bytes_eq command (codes "dry")) (bytes_eq command (codes "generate")) (bytes_eq command (codes "run")) refl refl refl refl refl
  where
    by : (a b c d e : Bool) → bytes_eq command (codes "state") ≡ a → bytes_eq command (codes "format") ≡ b → bytes_eq command (codes "dry") ≡ c → bytes_eq command (codes "generate") ≡ d → bytes_eq command (codes "run") ≡ e → Called command
    by true b c d e state format dry generate run = a_state ((bytes_eq-Decides command (codes "state")).0 state)
    by false true c d e state format dry generate run = a_format ((bytes_eq-Decides command (codes "format")).0 format)
    by false false true d e state format dry generate run = a_dry ((bytes_eq-Decides command (codes "dry")).0 dry)
    by false false false true e state format dry generate run = a_generate ((bytes_eq-Decides command (codes "generate")).0 generate)
    by false false false false true state format dry generate run = a_run ((bytes_eq-Decides command (codes "run")).0 run)
    by false false false false false state format dry generate run = no_command (λ words. rw state (rw format (rw dry (rw generate (rw run refl)))))

-- ---- the parts of words with a reading

-- words behind a command, and what they ask for; the plain words among them are its directories, or the first is its number
pub record Read (command : Word) (words : List Word) (wanted : Wanted) : Type 0 where
  pub line : is_line (parts_of (options_of command) words) ≡ true
  pub dirs : (dirs_in wanted ≡ dirs_among (parts_of (options_of command) words)) ⊎ (begins is_dir (parts_of (options_of command) words) ≡ true)
  pub allowed : (are_dirs (dirs_in wanted) ≡ true) ⊎ (dirs_in wanted ≡ [])

pub if_some : {A : Type 0} (test : Bool) (found : Option A) (x : A) → (if test then found else None) ≡ Some x → (test ≡ true) × (found ≡ Some x)
if_some true found x e = (refl, e)
if_some false found x e = let no : None ≡ Some x = e in cc

format_dirs : (cluster : Option Word) (namespace : Option ℕ) (dirs : List Word) (wanted : Wanted) → format_for cluster namespace dirs ≡ Some wanted → dirs_in wanted ≡ dirs
format_dirs None namespace dirs wanted e = let no : None ≡ Some wanted = e in cc
format_dirs (Some cluster) None dirs wanted e = let no : None ≡ Some wanted = e in cc
format_dirs (Some cluster) (Some namespace) dirs wanted e = let same : Format cluster namespace dirs ≡ wanted = cc in ap dirs_in (sym same)

run_dirs : (at : Option ℕ) (generated : Option (Option ℕ)) (dirs : List Word) (wanted : Wanted) → run_for at generated dirs ≡ Some wanted → dirs_in wanted ≡ dirs
run_dirs None generated dirs wanted e = let no : None ≡ Some wanted = e in cc
run_dirs (Some at) None dirs wanted e = let no : None ≡ Some wanted = e in cc
run_dirs (Some at) (Some generated) dirs wanted e = let same : Run at generated dirs ≡ wanted = cc in ap dirs_in (sym same)

read_with : (command : Word) (words : List Word) (wanted : Wanted) → (is_line (parts_of (options_of command) words) && are_dirs (dirs_among (parts_of (options_of command) words))) ≡ true → dirs_in wanted ≡ dirs_among (parts_of (options_of command) words) → Read command words wanted
read_with command words wanted test dirs =
    let parts = parts_of (options_of command) words in
    let both = and_parts (is_line parts) (are_dirs (dirs_among parts)) test in
    record { line = both.0; dirs = inl dirs; allowed = inl (ap are_dirs dirs ∙ both.1) }

read_states : (words : List Word) (wanted : Wanted) → states_in (parts_of [] words) ≡ Some wanted → Read (codes "state") words wanted
read_states words wanted asks =
    let dirs = dirs_among (parts_of [] words) in
    let test = if_some (is_line (parts_of [] words) && are_dirs dirs) (Some (States dirs)) wanted asks in
    let same : States dirs ≡ wanted = let e = test.1 in cc in
    read_with (codes "state") words wanted test.0 (ap dirs_in (sym same))

read_format : (words : List Word) (wanted : Wanted) → format_in (parts_of format_options words) ≡ Some wanted → Read (codes "format") words wanted
read_format words wanted asks =
    let parts = parts_of format_options words in
    let cluster = option_and_then cluster_in (once (values_of (codes "--cluster") parts)) in
    let namespace = option_and_then namespace_in (once (values_of (codes "--namespace") parts)) in
    let test = if_some (is_line parts && are_dirs (dirs_among parts)) (format_for cluster namespace (dirs_among parts)) wanted asks in
    read_with (codes "format") words wanted test.0 (format_dirs cluster namespace (dirs_among parts) wanted test.1)

read_run : (words : List Word) (wanted : Wanted) → run_in (parts_of run_options words) ≡ Some wanted → Read (codes "run") words wanted
read_run words wanted asks =
    let parts = parts_of run_options words in
    let at = at_in (values_of (codes "--at") parts) in
    let generated = generated_in (values_of (codes "--generate") parts) in
    let test = if_some (is_line parts && are_dirs (dirs_among parts)) (run_for at generated (dirs_among parts)) wanted asks in
    read_with (codes "run") words wanted test.0 (run_dirs at generated (dirs_among parts) wanted test.1)

read_dry : (words : List Word) (wanted : Wanted) → dry_in (parts_of [] words) ≡ Some wanted → Read (codes "dry") words wanted
read_dry words wanted asks =
    let test = if_some (is_line (parts_of [] words) && no_dirs (parts_of [] words)) (Some Dry) wanted asks in
    let both = and_parts (is_line (parts_of [] words)) (no_dirs (parts_of [] words)) test.0 in
    let same : Dry ≡ wanted = let e = test.1 in cc in
    let none : dirs_in wanted ≡ [] = ap dirs_in (sym same) in
    record { line = both.0; dirs = inl (none ∙ sym (dirless (parts_of [] words) both.1).dirs); allowed = inr none }

generate_dirs : (count : Option ℕ) (wanted : Wanted) → generate_for count ≡ Some wanted → dirs_in wanted ≡ []
generate_dirs None wanted e = let no : None ≡ Some wanted = e in cc
generate_dirs (Some count) wanted e = let same : Generate count ≡ wanted = cc in ap dirs_in (sym same)

-- a number, and what may stand behind it
generate_line : (parts : List Part) (wanted : Wanted) → generate_in parts ≡ Some wanted → (is_line parts ≡ true) × (begins is_dir parts ≡ true) × (dirs_in wanted ≡ [])
generate_line [] wanted asks = let no : None ≡ Some wanted = asks in cc
generate_line (Given name value ∷ parts) wanted asks = let no : None ≡ Some wanted = asks in cc
generate_line (Mark ∷ parts) wanted asks = let no : None ≡ Some wanted = asks in cc
generate_line (Stray ∷ parts) wanted asks = let no : None ≡ Some wanted = asks in cc
generate_line (Dir number ∷ parts) wanted asks =
    let count = count_in number in
    let test = if_some (is_line parts && no_dirs parts) (generate_for count) wanted asks in
    let both = and_parts (is_line parts) (no_dirs parts) test.0 in
    let known = and_parts (list_all is_known parts) (stand_together parts) both.0 in
    (and_from (list_all is_known parts) (follow parts) known.0 (dirless parts both.1).follow, refl, generate_dirs count wanted test.1)

read_generate : (words : List Word) (wanted : Wanted) → generate_in (parts_of [] words) ≡ Some wanted → Read (codes "generate") words wanted
read_generate words wanted asks = let line = generate_line (parts_of [] words) wanted asks in record { line = line.0; dirs = inr line.1; allowed = inr line.2 }

pub read_by : (command : Word) (words : List Word) (wanted : Wanted) → wanted_by (command ∷ words) ≡ Some wanted → Read command words wanted
read_by command words wanted asks = by (called command)
  where
    asked : (other : Word) → command ≡ other → wanted_by (other ∷ words) ≡ Some wanted
    asked other is = subst (λ c. wanted_by (c ∷ words) ≡ Some wanted) is asks

    by : Called command → Read command words wanted
    by (a_state is) = subst (λ c. Read c words wanted) (sym is) (read_states words wanted (asked (codes "state") is))
    by (a_format is) = subst (λ c. Read c words wanted) (sym is) (read_format words wanted (asked (codes "format") is))
    by (a_dry is) = subst (λ c. Read c words wanted) (sym is) (read_dry words wanted (asked (codes "dry") is))
    by (a_generate is) = subst (λ c. Read c words wanted) (sym is) (read_generate words wanted (asked (codes "generate") is))
    by (a_run is) = subst (λ c. Read c words wanted) (sym is) (read_run words wanted (asked (codes "run") is))
    by (no_command none) = absurd (read_or_not (command ∷ words) wanted asks (none words))

-- what is no line has no reading
pub unread_by : (command : Word) (words : List Word) → is_line (parts_of (options_of command) words) ≡ false → HaveNoReading (command ∷ words)
unread_by command words broken = by (wanted_by (command ∷ words)) refl
  where
    by : (found : Option Wanted) → wanted_by (command ∷ words) ≡ found → wanted_by (command ∷ words) ≡ None
    by None is = is
    by (Some wanted) is = absurd (true≢false (sym (read_by command words wanted is).line ∙ broken))

-- ---- how many directories there are

few_of : (dirs : List Word) → are_dirs dirs ≡ true → length dirs ≤ 8
few_of dirs are =
    let some = and_parts (nat_le 1 (length dirs)) (nat_le (length dirs) most_dirs && (list_all is_named dirs && are_distinct dirs)) are in
    leb-true (length dirs) most_dirs (and_parts (nat_le (length dirs) most_dirs) (list_all is_named dirs && are_distinct dirs) some.1).0

-- what they ask for has at most eight directories
pub few_dirs : (words : List Word) (wanted : Wanted) → wanted_by words ≡ Some wanted → length (dirs_in wanted) ≤ 8
few_dirs [] wanted asks = let no : None ≡ Some wanted = asks in cc
few_dirs (command ∷ words) wanted asks =
    ⊎_elim (λ are. few_of (dirs_in wanted) are) (λ none. omega (arith, ap length none)) (read_by command words wanted asks).allowed

-- ---- what `generate` is asked with

-- `generate` asks for nothing else
no_generate : (parts : List Part) (wanted : Wanted) → ((count : ℕ) → wanted ≡ Generate count → ⊥) → generate_in parts ≡ Some wanted → ⊥
no_generate [] wanted other asks = let no : None ≡ Some wanted = asks in cc
no_generate (Given name value ∷ parts) wanted other asks = let no : None ≡ Some wanted = asks in cc
no_generate (Mark ∷ parts) wanted other asks = let no : None ≡ Some wanted = asks in cc
no_generate (Stray ∷ parts) wanted other asks = let no : None ≡ Some wanted = asks in cc
no_generate (Dir number ∷ parts) wanted other asks =
    let count = count_in number in
    by count (if_some (is_line parts && no_dirs parts) (generate_for count) wanted asks).1
  where
    by : (count : Option ℕ) → generate_for count ≡ Some wanted → ⊥
    by None e = let no : None ≡ Some wanted = e in cc
    by (Some count) e = let same : wanted ≡ Generate count = cc in other count same

-- ---- what `format` is asked with

format_for_some : (cluster : Option Word) (namespace : Option ℕ) (dirs : List Word) (c : Word) (n : ℕ) (ds : List Word) → format_for cluster namespace dirs ≡ Some (Format c n ds) → (cluster ≡ Some c) × (namespace ≡ Some n)
format_for_some None namespace dirs c n ds e = let no : None ≡ Some (Format c n ds) = e in cc
format_for_some (Some cluster) None dirs c n ds e = let no : None ≡ Some (Format c n ds) = e in cc
format_for_some (Some cluster) (Some namespace) dirs c n ds e = let same : Some (Format cluster namespace dirs) ≡ Some (Format c n ds) = e in (cc, cc)

cluster_range : (value : Option Word) (c : Word) → option_and_then cluster_in value ≡ Some c → IsTrue (is_word c)
cluster_range None c e = let no : None ≡ Some c = e in cc
cluster_range (Some word) c e =
    let test = if_some (is_word word) (Some word) c e in
    let same : word ≡ c = let is = test.1 in cc in
    subst (λ w. IsTrue (is_word w)) same test.0

number_range : (number : Option ℕ) (n : ℕ) → option_and_then namespace_of number ≡ Some n → (1 ≤ n) × (n ≤ 2147483647)
number_range None n e = let no : None ≡ Some n = e in cc
number_range (Some number) n e =
    let test = if_some (nat_le 1 number && nat_le number 2147483647) (Some number) n e in
    let same : number ≡ n = let is = test.1 in cc in
    let both = and_parts (nat_le 1 number) (nat_le number 2147483647) test.0 in
    subst (λ k. (1 ≤ k) × (k ≤ 2147483647)) same (leb-true 1 number both.0, leb-true number 2147483647 both.1)

namespace_range : (value : Option Word) (n : ℕ) → option_and_then namespace_in value ≡ Some n → (1 ≤ n) × (n ≤ 2147483647)
namespace_range None n e = let no : None ≡ Some n = e in cc
namespace_range (Some word) n e = number_range (number_in word) n e

-- an id that is a word, and a number within its range
pub format_range : (words : List Word) (cluster : Word) (namespace : ℕ) (dirs : List Word) → wanted_by words ≡ Some (Format cluster namespace dirs) → IsTrue (is_word cluster) × (1 ≤ namespace) × (namespace ≤ 2147483647)
format_range [] cluster namespace dirs asks = let no : None ≡ Some (Format cluster namespace dirs) = asks in cc
format_range (command ∷ words) cluster namespace dirs asks = by (called command)
  where
    wanted : Wanted
    wanted = Format cluster namespace dirs

    asked : (other : Word) → command ≡ other → wanted_by (other ∷ words) ≡ Some wanted
    asked other is = subst (λ c. wanted_by (c ∷ words) ≡ Some wanted) is asks

    parts : List Part
    parts = parts_of format_options words

    plain : List Part
    plain = parts_of [] words

    timed : List Part
    timed = parts_of run_options words

    no_run : (at : Option ℕ) (generated : Option (Option ℕ)) → run_for at generated (dirs_among timed) ≡ Some wanted → ⊥
    no_run None generated e = let no : None ≡ Some wanted = e in cc
    no_run (Some at) None e = let no : None ≡ Some wanted = e in cc
    no_run (Some at) (Some generated) e = let no : Some (Run at generated (dirs_among timed)) ≡ Some wanted = e in cc

    by : Called command → IsTrue (is_word cluster) × (1 ≤ namespace) × (namespace ≤ 2147483647)
    by (a_state is) =
        let e = (if_some (is_line plain && are_dirs (dirs_among plain)) (Some (States (dirs_among plain))) wanted (asked (codes "state") is)).1 in
        let no : States (dirs_among plain) ≡ Format cluster namespace dirs = cc in cc
    by (a_format is) =
        let given = once (values_of (codes "--cluster") parts) in
        let number = once (values_of (codes "--namespace") parts) in
        let e = (if_some (is_line parts && are_dirs (dirs_among parts)) (format_for (option_and_then cluster_in given) (option_and_then namespace_in number) (dirs_among parts)) wanted (asked (codes "format") is)).1 in
        let both = format_for_some (option_and_then cluster_in given) (option_and_then namespace_in number) (dirs_among parts) cluster namespace dirs e in
        let range = namespace_range number namespace both.1 in
        (cluster_range given cluster both.0, range.0, range.1)
    by (a_dry is) =
        let e = (if_some (is_line plain && no_dirs plain) (Some Dry) wanted (asked (codes "dry") is)).1 in
        let no : Dry ≡ Format cluster namespace dirs = cc in cc
    by (a_generate is) = absurd (no_generate plain wanted (λ count e. cc) (asked (codes "generate") is))
    by (a_run is) =
        let at = at_in (values_of (codes "--at") timed) in
        let generated = generated_in (values_of (codes "--generate") timed) in
        absurd (no_run at generated (if_some (is_line timed && are_dirs (dirs_among timed)) (run_for at generated (dirs_among timed)) wanted (asked (codes "run") is)).1)
    by (no_command none) = absurd (read_or_not (command ∷ words) wanted asks (none words))

-- ---- what `run` is asked with

number_small : (word : Word) (n : ℕ) → number_in word ≡ Some n → n < 2 ^ 63
number_small word n e =
    let test = if_some (is_number word) (Some (digits_value 10 word)) n e in
    let some = and_parts (nat_le 1 (length word)) (nat_le (length word) 19 && (list_all is_ascii_digit word && nat_lt (digits_value 10 word) (2 ^ 63))) test.0 in
    let few = and_parts (nat_le (length word) 19) (list_all is_ascii_digit word && nat_lt (digits_value 10 word) (2 ^ 63)) some.1 in
    let below = ltb-true (digits_value 10 word) (2 ^ 63) (and_parts (list_all is_ascii_digit word) (nat_lt (digits_value 10 word) (2 ^ 63)) few.1).1 in
    let same : digits_value 10 word ≡ n = let is = test.1 in cc in
    subst (λ k. k < 2 ^ 63) same below

time_small : (values : List Word) (n : ℕ) → at_in values ≡ Some n → n < 2 ^ 63
time_small [] n e = let same : 0 ≡ n = cc in subst (λ k. k < 2 ^ 63) same (omega arith)
time_small (value ∷ []) n e = number_small value n e
time_small (value ∷ other ∷ values) n e = let no : None ≡ Some n = e in cc

run_for_some : (at : Option ℕ) (generated : Option (Option ℕ)) (dirs : List Word) (n : ℕ) (files : Option ℕ) (ds : List Word) → run_for at generated dirs ≡ Some (Run n files ds) → (at ≡ Some n) × (generated ≡ Some files)
run_for_some None generated dirs n files ds e = let no : None ≡ Some (Run n files ds) = e in cc
run_for_some (Some at) None dirs n files ds e = let no : None ≡ Some (Run n files ds) = e in cc
run_for_some (Some at) (Some generated) dirs n files ds e = let same : Some (Run at generated dirs) ≡ Some (Run n files ds) = e in (cc, cc)

-- a number of files, where one is given
abbrev pub IsCount : Option ℕ → Type 0
IsCount generated = (count : ℕ) → generated ≡ Some count → (1 ≤ count) × (count ≤ most_files)

count_range : (number : Option ℕ) (n : ℕ) → option_and_then count_of number ≡ Some n → (1 ≤ n) × (n ≤ most_files)
count_range None n e = let no : None ≡ Some n = e in cc
count_range (Some number) n e =
    let test = if_some (nat_le 1 number && nat_le number most_files) (Some number) n e in
    let same : number ≡ n = let is = test.1 in cc in
    let both = and_parts (nat_le 1 number) (nat_le number most_files) test.0 in
    subst (λ k. (1 ≤ k) × (k ≤ most_files)) same (leb-true 1 number both.0, leb-true number most_files both.1)

files_range : (values : List Word) (files : Option ℕ) → generated_in values ≡ Some files → IsCount files
files_range [] files e = λ count is. let no : None ≡ files = cc in cc
files_range (value ∷ []) files e = by (count_in value) refl e
  where
    by : (found : Option ℕ) → count_in value ≡ found → option_map Some found ≡ Some files → IsCount files
    by None is e = let no : None ≡ Some files = e in cc
    by (Some n) is e = λ count given. count_range (number_in value) count (is ∙ (let same : Some n ≡ Some count = let both : Some n ≡ files = cc in both ∙ given in same))
files_range (value ∷ other ∷ values) files e = let no : None ≡ Some files = e in cc

-- a time below 2^63, and perhaps a number of files
pub run_range : (words : List Word) (at : ℕ) (files : Option ℕ) (dirs : List Word) → wanted_by words ≡ Some (Run at files dirs) → (at < 2 ^ 63) × IsCount files
run_range [] at files dirs asks = let no : None ≡ Some (Run at files dirs) = asks in cc
run_range (command ∷ words) at files dirs asks = by (called command)
  where
    wanted : Wanted
    wanted = Run at files dirs

    asked : (other : Word) → command ≡ other → wanted_by (other ∷ words) ≡ Some wanted
    asked other is = subst (λ c. wanted_by (c ∷ words) ≡ Some wanted) is asks

    parts : List Part
    parts = parts_of format_options words

    plain : List Part
    plain = parts_of [] words

    timed : List Part
    timed = parts_of run_options words

    no_format : (cluster : Option Word) (namespace : Option ℕ) → format_for cluster namespace (dirs_among parts) ≡ Some wanted → ⊥
    no_format None namespace e = let no : None ≡ Some wanted = e in cc
    no_format (Some cluster) None e = let no : None ≡ Some wanted = e in cc
    no_format (Some cluster) (Some namespace) e = let no : Some (Format cluster namespace (dirs_among parts)) ≡ Some wanted = e in cc

    by : Called command → (at < 2 ^ 63) × IsCount files
    by (a_state is) =
        let e = (if_some (is_line plain && are_dirs (dirs_among plain)) (Some (States (dirs_among plain))) wanted (asked (codes "state") is)).1 in
        let no : States (dirs_among plain) ≡ Run at files dirs = cc in cc
    by (a_format is) =
        let cluster = option_and_then cluster_in (once (values_of (codes "--cluster") parts)) in
        let namespace = option_and_then namespace_in (once (values_of (codes "--namespace") parts)) in
        absurd (no_format cluster namespace (if_some (is_line parts && are_dirs (dirs_among parts)) (format_for cluster namespace (dirs_among parts)) wanted (asked (codes "format") is)).1)
    by (a_dry is) =
        let e = (if_some (is_line plain && no_dirs plain) (Some Dry) wanted (asked (codes "dry") is)).1 in
        let no : Dry ≡ Run at files dirs = cc in cc
    by (a_generate is) = absurd (no_generate plain wanted (λ count e. cc) (asked (codes "generate") is))
    by (a_run is) =
        let time = at_in (values_of (codes "--at") timed) in
        let generated = generated_in (values_of (codes "--generate") timed) in
        let e = (if_some (is_line timed && are_dirs (dirs_among timed)) (run_for time generated (dirs_among timed)) wanted (asked (codes "run") is)).1 in
        let both = run_for_some time generated (dirs_among timed) at files dirs e in
        (time_small (values_of (codes "--at") timed) at both.0, files_range (values_of (codes "--generate") timed) files both.1)
    by (no_command none) = absurd (read_or_not (command ∷ words) wanted asks (none words))
