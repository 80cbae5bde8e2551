-- What follows from how words are read.
use Rattle.std.proofs.Common.{◌≡◌, ◌≢◌, ◌≤◌, Bool, true, false, not, ◌&&◌, List, [], ◌∷◌, ◌++◌, length, map, codes, Some, None, if◌then◌else◌, inl, inr, ⊎_elim, refl, sym, ap, ◌∙◌, subst, append_assoc, length-append, ◌+◌, arith}
use Rattle.std.specs.List.{list_all}
use Rattle.std.specs.Str.{bytes_eq}
use Rattle.std.proofs.lemmas.Bool.{cases_Bool, true≢false, false≢true, and_parts, and_from, and_left, and_right}
use Rattle.std.proofs.lemmas.Grind.{flat_map-append}
use Rattle.std.proofs.lemmas.List.{append-nil}
use Rattle.std.proofs.lemmas.List.Folds.{list_all-append}
use Rattle.std.proofs.lemmas.Slice.Eq.{bytes_eq-Decides}
use Rattle.nn_top.specs.declared.words.options.OptionName.{OptionName}
use Rattle.nn_top.specs.declared.words.options.OptionName.TheVariants.{Cluster, Namespace, At, Generate}
use Rattle.nn_top.specs.Words.{Word, is_plain, can_stand_apart, is_among}
use Rattle.nn_top.specs.Parts.{Part, Given, Dir, Mark, Stray, joined_in, parts_of, is_dir, is_known, no_dirs, follow, stand_together, is_line, dir_in, dirs_among, value_in, values_of}
use Rattle.nn_top.specs.Wanted.{Wanted, dirs_in}
use Rattle.nn_top.specs.Commands.{states_in, dry_in, generate_in, format_in, format_options, run_in, run_options, options_of, wanted_by, HaveNoReading}
use Rattle.nn_top.specs.Begins.{BeginWith, begins}
use Rattle.nn_top.specs.Options.{text_of, texts_of, IsTaken}
use Rattle.nn_top.specs.Laws.{IsOption, is_unmarked}
use Rattle.nn_top.proofs.PartsLemmas.{plain_first, mark_first, follow_none, dirless, marked_line}
use Rattle.nn_top.proofs.NamesLemmas.{among_names, begins_option}
use Rattle.nn_top.proofs.ReadingLemmas.{Called, a_state, a_format, a_dry, a_generate, a_run, no_command, called, read_by, unread_by}
use Rattle.nn_top.proofs.AskedLemmas.{cluster_twice, namespace_twice, at_twice, generate_twice}

-- ---- words in front

later_unmarked : (word : Word) (words : List Word) → is_unmarked (word ∷ words) ≡ true → is_unmarked words ≡ true
later_unmarked word words unmarked = (and_parts (not (bytes_eq word (codes "--"))) (is_unmarked words) unmarked).1

pub not_not : (b : Bool) → not b ≡ true → b ≡ false
not_not true e = absurd (false≢true e)
not_not false e = refl

not_marked : (word : Word) (words : List Word) → is_unmarked (word ∷ words) ≡ true → bytes_eq word (codes "--") ≡ false
not_marked word words unmarked = not_not (bytes_eq word (codes "--")) (and_parts (not (bytes_eq word (codes "--"))) (is_unmarked words) unmarked).0

-- the parts of words in front stay as they are where a word follows that is no option's value
pub parts_before : (names front : List Word) (word : Word) (rest : List Word) → is_unmarked front ≡ true → can_stand_apart word ≡ false → parts_of names (front ++ word ∷ rest) ≡ parts_of names front ++ parts_of names (word ∷ rest)
parts_before names [] word rest unmarked whole = refl
parts_before names (first ∷ []) word rest unmarked whole = ⊎_elim
    (λ (plain : is_plain first ≡ true). rw plain refl)
    (λ (unplain : is_plain first ≡ false).
    let other : bytes_eq first (codes "--") ≡ false = not_marked first [] unmarked in
    rw unplain (rw other (rw whole (rw (and_right (is_among names first) false refl) refl))))
    (cases_Bool (is_plain first))
parts_before names (first ∷ next ∷ front) word rest unmarked whole = ⊎_elim
    (λ (plain : is_plain first ≡ true). rw plain (ap (λ ps. Dir first ∷ ps) (parts_before names (next ∷ front) word rest (later_unmarked first (next ∷ front) unmarked) whole)))
    (λ (unplain : is_plain first ≡ false).
    let other : bytes_eq first (codes "--") ≡ false = not_marked first (next ∷ front) unmarked in ⊎_elim
    (λ (apart : (is_among names first && can_stand_apart next) ≡ true).
    rw unplain (rw other (rw apart (ap (λ ps. Given first next ∷ ps) (parts_before names front word rest (later_unmarked next front (later_unmarked first (next ∷ front) unmarked)) whole)))))
    (λ (alone : (is_among names first && can_stand_apart next) ≡ false).
    rw unplain (rw other (rw alone (ap (λ ps. joined_in names first ∷ ps) (parts_before names (next ∷ front) word rest (later_unmarked first (next ∷ front) unmarked) whole)))))
    (cases_Bool (is_among names first && can_stand_apart next)))
    (cases_Bool (is_plain first))

-- `--`, and directories behind it
marked_parts : (names front dirs : List Word) → is_unmarked front ≡ true → parts_of names (front ++ codes "--" ∷ dirs) ≡ parts_of names front ++ (Mark ∷ map Dir dirs)
marked_parts names front dirs unmarked = parts_before names front (codes "--") dirs unmarked refl ∙ ap (λ ps. parts_of names front ++ ps) (mark_first names dirs)

-- the options of a command, by their names
names_of : (command : Word) → (names : List OptionName) × (options_of command ≡ texts_of names)
names_of command = ⊎_elim
    (λ (format : bytes_eq command (codes "format") ≡ true). (Cluster ∷ Namespace ∷ [], rw format refl))
    (λ (other : bytes_eq command (codes "format") ≡ false). ⊎_elim
    (λ (run : bytes_eq command (codes "run") ≡ true). (At ∷ Generate ∷ [], rw other (rw run refl)))
    (λ (none : bytes_eq command (codes "run") ≡ false). ([], rw other (rw none refl)))
    (cases_Bool (bytes_eq command (codes "run"))))
    (cases_Bool (bytes_eq command (codes "format")))

pub option_first : (command option value : Word) (words rest : List Word) → IsOption command option → BeginWith words option value rest → parts_of (options_of command) words ≡ Given option value ∷ parts_of (options_of command) rest
option_first command option value words rest is begin =
    let names = names_of command in
    let found = among_names names.0 option (subst (λ ns. is_among ns option ≡ true) names.1 is) in
    let first = begins_option names.0 found.0 words value rest found.2 (subst (λ o. BeginWith words o value rest) found.1 begin) in
    subst (λ ns. parts_of ns words ≡ Given option value ∷ parts_of ns rest) (sym names.1) (first ∙ ap (λ o. Given o value ∷ parts_of (texts_of names.0) rest) (sym found.1))

dashed_name : (name : OptionName) (later : Word) → can_stand_apart (text_of name ++ later) ≡ false
dashed_name Cluster later = refl
dashed_name Namespace later = refl
dashed_name At later = refl
dashed_name Generate later = refl

dashed : (command option later : Word) → IsOption command option → can_stand_apart (option ++ later) ≡ false
dashed command option later is =
    let names = names_of command in
    let found = among_names names.0 option (subst (λ ns. is_among ns option ≡ true) names.1 is) in
    ap (λ o. can_stand_apart (o ++ later)) found.1 ∙ dashed_name found.0 later

joined_parts : (command : Word) (front rest : List Word) (option value : Word) → IsOption command option → is_unmarked front ≡ true
    → parts_of (options_of command) (front ++ ((option ++ codes "=") ++ value) ∷ rest) ≡ parts_of (options_of command) front ++ (Given option value ∷ parts_of (options_of command) rest)
joined_parts command front rest option value is unmarked =
    parts_before (options_of command) front ((option ++ codes "=") ++ value) rest unmarked (ap can_stand_apart (append_assoc option (codes "=") value) ∙ dashed command option (codes "=" ++ value) is)
    ∙ ap (λ ps. parts_of (options_of command) front ++ ps) (option_first command option value (((option ++ codes "=") ++ value) ∷ rest) rest is (inl refl))

apart_parts : (command : Word) (front rest : List Word) (option value : Word) → IsOption command option → is_unmarked front ≡ true → can_stand_apart value ≡ true
    → parts_of (options_of command) (front ++ option ∷ value ∷ rest) ≡ parts_of (options_of command) front ++ (Given option value ∷ parts_of (options_of command) rest)
apart_parts command front rest option value is unmarked apart =
    parts_before (options_of command) front option (value ∷ rest) unmarked (ap can_stand_apart (sym (append-nil option)) ∙ dashed command option [] is)
    ∙ ap (λ ps. parts_of (options_of command) front ++ ps) (option_first command option value (option ∷ value ∷ rest) rest is (inr (refl, apart)))

-- ---- options

-- words of the same parts ask for the same
same_parts : (command : Word) (words other : List Word) → parts_of (options_of command) words ≡ parts_of (options_of command) other → wanted_by (command ∷ words) ≡ wanted_by (command ∷ other)
same_parts command words other same = by (called command)
  where
    at : (c : Word) → command ≡ c → parts_of (options_of c) words ≡ parts_of (options_of c) other
    at c is = subst (λ d. parts_of (options_of d) words ≡ parts_of (options_of d) other) is same

    by : Called command → wanted_by (command ∷ words) ≡ wanted_by (command ∷ other)
    by (a_state is) = subst (λ c. wanted_by (c ∷ words) ≡ wanted_by (c ∷ other)) (sym is) (ap states_in (at (codes "state") is))
    by (a_format is) = subst (λ c. wanted_by (c ∷ words) ≡ wanted_by (c ∷ other)) (sym is) (ap format_in (at (codes "format") is))
    by (a_dry is) = subst (λ c. wanted_by (c ∷ words) ≡ wanted_by (c ∷ other)) (sym is) (ap dry_in (at (codes "dry") is))
    by (a_generate is) = subst (λ c. wanted_by (c ∷ words) ≡ wanted_by (c ∷ other)) (sym is) (ap generate_in (at (codes "generate") is))
    by (a_run is) = subst (λ c. wanted_by (c ∷ words) ≡ wanted_by (c ∷ other)) (sym is) (ap run_in (at (codes "run") is))
    by (no_command none) = none words ∙ sym (none other)

pub read_alike : (command option value : Word) (front rest : List Word) → IsOption command option → is_unmarked front ≡ true → can_stand_apart value ≡ true
    → wanted_by (command ∷ (front ++ ((option ++ codes "=") ++ value) ∷ rest)) ≡ wanted_by (command ∷ (front ++ option ∷ value ∷ rest))
read_alike command option value front rest is unmarked apart =
    same_parts command (front ++ ((option ++ codes "=") ++ value) ∷ rest) (front ++ option ∷ value ∷ rest)
    (joined_parts command front rest option value is unmarked ∙ sym (apart_parts command front rest option value is unmarked apart))

-- an option that is given a value twice
values_more : (option : Word) (front : List Part) (value : Word) (rest : List Part) → length (values_of option (front ++ (Given option value ∷ rest))) ≡ length (values_of option front) + (1 + length (values_of option rest))
values_more option front value rest =
    let all = ap length (flat_map-append (value_in option) front (Given option value ∷ rest) ∙ ap (λ b. values_of option front ++ ((if b then value ∷ [] else []) ++ values_of option rest)) ((bytes_eq-Decides option option).1 refl)) in
    omega (arith, all, length-append (values_of option front) (value ∷ values_of option rest))

twice_values : (option one other : Word) (front middle rest : List Part) → 2 ≤ length (values_of option (front ++ (Given option one ∷ (middle ++ (Given option other ∷ rest)))))
twice_values option one other front middle rest =
    omega (arith, values_more option front one (middle ++ (Given option other ∷ rest)), values_more option middle other rest)

twice_none : (command option : Word) (words : List Word) → IsOption command option → 2 ≤ length (values_of option (parts_of (options_of command) words)) → HaveNoReading (command ∷ words)
twice_none command option words is twice = by (called command)
  where
    at : (c : Word) → command ≡ c → IsOption c option × (2 ≤ length (values_of option (parts_of (options_of c) words)))
    at c e = subst (λ d. IsOption d option × (2 ≤ length (values_of option (parts_of (options_of d) words)))) e (is, twice)

    of_format : (name : OptionName) → option ≡ text_of name → IsTaken (Cluster ∷ Namespace ∷ []) name → 2 ≤ length (values_of option (parts_of format_options words)) → format_in (parts_of format_options words) ≡ None
    of_format Cluster e taken two = cluster_twice (parts_of format_options words) (subst (λ o. 2 ≤ length (values_of o (parts_of format_options words))) e two)
    of_format Namespace e taken two = namespace_twice (parts_of format_options words) (subst (λ o. 2 ≤ length (values_of o (parts_of format_options words))) e two)
    of_format At e taken two = absurd (false≢true taken)
    of_format Generate e taken two = absurd (false≢true taken)

    of_run : (name : OptionName) → option ≡ text_of name → IsTaken (At ∷ Generate ∷ []) name → 2 ≤ length (values_of option (parts_of run_options words)) → run_in (parts_of run_options words) ≡ None
    of_run Cluster e taken two = absurd (false≢true taken)
    of_run Namespace e taken two = absurd (false≢true taken)
    of_run At e taken two = at_twice (parts_of run_options words) (subst (λ o. 2 ≤ length (values_of o (parts_of run_options words))) e two)
    of_run Generate e taken two = generate_twice (parts_of run_options words) (subst (λ o. 2 ≤ length (values_of o (parts_of run_options words))) e two)

    by : Called command → HaveNoReading (command ∷ words)
    by (a_state e) = absurd (false≢true (at (codes "state") e).0)
    by (a_format e) =
        let both = at (codes "format") e in
        let found = among_names (Cluster ∷ Namespace ∷ []) option both.0 in
        subst (λ c. HaveNoReading (c ∷ words)) (sym e) (of_format found.0 found.1 found.2 both.1)
    by (a_dry e) = absurd (false≢true (at (codes "dry") e).0)
    by (a_generate e) = absurd (false≢true (at (codes "generate") e).0)
    by (a_run e) =
        let both = at (codes "run") e in
        let found = among_names (At ∷ Generate ∷ []) option both.0 in
        subst (λ c. HaveNoReading (c ∷ words)) (sym e) (of_run found.0 found.1 found.2 both.1)
    by (no_command none) = none words

pub twice_unread : (command option one other : Word) (front middle rest : List Word) → IsOption command option → is_unmarked front ≡ true → is_unmarked middle ≡ true
    → HaveNoReading (command ∷ (front ++ ((option ++ codes "=") ++ one) ∷ (middle ++ ((option ++ codes "=") ++ other) ∷ rest)))
twice_unread command option one other front middle rest is unmarked unmarked' =
    let names = options_of command in
    let parts = joined_parts command front (middle ++ ((option ++ codes "=") ++ other) ∷ rest) option one is unmarked in
    let later = joined_parts command middle rest option other is unmarked' in
    let all = parts ∙ ap (λ ps. parts_of names front ++ (Given option one ∷ ps)) later in
    twice_none command option (front ++ ((option ++ codes "=") ++ one) ∷ (middle ++ ((option ++ codes "=") ++ other) ∷ rest)) is
    (subst (λ ps. 2 ≤ length (values_of option ps)) (sym all) (twice_values option one other (parts_of names front) (parts_of names middle) (parts_of names rest)))

-- ---- directories

dirs_behind : (front parts : List Part) → no_dirs parts ≡ false → no_dirs (front ++ parts) ≡ false
dirs_behind front parts none = list_all-append (λ part. not (is_dir part)) front parts ∙ and_right (no_dirs front) (no_dirs parts) none

follow_apart : (front parts : List Part) → begins is_dir parts ≡ false → no_dirs parts ≡ false → follow (front ++ parts) ≡ false
follow_apart [] parts first none = follow_none parts first none
follow_apart (Dir dir ∷ front) parts first none = follow_apart front parts first none
follow_apart (Given name value ∷ front) parts first none = dirs_behind front parts none
follow_apart (Mark ∷ front) parts first none = dirs_behind front parts none
follow_apart (Stray ∷ front) parts first none = dirs_behind front parts none

-- something else stands between directories
separated : (front parts : List Part) → no_dirs front ≡ false → begins is_dir parts ≡ false → no_dirs parts ≡ false → stand_together (front ++ parts) ≡ false
separated [] parts has first none = absurd (true≢false has)
separated (Dir dir ∷ front) parts has first none = follow_apart front parts first none
separated (Given name value ∷ front) parts has first none = separated front parts has first none
separated (Mark ∷ front) parts has first none = separated front parts has first none
separated (Stray ∷ front) parts has first none = separated front parts has first none

separated_line : (front parts : List Part) → no_dirs front ≡ false → begins is_dir parts ≡ false → no_dirs parts ≡ false → is_line (front ++ parts) ≡ false
separated_line front parts has first none = and_right (list_all is_known (front ++ parts)) (stand_together (front ++ parts)) (separated front parts has first none)

begins_with_dir : (names : List Word) (dir : Word) (front : List Word) → is_plain dir ≡ true → no_dirs (parts_of names (dir ∷ front)) ≡ false
begins_with_dir names dir front plain = rw (plain_first names dir front plain) refl

later_dir : (dir : Word) (front : List Word) → is_plain dir ≡ true → is_unmarked front ≡ true → is_unmarked (dir ∷ front) ≡ true
later_dir dir front plain unmarked = and_from (not (bytes_eq dir (codes "--"))) (is_unmarked front) (by (bytes_eq dir (codes "--")) refl) unmarked
  where
    by : (b : Bool) → bytes_eq dir (codes "--") ≡ b → not (bytes_eq dir (codes "--")) ≡ true
    by false e = ap not e
    by true e = let is : dir ≡ codes "--" = (bytes_eq-Decides dir (codes "--")).0 e in absurd (false≢true (ap is_plain (sym is) ∙ plain))

pub mark_between : (command dir other : Word) (front dirs : List Word) → is_plain dir ≡ true → is_unmarked front ≡ true → HaveNoReading (command ∷ dir ∷ (front ++ codes "--" ∷ other ∷ dirs))
mark_between command dir other front dirs plain unmarked =
    let names = options_of command in
    unread_by command (dir ∷ (front ++ codes "--" ∷ other ∷ dirs))
    (ap is_line (marked_parts names (dir ∷ front) (other ∷ dirs) (later_dir dir front plain unmarked))
    ∙ separated_line (parts_of names (dir ∷ front)) (Mark ∷ map Dir (other ∷ dirs)) (begins_with_dir names dir front plain) refl refl)

pub option_between : (command dir other option value : Word) (front rest : List Word) → is_plain dir ≡ true → is_plain other ≡ true → IsOption command option → is_unmarked front ≡ true
    → HaveNoReading (command ∷ dir ∷ (front ++ ((option ++ codes "=") ++ value) ∷ other ∷ rest))
option_between command dir other option value front rest plain plain' is unmarked =
    let names = options_of command in
    let parts = joined_parts command (dir ∷ front) (other ∷ rest) option value is (later_dir dir front plain unmarked) in
    unread_by command (dir ∷ (front ++ ((option ++ codes "=") ++ value) ∷ other ∷ rest))
    (ap is_line parts
    ∙ separated_line (parts_of names (dir ∷ front)) (Given option value ∷ parts_of names (other ∷ rest)) (begins_with_dir names dir front plain) refl (begins_with_dir names other rest plain'))

no_dir_first : (front parts : List Part) → no_dirs front ≡ true → begins is_dir parts ≡ false → begins is_dir (front ++ parts) ≡ false
no_dir_first [] parts none first = first
no_dir_first (Dir dir ∷ front) parts none first = absurd (false≢true none)
no_dir_first (Given name value ∷ front) parts none first = refl
no_dir_first (Mark ∷ front) parts none first = refl
no_dir_first (Stray ∷ front) parts none first = refl

pub behind_mark : (command : Word) (front dirs : List Word) (wanted : Wanted) → is_unmarked front ≡ true → dirs ≢ [] → wanted_by (command ∷ (front ++ codes "--" ∷ dirs)) ≡ Some wanted → dirs_in wanted ≡ dirs
behind_mark command front [] wanted unmarked some asks = absurd (some refl)
behind_mark command front (dir ∷ dirs) wanted unmarked some asks =
    let read = read_by command (front ++ codes "--" ∷ dir ∷ dirs) wanted asks in
    let names = options_of command in
    let before = parts_of names front in
    let parts = marked_parts names front (dir ∷ dirs) unmarked in
    let line : is_line (before ++ (Mark ∷ map Dir (dir ∷ dirs))) ≡ true = ap is_line (sym parts) ∙ read.line in
    ⊎_elim
    (λ (none : no_dirs before ≡ true). ⊎_elim
    (λ (same : dirs_in wanted ≡ dirs_among (parts_of names (front ++ codes "--" ∷ dir ∷ dirs))).
    same ∙ (ap dirs_among parts ∙ (flat_map-append dir_in before (Mark ∷ map Dir (dir ∷ dirs)) ∙ (ap (λ ds. ds ++ dirs_among (map Dir (dir ∷ dirs))) (dirless before none).dirs ∙ (marked_line (dir ∷ dirs)).1))))
    (λ (first : begins is_dir (parts_of names (front ++ codes "--" ∷ dir ∷ dirs)) ≡ true). absurd (true≢false (sym first ∙ (ap (begins is_dir) parts ∙ no_dir_first before (Mark ∷ map Dir (dir ∷ dirs)) none refl))))
    read.dirs)
    (λ (has : no_dirs before ≡ false). absurd (true≢false (sym line ∙ separated_line before (Mark ∷ map Dir (dir ∷ dirs)) has refl refl)))
    (cases_Bool (no_dirs before))

-- ---- other words

no_stand : (word : Word) → is_plain word ≡ false → can_stand_apart word ≡ false
no_stand [] unplain = absurd (true≢false unplain)
no_stand (first ∷ []) unplain = absurd (true≢false unplain)
no_stand (first ∷ second ∷ later) unplain = unplain

stray_parts : (names : List Word) (word : Word) (rest : List Word) → is_plain word ≡ false → bytes_eq word (codes "--") ≡ false → is_among names word ≡ false → joined_in names word ≡ Stray → parts_of names (word ∷ rest) ≡ Stray ∷ parts_of names rest
stray_parts names word [] unplain unmarked other stray = rw unplain (rw unmarked (rw stray refl))
stray_parts names word (next ∷ rest) unplain unmarked other stray = rw unplain (rw unmarked (rw other (rw stray refl)))

stray_line : (front back : List Part) → is_line (front ++ (Stray ∷ back)) ≡ false
stray_line front back =
    and_left (list_all is_known (front ++ (Stray ∷ back))) (stand_together (front ++ (Stray ∷ back)))
    (list_all-append is_known front (Stray ∷ back) ∙ and_right (list_all is_known front) false refl)

pub other_unread : (command word : Word) (front rest : List Word) → is_unmarked front ≡ true → is_plain word ≡ false → bytes_eq word (codes "--") ≡ false → is_among (options_of command) word ≡ false → joined_in (options_of command) word ≡ Stray
    → HaveNoReading (command ∷ (front ++ word ∷ rest))
other_unread command word front rest unmarked unplain no_mark other stray =
    let names = options_of command in
    let parts = parts_before names front word rest unmarked (no_stand word unplain) in
    unread_by command (front ++ word ∷ rest)
    (ap is_line (parts ∙ ap (λ ps. parts_of names front ++ ps) (stray_parts names word rest unplain no_mark other stray)) ∙ stray_line (parts_of names front) (parts_of names rest))
