-- Lemmas on the parts of a line.
use Rattle.std.proofs.Common.{◌≡◌, ◌≢◌, ◌⊎◌, true, false, ◌&&◌, ◌==◌, ℕ, List, [], ◌∷◌, ◌++◌, map, codes, Option, Some, None, inl, inr, ⊎_elim, refl, sym, ap, ◌∙◌, subst}
use Rattle.std.specs.List.{list_all}
use Rattle.std.specs.Str.{bytes_eq}
use Rattle.std.proofs.lemmas.Bool.{cases_Bool, true≢false, false≢true, and_parts, and_from, and_left, and_right, or_left, or_right, eqb-true}
use Rattle.std.proofs.lemmas.List.{append-nil}
use Rattle.std.proofs.lemmas.Slice.Eq.{bytes_eq-Decides}
use Rattle.nn_top.specs.Words.{Word, is_plain, can_stand_apart, is_among}
use Rattle.nn_top.specs.Parts.{Part, Given, Dir, Mark, Stray, behind, joined_in, parts_of, is_dir, is_known, no_dirs, follow, stand_together, is_line, dirs_among, values_of}
use Rattle.nn_top.specs.Begins.{BeginWith, IsEnd, is_given, begins}

-- ---- the first word of a line

-- a directory first, or `--`
pub plain_first : (names : List Word) (word : Word) (words : List Word) → is_plain word ≡ true → parts_of names (word ∷ words) ≡ Dir word ∷ parts_of names words
plain_first names word [] plain = rw plain refl
plain_first names word (next ∷ words) plain = rw plain refl

pub mark_first : (names words : List Word) → parts_of names (codes "--" ∷ words) ≡ Mark ∷ map Dir words
mark_first names [] = refl
mark_first names (next ∷ words) = refl

-- what stands first: a directory, the mark, an option with its value, or a stray word
pub data First (names : List Word) (word : Word) (words : List Word) : Type 0 where
  a_dir : is_plain word ≡ true → parts_of names (word ∷ words) ≡ Dir word ∷ parts_of names words → First names word words
  a_mark : word ≡ codes "--" → parts_of names (word ∷ words) ≡ Mark ∷ map Dir words → First names word words
  an_option : (name value : Word) (rest : List Word) → is_among names name ≡ true → BeginWith (word ∷ words) name value rest → parts_of names (word ∷ words) ≡ Given name value ∷ parts_of names rest → First names word words
  a_stray : parts_of names (word ∷ words) ≡ Stray ∷ parts_of names words → First names word words

behind_is : (front word value : Word) → behind front word ≡ Some value → word ≡ front ++ value
behind_is [] word value e = cc
behind_is (byte ∷ front) [] value e = cc
behind_is (byte ∷ front) (first ∷ word) value e = ⊎_elim
    (λ (y : (first == byte) ≡ true).
    let below : behind front word ≡ Some value = rw y at e in
    let same : first ≡ byte = eqb-true first byte y in
    cc_on same (behind_is front word value below))
    (λ (n : (first == byte) ≡ false). let no : None ≡ Some value = rw n at e in cc)
    (cases_Bool (first == byte))
  where
    cc_on : {a b : ℕ} {xs ys : Word} → a ≡ b → xs ≡ ys → a ∷ xs ≡ b ∷ ys
    cc_on p q = cc

pub is_itself : (word : Word) → bytes_eq word word ≡ true
is_itself word = (bytes_eq-Decides word word).1 refl

-- a word is an option of a name, `=` and its value, or stray
abbrev pub Joined : List Word → Word → Type 0
Joined names word = ((name : Word) × (value : Word) × (is_among names name ≡ true) × (word ≡ (name ++ codes "=") ++ value) × (joined_in names word ≡ Given name value)) ⊎ (joined_in names word ≡ Stray)

joined_or : (name word : Word) (names : List Word) (found : Option Word) → behind (name ++ codes "=") word ≡ found → Joined names word → Joined (name ∷ names) word
joined_or name word names (Some value) e later = inl (name, value, or_left (bytes_eq name name) (is_among names name) (is_itself name), behind_is (name ++ codes "=") word value e, rw e refl)
joined_or name word names None e (inl (other, value, among, is, joined)) = inl (other, value, or_right (bytes_eq other name) (is_among names other) among, is, rw e joined)
joined_or name word names None e (inr stray) = inr (rw e stray)

joined_is : (names : List Word) (word : Word) → Joined names word
joined_is [] word = inr refl
joined_is (name ∷ names) word = joined_or name word names (behind (name ++ codes "=") word) refl (joined_is names word)

no_dir_first : (names : List Word) (word : Word) (words : List Word) → is_plain word ≡ false → bytes_eq word (codes "--") ≡ false → First names word words
no_dir_first names word [] unplain unmarked = ⊎_elim
    (λ (found : (name : Word) × (value : Word) × (is_among names name ≡ true) × (word ≡ (name ++ codes "=") ++ value) × (joined_in names word ≡ Given name value)).
    an_option found.0 found.1 [] found.2 (inl (ap (λ w. w ∷ []) found.3)) (rw unplain (rw unmarked (ap (λ p. p ∷ []) found.4))))
    (λ (none : joined_in names word ≡ Stray). a_stray (rw unplain (rw unmarked (ap (λ p. p ∷ []) none))))
    (joined_is names word)
no_dir_first names word (next ∷ words) unplain unmarked = ⊎_elim
    (λ (apart : (is_among names word && can_stand_apart next) ≡ true).
    an_option word next words (and_parts (is_among names word) (can_stand_apart next) apart).0 (inr (refl, (and_parts (is_among names word) (can_stand_apart next) apart).1))
    (rw unplain (rw unmarked (rw apart refl))))
    (λ (whole : (is_among names word && can_stand_apart next) ≡ false). ⊎_elim
    (λ (found : (name : Word) × (value : Word) × (is_among names name ≡ true) × (word ≡ (name ++ codes "=") ++ value) × (joined_in names word ≡ Given name value)).
    an_option found.0 found.1 (next ∷ words) found.2 (inl (ap (λ w. w ∷ next ∷ words) found.3)) (rw unplain (rw unmarked (rw whole (ap (λ p. p ∷ parts_of names (next ∷ words)) found.4)))))
    (λ (none : joined_in names word ≡ Stray). a_stray (rw unplain (rw unmarked (rw whole (ap (λ p. p ∷ parts_of names (next ∷ words)) none)))))
    (joined_is names word))
    (cases_Bool (is_among names word && can_stand_apart next))

pub first_of : (names : List Word) (word : Word) (words : List Word) → First names word words
first_of names word words = ⊎_elim
    (λ (plain : is_plain word ≡ true). a_dir plain (plain_first names word words plain))
    (λ (unplain : is_plain word ≡ false). ⊎_elim
    (λ (marked : bytes_eq word (codes "--") ≡ true).
    let is : word ≡ codes "--" = (bytes_eq-Decides word (codes "--")).0 marked in
    a_mark is (ap (λ w. parts_of names (w ∷ words)) is ∙ mark_first names words))
    (λ (unmarked : bytes_eq word (codes "--") ≡ false). no_dir_first names word words unplain unmarked)
    (cases_Bool (bytes_eq word (codes "--"))))
    (cases_Bool (is_plain word))

-- plain words are directories
pub plain_parts : (names dirs rest : List Word) → list_all is_plain dirs ≡ true → parts_of names (dirs ++ rest) ≡ map Dir dirs ++ parts_of names rest
plain_parts names [] rest all = refl
plain_parts names (dir ∷ dirs) rest all =
    let parts = and_parts (is_plain dir) (list_all is_plain dirs) all in
    plain_first names dir (dirs ++ rest) parts.0 ∙ ap (λ ps. Dir dir ∷ ps) (plain_parts names dirs rest parts.1)

-- without options no word is one
pub no_options : (words : List Word) → begins is_given (parts_of [] words) ≡ false
no_options [] = refl
no_options (word ∷ words) = none (first_of [] word words)
  where
    none : First [] word words → begins is_given (parts_of [] (word ∷ words)) ≡ false
    none (a_dir plain e) = rw e refl
    none (a_mark is e) = rw e refl
    none (an_option name value rest among begin e) = absurd (false≢true among)
    none (a_stray e) = rw e refl

-- ---- lines

-- options in front change neither whether parts are a line, nor the directories
pub record Skipped (front parts : List Part) : Type 0 where
  pub known : list_all is_known (front ++ parts) ≡ list_all is_known parts
  pub together : stand_together (front ++ parts) ≡ stand_together parts
  pub none : no_dirs (front ++ parts) ≡ no_dirs parts
  pub dirs : dirs_among (front ++ parts) ≡ dirs_among parts

pub skipped : (front parts : List Part) → list_all is_given front ≡ true → Skipped front parts
skipped [] parts all = record { known = refl; together = refl; none = refl; dirs = refl }
skipped (Given name value ∷ front) parts all = let below = skipped front parts all in record { known = below.known; together = below.together; none = below.none; dirs = below.dirs }
skipped (Dir dir ∷ front) parts all = absurd (false≢true all)
skipped (Mark ∷ front) parts all = absurd (false≢true all)
skipped (Stray ∷ front) parts all = absurd (false≢true all)

pub skipped_line : (front parts : List Part) → list_all is_given front ≡ true → is_line (front ++ parts) ≡ is_line parts
skipped_line front parts all = let s = skipped front parts all in ap (λ b. b && stand_together (front ++ parts)) s.known ∙ ap (λ b. list_all is_known parts && b) s.together

-- parts without directories
pub record Dirless (parts : List Part) : Type 0 where
  pub follow : follow parts ≡ true
  pub together : stand_together parts ≡ true
  pub dirs : dirs_among parts ≡ []

pub dirless : (parts : List Part) → no_dirs parts ≡ true → Dirless parts
dirless [] none = record { follow = refl; together = refl; dirs = refl }
dirless (Dir dir ∷ parts) none = absurd (false≢true none)
dirless (Given name value ∷ parts) none = let below = dirless parts none in record { follow = none; together = below.together; dirs = below.dirs }
dirless (Mark ∷ parts) none = let below = dirless parts none in record { follow = none; together = below.together; dirs = below.dirs }
dirless (Stray ∷ parts) none = let below = dirless parts none in record { follow = none; together = below.together; dirs = below.dirs }

-- directories in front
pub record Named (front : List Word) (parts : List Part) : Type 0 where
  pub known : list_all is_known (map Dir front ++ parts) ≡ list_all is_known parts
  pub follow : follow (map Dir front ++ parts) ≡ follow parts
  pub dirs : dirs_among (map Dir front ++ parts) ≡ front ++ dirs_among parts
  pub values : (option : Word) → values_of option (map Dir front ++ parts) ≡ values_of option parts

pub named : (front : List Word) (parts : List Part) → Named front parts
named [] parts = record { known = refl; follow = refl; dirs = refl; values = λ option. refl }
named (dir ∷ front) parts = let below = named front parts in record { known = below.known; follow = below.follow; dirs = ap (λ ds. dir ∷ ds) below.dirs; values = below.values }

-- directories, and no further ones behind them
pub line_of_dirs : (front : List Word) (parts : List Part) → list_all is_known parts ≡ true → no_dirs parts ≡ true → (is_line (map Dir front ++ parts) ≡ true) × (dirs_among (map Dir front ++ parts) ≡ front)
line_of_dirs front parts known none =
    let n = named front parts in
    let d = dirless parts none in
    (and_from (list_all is_known (map Dir front ++ parts)) (stand_together (map Dir front ++ parts)) (n.known ∙ known) (together front), n.dirs ∙ (ap (λ ds. front ++ ds) d.dirs ∙ append-nil front))
  where
    together : (front : List Word) → stand_together (map Dir front ++ parts) ≡ true
    together [] = (dirless parts none).together
    together (dir ∷ front) = (named front parts).follow ∙ (dirless parts none).follow

-- the same behind `--`
pub marked_line : (dirs : List Word) → (is_line (Mark ∷ map Dir dirs) ≡ true) × (dirs_among (Mark ∷ map Dir dirs) ≡ dirs)
marked_line dirs = let line = line_of_dirs dirs [] refl refl in
    (subst (λ ps. is_line ps ≡ true) (append-nil (map Dir dirs)) line.0, subst (λ ps. dirs_among ps ≡ dirs) (append-nil (map Dir dirs)) line.1)

-- directories that don't stand together
pub follow_none : (parts : List Part) → begins is_dir parts ≡ false → no_dirs parts ≡ false → follow parts ≡ false
follow_none [] first none = absurd (true≢false none)
follow_none (Dir dir ∷ parts) first none = absurd (true≢false first)
follow_none (Given name value ∷ parts) first none = none
follow_none (Mark ∷ parts) first none = none
follow_none (Stray ∷ parts) first none = none

broken_line : (dir : Word) (dirs : List Word) (parts : List Part) → begins is_dir parts ≡ false → (list_all is_known parts ≡ false) ⊎ (no_dirs parts ≡ false) → is_line (map Dir (dir ∷ dirs) ++ parts) ≡ false
broken_line dir dirs parts first (inl stray) = and_left (list_all is_known (map Dir dirs ++ parts)) (follow (map Dir dirs ++ parts)) ((named dirs parts).known ∙ stray)
broken_line dir dirs parts first (inr none) = and_right (list_all is_known (map Dir dirs ++ parts)) (follow (map Dir dirs ++ parts)) ((named dirs parts).follow ∙ follow_none parts first none)

-- ---- the end of a line

pub ended : (names words : List Word) → IsEnd words → (list_all is_known (parts_of names words) ≡ true) × (no_dirs (parts_of names words) ≡ true) × ((option : Word) → values_of option (parts_of names words) ≡ [])
ended names words (inl is) = rw is (refl, refl, λ option. refl)
ended names words (inr is) = rw is (refl, refl, λ option. refl)

pub unended : (names words : List Word) → (IsEnd words → ⊥) → begins is_given (parts_of names words) ≡ false → (list_all is_known (parts_of names words) ≡ false) ⊎ (no_dirs (parts_of names words) ≡ false)
unended names [] more none = absurd (more (inl refl))
unended names (word ∷ words) more none = by words (first_of names word words) more none
  where
    by : (words : List Word) → First names word words → (IsEnd (word ∷ words) → ⊥) → begins is_given (parts_of names (word ∷ words)) ≡ false → (list_all is_known (parts_of names (word ∷ words)) ≡ false) ⊎ (no_dirs (parts_of names (word ∷ words)) ≡ false)
    by words (a_dir plain e) more none = inr (rw e refl)
    by [] (a_mark is e) more none = absurd (more (inr (ap (λ w. w ∷ []) is)))
    by (next ∷ words) (a_mark is e) more none = inr (rw e refl)
    by words (an_option name value rest among begin e) more none = let no : true ≡ false = rw e at none in absurd (true≢false no)
    by words (a_stray e) more none = inl (rw e refl)

-- words that begin with neither a directory, nor an option, nor `--`
pub stray_first : (names words : List Word) → words ≢ [] → begins is_given (parts_of names words) ≡ false → begins is_dir (parts_of names words) ≡ false → ((later : List Word) → words ≢ codes "--" ∷ later) → is_line (parts_of names words) ≡ false
stray_first names [] some option dir unmarked = absurd (some refl)
stray_first names (word ∷ words) some option no_dir unmarked = by (first_of names word words)
  where
    by : First names word words → is_line (parts_of names (word ∷ words)) ≡ false
    by (a_dir plain e) = let no : true ≡ false = rw e at no_dir in absurd (true≢false no)
    by (a_mark is e) = absurd (unmarked words (ap (λ w. w ∷ words) is))
    by (an_option name value rest among begin e) = let no : true ≡ false = rw e at option in absurd (true≢false no)
    by (a_stray e) = rw e refl

-- directories with options behind them, where the line doesn't end
pub unended_line : (names : List Word) (dir : Word) (dirs words : List Word) (given : List Part) → list_all is_given given ≡ true → begins is_dir (given ++ parts_of names words) ≡ false → begins is_given (parts_of names words) ≡ false → (IsEnd words → ⊥) → is_line (map Dir (dir ∷ dirs) ++ (given ++ parts_of names words)) ≡ false
unended_line names dir dirs words given all first option more =
    let s = skipped given (parts_of names words) all in
    broken_line dir dirs (given ++ parts_of names words) first
    (⊎_elim (λ stray. inl (s.known ∙ stray)) (λ none. inr (s.none ∙ none)) (unended names words more option))

-- a word that is no directory
pub unplain_first : (names : List Word) (word : Word) (words : List Word) → is_plain word ≡ false → begins is_dir (parts_of names (word ∷ words)) ≡ false
unplain_first names word words unplain = by (first_of names word words)
  where
    by : First names word words → begins is_dir (parts_of names (word ∷ words)) ≡ false
    by (a_dir plain e) = absurd (false≢true (sym unplain ∙ plain))
    by (a_mark is e) = rw e refl
    by (an_option name value rest among begin e) = rw e refl
    by (a_stray e) = rw e refl

-- the same of a line without options
pub plain_unread : (words dirs rest : List Word) → parts_of [] words ≡ map Dir dirs ++ parts_of [] rest → begins is_dir (parts_of [] rest) ≡ false → (dirs ≡ [] → rest ≡ words) → ((later : List Word) → words ≢ codes "--" ∷ later) → (IsEnd rest → ⊥) → is_line (parts_of [] words) ≡ false
plain_unread words [] rest parts first same unmarked more =
    let is : rest ≡ words = same refl in
    stray_first [] words (λ none. more (inl (is ∙ none))) (no_options words) (ap (begins is_dir) parts ∙ first) unmarked
plain_unread words (dir ∷ dirs) rest parts first same unmarked more = ap is_line parts ∙ unended_line [] dir dirs rest [] refl first (no_options rest) more
