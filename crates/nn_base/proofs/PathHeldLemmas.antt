-- What the text that keeps a path shows of its names: the first, the last and those before it.
use Rattle.std.proofs.Common.{◌≡◌, ◌≢◌, ℕ, zero, suc, ◌+◌, ◌-◌, ◌<◌, ◌≤◌, true, false, ◌==◌, [], ◌∷◌, ◌++◌, length, take, drop, get_or, refl, sym, ap, subst, ◌∙◌, arith, append-nil, length-append}
use Rattle.std.specs.Prelude.{All}
use Rattle.std.specs.List.{position_or_len, list_any}
use Rattle.std.proofs.lemmas.Bool.{or_parts, or_right, eq-eqb, ne_eqb, true≢false}
use Rattle.std.proofs.lemmas.List.{take_more, take_all, append_assoc, length-take-le, length-drop, get_or-drop}
use Rattle.std.proofs.lemmas.List.Folds.{list_any_none}
use Rattle.std.proofs.lemmas.List.Elements.{All-nil, All-head, All-tail, All-get_or, All-from_get_or}
use Rattle.std.proofs.Math.Seq.{take-append_seam, drop-append_seam, drop-append-add}
use Rattle.nn_base.specs.Paths.{Names, Bytes, IsPath, is_name, has_slash, joined, text_of}
use Rattle.nn_base.specs.PathText.{parts, parts_of}
use Rattle.nn_base.specs.PathHeld.{HoldsNames, HoldsPath, is_slash}
use Rattle.nn_base.proofs.PathTextLemmas.{IsNamed, IsWhole, name_is_whole, parts_of-joined}
use Rattle.nn_base.proofs.PathsLemmas.{take_is_path}

-- ---- whole texts

pub root_is : parts_of [] ≡ []
unfolding parts
root_is = refl

pub root_is_path : IsPath []
root_is_path = record { named = All-nil IsNamed; levels = omega arith; size = omega arith }

pub root_held : HoldsPath [] 0
root_held = record {
  path = subst IsPath (sym root_is) root_is_path;
  spelled = ap joined root_is;
  levels = sym (ap length root_is);
}

pub joined_held : (names : Names) → IsPath names → HoldsPath (joined names) (length names)
joined_held names is =
    let e = parts_of-joined names is.named in
    record { path = subst IsPath (sym e) is; spelled = ap joined e; levels = sym (ap length e) }

pub names_held : (text : Bytes) (depth : ℕ) → HoldsPath text depth → HoldsNames text
names_held text depth h = let is = h.path in record { named = is.named; spelled = h.spelled }

pub text_joined : (names : Names) → 0 < length names → text_of names ≡ joined names
text_joined [] some = absurd (omega arith)
text_joined (name ∷ rest) some = refl

pub text_root : (names : Names) → length names ≡ 0 → text_of names ≡ 47 ∷ []
text_root [] none = refl
text_root (name ∷ rest) none = absurd (omega arith)

-- ---- the first name

first_len : (x : Bytes) (more : Names) → IsWhole x → position_or_len is_slash (x ++ joined more) ≡ length x
first_len [] [] whole = refl
first_len [] (y ∷ more) whole = refl
first_len (b ∷ x) more whole =
    let e = or_parts (b == 47) (has_slash x) whole in
    let rest = first_len x more e.1 in
    rw (e.0, rest) (omega arith)

-- names without the first, where text stands behind the first slash
pub record IsTaken (rest text : Bytes) (len : ℕ) : Type 0 where
  pub names : parts_of rest ≡ take len text ∷ parts_of (drop len text)
  pub held : HoldsNames (drop len text)
  pub name : is_name (take len text) ≡ true
  pub within : len ≤ length text

taken_of : (rest text x : Bytes) (more : Names) → HoldsNames rest → parts_of rest ≡ x ∷ more → text ≡ drop 1 rest → IsTaken rest text (length x)
taken_of rest text x more h e is =
    let named : All IsNamed (x ∷ more) = subst (λ (ns : Names). All IsNamed ns) e h.named in
    let whole : text ≡ x ++ joined more = is ∙ ap (drop 1) (sym h.spelled ∙ ap joined e) in
    let left = parts_of-joined more (All-tail IsNamed x more named) in
    let front : take (length x) text ≡ x = ap (take (length x)) whole ∙ take-append_seam x (joined more) in
    let back : drop (length x) text ≡ joined more = ap (drop (length x)) whole ∙ drop-append_seam x (joined more) in
    record {
      names = e ∙ ap (λ n. n ∷ more) (sym front) ∙ ap (λ ns. take (length x) text ∷ ns) (sym (ap parts_of back ∙ left));
      held = subst HoldsNames (sym back) (record { named = subst (λ (ns : Names). All IsNamed ns) (sym left) (All-tail IsNamed x more named); spelled = ap joined left });
      name = subst IsNamed (sym front) (All-head IsNamed x more named);
      within = omega (arith, ap length whole, length-append x (joined more));
    }

pub taken : (rest text : Bytes) (len : ℕ) → HoldsNames rest → 0 < length (parts_of rest) → text ≡ drop 1 rest → len ≡ position_or_len is_slash text → IsTaken rest text len
taken rest text len h some is long = by (parts_of rest) refl some
  where
    by : (names : Names) → parts_of rest ≡ names → 0 < length names → IsTaken rest text len
    by [] e some = absurd (omega arith)
    by (x ∷ more) e some =
        let named : All IsNamed (x ∷ more) = subst (λ (ns : Names). All IsNamed ns) e h.named in
        let whole : text ≡ x ++ joined more = is ∙ ap (drop 1) (sym h.spelled ∙ ap joined e) in
        let same : len ≡ length x = long ∙ ap (position_or_len is_slash) whole ∙ first_len x more (name_is_whole x (All-head IsNamed x more named)) in
        subst (λ (n : ℕ). IsTaken rest text n) (sym same) (taken_of rest text x more h e is)

pub some_slash : (rest : Bytes) → HoldsNames rest → 0 < length (parts_of rest) → 1 ≤ length rest
some_slash rest h some = by (parts_of rest) refl some
  where
    by : (names : Names) → parts_of rest ≡ names → 0 < length names → 1 ≤ length rest
    by [] e some = absurd (omega arith)
    by (x ∷ more) e some = omega (arith, ap length (sym h.spelled ∙ ap joined e))

-- ---- the last name

-- no slash stands from a place on
pub none_behind : (text : Bytes) (n : ℕ) → ((k : ℕ) → n ≤ k → k < length text → get_or text k 0 ≢ 47) → has_slash (drop n text) ≡ false
none_behind text n reads =
    list_any_none (λ b. b == 47) (drop n text) (All-from_get_or (λ b. (b == 47) ≡ false) (drop n text) 0 (λ k inside. subst (λ (b : ℕ). (b == 47) ≡ false) (sym (get_or-drop n text k 0)) (ne_eqb _ 47 (reads (n + k) (omega arith) (omega (arith, length-drop n text))))))

slash_in : (front x : Bytes) → has_slash (front ++ 47 ∷ x) ≡ true
slash_in [] x = refl
slash_in (b ∷ front) x = or_right (b == 47) (has_slash (front ++ 47 ∷ x)) (slash_in front x)

no_slash_at : (x : Bytes) (k : ℕ) → IsWhole x → get_or x k 0 ≡ 47 → ⊥
no_slash_at [] k whole e = absurd cc
no_slash_at (b ∷ x) zero whole e = let p = or_parts (b == 47) (has_slash x) whole in true≢false (sym (eq-eqb b 47 e) ∙ p.0)
no_slash_at (b ∷ x) (suc k) whole e = let p = or_parts (b == 47) (has_slash x) whole in no_slash_at x k p.1 e

last_at : (front x : Bytes) (n : ℕ) → IsWhole x → has_slash (drop n (front ++ 47 ∷ x)) ≡ false → (0 < n → get_or (front ++ 47 ∷ x) (n - 1) 0 ≡ 47) → n ≡ length front + 1
last_at front x zero whole none slash = absurd (true≢false (sym (slash_in front x) ∙ none))
last_at [] x (suc zero) whole none slash = refl
last_at [] x (suc (suc k)) whole none slash =
    let e : suc (suc k) - 1 ≡ suc k = omega arith in
    absurd (no_slash_at x k whole (subst (λ (n : ℕ). get_or (47 ∷ x) n 0 ≡ 47) e (slash (omega arith))))
last_at (b ∷ front) x (suc zero) whole none slash = absurd (true≢false (sym (slash_in front x) ∙ none))
last_at (b ∷ front) x (suc (suc k)) whole none slash =
    let e : suc (suc k) - 1 ≡ suc (suc k - 1) = omega arith in
    let more = last_at front x (suc k) whole none (λ _. subst (λ (n : ℕ). get_or (b ∷ (front ++ 47 ∷ x)) n 0 ≡ 47) e (slash (omega arith))) in
    omega arith

pub joined_last : (front : Names) (x : Bytes) → joined (front ++ x ∷ []) ≡ joined front ++ 47 ∷ x
joined_last [] x = ap (λ t. 47 ∷ t) (append-nil x)
joined_last (y ∷ front) x =
    ap (λ t. 47 ∷ y ++ t) (joined_last front x) ∙ ap (λ t. 47 ∷ t) (sym (append_assoc y (joined front) (47 ∷ x)))

-- the text of a path, cut before its last name
pub record IsCut (text : Bytes) (depth start : ℕ) : Type 0 where
  pub some : 0 < start
  pub name : is_name (drop start text) ≡ true
  pub names : parts_of text ≡ take (length (parts_of text) - 1) (parts_of text) ++ drop start text ∷ []
  pub above : parts_of (take (start - 1) text) ≡ take (length (parts_of text) - 1) (parts_of text)
  pub held : HoldsPath (take (start - 1) text) (depth - 1)

pub cut : (text : Bytes) (depth start : ℕ) → HoldsPath text depth → 0 < length (parts_of text) → has_slash (drop start text) ≡ false → (0 < start → get_or text (start - 1) 0 ≡ 47) → IsCut text depth start
cut text depth start h some whole slash = record {
  some = omega (arith, at);
  name = subst IsNamed (sym back) last;
  names = all ∙ ap (λ n. take m names ++ n ∷ []) (sym back);
  above = ap parts_of up ∙ over;
  held = record {
    path = subst IsPath (sym (ap parts_of up ∙ over)) (take_is_path m names h.path);
    spelled = ap joined (ap parts_of up ∙ over) ∙ sym up;
    levels = let d = h.levels in let e = ap length (ap parts_of up ∙ over) in omega (arith, length-take-le m names (omega arith));
  };
}
  where
    names : Names
    names = parts_of text

    m : ℕ
    m = length names - 1

    x : Bytes
    x = get_or names m []

    all : names ≡ take m names ++ x ∷ []
    all = let e : m + 1 ≡ length names = omega arith in sym (take_all (m + 1) names (omega (arith, e))) ∙ take_more names m [] (omega arith)

    last : IsNamed x
    last = All-get_or IsNamed names m [] (omega arith) (let is = h.path in is.named)

    is : text ≡ joined (take m names) ++ 47 ∷ x
    is = sym h.spelled ∙ ap joined all ∙ joined_last (take m names) x

    at : start ≡ length (joined (take m names)) + 1
    at = last_at (joined (take m names)) x start (name_is_whole x last) (subst (λ (t : Bytes). has_slash (drop start t) ≡ false) is whole) (λ s. subst (λ (t : Bytes). get_or t (start - 1) 0 ≡ 47) is (slash s))

    back : drop start text ≡ x
    back = ap (λ n. drop n text) at ∙ ap (drop (length (joined (take m names)) + 1)) is ∙ drop-append-add (joined (take m names)) (47 ∷ x) 1

    up : take (start - 1) text ≡ joined (take m names)
    up = let e : start - 1 ≡ length (joined (take m names)) = omega (arith, at) in ap (λ n. take n text) e ∙ ap (take (length (joined (take m names)))) is ∙ take-append_seam (joined (take m names)) (47 ∷ x)

    over : parts_of (joined (take m names)) ≡ take m names
    over = let front = take_is_path m names h.path in parts_of-joined (take m names) front.named
