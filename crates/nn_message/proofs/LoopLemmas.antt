-- A loop that reads what repeats goes along its texts.
use Rattle.std.proofs.Common.{◌≡◌, ◌≢◌, ℕ, zero, suc, ◌+◌, ◌-◌, ◌<◌, Bool, true, false, not, cond, eqb, List, [], ◌∷◌, ◌++◌, length, take, Option, Some, None, is_some, refl, sym, ap, subst, ◌∙◌, append_assoc, arith, length-append}
use Rattle.std.proofs.lemmas.Bool.{lt-ltb, le-ltb, eqb-true, eqb-false}
use Rattle.std.proofs.lemmas.List.{append-nil, take_at}
use Rattle.nn_base.specs.Paths.{Bytes}
use Rattle.nn_message.specs.Reading.{◌>>=◌, Read, Reader, Shows, is_some_byte, many_within, many, whole, ◌then◌}
use Rattle.nn_message.proofs.ManyLemmas.{Repeats}

pub takes_some : {X : Type 0} (more : Bytes → Bool) (r : Reader X) (t : X → Bytes) (P : X → Type 0) → Repeats more r t P → (bytes : Bytes) (found : X × Bytes) → r bytes ≡ Some found → length found.1 < length bytes
takes_some more r t P one bytes found e =
    let p = one.spells.exact bytes found e in
    omega (arith, ap length p.1, length-append (t found.0) found.1, one.some found.0 p.0)

bind_same : {A B : Type 0} (m : Option A) (f g : A → Option B) → ((x : A) → m ≡ Some x → f x ≡ g x) → (m >>= f) ≡ (m >>= g)
bind_same None f g same = refl
bind_same (Some x) f g same = same x refl

-- room enough is room enough
many_within_same : {X : Type 0} (more : Bytes → Bool) (r : Reader X) (t : X → Bytes) (P : X → Type 0) → Repeats more r t P
    → (j k : ℕ) (bytes : Bytes) → length bytes < j → length bytes < k → many_within j more r bytes ≡ many_within k more r bytes
unfolding many_within
many_within_same more r t P one zero k bytes fits also = absurd (omega arith)
many_within_same more r t P one (suc j) zero bytes fits also = absurd (omega arith)
many_within_same {X = X} more r t P one (suc j) (suc k) bytes fits also =
    ap (λ m. cond (more bytes) m (Some ([], bytes)))
    (bind_same (r bytes) _ _ (λ x e.
    let less = takes_some more r t P one bytes x e in
    ap (λ m. m >>= λ (xs : List X × Bytes). Some (x.0 ∷ xs.0, xs.1)) (many_within_same more r t P one j k x.1 (omega arith) (omega arith))))

abbrev pub behind : {X : Type 0} → List X → Read (List X) → Read (List X)
behind {X = X} xs read = read >>= λ (ys : List X × Bytes). Some (xs ++ ys.0, ys.1)

many_step : {X : Type 0} (more : Bytes → Bool) (r : Reader X) (t : X → Bytes) (P : X → Type 0) → Repeats more r t P
    → (bytes : Bytes) (found : X × Bytes) → more bytes ≡ true → r bytes ≡ Some found → many more r bytes ≡ behind (found.0 ∷ []) (many more r found.1)
unfolding many many_within
many_step {X = X} more r t P one bytes found some e =
    let less = takes_some more r t P one bytes found e in
    rw (some, e) (ap (λ m. m >>= λ (xs : List X × Bytes). Some (found.0 ∷ xs.0, xs.1)) (many_within_same more r t P one (length bytes) (suc (length found.1)) found.1 (omega arith) (omega arith)))

-- the loop has gone over so many of them
pub record Along {X : Type 0} (more : Bytes → Bool) (r : Reader X) (bytes rest : Bytes) (count : ℕ) : Type 0 where
  pub passed : List X
  pub many_are : length passed ≡ count
  pub so_far : many more r bytes ≡ behind passed (many more r rest)

behind_none : {X : Type 0} (read : Read (List X)) → read ≡ behind [] read
behind_none None = refl
behind_none (Some ys) = refl

behind_both : {X : Type 0} (xs ys : List X) (read : Read (List X)) → behind xs (behind ys read) ≡ behind (xs ++ ys) read
behind_both xs ys None = refl
behind_both xs ys (Some zs) = ap (λ l. Some (l, zs.1)) (sym (append_assoc xs ys zs.0))

pub Along-start : {X : Type 0} (more : Bytes → Bool) (r : Reader X) (bytes : Bytes) → Along more r bytes bytes 0
Along-start more r bytes = record { passed = []; many_are = refl; so_far = behind_none (many more r bytes) }

pub Along-step : {X : Type 0} (more : Bytes → Bool) (r : Reader X) (t : X → Bytes) (P : X → Type 0) → Repeats more r t P
    → (bytes rest after : Bytes) (x : X) (count : ℕ) → Along more r bytes rest count → more rest ≡ true → r rest ≡ Some (x, after) → Along more r bytes after (count + 1)
Along-step more r t P one bytes rest after x count along some e = record {
  passed = along.passed ++ x ∷ [];
  many_are = omega (arith, along.many_are, length-append along.passed (x ∷ []));
  so_far = along.so_far ∙ ap (behind along.passed) (many_step more r t P one rest (x, after) some e) ∙ behind_both along.passed (x ∷ []) (many more r after);
}

pub Along-end : {X : Type 0} (more : Bytes → Bool) (r : Reader X) (bytes rest : Bytes) (count : ℕ) → Along more r bytes rest count → more rest ≡ false → (xs : List X) × (length xs ≡ count) × (many more r bytes ≡ Some (xs, rest))
unfolding many many_within
Along-end more r bytes rest count along none =
    (along.passed, along.many_are, along.so_far ∙ rw none (ap (λ l. Some (l, rest)) (append-nil along.passed)))

pub Along-fail : {X : Type 0} (more : Bytes → Bool) (r : Reader X) (bytes rest : Bytes) (count : ℕ) → Along more r bytes rest count → more rest ≡ true → r rest ≡ None → many more r bytes ≡ None
unfolding many many_within
Along-fail more r bytes rest count along some none = along.so_far ∙ rw (some, none) refl

-- the same where nobody counts
abbrev pub Goes : {X : Type 0} → (Bytes → Bool) → Reader X → Bytes → Bytes → Type 0
Goes more r bytes rest = (n : ℕ) × Along more r bytes rest n

-- ---- what a call in a loop returned

pub Goes-next : {V X : Type 0} (IsView : V → X → Type 0) (more : Bytes → Bool) (r : Reader X) (t : X → Bytes) (P : X → Type 0) → Repeats more r t P
    → (bytes rest new : Bytes) (result : Option V) → is_some result ≡ true → Shows IsView result new (r rest) → more rest ≡ true → Goes more r bytes rest → Goes more r bytes new
Goes-next IsView more r t P one bytes rest new None there shows some goes = absurd cc
Goes-next IsView more r t P one bytes rest new (Some v) there shows some goes = (goes.0 + 1, Along-step more r t P one bytes rest new shows.0 goes.0 goes.1 some shows.2)

pub next_shorter : {V X : Type 0} (IsView : V → X → Type 0) (more : Bytes → Bool) (r : Reader X) (t : X → Bytes) (P : X → Type 0) → Repeats more r t P
    → (rest new : Bytes) (result : Option V) → is_some result ≡ true → Shows IsView result new (r rest) → length new < length rest
next_shorter IsView more r t P one rest new None there shows = absurd cc
next_shorter IsView more r t P one rest new (Some v) there shows = takes_some more r t P one rest (shows.0, new) shows.2

pub none_shown : {V X : Type 0} (IsView : V → X → Type 0) (result : Option V) (rest : Bytes) (read : Read X) → is_some result ≡ false → Shows IsView result rest read → read ≡ None
none_shown IsView None rest read none shows = shows
none_shown IsView (Some v) rest read none shows = absurd cc

pub some_shown : {V X : Type 0} (IsView : V → X → Type 0) (result : Option V) (rest : Bytes) (read : Read X) → is_some result ≡ true → Shows IsView result rest read → (x : X) × (read ≡ Some (x, rest))
some_shown IsView None rest read there shows = absurd cc
some_shown IsView (Some v) rest read there shows = (shows.0, shows.2)

pub Goes-none : {X : Type 0} (more : Bytes → Bool) (r : Reader X) (bytes rest : Bytes) → r rest ≡ None → more rest ≡ true → Goes more r bytes rest → many more r bytes ≡ None
Goes-none more r bytes rest none some goes = Along-fail more r bytes rest goes.0 goes.1 some none

pub Goes-end : {X : Type 0} (more : Bytes → Bool) (r : Reader X) (bytes rest : Bytes) → more rest ≡ false → Goes more r bytes rest → (xs : List X) × (many more r bytes ≡ Some (xs, rest))
Goes-end more r bytes rest none goes = let end = Along-end more r bytes rest goes.0 goes.1 none in (end.0, end.2)

pub Shows-none : {V X : Type 0} (IsView : V → X → Type 0) (result : Option V) (rest : Bytes) (read : Read X) → result ≡ None → read ≡ None → Shows IsView result rest read
Shows-none {V = V} IsView result rest read none is = subst (λ (v : Option V). Shows IsView v rest read) (sym none) is

-- the bytes that a loop has gone over
pub front_is : (bytes text rest : Bytes) → bytes ≡ text ++ rest → take (length bytes - length rest) bytes ≡ text
front_is bytes text rest e =
    let n : length text ≡ length bytes - length rest = omega (arith, ap length e, length-append text rest) in
    ap (take (length bytes - length rest)) e ∙ take_at text rest (length bytes - length rest) n

-- ---- a loop while bytes are left

pub some_left : (rest : Bytes) (empty : Bool) → empty ≡ eqb (length rest) 0 → empty ≡ false → is_some_byte rest ≡ true
some_left rest empty is left = let apart : length rest ≢ 0 = λ e. eqb-false (length rest) 0 (sym is ∙ left) e in lt-ltb 0 (length rest) (omega arith)

pub all_read : (rest : Bytes) (empty : Bool) → empty ≡ eqb (length rest) 0 → empty ≡ true → is_some_byte rest ≡ false
all_read rest empty is end = let none = eqb-true (length rest) 0 (sym is ∙ end) in le-ltb 0 (length rest) (omega arith)

-- what such a loop keeps, where the call gave something
pub loop_next : {V X : Type 0} (IsView : V → X → Type 0) (r : Reader X) (t : X → Bytes) (P : X → Type 0) → Repeats is_some_byte r t P
    → (bytes rest new : Bytes) (result : Option V) (none empty : Bool) → is_some result ≡ not none → none ≡ false → empty ≡ eqb (length rest) 0 → empty ≡ false → Shows IsView result new (r rest)
    → Goes is_some_byte r bytes rest → Goes is_some_byte r bytes new
loop_next IsView r t P one bytes rest new result none empty is there left more shows goes =
    Goes-next IsView is_some_byte r t P one bytes rest new result (is ∙ ap not there) shows (some_left rest empty left more) goes

pub loop_smaller : {V X : Type 0} (IsView : V → X → Type 0) (r : Reader X) (t : X → Bytes) (P : X → Type 0) → Repeats is_some_byte r t P
    → (rest new : Bytes) (result : Option V) (none : Bool) → is_some result ≡ not none → none ≡ false → Shows IsView result new (r rest) → length new < length rest
loop_smaller IsView r t P one rest new result none is there shows = next_shorter IsView is_some_byte r t P one rest new result (is ∙ ap not there) shows

-- where it gave nothing, the bytes aren't texts to their end
pub loop_fail : {V X : Type 0} (IsView : V → X → Type 0) (r : Reader X) (bytes rest new : Bytes) (result : Option V) (none empty : Bool) → is_some result ≡ not none → none ≡ true
    → empty ≡ eqb (length rest) 0 → empty ≡ false → Shows IsView result new (r rest) → Goes is_some_byte r bytes rest → false ≡ is_some (whole (many is_some_byte r) bytes)
loop_fail IsView r bytes rest new result none empty is there left more shows goes =
    let nothing = none_shown IsView result new (r rest) (is ∙ ap not there) shows in
    rw (Goes-none is_some_byte r bytes rest nothing (some_left rest empty left more) goes) refl

pub loop_end : {X : Type 0} (r : Reader X) (bytes rest : Bytes) (empty : Bool) → empty ≡ eqb (length rest) 0 → empty ≡ true → Goes is_some_byte r bytes rest → true ≡ is_some (whole (many is_some_byte r) bytes)
loop_end r bytes rest empty left end goes =
    let all = Goes-end is_some_byte r bytes rest (all_read rest empty left end) goes in
    rw (all.1, sym left ∙ end) refl

-- ---- what stands before what repeats

pub whole_then : {X Y : Type 0} (r : Reader X) (s : Reader Y) (bytes rest : Bytes) (x : X) → r bytes ≡ Some (x, rest) → is_some (whole s rest) ≡ is_some (whole (r then s) bytes)
whole_then {X = X} {Y = Y} r s bytes rest x e = rw e (go (s rest))
  where
    left : (b : Bool) (y : Y) (z : X × Y) → is_some (cond b (Some y) None) ≡ is_some (cond b (Some z) None)
    left true y z = refl
    left false y z = refl

    go : (m : Read Y) → is_some (m >>= λ (y : Y × Bytes). cond (eqb (length y.1) 0) (Some y.0) None) ≡ is_some ((m >>= λ (y : Y × Bytes). let z : (X × Y) × Bytes = ((x, y.0), y.1) in Some z) >>= λ (z : (X × Y) × Bytes). cond (eqb (length z.1) 0) (Some z.0) None)
    go None = refl
    go (Some y) = left (eqb (length y.1) 0) y.0 (x, y.0)
