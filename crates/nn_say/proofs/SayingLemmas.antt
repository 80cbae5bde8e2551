-- Texts in pieces, and runs that say them.
use Rattle.std.proofs.Common.{◌≡◌, inl, inr, ⊎_elim, ℕ, zero, suc, ◌+◌, ◌-◌, ◌*◌, ◌/◌, ◌<◌, ◌≤◌, true, false, ◌==◌, List, [], ◌∷◌, ◌++◌, length, take, drop, Result, Ok, Err, length-append, length-drop, append_assoc, sym, ap, ◌∙◌, refl, subst, arith}
use Rattle.std.specs.Prelude.{IsErr, codes}
use Rattle.std.specs.List.{All, concat, join_with_byte}
use Rattle.std.proofs.Math.Seq.{take-append-add}
use Rattle.std.proofs.lemmas.Bool.{eqb-true, cases_lt}
use Rattle.std.proofs.lemmas.List.{append-nil, map-append, take-append-drop, take-append-le, take_all, take_at, drop_at, length-take}
use Rattle.std.proofs.lemmas.List.Elements.{All-nil, All-cons, All-head, All-tail, All-append}
use Rattle.nn_base.specs.Paths.{Bytes}
use Rattle.nn_host.specs.Disk.{Reads}
use Rattle.nn_host.specs.Moments.{State, Dir, Say}
use Rattle.nn_host.specs.Calls.{Spoke, next_count, most_said}
use Rattle.nn_host.specs.Runs.{AllAnswered, Throughout}
use Rattle.nn_host.specs.declared.host.Failed.{Failed}
use Rattle.nn_host.proofs.WorkLemmas.{throughout_said}
use Rattle.nn_host.proofs.RunsLemmas.{throughout_refl, throughout_trans, throughout_both, throughout_weaker, said_front, untouched_trans, untouched_spoke, silent_after, silent_spoke, all_answered_refl, all_answered_trans, all_answered_spoke}
use Rattle.nn_script.specs.declared.answer.Answer.{Answer}
use Rattle.nn_script.specs.Spelling.{answer_text, answer_words}
use Rattle.nn_say.specs.Saying.{first_pieces, pieces_of, SaysFronts, OutFailed, CutOff, SaysAll, BreaksOff, Says, Streams, Puts}
use Rattle.nn_say.proofs.RecordsLemmas.{records_nothing, records_none, records_then, records_as, records_call, spoke_records}

pub no_bytes : (bytes : Bytes) → length bytes ≡ 0 → bytes ≡ []
no_bytes [] e = refl
no_bytes (byte ∷ bytes) e = absurd (omega (arith, e))

-- ---- pieces

pub concat-append : (xs ys : List Bytes) → concat (xs ++ ys) ≡ concat xs ++ concat ys
concat-append [] ys = refl
concat-append (x ∷ xs) ys = ap (λ rest. x ++ rest) (concat-append xs ys) ∙ sym (append_assoc x (concat xs) (concat ys))

pub pieces_none : pieces_of [] ≡ []
unfolding pieces_of
pieces_none = refl

pub pieces_one : (text : Bytes) → 0 < length text → length text ≤ most_said → pieces_of text ≡ text ∷ []
unfolding pieces_of
pieces_one text some fits =
    let count : (length text + (most_said - 1)) / most_said ≡ 1 = omega arith in
    ap (λ k. first_pieces k text) count ∙ ap (λ piece. piece ∷ []) (take_all most_said text fits)

pub pieces_full : (piece rest : Bytes) → length piece ≡ most_said → pieces_of (piece ++ rest) ≡ piece ∷ pieces_of rest
unfolding pieces_of
pieces_full piece rest full =
    let count : (length (piece ++ rest) + (most_said - 1)) / most_said ≡ suc ((length rest + (most_said - 1)) / most_said) = omega (arith, length-append piece rest, full) in
    ap (λ k. first_pieces k (piece ++ rest)) count
    ∙ (λ i. take_at piece rest most_said full i ∷ first_pieces ((length rest + (most_said - 1)) / most_said) (drop_at piece rest most_said full i))

pub pieces_behind : (pieces : List Bytes) (rest : Bytes) → All (λ piece. length piece ≡ most_said) pieces → pieces_of (concat pieces ++ rest) ≡ pieces ++ pieces_of rest
pieces_behind [] rest full = refl
pieces_behind (piece ∷ pieces) rest full =
    ap pieces_of (append_assoc piece (concat pieces) rest)
    ∙ pieces_full piece (concat pieces ++ rest) (All-head (λ x. length x ≡ most_said) piece pieces full)
    ∙ ap (λ x. piece ∷ x) (pieces_behind pieces rest (All-tail (λ x. length x ≡ most_said) piece pieces full))

concat_first : (k : ℕ) (text : Bytes) → length text ≤ k * most_said → concat (first_pieces k text) ≡ text
concat_first zero text fits = sym (no_bytes text (omega (arith, fits)))
concat_first (suc k) text fits =
    ap (λ rest. take most_said text ++ rest) (concat_first k (drop most_said text) (omega (arith, fits, length-drop most_said text))) ∙ take-append-drop most_said text

pub concat_pieces : (text : Bytes) → concat (pieces_of text) ≡ text
unfolding pieces_of
concat_pieces text = concat_first ((length text + (most_said - 1)) / most_said) text (omega arith)

within_first : (k : ℕ) (text : Bytes) → All (λ piece. length piece ≤ most_said) (first_pieces k text)
within_first zero text = All-nil (λ piece. length piece ≤ most_said)
within_first (suc k) text =
    All-cons (λ piece. length piece ≤ most_said) (take most_said text) (first_pieces k (drop most_said text)) (omega (arith, length-take most_said text)) (within_first k (drop most_said text))

pub pieces_within : (text : Bytes) → All (λ piece. length piece ≤ most_said) (pieces_of text)
unfolding pieces_of
pieces_within text = within_first ((length text + (most_said - 1)) / most_said) text

-- ---- an output that fails

out_failed_once : {T E told : Type 0} {bytes : Bytes} {old new : State} {e : E} → Spoke {T = T} {E = E} told bytes old new (Err e) → OutFailed told old new
out_failed_once spoke = record {
  untouched = untouched_spoke spoke;
  silent = silent_spoke spoke;
  faults = λ j. ap (λ (f : ℕ → Dir). (f j).faults) spoke.dirs;
  out_faults = spoke.counted_err;
  reads = λ tells j. ap (λ (f : ℕ → Reads). f j) spoke.reads;
}

out_failed_after : {told : Type 0} {a b c : State} → AllAnswered told a b → OutFailed told b c → OutFailed told a c
out_failed_after p q = record {
  untouched = untouched_trans p.untouched q.untouched;
  silent = silent_after p.out q.silent;
  faults = λ j. q.faults j ∙ p.faults j;
  out_faults = q.out_faults ∙ ap next_count p.out_faults;
  reads = λ tells j. q.reads tells j ∙ p.reads tells j;
}

-- ---- fronts of a text, at each moment

says_none_of : {told : Type 0} {a : State} (text : Bytes) → SaysFronts told a a text
says_none_of {a = a} text = throughout_refl (λ tells. (refl, 0, sym (append-nil a.now.said)))

-- a front of a text is one of a longer text
front_longer : (n : ℕ) (text more : Bytes) → (k : ℕ) × (take n text ≡ take k (text ++ more))
front_longer n text more = elim (cases_lt (length text) n) [
  | inl past ↦ (length text, take_all n text (omega arith) ∙ sym (take_at text more (length text) refl))
  | inr within ↦ (n, sym (take-append-le n text more (omega arith)))
]

fronts_more : {told : Type 0} {a b : State} (p more : List Bytes) → SaysFronts told a b (concat p) → SaysFronts told a b (concat (p ++ more))
fronts_more {a = a} p more fronts = throughout_weaker fronts (λ tells m is.
    let longer = front_longer is.1 (concat p) (concat more) in
    (is.0, longer.0, is.2 ∙ ap (λ x. a.now.said ++ x) (longer.1 ∙ ap (take longer.0) (sym (concat-append p more)))))

-- behind a whole text
fronts_behind : {told : Type 0} (a b c : State) (p q : List Bytes) → (told → b.now.dirs ≡ a.now.dirs) → (told → b.now.said ≡ a.now.said ++ concat p) → SaysFronts told b c (concat q)
    → Throughout told b c (λ m. (m.dirs ≡ a.now.dirs) × (n : ℕ) × (m.said ≡ a.now.said ++ take n (concat (p ++ q))))
fronts_behind a b c p q same said fronts = throughout_weaker fronts (λ tells m is. (
  is.0 ∙ same tells,
  length (concat p) + is.1,
  is.2 ∙ ap (λ x. x ++ take is.1 (concat q)) (said tells) ∙ append_assoc a.now.said (concat p) (take is.1 (concat q))
      ∙ ap (λ x. a.now.said ++ x) (sym (take-append-add (concat p) (concat q) is.1) ∙ ap (take (length (concat p) + is.1)) (sym (concat-append p q))),
))

fronts_then : {told : Type 0} {a b c : State} (p q : List Bytes) → SaysFronts told a b (concat p) → (told → b.now.said ≡ a.now.said ++ concat p) → SaysFronts told b c (concat q) → SaysFronts told a c (concat (p ++ q))
fronts_then {a = a} {b = b} {c = c} p q first said second = throughout_trans (fronts_more p q first) (fronts_behind a b c p q (λ tells. (first.ends tells).0) said second)

fronts_once : {T E told : Type 0} {bytes : Bytes} {old new : State} {result : Result T E} → Spoke told bytes old new result → SaysFronts told old new (concat (bytes ∷ []))
fronts_once {bytes = bytes} {old = old} spoke = throughout_weaker (throughout_both (throughout_said spoke) (said_front spoke)) (λ tells m is. (is.0, is.1.0, is.1.1 ∙ ap (λ x. old.now.said ++ take is.1.0 x) (sym (append-nil bytes))))

-- ---- pieces that are said

pub says_nothing : {told : Type 0} {a : State} → SaysAll told a a []
says_nothing {a = a} = record { fronts = says_none_of []; answered = all_answered_refl; said = λ tells. sym (append-nil a.now.said); calls = λ tells. records_nothing }

pub says_then : {told : Type 0} {a b c : State} {p q : List Bytes} → SaysAll told a b p → SaysAll told b c q → SaysAll told a c (p ++ q)
says_then {a = a} {p = p} {q = q} first second = record {
  fronts = fronts_then p q first.fronts first.said second.fronts;
  answered = all_answered_trans first.answered second.answered;
  said = λ tells. second.said tells ∙ ap (λ x. x ++ concat q) (first.said tells) ∙ append_assoc a.now.said (concat p) (concat q) ∙ ap (λ x. a.now.said ++ x) (sym (concat-append p q));
  calls = λ tells. records_as (records_then (first.calls tells) (second.calls tells)) (sym (map-append Say p q));
}

says_once : {T E told : Type 0} {bytes : Bytes} {old new : State} {v : T} → Spoke {T = T} {E = E} told bytes old new (Ok v) → SaysAll told old new (bytes ∷ [])
says_once {bytes = bytes} {old = old} spoke = record {
  fronts = fronts_once spoke;
  answered = all_answered_spoke spoke;
  said = λ tells. (spoke.ok tells).said ∙ ap (λ x. old.now.said ++ x) (sym (append-nil bytes));
  calls = λ tells. spoke_records spoke tells;
}

-- ---- pieces over which the output fails

cut_after : (p : List Bytes) {q : List Bytes} {text : Bytes} {asked : List Bytes} → CutOff q text asked → CutOff (p ++ q) (concat p ++ text) (p ++ asked)
cut_after p cut = record {
  whole = p ++ cut.whole;
  broken = cut.broken;
  rest = cut.rest;
  are = ap (λ x. p ++ x) cut.are ∙ sym (append_assoc p cut.whole (cut.broken ∷ cut.rest));
  went = ⊎_elim
      (λ (some : (n : ℕ) × (_ ≡ concat cut.whole ++ take n cut.broken) × (_ ≡ cut.whole ++ cut.broken ∷ [])). inl (
        some.0,
        ap (λ x. concat p ++ x) some.1 ∙ sym (append_assoc (concat p) (concat cut.whole) (take some.0 cut.broken)) ∙ ap (λ x. x ++ take some.0 cut.broken) (sym (concat-append p cut.whole)),
        ap (λ x. p ++ x) some.2 ∙ sym (append_assoc p cut.whole (cut.broken ∷ [])),
      ))
      (λ (none : (_ ≡ concat cut.whole) × (_ ≡ cut.whole)). inr (ap (λ x. concat p ++ x) none.0 ∙ sym (concat-append p cut.whole), ap (λ x. p ++ x) none.1))
      cut.went;
}

cut_more : {p : List Bytes} {text : Bytes} {asked : List Bytes} (more : List Bytes) → CutOff p text asked → CutOff (p ++ more) text asked
cut_more more cut = record { whole = cut.whole; broken = cut.broken; rest = cut.rest ++ more; are = ap (λ x. x ++ more) cut.are ∙ append_assoc cut.whole (cut.broken ∷ cut.rest) more; went = cut.went }

-- what went out is a front of them
pub cut_front : {p : List Bytes} {text : Bytes} {asked : List Bytes} → CutOff p text asked → (later : Bytes) × (concat p ≡ text ++ later)
cut_front {p} {text} cut = ⊎_elim
    (λ (some : (n : ℕ) × (text ≡ concat cut.whole ++ take n cut.broken) × (_ ≡ cut.whole ++ cut.broken ∷ [])). (
      drop some.0 cut.broken ++ concat cut.rest,
      all ∙ ap (λ x. concat cut.whole ++ (x ++ concat cut.rest)) (sym (take-append-drop some.0 cut.broken))
          ∙ ap (λ x. concat cut.whole ++ x) (append_assoc (take some.0 cut.broken) (drop some.0 cut.broken) (concat cut.rest))
          ∙ sym (append_assoc (concat cut.whole) (take some.0 cut.broken) (drop some.0 cut.broken ++ concat cut.rest))
          ∙ ap (λ x. x ++ (drop some.0 cut.broken ++ concat cut.rest)) (sym some.1),
    ))
    (λ (none : (text ≡ concat cut.whole) × (_ ≡ cut.whole)). (cut.broken ++ concat cut.rest, all ∙ ap (λ x. x ++ (cut.broken ++ concat cut.rest)) (sym none.0)))
    cut.went
  where
    all : concat p ≡ concat cut.whole ++ (cut.broken ++ concat cut.rest)
    all = ap concat cut.are ∙ concat-append cut.whole (cut.broken ∷ cut.rest)

breaks_once : {T E told : Type 0} {bytes : Bytes} {old new : State} {e : E} → Spoke {T = T} {E = E} told bytes old new (Err e) → BreaksOff told old new (bytes ∷ [])
breaks_once {bytes = bytes} {old = old} spoke = record {
  fronts = fronts_once spoke;
  failed = out_failed_once spoke;
  cut = λ tells. ⊎_elim
      (λ cut. (take cut.said.0 bytes, bytes ∷ [], record { whole = []; broken = bytes; rest = []; are = refl; went = inl (cut.said.0, refl, refl) }, cut.said.1, records_call cut.recorded))
      (λ unsaid. ([], [], record { whole = []; broken = bytes; rest = []; are = refl; went = inr (refl, refl) }, unsaid.said ∙ sym (append-nil old.now.said), records_none unsaid.unrecorded))
      (spoke.err tells);
}

pub breaks_after : {told : Type 0} {a b c : State} {p q : List Bytes} → SaysAll told a b p → BreaksOff told b c q → BreaksOff told a c (p ++ q)
breaks_after {a = a} {p = p} {q = q} first second = record {
  fronts = fronts_then p q first.fronts first.said second.fronts;
  failed = out_failed_after first.answered second.failed;
  cut = λ tells. let cut = second.cut tells in (
    concat p ++ cut.0,
    p ++ cut.1,
    cut_after p cut.2,
    cut.3 ∙ ap (λ x. x ++ cut.0) (first.said tells) ∙ append_assoc a.now.said (concat p) cut.0,
    records_as (records_then (first.calls tells) cut.4) (sym (map-append Say p cut.1)),
  );
}

pub breaks_more : {told : Type 0} {a b : State} {p : List Bytes} (more : List Bytes) → BreaksOff told a b p → BreaksOff told a b (p ++ more)
breaks_more {p = p} more broken = record { fronts = fronts_more p more broken.fronts; failed = broken.failed; cut = λ tells. let cut = broken.cut tells in (cut.0, cut.1, cut_more more cut.2, cut.3, cut.4) }

-- a text that one call takes
pub says_text : {told : Type 0} {old new : State} (text : Bytes) (result : Result (Unit {0}) Failed) → 0 < length text → length text ≤ most_said → Spoke told text old new result → Says told old new text result
says_text {told} {old} {new} text (Ok v) some fits spoke = subst (λ (pieces : List Bytes). SaysAll told old new pieces) (sym (pieces_one text some fits)) (says_once spoke)
says_text {told} {old} {new} text (Err e) some fits spoke = subst (λ (pieces : List Bytes). BreaksOff told old new pieces) (sym (pieces_one text some fits)) (breaks_once spoke)

-- no answer is empty
pub some_answer : (answer : Answer) → 0 < length (answer_text answer)
some_answer answer = omega (arith, length-append (join_with_byte 32 (answer_words answer)) (codes "\n"))

-- an empty text
pub says_none : {told : Type 0} {a : State} (text : Bytes) → text ≡ [] → SaysAll told a a (pieces_of text)
says_none {told} {a} text none = subst (λ (pieces : List Bytes). SaysAll told a a pieces) (sym (ap pieces_of none ∙ pieces_none)) says_nothing

-- ---- texts that wait

pub streams_waiting : {told : Type 0} {a : State} (before text after : Bytes) → after ≡ before ++ text → Streams told a a before text after
streams_waiting before text after e = record { pieces = []; full = All-nil (λ piece. length piece ≡ most_said); says = says_nothing; bytes = sym e }

-- the front of a text fills a piece, which is handed to the output
pub puts_full : {told : Type 0} {old new : State} (before text front rest piece after : Bytes) (result : Result (Unit {0}) Failed) → text ≡ front ++ rest → piece ≡ before ++ front → length piece ≡ most_said → after ≡ rest
    → Spoke told piece old new result → Puts told old new before text after result
puts_full before text front rest piece after (Ok v) cut whole full left spoke = record {
  pieces = piece ∷ [];
  full = All-cons (λ x. length x ≡ most_said) piece [] full (All-nil (λ x. length x ≡ most_said));
  says = says_once spoke;
  bytes = ap (λ x. before ++ x) cut ∙ sym (append_assoc before front rest) ∙ (λ i. sym whole i ++ sym left i) ∙ ap (λ x. x ++ after) (sym (append-nil piece));
}
puts_full {told} {old} {new} before text front rest piece after (Err e) cut whole full left spoke = λ more.
    let is : (before ++ text) ++ more ≡ piece ++ (rest ++ more) =
    ap (λ x. (before ++ x) ++ more) cut ∙ ap (λ x. x ++ more) (sym (append_assoc before front rest) ∙ ap (λ x. x ++ rest) (sym whole)) ∙ append_assoc piece rest more in
    subst (λ (pieces : List Bytes). BreaksOff told old new pieces) (sym (ap pieces_of is ∙ pieces_full piece (rest ++ more) full)) (breaks_more (pieces_of (rest ++ more)) (breaks_once spoke))

-- nothing was put
pub streams_nothing : {told : Type 0} {a : State} (before text : Bytes) → text ≡ [] → Streams told a a before text before
streams_nothing before text none = streams_waiting before text before (sym (ap (λ x. before ++ x) none ∙ append-nil before))

joins : (before t1 mid t2 : Bytes) (pieces : List Bytes) → before ++ t1 ≡ concat pieces ++ mid → before ++ (t1 ++ t2) ≡ concat pieces ++ (mid ++ t2)
joins before t1 mid t2 pieces e = sym (append_assoc before t1 t2) ∙ ap (λ x. x ++ t2) e ∙ append_assoc (concat pieces) mid t2

-- one text behind another
pub streams_then : {told : Type 0} {a b c : State} {before t1 mid t2 after text : Bytes} → Streams told a b before t1 mid → Streams told b c mid t2 after → text ≡ t1 ++ t2 → Streams told a c before text after
streams_then {before = before} {t1} {mid} {t2} {after} first second is = record {
  pieces = first.pieces ++ second.pieces;
  full = All-append (λ piece. length piece ≡ most_said) first.pieces second.pieces first.full second.full;
  says = says_then first.says second.says;
  bytes = ap (λ x. before ++ x) is ∙ joins before t1 mid t2 first.pieces first.bytes ∙ ap (λ x. concat first.pieces ++ x) second.bytes ∙ sym (append_assoc (concat first.pieces) (concat second.pieces) after)
      ∙ ap (λ x. x ++ after) (sym (concat-append first.pieces second.pieces));
}

-- the output failed over the second one
pub breaks_then : {told : Type 0} {a b c : State} {before t1 mid : Bytes} (t2 text : Bytes) → Streams told a b before t1 mid → ((more : Bytes) → BreaksOff told b c (pieces_of ((mid ++ t2) ++ more))) → text ≡ t1 ++ t2
    → (more : Bytes) → BreaksOff told a c (pieces_of ((before ++ text) ++ more))
breaks_then {told} {a} {c = c} {before} {t1} {mid} t2 text first second is more = subst (λ (pieces : List Bytes). BreaksOff told a c pieces)
    (sym (ap pieces_of (ap (λ x. (before ++ x) ++ more) is ∙ ap (λ x. x ++ more) (joins before t1 mid t2 first.pieces first.bytes) ∙ append_assoc (concat first.pieces) (mid ++ t2) more)
    ∙ pieces_behind first.pieces ((mid ++ t2) ++ more) first.full))
    (breaks_after first.says (second more))

pub puts_then : {T told : Type 0} {a b : State} (c : State) {before t1 mid text : Bytes} (t2 after : Bytes) (result : Result T Failed) → Streams told a b before t1 mid → Puts told b c mid t2 after result → text ≡ t1 ++ t2 → Puts told a c before text after result
puts_then c t2 after (Ok v) first second is = streams_then first second is
puts_then c {text = text} t2 after (Err e) first second is = breaks_then t2 text first second is

-- a text over the front of which the output failed
pub puts_broken : {told : Type 0} {a b : State} (before front rest text : Bytes) → ((more : Bytes) → BreaksOff told a b (pieces_of ((before ++ front) ++ more))) → text ≡ front ++ rest
    → (more : Bytes) → BreaksOff told a b (pieces_of ((before ++ text) ++ more))
puts_broken {told} {a} {b} before front rest text broken is more = subst (λ (x : Bytes). BreaksOff told a b (pieces_of x))
    (sym (ap (λ x. (before ++ x) ++ more) is ∙ ap (λ x. x ++ more) (sym (append_assoc before front rest)) ∙ append_assoc (before ++ front) rest more)) (broken (rest ++ more))

-- a failed call is handed on
pub puts_failed : {T told : Type 0} {a b : State} (before text after : Bytes) (result : Result T Failed) → IsErr result → ((more : Bytes) → BreaksOff told a b (pieces_of ((before ++ text) ++ more))) → Puts told a b before text after result
puts_failed before text after (Ok v) failed broken = absurd (cc failed)
puts_failed before text after (Err e) failed broken = broken

-- ---- a text whose end is said

pub says_failed : {told : Type 0} {a b : State} (before text : Bytes) (result : Result (Unit {0}) Failed) → IsErr result → before ≡ [] → ((more : Bytes) → BreaksOff told a b (pieces_of ((before ++ text) ++ more))) → Says told a b text result
says_failed before text (Ok v) failed none broken = absurd (cc failed)
says_failed {told} {a} {b} before text (Err e) failed none broken = subst (λ (x : Bytes). BreaksOff told a b (pieces_of x)) (ap (λ x. (x ++ text) ++ []) none ∙ append-nil text) (broken [])

pub says_rest : {told : Type 0} {a b : State} (c : State) {before text rest : Bytes} (result : Result (Unit {0}) Failed) → before ≡ [] → Streams told a b before text rest → Says told b c rest result → Says told a c text result
says_rest {told} {a} {b} c {before} {text} {rest} result none streams = by result
  where
    pieces : pieces_of text ≡ streams.pieces ++ pieces_of rest
    pieces = ap pieces_of (sym (ap (λ x. x ++ text) none) ∙ streams.bytes) ∙ pieces_behind streams.pieces rest streams.full

    by : (r : Result (Unit {0}) Failed) → Says told b c rest r → Says told a c text r
    by (Ok v) says = subst (λ (x : List Bytes). SaysAll told a c x) (sym pieces) (says_then streams.says says)
    by (Err e) says = subst (λ (x : List Bytes). BreaksOff told a c x) (sym pieces) (breaks_after streams.says says)

-- the same text, spelled in another way
pub puts_as : {T : Type 0} (told : Type 0) (a b : State) (before text again after : Bytes) (result : Result T Failed) → text ≡ again → Puts told a b before text after result → Puts told a b before again after result
puts_as told a b before text again after result is puts = subst (λ (x : Bytes). Puts told a b before x after result) is puts

not_zero : (n : ℕ) → (n == 0) ≡ false → 0 < n
not_zero zero e = absurd (cc e)
not_zero (suc n) e = omega arith

pub some_bytes : (bytes : Bytes) (n : ℕ) → length bytes ≡ n → (n == 0) ≡ false → 0 < length bytes
some_bytes bytes n is e = omega (arith, is, not_zero n e)

pub none_bytes : (bytes : Bytes) (n : ℕ) → length bytes ≡ n → (n == 0) ≡ true → bytes ≡ []
none_bytes bytes n is e = no_bytes bytes (is ∙ eqb-true n 0 e)
