-- How many calls an answer takes.
use Rattle.std.proofs.Common.{◌≡◌, ⊎_elim, ℕ, ◌+◌, ◌<◌, ◌≤◌, List, [], ◌∷◌, ◌++◌, length, take, map, Result, Ok, Err, length-append, ap, arith}
use Rattle.std.specs.List.{concat}
use Rattle.std.proofs.lemmas.List.{length-map}
use Rattle.nn_base.specs.Paths.{Bytes}
use Rattle.nn_host.specs.Moments.{State, Entry, Event, Say, moment}
use Rattle.nn_host.specs.Calls.{most_said}
use Rattle.nn_host.specs.declared.host.Failed.{Failed}
use Rattle.nn_ops.specs.declared.refusal.OpRefusal.{OpRefusal}
use Rattle.nn_ops.specs.declared.refusal.OpRefusal.TheVariants as refusal
use Rattle.nn_script.specs.declared.answer.Answer.TheVariants.{Refused}
use Rattle.nn_script.specs.Spelling.{answer_text}
use Rattle.nn_say.specs.Records.{Records}
use Rattle.nn_say.specs.Saying.{CutOff, Says, pieces_of}
use Rattle.nn_say.proofs.SayingLemmas.{pieces_one}

-- the record of calls grew by as many
grown : (calls : List Event) (before after : List Entry) → Records calls before after → length after ≡ length before + length calls
grown calls before after is = omega (arith, ap length is.trace, length-append before is.more, ap length is.are, length-map is.more (λ (e : Entry). e.event))

-- no more pieces are asked for than there are
few_asked : (pieces : List Bytes) (text : Bytes) (asked : List Bytes) → CutOff pieces text asked → length asked ≤ length pieces
few_asked pieces text asked cut = ⊎_elim
    (λ (some : (n : ℕ) × (text ≡ concat cut.whole ++ take n cut.broken) × (asked ≡ cut.whole ++ cut.broken ∷ [])). omega (arith, ap length some.2, length-append cut.whole (cut.broken ∷ []), ap length cut.are, length-append cut.whole (cut.broken ∷ cut.rest)))
    (λ (none : (text ≡ concat cut.whole) × (asked ≡ cut.whole)). omega (arith, ap length none.1, ap length cut.are, length-append cut.whole (cut.broken ∷ cut.rest)))
    cut.went

-- as many calls as there are pieces, at most
few_calls : {told : Type 0} (a c : State) (text : Bytes) (said : Result (Unit {0}) Failed) → Says told a c text said → told → moment c ≤ moment a + length (pieces_of text)
few_calls a c text (Ok v) says tells = omega (arith, grown (map Say (pieces_of text)) a.trace c.trace (says.calls tells), length-map (pieces_of text) Say)
few_calls a c text (Err e) says tells =
    let cut = says.cut tells in
    omega (arith, grown (map Say cut.1) a.trace c.trace cut.4, length-map cut.1 Say, few_asked (pieces_of text) cut.0 cut.1 cut.2)

-- a short answer takes one
pub one_call : {told : Type 0} (a c : State) (text : Bytes) (said : Result (Unit {0}) Failed) → 0 < length text → length text ≤ most_said → Says told a c text said → told → moment c ≤ moment a + 1
one_call a c text said some short says tells = omega (arith, few_calls a c text said says tells, ap length (pieces_one text some short))

-- a refusal is short
pub refused_short : (refusal : OpRefusal) → length (answer_text (Refused refusal)) ≤ most_said
refused_short refusal.Exists = omega arith
refused_short refusal.NotFound = omega arith
refused_short refusal.NotDir = omega arith
refused_short refusal.IsDir = omega arith
refused_short refusal.Under = omega arith
refused_short refusal.Root = omega arith
refused_short refusal.Closed = omega arith
refused_short refusal.Quota = omega arith
refused_short refusal.Limit = omega arith
refused_short refusal.Memory = omega arith
