-- How a record of calls grows.
use Rattle.std.proofs.Common.{◌≡◌, ◌⊎◌, inl, inr, ⊎_elim, List, [], ◌∷◌, ◌++◌, Ok, Err, refl, sym, ◌∙◌, ap, append_assoc}
use Rattle.std.proofs.lemmas.List.{append-nil, map-append}
use Rattle.nn_base.specs.Paths.{Bytes}
use Rattle.nn_host.specs.Moments.{Entry, Event, Say, State}
use Rattle.nn_host.specs.Calls.{Recorded, Unrecorded, Spoke}
use Rattle.nn_say.specs.Records.{Records}

pub records_nothing : {a : List Entry} → Records [] a a
records_nothing {a} = record { more = []; trace = sym (append-nil a); are = refl }

pub records_then : {p q : List Event} {a b c : List Entry} → Records p a b → Records q b c → Records (p ++ q) a c
records_then {a = a} first second = record {
  more = first.more ++ second.more;
  trace = second.trace ∙ ap (λ l. l ++ second.more) first.trace ∙ append_assoc a first.more second.more;
  are = map-append (λ (e : Entry). e.event) first.more second.more ∙ (λ i. first.are i ++ second.are i);
}

pub records_as : {p q : List Event} {a b : List Entry} → Records p a b → p ≡ q → Records q a b
records_as recorded is = record { more = recorded.more; trace = recorded.trace; are = recorded.are ∙ is }

pub records_call : {event : Event} {a b : State} → Recorded event a b → Records (event ∷ []) a.trace b.trace
records_call {event} {a} recorded = record { more = record { ended = a.ended; before = a.now; event = event } ∷ []; trace = recorded.trace; are = refl }

-- a call that was never begun
pub records_none : {a b : State} → Unrecorded a b → Records [] a.trace b.trace
records_none {a} unrecorded = record { more = []; trace = unrecorded.trace ∙ sym (append-nil a.trace); are = refl }

-- a saying that was answered
pub spoke_records : {T E told : Type 0} {bytes : Bytes} {a b : State} {v : T} → Spoke {T = T} {E = E} told bytes a b (Ok v) → told → Records (Say bytes ∷ []) a.trace b.trace
spoke_records spoke tells = records_call (spoke.ok tells).recorded

-- one that failed, or that the host never began
pub cut_records : {T E told : Type 0} {bytes : Bytes} {a b : State} {e : E} → Spoke {T = T} {E = E} told bytes a b (Err e) → told
    → (asked : List Event) × ((asked ≡ []) ⊎ (asked ≡ Say bytes ∷ [])) × Records asked a.trace b.trace
cut_records {bytes = bytes} spoke tells = ⊎_elim
    (λ cut. (Say bytes ∷ [], inr refl, records_call cut.recorded))
    (λ unsaid. ([], inl refl, records_none unsaid.unrecorded))
    (spoke.err tells)
