-- What a command said and called by its end, whole or cut off by the output.
use Rattle.std.proofs.Common.{◌≡◌, ℕ, Bool, false, List, ◌++◌, length, take, drop, if◌then◌else◌, Err, refl, sym, ◌∙◌, ap, append_assoc}
use Rattle.std.proofs.lemmas.List.{drop_at}
use Rattle.std.proofs.lemmas.List.Elements.{All-map}
use Rattle.nn_base.specs.Paths.{Bytes}
use Rattle.nn_host.specs.Disk.{Look}
use Rattle.nn_host.specs.Moments.{Entry, Event, On, State}
use Rattle.nn_host.specs.Calls.{next_count, Spoke}
use Rattle.nn_host.specs.Runs.{OutWhole, AllAnswered, LooksAlone}
use Rattle.nn_host.proofs.RunsLemmas.{silent_whole, silent_after, silent_spoke, spoke_front}
use Rattle.nn_server.specs.declared.status.Status.{Status}
use Rattle.nn_server.specs.declared.status.Status.TheVariants.{OutFault}
use Rattle.nn_say.specs.Records.{calls_in, Records}
use Rattle.nn_server.specs.Came.{is_out_fault, Speaks, TouchesNoDir}
use Rattle.nn_server.specs.States.{LooksAt}

-- ---- the record of calls

-- looks at one directory
pub looks_record : {i : ℕ} (a b : State) → LooksAlone i a b → (looks : List Event) × LooksAt i looks × Records looks a.trace b.trace
looks_record {i} a b looks = (calls_in looks.0, All-map (λ (call : Event). call ≡ On i Look) (λ (e : Entry). e.event) looks.0 looks.2, record { more = looks.0; trace = looks.1; are = refl })

-- ---- what was said

-- what was said from old to new
abbrev pub said_since : State → State → Bytes
said_since old new = drop (length old.now.said) new.now.said

pub since_is : (a c : State) (text : Bytes) → c.now.said ≡ a.now.said ++ text → said_since a c ≡ text
since_is a c text e = ap (drop (length a.now.said)) e ∙ drop_at a.now.said text (length a.now.said) refl

-- the output didn't fail
pub speaks_whole : {told : Type 0} {a b : State} {lines : Bytes} (status : Status) → is_out_fault status ≡ false → OutWhole told a b → b.now.out_faults ≡ a.now.out_faults
    → (told → b.now.said ≡ a.now.said ++ lines) → Speaks told a b lines status
speaks_whole {a = a} status unfailed out counted said = record {
  said = said;
  counted = counted ∙ sym (ap (λ (failed : Bool). if failed then next_count a.now.out_faults else a.now.out_faults) unfailed);
  silent = silent_whole out;
  whole = λ is. out;
}

-- it failed over these bytes, behind a text that was said
pub cut_since : {T E told : Type 0} {bytes : Bytes} {b c : State} {e : E} (a : State) (front : Bytes) → (told → b.now.said ≡ a.now.said ++ front) → Spoke {T = T} {E = E} told bytes b c (Err e)
    → told → (n : ℕ) × (said_since a c ≡ front ++ take n bytes) × (c.now.said ≡ a.now.said ++ (front ++ take n bytes))
cut_since {bytes = bytes} {b = b} {c = c} a front said spoke tells =
    let cut = spoke_front spoke tells in
    let all : c.now.said ≡ a.now.said ++ (front ++ take cut.0 bytes) = cut.1 ∙ ap (λ (l : Bytes). l ++ take cut.0 bytes) (said tells) ∙ append_assoc a.now.said front (take cut.0 bytes) in
    (cut.0, since_is a c (front ++ take cut.0 bytes) all, all)

pub speaks_cut : {T E told : Type 0} {bytes : Bytes} {a b c : State} {e : E} (front : Bytes) → OutWhole told a b → b.now.out_faults ≡ a.now.out_faults → (told → b.now.said ≡ a.now.said ++ front)
    → Spoke {T = T} {E = E} told bytes b c (Err e) → Speaks told a c (said_since a c) OutFault
speaks_cut {bytes = bytes} {a = a} {b = b} {c = c} front out counted said spoke = record {
  said = λ tells. let cut = cut_since a front said spoke tells in cut.2 ∙ ap (λ (l : Bytes). a.now.said ++ l) (sym cut.1);
  counted = spoke.counted_err ∙ ap next_count counted;
  silent = silent_after out (silent_spoke spoke);
  whole = λ is. cc;
}

-- all calls were answered
pub touches_none : {told : Type 0} {a b : State} → AllAnswered told a b → TouchesNoDir told a b
touches_none p = record { kept = p.untouched; faults = p.faults; reads = p.reads }
