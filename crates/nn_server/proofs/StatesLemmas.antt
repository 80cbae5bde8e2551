-- From directory to directory: what `state` has said and found so far, and what it did at each end.
use Rattle.std.proofs.Common.{◌≡◌, ◌≢◌, ◌⊎◌, true, false, ℕ, suc, ◌+◌, ◌<◌, List, [], ◌∷◌, ◌++◌, length, take, drop, Option, Some, None, Result, Ok, Err, refl, sym, ◌∙◌, ap, subst, arith, length-append, append_assoc, add-one}
use Rattle.std.proofs.lemmas.List.{append-nil, length-map, take-append-drop}
use Rattle.nn_base.specs.Paths.{Bytes}
use Rattle.nn_host.specs.Disk.{Reads}
use Rattle.nn_host.specs.Moments.{Dir, Entry, Event, State, Say, moment}
use Rattle.nn_host.specs.Calls.{Spoke}
use Rattle.nn_host.specs.Runs.{Looked, LooksAlone, AllAnswered}
use Rattle.nn_host.proofs.RunsLemmas.{all_answered_refl, all_answered_trans, all_answered_looked, all_answered_spoke, out_whole_trans, untouched_trans, untouched_spoke, rose_last}
use Rattle.nn_state.specs.declared.state.StorageState.{StorageState}
use Rattle.nn_state.specs.declared.state.Why.{Why}
use Rattle.nn_state.specs.Table.{seven_of, table_of}
use Rattle.nn_pick.specs.declared.refusal.Refusal.{Refusal}
use Rattle.nn_pick.specs.Refused.{unusable, or_else}
use Rattle.nn_server.specs.declared.status.Status.TheVariants as status
use Rattle.nn_server.specs.declared.state_run.StateEnd.TheVariants.{Done, Refused, HostFault, Memory, OutFault}
use Rattle.nn_server.specs.Lines.{state_line}
use Rattle.nn_say.specs.Records.{Records}
use Rattle.nn_server.specs.Came.{CameTo}
use Rattle.nn_server.specs.States.{found, state_lines, first_unusable, state_status, LooksAt, NameInTurn, StateRan}
use Rattle.nn_say.proofs.RecordsLemmas.{records_nothing, records_then, records_as, spoke_records, cut_records}
use Rattle.nn_server.proofs.CameLemmas.{looks_record, said_since, speaks_whole, speaks_cut, cut_since}

-- the first k directories were looked at and their lines said
pub record SoFar (told : Type 0) (k : ℕ) (start now : State) (first : Option Refusal) : Type 0 where
  pub answered : AllAnswered told start now
  pub said : told → now.now.said ≡ start.now.said ++ state_lines start.reads k
  pub refusal : told → first ≡ first_unusable start.reads k
  pub calls : told → (naming : List Event) × NameInTurn start.reads k naming × Records naming start.trace now.trace

pub so_far_none : {told : Type 0} {a : State} → SoFar told 0 a a None
so_far_none {a = a} = record {
  answered = all_answered_refl;
  said = λ tells. sym (append-nil a.now.said);
  refusal = λ tells. refl;
  calls = λ tells. ([], refl, records_nothing);
}

-- how a directory reads doesn't change while others are looked at
same_found : {told : Type 0} {a b : State} (k : ℕ) → AllAnswered told a b → told → found b.reads k ≡ found a.reads k
same_found k answered tells = ap (λ (r : Reads). table_of (seven_of r)) (answered.reads tells k)

-- something was recorded
some_records : {calls : List Event} (b c : State) → Records calls b.trace c.trace → moment b < moment c → calls ≢ []
some_records b c recorded later none =
    absurd (omega (arith, later, ap length recorded.trace, length-append b.trace recorded.more, length-map recorded.more (λ (e : Entry). e.event), ap length (recorded.are ∙ none)))

-- one directory more
pub so_far_more : {T E told : Type 0} {k : ℕ} {a b c d : State} {line : Bytes} {v : T} {first : Option Refusal} (later : Option Refusal) (it : Result StorageState Why) → SoFar told k a b first
    → Looked told k b c true → (told → moment b < moment c) → Spoke {T = T} {E = E} told line c d (Ok v) → (told → it ≡ found b.reads k) → line ≡ state_line k it → later ≡ or_else first (unusable k it)
    → SoFar told (k + 1) a d later
so_far_more {T} {E} {told} {k} {a} {b} {c} {d} {line} later it so_far looked asked spoke value is next = record {
  answered = all_answered_trans so_far.answered (all_answered_trans (all_answered_looked looked) (all_answered_spoke spoke));
  said = λ tells. rw (add-one k) (
      (spoke.ok tells).said
      ∙ (λ i. (looked.frame.now.said ∙ so_far.said tells) i ++ (is ∙ ap (state_line k) (same tells)) i)
      ∙ append_assoc a.now.said (state_lines a.reads k) (state_line k (found a.reads k)));
  refusal = λ tells. rw (add-one k) (next ∙ (λ i. or_else (so_far.refusal tells i) (unusable k (same tells i))));
  calls = λ tells. rw (add-one k) (named tells);
}
  where
    same : told → it ≡ found a.reads k
    same tells = value tells ∙ same_found k so_far.answered tells

    named : told → (naming : List Event) × NameInTurn a.reads (suc k) naming × Records naming a.trace d.trace
    named tells =
        let before = so_far.calls tells in
        let looks = looks_record b c (looked.calls tells) in (
          before.0 ++ (looks.0 ++ Say line ∷ []),
          (before.0, looks.0, before.1, looks.1, some_records b c looks.2 (asked tells), ap (λ l. before.0 ++ (looks.0 ++ Say l ∷ [])) (is ∙ ap (state_line k) (same tells))),
          records_then before.2 (records_then looks.2 (spoke_records spoke tells)),
        )

-- ---- each end

-- behind the calls that name directories, the next one was looked at
looked_last : {told : Type 0} {k : ℕ} {a b : State} {first : Option Refusal} (c : State) (so_far : SoFar told k a b first) → told → LooksAlone k b c
    → (naming : List Event) × (later : List Event) × NameInTurn a.reads k naming × LooksAt k later × Records (naming ++ later) a.trace c.trace
looked_last {b = b} c so_far tells alone =
    let naming = so_far.calls tells in
    let looks = looks_record b c alone in
    (naming.0, looks.0, naming.1, looks.1, records_then naming.2 looks.2)

-- the next directory failed as it was looked at
pub look_fails : {told : Type 0} {k : ℕ} {a b c : State} {first : Option Refusal} → SoFar told k a b first → k < a.count → Looked told k b c false
    → CameTo told a c state_status (StateRan told a c) (HostFault (record { 0 = k }))
look_fails {told} {k} {a} {b} {c} so_far below looked = record {
  lines = state_lines a.reads k;
  speaks = speaks_whole (status.HostFault (record { 0 = k })) refl (out_whole_trans so_far.answered.out looked.out) (looked.frame.now.out_faults ∙ so_far.answered.out_faults) (λ tells. looked.frame.now.said ∙ so_far.said tells);
  ran = record {
    named = k;
    said = λ tells. (below, refl, refl);
    calls = λ tells. looked_last c so_far tells (looked.calls tells);
    kept = untouched_trans so_far.answered.untouched looked.untouched;
    reads = λ tells j other. looked.frame.reads j (λ same. other (ap Some (sym same))) ∙ so_far.answered.reads tells j;
    counted = rose_last (record { faults = so_far.answered.faults }) below looked.frame looked.counted;
  };
}

-- there was no memory for its line
pub line_starves : {told : Type 0} {k : ℕ} {a b c : State} {first : Option Refusal} → SoFar told k a b first → k < a.count → Looked told k b c true → CameTo told a c state_status (StateRan told a c) Memory
line_starves {told} {k} {a} {b} {c} so_far below looked =
    let answered = all_answered_trans so_far.answered (all_answered_looked looked) in record {
      lines = state_lines a.reads k;
      speaks = speaks_whole status.Memory refl answered.out answered.out_faults (λ tells. looked.frame.now.said ∙ so_far.said tells);
      ran = record {
        named = k;
        said = λ tells. (below, refl);
        calls = λ tells. looked_last c so_far tells (looked.calls tells);
        kept = answered.untouched;
        reads = λ tells j other. answered.reads tells j;
        counted = record { faults = answered.faults };
      };
    }

-- the output failed over its line
pub line_cut : {T E told : Type 0} {k : ℕ} {a b c d : State} {line : Bytes} {e : E} {first : Option Refusal} (it : Result StorageState Why) → SoFar told k a b first → k < a.count
    → Looked told k b c true → Spoke {T = T} {E = E} told line c d (Err e) → (told → it ≡ found b.reads k) → line ≡ state_line k it → CameTo told a d state_status (StateRan told a d) OutFault
line_cut {T} {E} {told} {k} {a} {b} {c} {d} {line} it so_far below looked spoke value is =
    let answered = all_answered_trans so_far.answered (all_answered_looked looked) in record {
      lines = said_since a d;
      speaks = speaks_cut (state_lines a.reads k) answered.out answered.out_faults before spoke;
      ran = record {
        named = k;
        said = λ tells.
            let cut = cut_since a (state_lines a.reads k) before spoke tells in
            (below, (take cut.0 line, drop cut.0 line, sym (take-append-drop cut.0 line ∙ is ∙ ap (state_line k) (value tells ∙ same_found k so_far.answered tells)), cut.1));
        calls = λ tells.
            let looks = looks_record b c (looked.calls tells) in
            let asked = cut_records spoke tells in (
              (so_far.calls tells).0,
              looks.0 ++ asked.0,
              (so_far.calls tells).1,
              (looks.0, asked.0, looks.1, subst (λ (text : Bytes). (asked.0 ≡ []) ⊎ (asked.0 ≡ Say text ∷ [])) (is ∙ ap (state_line k) (value tells ∙ same_found k so_far.answered tells)) asked.1, refl),
              records_then (so_far.calls tells).2 (records_then looks.2 asked.2),
            );
        kept = untouched_trans answered.untouched (untouched_spoke spoke);
        reads = λ tells j other. ap (λ (r : ℕ → Reads). r j) spoke.reads ∙ answered.reads tells j;
        counted = record { faults = λ j. ap (λ (dirs : ℕ → Dir). (dirs j).faults) spoke.dirs ∙ answered.faults j };
      };
    }
  where
    before : told → c.now.said ≡ a.now.said ++ state_lines a.reads k
    before tells = looked.frame.now.said ∙ so_far.said tells

-- there is no call behind those that name directories
all_calls : {told : Type 0} {k : ℕ} {a b : State} {first : Option Refusal} → SoFar told k a b first → told
    → (naming : List Event) × (later : List Event) × NameInTurn a.reads k naming × (later ≡ []) × Records (naming ++ later) a.trace b.trace
all_calls so_far tells = let naming = so_far.calls tells in (naming.0, [], naming.1, refl, records_as naming.2 (sym (append-nil naming.0)))

-- all were named, and none refuses
pub all_named : {told : Type 0} {n : ℕ} {a b : State} {first : Option Refusal} → SoFar told n a b first → n ≡ a.count → first ≡ None → CameTo told a b state_status (StateRan told a b) Done
all_named {told} {n} {a} {b} so_far all none = record {
  lines = state_lines a.reads n;
  speaks = speaks_whole status.Ok refl so_far.answered.out so_far.answered.out_faults so_far.said;
  ran = record {
    named = n;
    said = λ tells. (ap (first_unusable a.reads) (sym all) ∙ sym (so_far.refusal tells) ∙ none, all, refl);
    calls = all_calls so_far;
    kept = so_far.answered.untouched;
    reads = λ tells j other. so_far.answered.reads tells j;
    counted = record { faults = so_far.answered.faults };
  };
}

-- all were named, and this one refuses
pub one_refuses : {told : Type 0} {n : ℕ} {a b : State} {first : Option Refusal} (refusal : Refusal) → SoFar told n a b first → n ≡ a.count → first ≡ Some refusal
    → CameTo told a b state_status (StateRan told a b) (Refused refusal)
one_refuses {told} {n} {a} {b} refusal so_far all some = record {
  lines = state_lines a.reads n;
  speaks = speaks_whole (status.Refused refusal) refl so_far.answered.out so_far.answered.out_faults so_far.said;
  ran = record {
    named = n;
    said = λ tells. (ap (first_unusable a.reads) (sym all) ∙ sym (so_far.refusal tells) ∙ some, all, refl);
    calls = all_calls so_far;
    kept = so_far.answered.untouched;
    reads = λ tells j other. so_far.answered.reads tells j;
    counted = record { faults = so_far.answered.faults };
  };
}
