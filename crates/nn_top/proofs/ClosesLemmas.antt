-- The last line of a run, behind what its command said.
use Rattle.std.proofs.Common.{◌≡◌, ◌⊎◌, inl, inr, ⊎_elim, ℕ, Bool, false, List, [], ◌∷◌, ◌++◌, take, drop, if◌then◌else◌, Result, Ok, Err, refl, sym, ◌∙◌, ap, subst, append_assoc}
use Rattle.std.proofs.lemmas.List.{append-nil, take-append-drop}
use Rattle.nn_base.specs.Paths.{Bytes}
use Rattle.nn_host.specs.Disk.{Reads}
use Rattle.nn_host.specs.Moments.{Dir, Event, Say, State}
use Rattle.nn_host.specs.Calls.{Spoke, next_count}
use Rattle.nn_host.proofs.RunsLemmas.{out_whole_refl, out_whole_trans, out_spoke, said_front, silent_after, silent_spoke, spoke_front, throughout_both, throughout_refl, throughout_weaker, untouched_refl, untouched_spoke}
use Rattle.nn_host.proofs.WorkLemmas.{throughout_said}
use Rattle.nn_server.specs.declared.status.Status.{Status}
use Rattle.nn_server.specs.declared.status.Status.TheVariants as outcome
use Rattle.nn_server.specs.Came.{is_out_fault, Speaks, TouchesNoDir}
use Rattle.nn_say.specs.Saying.{SaysFronts}
use Rattle.nn_say.proofs.RecordsLemmas.{records_nothing, records_as, spoke_records, cut_records}
use Rattle.nn_top.specs.Lines.{last_line}
use Rattle.nn_top.specs.Closes.{IsLast, last_call, Closes, Closing}

-- ---- the ways to close

touched_refl : {told : Type 0} {a : State} → TouchesNoDir told a a
touched_refl = record { kept = untouched_refl; faults = λ j. refl; reads = λ tells j. refl }

touched_spoke : {T E told : Type 0} {bytes : Bytes} {a b : State} {result : Result T E} → Spoke told bytes a b result → TouchesNoDir told a b
touched_spoke spoke = record {
  kept = untouched_spoke spoke;
  faults = λ j. ap (λ (dirs : ℕ → Dir). (dirs j).faults) spoke.dirs;
  reads = λ tells j. ap (λ (r : ℕ → Reads). r j) spoke.reads;
}

-- a front of it at each moment
spoke_fronts : {T E told : Type 0} {bytes : Bytes} {a b : State} {result : Result T E} → Spoke told bytes a b result → SaysFronts told a b bytes
spoke_fronts spoke = throughout_weaker (throughout_both (throughout_said spoke) (said_front spoke)) (λ tells m is. (is.0, is.1.0, is.1.1))

no_fronts : {told : Type 0} {a : State} → SaysFronts told a a []
no_fronts {a = a} = throughout_refl (λ tells. (refl, 0, sym (append-nil a.now.said)))

-- done work has no last line
closes_done : {told : Type 0} {a : State} → Closing told a a outcome.Ok outcome.Ok
closes_done {a = a} = record {
  dirs = touched_refl;
  last = outcome.Ok;
  is_last = inl refl;
  fronts = no_fronts;
  ends = inr (refl, inl (record { is_last = inl refl; unfailed = refl; said = λ tells. sym (append-nil a.now.said); calls = λ tells. records_nothing; counted = refl; whole = out_whole_refl }));
}

-- nor has an output that failed
closes_silent : {told : Type 0} {a : State} → Closing told a a outcome.OutFault outcome.OutFault
closes_silent = record { dirs = touched_refl; last = outcome.OutFault; is_last = inl refl; fronts = no_fronts; ends = inl (refl, refl, refl) }

-- no other is without one
pub closes_unsaid : (told : Type 0) (a : State) (status : Status) → last_call status ≡ [] → Closing told a a status status
closes_unsaid told a outcome.Ok none = closes_done
closes_unsaid told a outcome.Stopped none = cc none
closes_unsaid told a outcome.Usage none = cc none
closes_unsaid told a (outcome.Refused refusal) none = cc none
closes_unsaid told a (outcome.HostFault i) none = cc none
closes_unsaid told a outcome.NoneLeft none = cc none
closes_unsaid told a outcome.SourceFault none = cc none
closes_unsaid told a outcome.ScriptTooLong none = cc none
closes_unsaid told a outcome.Memory none = cc none
closes_unsaid told a outcome.OutFault none = closes_silent

-- where there is one, the output didn't fail before it
pub is_unfailed : (status : Status) → last_call status ≡ Say (last_line status) ∷ [] → is_out_fault status ≡ false
is_unfailed outcome.Ok call = refl
is_unfailed outcome.Stopped call = refl
is_unfailed outcome.Usage call = refl
is_unfailed (outcome.Refused refusal) call = refl
is_unfailed (outcome.HostFault i) call = refl
is_unfailed outcome.NoneLeft call = refl
is_unfailed outcome.SourceFault call = refl
is_unfailed outcome.ScriptTooLong call = refl
is_unfailed outcome.Memory call = refl
is_unfailed outcome.OutFault call = cc call

-- a last line was said
pub closes_said : {T E told : Type 0} {line : Bytes} {a b : State} {v : T} (status last : Status) → IsLast status last → is_out_fault status ≡ false → last_call last ≡ Say (last_line last) ∷ [] → line ≡ last_line last
    → Spoke {T = T} {E = E} told line a b (Ok v) → Closing told a b status last
closes_said {told} {a = a} {b = b} status last is_last unfailed call is spoke = record {
  dirs = touched_spoke spoke;
  last = last;
  is_last = is_last;
  fronts = subst (λ (text : Bytes). SaysFronts told a b text) is (spoke_fronts spoke);
  ends = inr (
    unfailed,
    inl (record {
      is_last = is_last;
      unfailed = is_unfailed last call;
      said = λ tells. (spoke.ok tells).said ∙ ap (λ (text : Bytes). a.now.said ++ text) is;
      calls = λ tells. records_as (spoke_records spoke tells) (ap (λ (text : Bytes). Say text ∷ []) is ∙ sym call);
      counted = spoke.counted_ok;
      whole = out_spoke spoke;
    }),
  );
}

-- the output failed over it
pub closes_cut : {T E told : Type 0} {line : Bytes} {a b : State} {e : E} (status last : Status) → IsLast status last → is_out_fault status ≡ false → last_call last ≡ Say (last_line last) ∷ [] → line ≡ last_line last
    → Spoke {T = T} {E = E} told line a b (Err e) → Closing told a b status outcome.OutFault
closes_cut {told} {line = line} {a = a} {b = b} status last is_last unfailed call is spoke = record {
  dirs = touched_spoke spoke;
  last = last;
  is_last = is_last;
  fronts = subst (λ (text : Bytes). SaysFronts told a b text) is (spoke_fronts spoke);
  ends = inr (
    unfailed,
    inr (record {
      last = last;
      is_last = is_last;
      failed = refl;
      said = λ tells. let front = spoke_front spoke tells in (take front.0 line, drop front.0 line, sym is ∙ sym (take-append-drop front.0 line), front.1);
      calls = λ tells.
          let asked = cut_records spoke tells in
          (asked.0, subst (λ (calls : List Event). (asked.0 ≡ []) ⊎ (asked.0 ≡ calls)) (ap (λ (text : Bytes). Say text ∷ []) is ∙ sym call) asked.1, asked.2);
      counted = spoke.counted_err;
      silent = silent_spoke spoke;
    }),
  );
}

-- ---- behind what a command said

after_silence : {told : Type 0} {a b : State} {lines : Bytes} → Speaks told a b lines outcome.OutFault → Closes told b.trace a b lines outcome.OutFault outcome.OutFault
after_silence {a = a} {lines = lines} speaks = inr (record {
  last = outcome.OutFault;
  is_last = inl refl;
  failed = refl;
  said = λ tells. ([], [], refl, speaks.said tells ∙ ap (λ (text : Bytes). a.now.said ++ text) (sym (append-nil lines)));
  calls = λ tells. ([], inl refl, records_nothing);
  counted = speaks.counted;
  silent = speaks.silent;
})

counted_whole : {told : Type 0} {a b : State} {lines : Bytes} (status : Status) → is_out_fault status ≡ false → Speaks told a b lines status → b.now.out_faults ≡ a.now.out_faults
counted_whole {a = a} status unfailed speaks = speaks.counted ∙ ap (λ (failed : Bool). if failed then next_count a.now.out_faults else a.now.out_faults) unfailed

after_lines : {told : Type 0} {a b c : State} {lines : Bytes} (status result : Status) → is_out_fault status ≡ false → Speaks told a b lines status → Closes told b.trace b c [] status result
    → Closes told b.trace a c lines status result
after_lines {a = a} {lines = lines} status result unfailed speaks (inl all) = inl (record {
  is_last = all.is_last;
  unfailed = all.unfailed;
  said = λ tells. all.said tells ∙ ap (λ (text : Bytes). text ++ last_line result) (speaks.said tells) ∙ append_assoc a.now.said lines (last_line result);
  calls = all.calls;
  counted = all.counted ∙ counted_whole status unfailed speaks;
  whole = out_whole_trans (speaks.whole unfailed) all.whole;
})
after_lines {a = a} {lines = lines} status result unfailed speaks (inr front) = inr (record {
  last = front.last;
  is_last = front.is_last;
  failed = front.failed;
  said = λ tells.
      let cut = front.said tells in
      (cut.0, cut.1, cut.2, cut.3 ∙ ap (λ (text : Bytes). text ++ cut.0) (speaks.said tells) ∙ append_assoc a.now.said lines cut.0);
  calls = front.calls;
  counted = front.counted ∙ ap next_count (counted_whole status unfailed speaks);
  silent = silent_after (speaks.whole unfailed) front.silent;
})

-- a run is closed as its command came to its end
pub closes_after : {told : Type 0} {a b c : State} {lines : Bytes} (status result : Status) → Speaks told a b lines status → Closing told b c status result → Closes told b.trace a c lines status result
closes_after {told} {a} {b} {c} {lines} status result speaks closing = ⊎_elim
    (λ silent.
    let out : Closes told b.trace a b lines outcome.OutFault outcome.OutFault = after_silence (subst (λ (s : Status). Speaks told a b lines s) silent.0 speaks) in
    let left : Closes told b.trace a b lines status outcome.OutFault = subst (λ (s : Status). Closes told b.trace a b lines s outcome.OutFault) (sym silent.0) out in
    let right : Closes told b.trace a b lines status result = subst (λ (s : Status). Closes told b.trace a b lines status s) (sym silent.1) left in
    subst (λ (s : State). Closes told b.trace a s lines status result) (sym silent.2) right)
    (λ said. after_lines status result said.0 speaks said.1)
    closing.ends
