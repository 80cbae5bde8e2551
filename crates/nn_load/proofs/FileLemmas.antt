-- What a segment file holds, by what was read of it.
use Rattle.std.proofs.Common.{◌≡◌, ⊎_elim, inl, inr, ℕ, ℤ, ◌≤◌, Bool, true, false, nat_le, if◌then◌else◌, List, length, Option, Some, None, Result, Ok, Err, refl, sym, ◌∙◌, ap, subst, le-leb, leb-true}
use Rattle.std.specs.Prelude.{Contains, IfOk, IfErr, IsErrAnd}
use Rattle.std.proofs.lemmas.Option.{same_Some}
use Rattle.nn_base.specs.Limits.{most_segment_read}
use Rattle.nn_base.specs.declared.file_name.FileName.{FileName}
use Rattle.nn_host.specs.Moments.{State}
use Rattle.nn_host.specs.Runs.{Looked}
use Rattle.nn_record.specs.declared.transaction.Record.{Record}
use Rattle.nn_segment.specs.Segment.{IsIntactRun}
use Rattle.nn_segment.proofs.RunLemmas.{one_intact_run}
use Rattle.nn_small.specs.declared.read.ReadAll.{ReadAll}
use Rattle.nn_small.specs.declared.read.ReadAll.TheVariants.{TooLarge}
use Rattle.nn_small.specs.Whole.{whole_of}
use Rattle.nn_chain.specs.Chain.{Reached}
use Rattle.nn_chain.specs.Folder.{Folder}
use Rattle.nn_chain.specs.Records.{HoldsRecord}
use Rattle.nn_load.specs.declared.fault.ChainFault.{ChainFault}
use Rattle.nn_load.specs.declared.fault.ChainFault.TheVariants as fault
use Rattle.nn_load.specs.Loading.{answered_chain}
use Rattle.nn_load.specs.Replaying.{UpTo, AreReplayed}
use Rattle.nn_load.specs.Segments.{IsPart}
use Rattle.nn_load.proofs.ReplayLemmas.{plays_weaker, none_replayed}

-- the bytes of a file that was read whole
read_whole : (limit : ℕ) (file : Option (List ℕ)) (bytes : List ℕ) → whole_of limit file ≡ Ok bytes → (file ≡ Some bytes) × (length bytes ≤ limit)
read_whole limit None bytes e = cc
read_whole limit (Some text) bytes e = by (nat_le (length text) limit) refl e
  where
    by : (b : Bool) → nat_le (length text) limit ≡ b → (if b then Ok text else Err (TooLarge (length text))) ≡ Ok bytes → (Some text ≡ Some bytes) × (length bytes ≤ limit)
    by true small e = let same : text ≡ bytes = cc in (λ i. Some (same i), subst (λ (t : List ℕ). length t ≤ limit) same (leb-true _ _ small))
    by false large e = cc

module _ (folder : Folder) (layout : ℤ) (name : FileName) (first until : ℕ) (part : IsPart name first until) where
  -- the records of its run, as far as they are wanted
  module _ (bytes : List ℕ) (there : folder name ≡ Some bytes) (small : length bytes ≤ most_segment_read) (run : List Record) (intact : IsIntactRun bytes layout first run) where
    in_file : (r : Record) → UpTo (Contains run) until r → UpTo (HoldsRecord folder layout name) until r
    in_file r has = (
      record {
        ranged = part.ranged;
        first = first;
        begins = part.begins;
        bytes = bytes;
        there = there;
        small = small;
        run = run;
        intact = intact;
        has = has.0;
        within = part.within r.id has.1;
      },
      has.1,
    )

    pub in_run : (r : Record) → HoldsRecord folder layout name r → Contains run r
    in_run r h =
        let first_is : h.first ≡ first = same_Some h.first first (sym h.begins ∙ part.begins) in
        let bytes_are : h.bytes ≡ bytes = same_Some h.bytes bytes (sym h.there ∙ there) in
        let its : IsIntactRun bytes layout first h.run = subst (λ (t : List ℕ). IsIntactRun t layout first h.run) bytes_are (subst (λ n. IsIntactRun h.bytes layout n h.run) first_is h.intact) in
        subst (λ (rs : List Record). Contains rs r) (one_intact_run bytes layout first h.run run its intact) h.has

    pub file_replayed : (start end : Reached) (fit : Bool) → AreReplayed (Contains run) until start end fit → AreReplayed (HoldsRecord folder layout name) until start end fit
    file_replayed start end fit p = record {
      records = p.records;
      plays = plays_weaker (UpTo (Contains run) until) (UpTo (HoldsRecord folder layout name) until) start end p.records (λ r above has. in_file r has) p.plays;
      all = λ e. ⊎_elim (λ low. inl (λ r h. low r (in_run r h))) (λ full. inr full) (p.all e);
      clash = λ e. let found = p.clash e in record { r = found.r; has = in_file found.r found.has; next = found.next; unfit = found.unfit };
    }

  -- a file that was read whole
  pub whole_replayed : {T E : Type 0} (bytes : List ℕ) (at : T → Reached) (fit : T → Bool) (start : Reached) (result : Result T E) → whole_of most_segment_read (folder name) ≡ Ok bytes
      → IfOk result (λ x. (run : List Record) × IsIntactRun bytes layout first run × AreReplayed (Contains run) until start (at x) (fit x)) → IfOk result (λ x. AreReplayed (HoldsRecord folder layout name) until start (at x) (fit x))
  whole_replayed bytes at fit start (Ok x) whole found =
      let there = read_whole most_segment_read (folder name) bytes whole in
      file_replayed bytes there.0 there.1 found.0 found.1 start (at x) (fit x) found.2
  whole_replayed bytes at fit start (Err e) whole found = tt

  -- a file that is absent or too long
  pub unread_replayed : (fault : ReadAll) (start : Reached) → whole_of most_segment_read (folder name) ≡ Err fault → AreReplayed (HoldsRecord folder layout name) until start start true
  unread_replayed fault start unread = none_replayed (HoldsRecord folder layout name) until start (λ r h. held r h)
    where
      held : (r : Record) → HoldsRecord folder layout name r → ⊥
      held r h =
          let whole : whole_of most_segment_read (Some h.bytes) ≡ Ok h.bytes = ap (λ b. if b then Ok h.bytes else Err (TooLarge (length h.bytes))) (le-leb _ _ h.small) in
          let other = sym whole ∙ ap (whole_of most_segment_read) (sym h.there) ∙ unread in
          cc

-- replaying asks nothing of the host
pub looked_still : {T told : Type 0} {i : ℕ} {a b : State} (result : Result T ChainFault) → IfErr result (λ e. e ≡ fault.Memory) → Looked told i a b true → Looked told i a b (answered_chain result)
looked_still (Ok value) memory p = p
looked_still (Err fault.Failed) memory p = cc
looked_still (Err (fault.NoImage why)) memory p = p
looked_still (Err fault.Memory) memory p = p

-- an answer that is handed on
pub looked_on : (S : Type 0) {T told : Type 0} {i : ℕ} {a b : State} (result : Result T ChainFault) (answer : ChainFault) → IsErrAnd result (λ e. e ≡ answer) → Looked told i a b (answered_chain {T = S} (Err answer)) → Looked told i a b (answered_chain result)
looked_on S (Ok value) answer is p = absurd is
looked_on S {T} {told} {i} {a} {b} (Err e) answer is p = subst (λ (x : ChainFault). Looked told i a b (answered_chain {T = T} (Err x))) (sym is) (of_any answer p)
  where
    of_any : (x : ChainFault) → Looked told i a b (answered_chain {T = S} (Err x)) → Looked told i a b (answered_chain {T = T} (Err x))
    of_any fault.Failed p = p
    of_any (fault.NoImage why) p = p
    of_any fault.Memory p = p
