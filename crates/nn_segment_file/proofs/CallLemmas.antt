-- The steps of one directory, from call to call.
use Rattle.std.proofs.Common.{◌≡◌, ◌⊎◌, inl, inr, ⊎_elim, refl, ℕ, ◌+◌, ◌<◌, ◌≤◌, ◌^◌, List, [], ◌∷◌, ◌++◌, length, Option, Some, None, true, Result, Ok, Err, OnOk, sym, ◌∙◌, ap, subst, arith, length-append, append-nil}
use Rattle.std.proofs.lemmas.List.{append_cancel_left}
use Rattle.nn_base.specs.Limits.{most_segment}
use Rattle.nn_base.specs.declared.sub.Sub.TheVariants.{Current}
use Rattle.nn_base.specs.declared.file_name.FileName.{FileName}
use Rattle.nn_base.specs.declared.file_name.FileName.TheVariants.{Seen, SeenTmp, Edits, InProgress}
use Rattle.nn_host.specs.Disk.{Disk, Reads, File, MakeFile, Append, Sync, RenameFile, Leaves, added, certain}
use Rattle.nn_host.specs.Moments.{State, IsLawful, disk_at}
use Rattle.nn_host.specs.Calls.{Called, Done}
use Rattle.nn_host.specs.Runs.{OnlyAt}
use Rattle.nn_host.proofs.CleanLemmas.{sure_left}
use Rattle.nn_host.proofs.FilesLemmas.{there}
use Rattle.nn_host.proofs.MakesLemmas.{Makes}
use Rattle.nn_host.proofs.WorkLemmas.{work_once, work_more, work_trans, work_weaker}
use Rattle.nn_small.specs.Small.{OldOrNew}
use Rattle.nn_marks.specs.declared.version.Version.{Version}
use Rattle.nn_marks.specs.Seen.{seen_text_of}
use Rattle.nn_record.specs.declared.transaction.Record.{Record}
use Rattle.nn_segment.specs.Segment.{AreFrom}
use Rattle.nn_segment_file.specs.Log.{Shared, Follows, Logs, Rests, Writes, IsEnded, Beside, IsOfLog, segment_text}
use Rattle.nn_segment_file.specs.Steps.{GoesOn, Logged, WritesAtAnyMoment, HasWritten, StartsAtAnyMoment, StartsInTurn, HasStarted, EndsAtAnyMoment, EndsInTurn, HasEnded}
use Rattle.nn_segment_file.specs.Stages.{Touched}
use Rattle.nn_segment_file.specs.declared.step.Step.TheVariants as step
use Rattle.nn_segment_file.proofs.LogLemmas.{writes_logs}
use Rattle.nn_segment_file.proofs.StepLemmas.{Adds, begun, appended, synced, finalized, whole_logs}
use Rattle.nn_segment_file.proofs.SeenLemmas.{seen_writes}
use Rattle.nn_segment_file.proofs.BesideLemmas.{beside_refl, beside_trans, beside_weaker, beside_makes, log_weaker, log_of, make_on, append_on, sync_on, rename_on, beside_small}

-- ---- weaker bounds

pub logs_weaker : {version : Version} {list : Shared} {lo hi : ℕ} {d : Disk} (low high : ℕ) → low ≤ lo → hi ≤ high → Logs version list lo hi d → Logs version list low high d
logs_weaker low high a b logs = record { left = λ c leaves fair. let at = logs.left c leaves fair in record { last = at.last; least = omega (arith, at.least, a); most = omega (arith, at.most, b); ends = at.ends } }

-- the ids of records stay below 2^63
pub ids_small : (first : ℕ) (rs : List Record) → AreFrom first rs → 1 ≤ length rs → first + length rs ≤ 2 ^ 63
ids_small first [] from some = absurd (omega (arith, some))
ids_small first (r ∷ []) from some = omega (arith, from.0, from.1.last)
ids_small first (r ∷ q ∷ rs) from some = omega (arith, ids_small (first + 1) (q ∷ rs) from.2 (omega arith))

-- ---- what reads of a segment that is synced

module _ {version : Version} {list : Shared} {last : ℕ} {kept : List Record} {name : FileName} {d : Disk} (writes : Writes version list last kept [] name d) where
  -- it is certain
  pub synced_file : d.file Current name ≡ certain (Some (segment_text version.layout kept))
  synced_file =
      let f : File = writes.file in
      let text = segment_text version.layout kept in
      let whole : f.synced ++ f.pending ≡ f.synced ++ [] = writes.segment.whole ∙ ap (segment_text version.layout) (append-nil kept) ∙ sym writes.segment.synced ∙ sym (append-nil f.synced) in
      let none : f.pending ≡ [] = append_cancel_left f.synced f.pending [] whole in
      let is : f ≡ record { synced = text; pending = [] } = λ i. record { synced = writes.segment.synced i; pending = none i } in
      writes.stands ∙ ap (λ (x : File). Some x) is

  pub held_text : (r : Reads) → Leaves d r → r.file Current name ≡ Some (segment_text version.layout kept)
  held_text r leaves = sure_left d r Current name (segment_text version.layout kept) leaves synced_file

-- ---- records go behind the segment in progress

module _ (version : Version) (list : Shared) (last : ℕ) (kept rs : List Record) (bytes : List ℕ) (goes : GoesOn version list last kept rs (last + 1) bytes) where
  -- the append is done, or in flight
  wrote : (r : Reads) (d part : Disk) → Writes version list last kept [] (InProgress (last + 1)) d → Makes (Append Current (InProgress (last + 1)) bytes) r d part → Writes version list last kept rs (InProgress (last + 1)) part
  wrote r d part writes makes =
      let same : kept ++ [] ≡ kept = append-nil kept in
      appended version list last kept [] d writes r part rs bytes
      (subst (λ (x : List Record). Adds version.layout x rs bytes) (sym same) goes.adds)
      (subst (λ (x : List Record). AreFrom (last + 1 + length x) rs) (sym same) goes.ids)
      (subst (λ (x : List Record). Follows list (last + length x) rs) (sym same) goes.follows)
      (subst (λ (x : List Record). length (segment_text version.layout (x ++ rs)) ≤ most_segment) (sym same) goes.small)
      makes

  count : length (kept ++ rs) ≡ length kept + length rs
  count = length-append kept rs

  module _ {T E told : Type 0} {i : ℕ} {a b : State} {v : Result T E} (start : told → Writes version list last kept [] (InProgress (last + 1)) (disk_at a i)) (first : Called told i (Append Current (InProgress (last + 1)) bytes) a b v) where
    append_work : OnlyAt told i a b (Logged version list last (last + length kept) (last + length (kept ++ rs)) (disk_at a i))
    append_work = work_once first
        (λ tells. record { logs = logs_weaker (last + length kept) (last + length (kept ++ rs)) (omega arith) (omega (arith, count)) (whole_logs version list last kept (InProgress (last + 1)) (disk_at a i) (start tells)); beside = beside_refl (disk_at a i) })
        (λ tells part makes. record {
          logs = writes_logs version list last kept rs (InProgress (last + 1)) part (wrote (a.reads i) (disk_at a i) part (start tells) makes);
          beside = log_of last (last + 1) (omega arith) step.Write (beside_makes (Append Current (InProgress (last + 1)) bytes) (a.reads i) (disk_at a i) part (append_on (last + 1) bytes) makes);
        })

  module _ {told : Type 0} {i : ℕ} {a b : State} (start : told → Writes version list last kept [] (InProgress (last + 1)) (disk_at a i)) (lawful : told → IsLawful a) where
    -- once it returned, they are handed over, and read
    wrote_disk : told → Done i (Append Current (InProgress (last + 1)) bytes) a b → Writes version list last kept rs (InProgress (last + 1)) (disk_at b i)
    wrote_disk tells done = wrote (a.reads i) (disk_at a i) (disk_at b i) (start tells) done.disk

    wrote_reads : told → Done i (Append Current (InProgress (last + 1)) bytes) a b → (b.reads i).file Current (InProgress (last + 1)) ≡ Some (segment_text version.layout (kept ++ rs))
    wrote_reads tells done =
        let name = InProgress (last + 1) in
        ap (λ (x : Reads). x.file Current name) done.reads
        ∙ there (a.reads i) Current name (added (λ (old new : List ℕ). old ++ new) bytes ((a.reads i).file Current name))
        ∙ ap (λ (x : Option (List ℕ)). added (λ (old new : List ℕ). old ++ new) bytes x) (held_text (start tells) (a.reads i) ((lawful tells).reads i))
        ∙ ap (λ (x : List ℕ). Some x) (sym goes.adds)

    kept_disk : (c : Disk) → told → Done i (Append Current (InProgress (last + 1)) bytes) a b → Makes (Sync Current (InProgress (last + 1))) (b.reads i) (disk_at b i) c → Writes version list last (kept ++ rs) [] (InProgress (last + 1)) c
    kept_disk c tells done makes = synced version list last kept rs (disk_at b i) (wrote_disk tells done) (b.reads i) c (wrote_reads tells done) makes

  module _ {T E told : Type 0} {i : ℕ} {a b c : State} {v : T} {result : Result T E} (start : told → Writes version list last kept [] (InProgress (last + 1)) (disk_at a i)) (lawful : told → IsLawful a)
      (first : Called {E = E} told i (Append Current (InProgress (last + 1)) bytes) a b (Ok v)) (second : Called told i (Sync Current (InProgress (last + 1))) b c result) where
    sync_work : OnlyAt told i a c (Logged version list last (last + length kept) (last + length (kept ++ rs)) (disk_at a i))
    sync_work = work_more (append_work start first) second (λ tells before part makes. record {
      logs = logs_weaker (last + length kept) (last + length (kept ++ rs)) (omega (arith, count)) (omega arith) (whole_logs version list last (kept ++ rs) (InProgress (last + 1)) part (kept_disk start lawful part tells (first.effect tells).ok makes));
      beside = beside_trans before.beside (log_of last (last + 1) (omega arith) step.Write (beside_makes (Sync Current (InProgress (last + 1))) (b.reads i) (disk_at b i) part (sync_on (last + 1)) makes));
    })

    sync_done : told → OnOk result (Writes version list last (kept ++ rs) [] (InProgress (last + 1)) (disk_at c i))
    sync_done tells = by result (second.effect tells).ok
      where
        by : (r : Result T E) → OnOk r (Done i (Sync Current (InProgress (last + 1))) b c) → OnOk r (Writes version list last (kept ++ rs) [] (InProgress (last + 1)) (disk_at c i))
        by (Ok w) done = kept_disk start lawful (disk_at c i) tells (first.effect tells).ok done.disk
        by (Err e) done = tt

-- ---- the same under the first id

module _ {T E told : Type 0} {i first : ℕ} {bytes : List ℕ} {a b : State} where
  pub write_first : {v : Result T E} → Called told i (Append Current (InProgress first) bytes) a b v → WritesAtAnyMoment told i first bytes a b
  write_first {v} called version list last kept rs goes start =
      subst (λ (f : ℕ). GoesOn version list last kept rs f bytes → Called told i (Append Current (InProgress f) bytes) a b v → (told → Writes version list last kept [] (InProgress f) (disk_at a i)) → OnlyAt told i a b (Logged version list last (last + length kept) (last + length (kept ++ rs)) (disk_at a i)))
      (sym goes.begins) (λ g c s. append_work version list last kept rs bytes g s c) goes called start

  module _ {c : State} {v : T} {result : Result T E} (lawful : told → IsLawful a) (called : Called {E = E} told i (Append Current (InProgress first) bytes) a b (Ok v)) (then : Called told i (Sync Current (InProgress first)) b c result) where
    pub write_both : WritesAtAnyMoment told i first bytes a c
    write_both version list last kept rs goes start =
        subst (λ (f : ℕ). GoesOn version list last kept rs f bytes → Called {E = E} told i (Append Current (InProgress f) bytes) a b (Ok v) → Called told i (Sync Current (InProgress f)) b c result → (told → Writes version list last kept [] (InProgress f) (disk_at a i)) → OnlyAt told i a c (Logged version list last (last + length kept) (last + length (kept ++ rs)) (disk_at a i)))
        (sym goes.begins) (λ g x y s. sync_work version list last kept rs bytes g s lawful x y) goes called then start

    pub write_done : told → HasWritten i first bytes a c result
    write_done tells version list last kept rs goes start =
        subst (λ (f : ℕ). GoesOn version list last kept rs f bytes → Called {E = E} told i (Append Current (InProgress f) bytes) a b (Ok v) → Called told i (Sync Current (InProgress f)) b c result → Writes version list last kept [] (InProgress f) (disk_at a i) → OnOk result (Writes version list last (kept ++ rs) [] (InProgress f) (disk_at c i)))
        (sym goes.begins) (λ g x y s. sync_done version list last kept rs bytes g (λ t. s) lawful x y tells) goes called then start

-- what a call that returned has written
abbrev pub HasWrittenAll : ℕ → ℕ → List ℕ → State → State → Type 0
HasWrittenAll i first bytes old new = HasWritten {T = Unit {0}} {E = Unit {0}} i first bytes old new (Ok tt)

-- ---- a segment is begun

pub logged_weaker : {version : Version} {list : Shared} {under base lo hi : ℕ} {mid d : Disk} (old : Disk) (low high : ℕ) → Beside (IsOfLog under) old mid → under ≤ base → low ≤ lo → hi ≤ high → Logged version list base lo hi mid d → Logged version list under low high old d
logged_weaker old low high beside behind a b p = record { logs = logs_weaker low high a b p.logs; beside = beside_trans beside (beside_weaker (log_weaker behind) p.beside) }

-- where what is so after a call follows from what it ensures
pub on_ok_by : {T E : Type 0} {P Q : Type 0} (r : Result T E) → OnOk r P → (P → Q) → OnOk r Q
on_ok_by (Ok v) p imp = imp p
on_ok_by (Err e) p imp = tt

module _ (version : Version) (list : Shared) (last : ℕ) (rs : List Record) (bytes : List ℕ) (goes : GoesOn version list last [] rs (last + 1) bytes) where
  room : last + 1 < 2 ^ 63
  room = omega (arith, ids_small (last + 1 + 0) rs goes.ids goes.some, goes.some)

  module _ {told : Type 0} (i : ℕ) (a : State) (start : told → Rests version list last (disk_at a i)) where
    begun_at : told → (part : Disk) → Makes (MakeFile Current (InProgress (last + 1))) (a.reads i) (disk_at a i) part → Writes version list last [] [] (InProgress (last + 1)) part
    begun_at tells part makes = begun version list last (a.reads i) (disk_at a i) part room (start tells) makes

    make_work : {T E : Type 0} {b : State} {v : Result T E} → Called told i (MakeFile Current (InProgress (last + 1))) a b v → OnlyAt told i a b (Logged version list last last (last + length rs) (disk_at a i))
    make_work called = work_once called
        (λ tells. record { logs = logs_weaker last (last + length rs) (omega arith) (omega arith) (start tells).logs; beside = beside_refl (disk_at a i) })
        (λ tells part makes. record {
          logs = logs_weaker last (last + length rs) (omega arith) (omega arith) (whole_logs version list last [] (InProgress (last + 1)) part (begun_at tells part makes));
          beside = log_of last (last + 1) (omega arith) step.Write (beside_makes (MakeFile Current (InProgress (last + 1))) (a.reads i) (disk_at a i) part (make_on (last + 1)) makes);
        })

    module _ {T E : Type 0} {b : State} {v : T} (made : Called {E = E} told i (MakeFile Current (InProgress (last + 1))) a b (Ok v)) where
      begun_disk : told → Writes version list last [] [] (InProgress (last + 1)) (disk_at b i)
      begun_disk tells = begun_at tells (disk_at b i) (made.effect tells).ok.disk

      filled_work : {c : State} → WritesAtAnyMoment told i (last + 1) bytes b c → OnlyAt told i a c (Logged version list last last (last + length rs) (disk_at a i))
      filled_work wrote =
          let before = make_work made in
          work_trans before (work_weaker (wrote version list last [] rs goes begun_disk) (λ tells d p. logged_weaker (disk_at a i) last (last + length rs) (before.ends tells).beside (omega arith) (omega arith) (omega arith) p))

      module _ {c d : State} (wrote : WritesAtAnyMoment told i (last + 1) bytes b c) (stands : told → Writes version list last rs [] (InProgress (last + 1)) (disk_at c i)) (seen : OnlyAt told i c d (OldOrNew Current SeenTmp Seen (seen_text_of (last + 1)) (disk_at c i))) where
        seen_at : told → (e : Disk) → OldOrNew Current SeenTmp Seen (seen_text_of (last + 1)) (disk_at c i) e → Writes version list last rs [] (InProgress (last + 1)) e
        seen_at tells e small = seen_writes (last + 1) version list last room (omega arith) rs [] (InProgress (last + 1)) (disk_at c i) e small (stands tells)

        seen_work : OnlyAt told i a d (Logged version list last last (last + length rs) (disk_at a i))
        seen_work =
            let before = filled_work wrote in
            work_trans before (work_weaker seen (λ tells e small. record {
              logs = logs_weaker last (last + length rs) (omega arith) (omega arith) (whole_logs version list last rs (InProgress (last + 1)) e (seen_at tells e small));
              beside = beside_trans (before.ends tells).beside (log_of last (last + 1) (omega arith) step.Start (beside_small (last + 1) (seen_text_of (last + 1)) (disk_at c i) e small));
            }))

        started : told → Writes version list last rs [] (InProgress (last + 1)) (disk_at d i)
        started tells = seen_at tells (disk_at d i) (seen.ends tells)

module _ {T E told : Type 0} {i first : ℕ} {bytes : List ℕ} {a b : State} where
  pub start_first : {v : Result T E} → Called told i (MakeFile Current (InProgress first)) a b v → StartsAtAnyMoment told i first bytes a b
  start_first {v} called version list last rs goes start =
      subst (λ (f : ℕ). GoesOn version list last [] rs f bytes → Called told i (MakeFile Current (InProgress f)) a b v → OnlyAt told i a b (Logged version list last last (last + length rs) (disk_at a i)))
      (sym goes.begins) (λ g x. make_work version list last rs bytes g i a start x) goes called

  module _ {v : T} (made : Called {E = E} told i (MakeFile Current (InProgress first)) a b (Ok v)) where
    pub start_second : {c : State} → WritesAtAnyMoment told i first bytes b c → StartsAtAnyMoment told i first bytes a c
    start_second {c} wrote version list last rs goes start =
        subst (λ (f : ℕ). GoesOn version list last [] rs f bytes → Called {E = E} told i (MakeFile Current (InProgress f)) a b (Ok v) → WritesAtAnyMoment told i f bytes b c → OnlyAt told i a c (Logged version list last last (last + length rs) (disk_at a i)))
        (sym goes.begins) (λ g x y. filled_work version list last rs bytes g i a start x y) goes made wrote

    module _ {c d : State} (wrote : WritesAtAnyMoment told i first bytes b c) (has : told → HasWrittenAll i first bytes b c) (seen : OnlyAt told i c d (OldOrNew Current SeenTmp Seen (seen_text_of first) (disk_at c i))) where
      stands_at : (version : Version) (list : Shared) (last : ℕ) (rs : List Record) → GoesOn version list last [] rs first bytes → (told → Rests version list last (disk_at a i)) → told → Writes version list last rs [] (InProgress first) (disk_at c i)
      stands_at version list last rs goes start tells =
          subst (λ (f : ℕ). GoesOn version list last [] rs f bytes → Called {E = E} told i (MakeFile Current (InProgress f)) a b (Ok v) → HasWrittenAll i f bytes b c → Writes version list last rs [] (InProgress f) (disk_at c i))
          (sym goes.begins) (λ g x y. y version list last [] rs g (begun_disk version list last rs bytes g i a start x tells)) goes made (has tells)

      pub start_third : StartsAtAnyMoment told i first bytes a d
      start_third version list last rs goes start =
          subst (λ (f : ℕ). GoesOn version list last [] rs f bytes → Called {E = E} told i (MakeFile Current (InProgress f)) a b (Ok v) → WritesAtAnyMoment told i f bytes b c → (told → Writes version list last rs [] (InProgress f) (disk_at c i))
          → OnlyAt told i c d (OldOrNew Current SeenTmp Seen (seen_text_of f) (disk_at c i)) → OnlyAt told i a d (Logged version list last last (last + length rs) (disk_at a i)))
          (sym goes.begins) (λ g x y z s. seen_work version list last rs bytes g i a start x y z s) goes made wrote (stands_at version list last rs goes start) seen

      seen_disk : (version : Version) (list : Shared) (last : ℕ) (rs : List Record) → GoesOn version list last [] rs first bytes → Rests version list last (disk_at a i) → told → Writes version list last rs [] (InProgress first) (disk_at d i)
      seen_disk version list last rs goes start tells =
          subst (λ (f : ℕ). GoesOn version list last [] rs f bytes → Called {E = E} told i (MakeFile Current (InProgress f)) a b (Ok v) → WritesAtAnyMoment told i f bytes b c → (told → Writes version list last rs [] (InProgress f) (disk_at c i))
          → OnlyAt told i c d (OldOrNew Current SeenTmp Seen (seen_text_of f) (disk_at c i)) → Writes version list last rs [] (InProgress f) (disk_at d i))
          (sym goes.begins) (λ g x y z s. started version list last rs bytes g i a (λ t. start) x y z s tells) goes made wrote (stands_at version list last rs goes (λ t. start)) seen

      pub start_done : {R G : Type 0} (result : Result R G) → told → ((disk_at c i).has Current ≡ true → OnOk result (((disk_at d i).file Current Seen ≡ certain (Some (seen_text_of first))) × ((disk_at d i).file Current SeenTmp ≡ None))) → HasStarted i first bytes a d result
      start_done result tells says version list last rs goes start =
          let before = stands_at version list last rs goes (λ t. start) tells in
          on_ok_by result (says before.rests.has) (λ said. record {
            writes = subst (λ (f : ℕ). Writes version list last rs [] (InProgress f) (disk_at d i)) goes.begins (seen_disk version list last rs goes start tells);
            seen = subst (λ (f : ℕ). (disk_at d i).file Current Seen ≡ certain (Some (seen_text_of f))) goes.begins said.0;
            tmp = said.1;
          })

-- ---- a segment is ended

pub end_first : {told : Type 0} {i first end : ℕ} {bytes : List ℕ} {a b : State} → WritesAtAnyMoment told i first bytes a b → EndsAtAnyMoment told i first end bytes a b
end_first {told} {i} {first} {end} {bytes} {a} {b} wrote version list last kept rs goes is start =
    subst (λ (n : ℕ). OnlyAt told i a b (Logged version list last (last + length kept) n (disk_at a i))) (sym is) (wrote version list last kept rs goes start)

module _ (version : Version) (list : Shared) (last : ℕ) (kept : List Record) (some : 1 ≤ length kept) (room : last + length kept < 2 ^ 63) where
  abbrev last_name : FileName
  last_name = Edits (last + 1, last + length kept)

  module _ {T E told : Type 0} {i : ℕ} {a b : State} {result : Result T E} (start : told → Writes version list last kept [] (InProgress (last + 1)) (disk_at a i)) (called : Called told i (RenameFile Current (InProgress (last + 1)) (Edits (last + 1, last + length kept))) a b result) where
    named : told → (part : Disk) → Makes (RenameFile Current (InProgress (last + 1)) (Edits (last + 1, last + length kept))) (a.reads i) (disk_at a i) part → Writes version list last kept [] (Edits (last + 1, last + length kept)) part
    named tells part makes = finalized version list last kept (a.reads i) (disk_at a i) part some room (start tells) makes

    name_work : OnlyAt told i a b (Logged version list last (last + length kept) (last + length kept) (disk_at a i))
    name_work = work_once called
        (λ tells. record { logs = whole_logs version list last kept (InProgress (last + 1)) (disk_at a i) (start tells); beside = beside_refl (disk_at a i) })
        (λ tells part makes. record {
          logs = whole_logs version list last kept (Edits (last + 1, last + length kept)) part (named tells part makes);
          beside = log_of last (last + 1) (omega arith) (step.End (last + length kept)) (beside_makes (RenameFile Current (InProgress (last + 1)) (Edits (last + 1, last + length kept))) (a.reads i) (disk_at a i) part (rename_on (last + 1) (last + length kept)) makes);
        })

    -- nothing has that name, or the segment
    name_turn : OnlyAt told i a b (λ d. (d.file Current (Edits (last + 1, last + length kept)) ≡ (disk_at a i).file Current (Edits (last + 1, last + length kept))) ⊎ Writes version list last kept [] (Edits (last + 1, last + length kept)) d)
    name_turn = work_once called (λ tells. inl refl) (λ tells part makes. inr (named tells part makes))

    name_done : told → OnOk result (IsEnded version list last kept (last + length kept) (disk_at b i))
    name_done tells = on_ok_by result (called.effect tells).ok (λ done. record { some = some; ends = refl; writes = named tells (disk_at b i) done.disk })

module _ {T E told : Type 0} {i first end : ℕ} {bytes : List ℕ} {a b c : State} {result : Result T E} (wrote : WritesAtAnyMoment told i first bytes a b) (has : told → HasWrittenAll i first bytes a b) (called : Called told i (RenameFile Current (InProgress first) (Edits (first, end))) b c result) where
  module _ (version : Version) (list : Shared) (last : ℕ) (kept rs : List Record) (goes : GoesOn version list last kept rs first bytes) (is : end ≡ last + length (kept ++ rs)) (start : told → Writes version list last kept [] (InProgress first) (disk_at a i)) where
    some_in : 1 ≤ length (kept ++ rs)
    some_in = omega (arith, goes.some, length-append kept rs)

    room_in : last + length (kept ++ rs) < 2 ^ 63
    room_in = omega (arith, length-append kept rs, goes.some, ids_small (last + 1 + length kept) rs goes.ids goes.some)

    rename_work : OnlyAt told i b c (Logged version list last end end (disk_at b i))
    rename_work = subst (λ (f : ℕ). Called told i (RenameFile Current (InProgress f) (Edits (f, end))) b c result → (told → Writes version list last (kept ++ rs) [] (InProgress f) (disk_at b i)) → OnlyAt told i b c (Logged version list last end end (disk_at b i)))
        (sym goes.begins)
        (subst (λ (e : ℕ). Called told i (RenameFile Current (InProgress (last + 1)) (Edits (last + 1, e))) b c result → (told → Writes version list last (kept ++ rs) [] (InProgress (last + 1)) (disk_at b i)) → OnlyAt told i b c (Logged version list last e e (disk_at b i)))
        (sym is)
        (λ x s. name_work version list last (kept ++ rs) some_in room_in s x))
        called (λ tells. has tells version list last kept rs goes (start tells))

    rename_turn : OnlyAt told i b c (λ d. (d.file Current (Edits (first, end)) ≡ (disk_at b i).file Current (Edits (first, end))) ⊎ Writes version list last (kept ++ rs) [] (Edits (first, end)) d)
    rename_turn = subst (λ (f : ℕ). Called told i (RenameFile Current (InProgress f) (Edits (f, end))) b c result → (told → Writes version list last (kept ++ rs) [] (InProgress f) (disk_at b i)) → OnlyAt told i b c (λ d. (d.file Current (Edits (f, end)) ≡ (disk_at b i).file Current (Edits (f, end))) ⊎ Writes version list last (kept ++ rs) [] (Edits (f, end)) d))
        (sym goes.begins)
        (subst (λ (e : ℕ). Called told i (RenameFile Current (InProgress (last + 1)) (Edits (last + 1, e))) b c result → (told → Writes version list last (kept ++ rs) [] (InProgress (last + 1)) (disk_at b i)) → OnlyAt told i b c (λ d. (d.file Current (Edits (last + 1, e)) ≡ (disk_at b i).file Current (Edits (last + 1, e))) ⊎ Writes version list last (kept ++ rs) [] (Edits (last + 1, e)) d))
        (sym is)
        (λ x s. name_turn version list last (kept ++ rs) some_in room_in s x))
        called (λ tells. has tells version list last kept rs goes (start tells))

    rename_done : told → OnOk result (IsEnded version list last (kept ++ rs) end (disk_at c i))
    rename_done tells = subst (λ (f : ℕ). Called told i (RenameFile Current (InProgress f) (Edits (f, end))) b c result → (told → Writes version list last (kept ++ rs) [] (InProgress f) (disk_at b i)) → OnOk result (IsEnded version list last (kept ++ rs) end (disk_at c i)))
        (sym goes.begins)
        (subst (λ (e : ℕ). Called told i (RenameFile Current (InProgress (last + 1)) (Edits (last + 1, e))) b c result → (told → Writes version list last (kept ++ rs) [] (InProgress (last + 1)) (disk_at b i)) → OnOk result (IsEnded version list last (kept ++ rs) e (disk_at c i)))
        (sym is)
        (λ x s. name_done version list last (kept ++ rs) some_in room_in s x tells))
        called (λ t. has t version list last kept rs goes (start t))

  pub end_both : EndsAtAnyMoment told i first end bytes a c
  end_both version list last kept rs goes is start =
      let before = end_first {end = end} wrote version list last kept rs goes is start in
      let reach : last + length kept ≤ end = omega (arith, is, length-append kept rs) in
      work_trans before (work_weaker (rename_work version list last kept rs goes is start) (λ tells d p. logged_weaker (disk_at a i) (last + length kept) end (before.ends tells).beside (omega arith) reach (omega arith) p))

  pub end_done : told → HasEnded i first end bytes a c result
  end_done tells version list last kept rs goes is start = rename_done version list last kept rs goes is (λ t. start) tells

-- ---- what says that bytes are there is written once they last

module _ {told : Type 0} {i first : ℕ} {bytes : List ℕ} {a b : State} (beside : OnlyAt told i a b (Beside (Touched step.Write first) (disk_at a i))) where
  pub start_turn_first : StartsInTurn told i first bytes a b
  start_turn_first version list last rs goes start = work_weaker beside (λ tells d p. inl (p.other_files Seen (λ e. cc)))

  pub end_turn_first : {end : ℕ} → EndsInTurn told i first end bytes a b
  end_turn_first {end} version list last kept rs goes is start = work_weaker beside (λ tells d p. inl (p.other_files (Edits (first, end)) (λ e. cc)))

pub start_turn : {T E told : Type 0} {i first : ℕ} {bytes : List ℕ} {a b c d : State} {v : T} → Called {E = E} told i (MakeFile Current (InProgress first)) a b (Ok v) → OnlyAt told i a c (Beside (Touched step.Write first) (disk_at a i)) → WritesAtAnyMoment told i first bytes b c
    → (told → HasWrittenAll i first bytes b c) → OnlyAt told i c d (OldOrNew Current SeenTmp Seen (seen_text_of first) (disk_at c i)) → StartsInTurn told i first bytes a d
start_turn {E = E} {told = told} {i = i} {bytes = bytes} {a = a} {b = b} {c = c} {d = d} {v = v} made beside wrote has seen version list last rs goes start =
    work_trans (start_turn_first beside version list last rs goes start)
    (subst (λ (f : ℕ). GoesOn version list last [] rs f bytes → Called {E = E} told i (MakeFile Current (InProgress f)) a b (Ok v) → WritesAtAnyMoment told i f bytes b c → (told → Writes version list last rs [] (InProgress f) (disk_at c i))
    → OnlyAt told i c d (OldOrNew Current SeenTmp Seen (seen_text_of f) (disk_at c i)) → OnlyAt told i c d (λ e. (e.file Current Seen ≡ (disk_at a i).file Current Seen) ⊎ Writes version list last rs [] (InProgress f) e))
    (sym goes.begins) (λ g x y z s. work_weaker s (λ tells e small. inr (seen_at version list last rs bytes g i a start x y z s tells e small))) goes made wrote (stands_at made wrote has seen version list last rs goes start) seen)

module _ {T E told : Type 0} {i first end : ℕ} {bytes : List ℕ} {a b c : State} {result : Result T E} (beside : OnlyAt told i a b (Beside (Touched step.Write first) (disk_at a i))) (wrote : WritesAtAnyMoment told i first bytes a b) (has : told → HasWrittenAll i first bytes a b)
    (called : Called told i (RenameFile Current (InProgress first) (Edits (first, end))) b c result) where
  pub end_turn : EndsInTurn told i first end bytes a c
  end_turn version list last kept rs goes is start = work_trans (end_turn_first beside version list last kept rs goes is start)
      (work_weaker (rename_turn wrote has called version list last kept rs goes is start) (λ tells d p. ⊎_elim (λ same. inl (same ∙ (beside.ends tells).other_files (Edits (first, end)) (λ e. cc))) (λ w. inr w) p))
