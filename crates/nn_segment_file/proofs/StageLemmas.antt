-- A step of one directory, from stage to stage.
use Rattle.std.proofs.Common.{◌≡◌, ℕ, ◌+◌, ◌<◌, ◌≤◌, List, [], ◌++◌, None, Result, refl, sym, ◌∙◌, ap, subst, arith, length-append, inl, inr}
use Rattle.std.proofs.lemmas.Bool.{cases_order}
use Rattle.std.proofs.lemmas.Option.{same_Some}
use Rattle.nn_base.specs.declared.file_name.FileName.TheVariants.{InProgress, Edits, Seen, SeenTmp}
use Rattle.nn_base.specs.declared.sub.Sub.TheVariants.{Current}
use Rattle.nn_base.specs.FileText.{IsInRange}
use Rattle.nn_host.specs.Disk.{Disk}
use Rattle.nn_host.proofs.FilesLemmas.{beside}
use Rattle.nn_marks.specs.declared.version.Version.{Version}
use Rattle.nn_host.specs.Moments.{State, disk_at}
use Rattle.nn_chain.specs.Records.{first_in}
use Rattle.nn_record.specs.declared.transaction.Record.{Record}
use Rattle.nn_segment_file.specs.Log.{Shared, Logs, Rests, Writes, IsEnded, IsFinalized, Beside, IsOfLog}
use Rattle.nn_segment_file.specs.Steps.{WritesAtAnyMoment, HasWritten, StartsAtAnyMoment, HasStarted, EndsAtAnyMoment, HasEnded, IsGoing}
use Rattle.nn_segment_file.specs.Stages.{Stage, Ended, Going, Starts, Adds, Ends, last_of, StandsAt, Does, StepsAtAnyMoment, HasStepped, Leads, base_of, IsBegun, OneInProgress, IsAlone}
use Rattle.nn_segment_file.specs.declared.step.Step.{Step}
use Rattle.nn_segment_file.specs.declared.step.Step.TheVariants as step
use Rattle.nn_segment_file.proofs.BesideLemmas.{older_not_log}
use Rattle.nn_segment_file.proofs.CallLemmas.{on_ok_by, synced_file}
use Rattle.nn_segment_file.proofs.StepLemmas.{whole_logs, rested}

module _ {told : Type 0} {i first : ℕ} {bytes : List ℕ} {a b : State} where
  pub starts : StartsAtAnyMoment told i first bytes a b → StepsAtAnyMoment told i step.Start first bytes a b
  starts p version list from to (Starts {last = last} {rs = rs} goes) start = p version list last rs goes start

  pub adds : WritesAtAnyMoment told i first bytes a b → StepsAtAnyMoment told i step.Write first bytes a b
  adds p version list from to (Adds {base = base} {kept = kept} {rs = rs} goes) start =
      p version list base kept rs goes (λ tells. subst (λ (f : ℕ). Writes version list base kept [] (InProgress f) (disk_at a i)) (sym goes.begins) (start tells).writes)

  pub ends : (end : ℕ) → EndsAtAnyMoment told i first end bytes a b → StepsAtAnyMoment told i (step.End end) first bytes a b
  ends end p version list from to (Ends {base = base} {kept = kept} {rs = rs} goes is) start =
      p version list base kept rs goes is (λ tells. subst (λ (f : ℕ). Writes version list base kept [] (InProgress f) (disk_at a i)) (sym goes.begins) (start tells).writes)

module _ {T E : Type 0} (i first : ℕ) (bytes : List ℕ) (a b : State) (result : Result T E) where
  pub has_started : HasStarted i first bytes a b result → HasStepped i step.Start first bytes a b result
  has_started p version list from to (Starts {last = last} {rs = rs} goes) start = p version list last rs goes start

  pub has_added : (disk_at b i).file Current Seen ≡ (disk_at a i).file Current Seen → (disk_at b i).file Current SeenTmp ≡ (disk_at a i).file Current SeenTmp → HasWritten i first bytes a b result → HasStepped i step.Write first bytes a b result
  has_added same same_tmp p version list from to (Adds {base = base} {kept = kept} {rs = rs} goes) start =
      on_ok_by result (p version list base kept rs goes (subst (λ (f : ℕ). Writes version list base kept [] (InProgress f) (disk_at a i)) (sym goes.begins) start.writes)) (λ w. record {
        writes = subst (λ (f : ℕ). Writes version list base (kept ++ rs) [] (InProgress f) (disk_at b i)) goes.begins w;
        seen = same ∙ start.seen;
        tmp = same_tmp ∙ start.tmp;
      })

  pub has_ended : (end : ℕ) → HasEnded i first end bytes a b result → HasStepped i (step.End end) first bytes a b result
  has_ended end p version list from to (Ends {base = base} {kept = kept} {rs = rs} goes is) start =
      p version list base kept rs goes is (subst (λ (f : ℕ). Writes version list base kept [] (InProgress f) (disk_at a i)) (sym goes.begins) start.writes)

-- ---- where a directory's chain ends

pub stage_logs : (version : Version) (list : Shared) (stage : Stage) (d : Disk) → StandsAt version list stage d → Logs version list (last_of stage) (last_of stage) d
stage_logs version list (Ended last) d at = at.logs
stage_logs version list (Going base kept) d at = whole_logs version list base kept (InProgress (base + 1)) d at.writes

module _ {version : Version} {list : Shared} where
  -- a segment that was ended is behind all others, and so no other is in progress
  pub ended_rests : {last end : ℕ} {kept : List Record} {d : Disk} → IsEnded version list last kept end d → Rests version list end d
  ended_rests {last} {end} {kept} {d} p = subst (λ (n : ℕ). Rests version list n d) (sym p.ends) (rested version list last kept (Edits (last + 1, end)) d p.writes p.some)

  pub ended_gone : {last end : ℕ} {kept : List Record} {d : Disk} → IsEnded version list last kept end d → (first : ℕ) → IsInRange (InProgress first) → last < first → d.file Current (InProgress first) ≡ None
  ended_gone {last} {end} {kept} {d} p first ranged above = sym (beside d Current (Edits (last + 1, end)) (InProgress first) None (λ e. cc)) ∙ p.writes.rests.none (InProgress first) first ranged refl above

  pub ended_finalized : {last end : ℕ} {kept : List Record} {d : Disk} → IsEnded version list last kept end d → IsFinalized version.layout (last + 1) end kept d
  ended_finalized {last} {end} {kept} {d} p =
      let few = p.writes.ranged in
      record { whole = synced_file p.writes; gone = ended_gone p (last + 1) (omega arith, omega (arith, few.1, few.2)) (omega arith) }

  going_alone : {base : ℕ} {kept : List Record} {d : Disk} → IsGoing version list base kept d → (first : ℕ) → IsInRange (InProgress first) → base < first → ¬ (first ≡ base + 1) → d.file Current (InProgress first) ≡ None
  going_alone {base} {kept} {d} p first ranged above other =
      sym (beside d Current (InProgress (base + 1)) (InProgress first) None (λ e. other (same_Some first (base + 1) (ap first_in e)))) ∙ p.writes.rests.none (InProgress first) first ranged refl above

-- where a step leads
pub leads_stands : {version : Version} {list : Shared} {step : Step} {first : ℕ} {bytes : List ℕ} {from to : Stage} (does : Does version list step first bytes from to) (d : Disk) → Leads does d → StandsAt version list to d
leads_stands (Starts goes) d at = at
leads_stands (Adds goes) d at = at
leads_stands (Ends goes is) d at = ended_rests at

pub leads_alone : {version : Version} {list : Shared} {step : Step} {first : ℕ} {bytes : List ℕ} {from to : Stage} (does : Does version list step first bytes from to) (d : Disk) → Leads does d → OneInProgress from to d
leads_alone (Starts goes) d at begun ranged above other = going_alone at begun ranged above other
leads_alone (Adds goes) d at begun ranged above other = going_alone at begun ranged above other
leads_alone (Ends goes is) d at begun ranged above other = ended_gone at begun ranged above

-- it begins no later
pub does_rise : {version : Version} {list : Shared} {step : Step} {first : ℕ} {bytes : List ℕ} {from to : Stage} → Does version list step first bytes from to → base_of from ≤ base_of to
does_rise (Starts goes) = omega arith
does_rise (Adds goes) = omega arith
does_rise (Ends goes is) = omega (arith, is)

pub stage_alone : (version : Version) (list : Shared) (stage : Stage) (d : Disk) → StandsAt version list stage d → OneInProgress stage stage d
stage_alone version list (Ended last) d at first ranged above other = at.none (InProgress first) first ranged refl above
stage_alone version list (Going base kept) d at first ranged above other = going_alone at first ranged above other

-- a stage's segment in progress begins behind its base
pub not_begun : (stage : Stage) (first : ℕ) → first ≤ base_of stage → ¬ IsBegun stage first
not_begun (Ended last) first le is = is
not_begun (Going base kept) first le is = omega (arith, le, is)

-- where no other was in progress, and only the log behind the first stage was touched, none is
pub alone_on : (from to : Stage) (old d : Disk) → OneInProgress from to d → Beside (IsOfLog (base_of from)) old d → IsAlone from old → IsAlone to d
alone_on from to old d one same alone first ranged other =
    let older : first ≤ base_of from → d.file Current (InProgress first) ≡ None = λ le. same.other_files (InProgress first) (older_not_log (InProgress first) first refl le) ∙ alone first ranged (not_begun from first le) in
    elim (cases_order first (base_of from)) [
      | inl here ↦ older (omega (arith, here))
      | inr (inl less) ↦ older (omega (arith, less))
      | inr (inr more) ↦ one first ranged more other
    ]

pub does_grow : {version : Version} {list : Shared} {step : Step} {first : ℕ} {bytes : List ℕ} {from to : Stage} → Does version list step first bytes from to → last_of from ≤ last_of to
does_grow (Starts goes) = omega arith
does_grow (Adds {kept = kept} {rs = rs} goes) = omega (arith, length-append kept rs)
does_grow (Ends {kept = kept} {rs = rs} goes is) = omega (arith, is, length-append kept rs)
