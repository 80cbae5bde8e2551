-- The steps of a segment touch nothing but the log.
use Rattle.std.proofs.Common.{◌≡◌, ◌≢◌, ⊎_elim, inl, inr, ℕ, ◌<◌, ◌≤◌, List, Result, Some, None, refl, sym, ◌∙◌, ap, arith}
use Rattle.std.proofs.lemmas.Option.{same_Some}
use Rattle.nn_base.specs.declared.sub.Sub.{Sub}
use Rattle.nn_base.specs.declared.sub.Sub.TheVariants.{Current}
use Rattle.nn_base.specs.declared.file_name.FileName.{FileName}
use Rattle.nn_base.specs.declared.file_name.FileName.TheVariants.{Seen, SeenTmp, Edits, InProgress}
use Rattle.nn_host.specs.Disk.{Disk, Reads, Call, MakeFile, Append, Sync, RenameFile}
use Rattle.nn_host.specs.Moments.{State, disk_at}
use Rattle.nn_host.specs.Calls.{Called}
use Rattle.nn_host.specs.Runs.{OnlyAt}
use Rattle.nn_host.proofs.MakesLemmas.{Makes}
use Rattle.nn_host.proofs.TouchLemmas.{Touches, Moves, untouched, unmoved, rooted}
use Rattle.nn_host.proofs.WorkLemmas.{work_once, work_trans, work_weaker}
use Rattle.nn_small.specs.Small.{OldOrNew}
use Rattle.nn_chain.specs.Records.{first_in}
use Rattle.nn_segment_file.specs.Log.{Beside, IsOfLog}
use Rattle.nn_segment_file.specs.Stages.{Touched}
use Rattle.nn_segment_file.specs.declared.step.Step.{Step}
use Rattle.nn_segment_file.specs.declared.step.Step.TheVariants as step

pub beside_refl : {touched : FileName → Type 0} (d : Disk) → Beside touched d d
beside_refl d = record { root = refl; subs = λ s. refl; other_subs = λ s n ne. refl; other_files = λ n out. refl }

pub beside_trans : {touched : FileName → Type 0} {a b c : Disk} → Beside touched a b → Beside touched b c → Beside touched a c
beside_trans p q = record {
  root = q.root ∙ p.root;
  subs = λ s. q.subs s ∙ p.subs s;
  other_subs = λ s n ne. q.other_subs s n ne ∙ p.other_subs s n ne;
  other_files = λ n out. q.other_files n out ∙ p.other_files n out;
}

pub beside_weaker : {some more : FileName → Type 0} {old d : Disk} → ((n : FileName) → some n → more n) → Beside some old d → Beside more old d
beside_weaker imp p = record { root = p.root; subs = p.subs; other_subs = p.other_subs; other_files = λ n out. p.other_files n (λ t. out (imp n t)) }

-- ---- which files are of the log

pub log_weaker : {low base : ℕ} → low ≤ base → (n : FileName) → IsOfLog base n → IsOfLog low n
log_weaker le n t = ⊎_elim (λ e. inl e) (λ r. inr (⊎_elim (λ e. inl e) (λ s. inr (s.0, s.1, omega (arith, le, s.2))) r)) t

-- a file that begins no segment
pub not_log : {base : ℕ} (n : FileName) → first_in n ≡ None → n ≢ Seen → n ≢ SeenTmp → ¬ IsOfLog base n
not_log n none seen tmp t = ⊎_elim (λ e. seen e) (λ r. ⊎_elim (λ e. tmp e) (λ s. let apart = sym none ∙ s.1 in cc) r) t

-- a segment that begins no later
pub older_not_log : {base : ℕ} (n : FileName) (first : ℕ) → first_in n ≡ Some first → first ≤ base → ¬ IsOfLog base n
older_not_log n first begins le t = ⊎_elim
    (λ e. let apart = sym begins ∙ ap first_in e in cc)
    (λ r. ⊎_elim (λ e. let apart = sym begins ∙ ap first_in e in cc) (λ s. omega (arith, le, s.2, same_Some first s.0 (sym begins ∙ s.1))) r)
    t

-- those that a step touches are
touched_log : {base first : ℕ} → base < first → (act : Step) (n : FileName) → Touched act first n → IsOfLog base n
touched_log {base} {first} lt step.Start n t = ⊎_elim (λ e. inr (inr (first, ap first_in e, lt))) (λ r. ⊎_elim (λ e. inl e) (λ e. inr (inl e)) r) t
touched_log {base} {first} lt step.Write n t = inr (inr (first, ap first_in t, lt))
touched_log {base} {first} lt (step.End end) n t = ⊎_elim (λ e. inr (inr (first, ap first_in e, lt))) (λ e. inr (inr (first, ap first_in e, lt))) t

pub log_of : {old d : Disk} (base first : ℕ) → base < first → (act : Step) → Beside (Touched act first) old d → Beside (IsOfLog base) old d
log_of base first lt act p = beside_weaker (touched_log lt act) p

-- ---- a call that touches these files alone, and moves no folder

pub OnFiles : (FileName → Type 0) → Call → Type 0
OnFiles touched call = ((s : Sub) (n : FileName) → Touches call s n → (s ≡ Current) × touched n) × ((s : Sub) → Moves call s → ⊥)

pub beside_makes : {touched : FileName → Type 0} (call : Call) (r : Reads) (d part : Disk) → OnFiles touched call → Makes call r d part → Beside touched d part
unfolding OnFiles
beside_makes call r d part on makes = record {
  root = rooted call r d part makes;
  subs = λ s. unmoved call r d part s makes (on.1 s);
  other_subs = λ s n ne. untouched call r d part s n makes (λ t. ne (on.0 s n t).0);
  other_files = λ n out. untouched call r d part Current n makes (λ t. out (on.0 Current n t).1);
}

module _ (first : ℕ) where
  pub make_on : OnFiles (Touched step.Write first) (MakeFile Current (InProgress first))
  unfolding OnFiles
  make_on = (λ s n t. (t.0, t.1), λ s t. t)

  pub append_on : (bytes : List ℕ) → OnFiles (Touched step.Write first) (Append Current (InProgress first) bytes)
  unfolding OnFiles
  append_on bytes = (λ s n t. (t.0, t.1), λ s t. t)

  pub sync_on : OnFiles (Touched step.Write first) (Sync Current (InProgress first))
  unfolding OnFiles
  sync_on = (λ s n t. (t.0, t.1), λ s t. t)

  pub rename_on : (last : ℕ) → OnFiles (Touched (step.End last) first) (RenameFile Current (InProgress first) (Edits (first, last)))
  unfolding OnFiles
  rename_on last = (λ s n t. (t.0, t.1), λ s t. t)

  pub beside_small : (bytes : List ℕ) (old d : Disk) → OldOrNew Current SeenTmp Seen bytes old d → Beside (Touched step.Start first) old d
  beside_small bytes old d p = record { root = p.root; subs = p.subs; other_subs = λ s n ne. p.other_subs s n ne; other_files = λ n out. p.other_files n (λ e. out (inr (inr e))) (λ e. out (inr (inl e))) }

-- ---- over runs

pub beside_once : {T E told : Type 0} {touched : FileName → Type 0} {i : ℕ} {call : Call} {a b : State} {result : Result T E} → OnFiles touched call → Called told i call a b result → OnlyAt told i a b (Beside touched (disk_at a i))
beside_once {i = i} {call = call} {a = a} on called = work_once called (λ tells. beside_refl (disk_at a i)) (λ tells part makes. beside_makes call (a.reads i) (disk_at a i) part on makes)

pub beside_then : {told : Type 0} {touched : FileName → Type 0} {i : ℕ} {a b c : State} → OnlyAt told i a b (Beside touched (disk_at a i)) → OnlyAt told i b c (Beside touched (disk_at b i)) → OnlyAt told i a c (Beside touched (disk_at a i))
beside_then p q = work_trans p (work_weaker q (λ tells d is. beside_trans (p.ends tells) is))

module _ {told : Type 0} {i first : ℕ} {old : Disk} {a b : State} where
  pub start_run : OnlyAt told i a b (Beside (Touched step.Write first) old) → OnlyAt told i a b (Beside (Touched step.Start first) old)
  start_run p = work_weaker p (λ tells d is. beside_weaker (λ n t. inl t) is)

  pub end_run : {end : ℕ} → OnlyAt told i a b (Beside (Touched step.Write first) old) → OnlyAt told i a b (Beside (Touched (step.End end) first) old)
  end_run p = work_weaker p (λ tells d is. beside_weaker (λ n t. inl t) is)

pub beside_seen : {told : Type 0} {i first : ℕ} {bytes : List ℕ} {a b : State} → OnlyAt told i a b (OldOrNew Current SeenTmp Seen bytes (disk_at a i)) → OnlyAt told i a b (Beside (Touched step.Start first) (disk_at a i))
beside_seen {i = i} {first = first} {bytes = bytes} {a = a} work = work_weaker work (λ tells d small. beside_small first bytes (disk_at a i) d small)
