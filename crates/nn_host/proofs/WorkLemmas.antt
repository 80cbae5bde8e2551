-- Runs on one directory, from call to call.
use Rattle.std.proofs.Common.{◌≡◌, ◌⊎◌, inl, inr, ⊎_elim, ℕ, ◌≤◌, List, Result, Ok, Err, OnOk, OnErr, refl, sym, ◌∙◌, ap, subst, arith}
use Rattle.std.proofs.lemmas.Bool.Decides.{eqb_tells}
use Rattle.nn_host.specs.Disk.{Disk, Call, Look}
use Rattle.nn_host.specs.Moments.{Dir, Moment, State, Since, Stops, Say, moment, disk_at, faults_at}
use Rattle.nn_host.specs.Calls.{IsCounted, Called, Spoke, Said, Cut, Unsaid}
use Rattle.nn_host.specs.Runs.{AtWork, OnlyAt, Throughout, EachDir, Unspoken}
use Rattle.nn_host.proofs.MomentsLemmas.{since_recorded, since_unrecorded, since_called, moment_called, same_but, frame_refl, frame_trans}
use Rattle.nn_host.proofs.MakesLemmas.{Makes, flight_makes, now_makes}
use Rattle.nn_host.proofs.RunsLemmas.{throughout_trans, throughout_weaker, untouched_spoke}

-- nothing done yet
pub work_refl : {told : Type 0} {i : ℕ} {a : State} {P : Disk → Type 0} → (told → P (disk_at a i)) → OnlyAt told i a a P
work_refl {told} {i} {a} start = record { frame = frame_refl i a; counted = omega arith; later = λ tells. omega arith; ends = start; each = λ tells t m le since. inl since }

-- one run and then another
pub work_trans : {told : Type 0} {i : ℕ} {a b c : State} {P : Disk → Type 0} → OnlyAt told i a b P → OnlyAt told i b c P → OnlyAt told i a c P
work_trans {told} {i} {a} {b} {c} {P} p q = record {
  frame = frame_trans i a b c p.frame q.frame;
  counted = omega (arith, p.counted, q.counted);
  later = λ tells. omega (arith, p.later tells, q.later tells);
  ends = q.ends;
  each = λ tells t m le since. ⊎_elim
      (λ w. p.each tells t m le w)
      (λ w. inr (record { others = same_but i a.now b.now m p.frame.now w.others; disk = w.disk; counted = omega (arith, p.counted, w.counted) }))
      (q.each tells t m (omega (arith, le, p.later tells)) since);
}

pub work_weaker : {told : Type 0} {i : ℕ} {a b : State} {P Q : Disk → Type 0} → OnlyAt told i a b P → (told → (d : Disk) → P d → Q d) → OnlyAt told i a b Q
work_weaker {told} {i} {a} {b} {P} {Q} p weaker = record {
  frame = p.frame;
  counted = p.counted;
  later = p.later;
  ends = λ tells. weaker tells (disk_at b i) (p.ends tells);
  each = λ tells t m le since. ⊎_elim (λ w. inl w) (λ w. inr (record { others = w.others; disk = weaker tells (m.dirs i).disk w.disk; counted = w.counted })) (p.each tells t m le since);
}

not_fallen : {T E : Type 0} (i : ℕ) (old new : State) (result : Result T E) → IsCounted i old new result → faults_at old i ≤ faults_at new i
not_fallen i old new (Ok v) counted = omega (arith, counted.ok)
not_fallen i old new (Err e) counted = omega (arith, counted.err)

-- one call: it is enough that each disk that it may make has P
pub work_once : {T E told : Type 0} {i : ℕ} {call : Call} {old new : State} {result : Result T E} {P : Disk → Type 0} → Called told i call old new result
    → (told → P (disk_at old i)) → (told → (part : Disk) → Makes call (old.reads i) (disk_at old i) part → P part) → OnlyAt told i old new P
work_once {T} {E} {told} {i} {call} {old} {new} {result} {P} called before makes = record {
  frame = called.frame;
  counted = not_fallen i old new result called.counted;
  later = λ tells. moment_called i call old new result (called.effect tells);
  ends = at_end;
  each = λ tells t m le since. ⊎_elim
      (λ earlier. inl earlier)
      (λ here. inr (⊎_elim
      (λ stopped. record { others = stopped.0; disk = makes tells (m.dirs i).disk (flight_makes call (old.reads i) (disk_at old i) (m.dirs i).disk stopped.1); counted = omega (arith, stopped.2) })
      (λ now. subst (λ (x : Moment). AtWork i old x P) (sym now) (record { others = called.frame.now; disk = at_end tells; counted = not_fallen i old new result called.counted }))
      here))
      (since_called i call old new result (called.effect tells) t m le since);
}
  where
    at_end : told → P (disk_at new i)
    at_end tells = ⊎_elim (λ same. subst P (sym same) (before tells)) (λ made. makes tells (disk_at new i) made) (now_makes i call old new result (called.effect tells))

-- a run and one call more
pub work_more : {T E told : Type 0} {i : ℕ} {call : Call} {a b c : State} {result : Result T E} {P : Disk → Type 0} → OnlyAt told i a b P → Called told i call b c result
    → (told → P (disk_at b i) → (part : Disk) → Makes call (b.reads i) (disk_at b i) part → P part) → OnlyAt told i a c P
work_more p called makes = work_trans p (work_once called p.ends (λ tells part made. makes tells (p.ends tells) part made))

-- of a host that tells what the other does
pub work_told : {told more : Type 0} {i : ℕ} {a b : State} {P : Disk → Type 0} → (more → told) → OnlyAt told i a b P → OnlyAt more i a b P
work_told tell p = record { frame = p.frame; counted = p.counted; later = λ t. p.later (tell t); ends = λ t. p.ends (tell t); each = λ t. p.each (tell t) }

-- looks: at each moment the disk is as it was at the beginning

pub still_refl : {told : Type 0} {i : ℕ} {a : State} → OnlyAt told i a a (λ d. d ≡ disk_at a i)
still_refl = work_refl (λ tells. refl)

pub still_once : {T E told : Type 0} {i : ℕ} {a b : State} {result : Result T E} → Called told i Look a b result → OnlyAt told i a b (λ d. d ≡ disk_at a i)
still_once called = work_once called (λ tells. refl) (λ tells part makes. absurd makes)

pub still_then : {told : Type 0} {i : ℕ} {a b c : State} → OnlyAt told i a b (λ d. d ≡ disk_at a i) → OnlyAt told i b c (λ d. d ≡ disk_at b i) → OnlyAt told i a c (λ d. d ≡ disk_at a i)
still_then p q = work_trans p (work_weaker q (λ tells d same. same ∙ p.ends tells))

-- what holds of all directories, where this one alone is touched
pub throughout_work : {told : Type 0} {i : ℕ} {a b : State} {P : Disk → Type 0} {Q : Moment → Type 0} → OnlyAt told i a b P → (told → (m : Moment) → AtWork i a m P → Q m) → Throughout told a b Q
throughout_work {told} {i} {a} {b} p imp = record {
  count = p.frame.count;
  later = p.later;
  ends = λ tells. imp tells b.now (record { others = p.frame.now; disk = p.ends tells; counted = p.counted });
  each = λ tells t m le since. ⊎_elim (λ w. inl w) (λ w. inr (imp tells m w)) (p.each tells t m le since);
}

-- a run on one directory says nothing
pub unspoken_work : {told : Type 0} {i : ℕ} {a b : State} {P : Disk → Type 0} → OnlyAt told i a b P → Unspoken told a b
unspoken_work p = record {
  now = record { said = p.frame.now.said; out_faults = p.frame.now.out_faults };
  each = throughout_work p (λ tells m work. record { said = work.others.said; out_faults = work.others.out_faults });
}

-- in it no directory's count falls
pub counts_rise : {told : Type 0} {i : ℕ} {a b : State} {P : Disk → Type 0} → OnlyAt told i a b P → Throughout told a b (λ m. (j : ℕ) → faults_at a j ≤ (m.dirs j).faults)
counts_rise {told} {i} {a} {b} {P} p = throughout_work p (λ tells m work j. at m work j)
  where
    at : (m : Moment) → AtWork i a m P → (j : ℕ) → faults_at a j ≤ (m.dirs j).faults
    at m work j = elim (eqb_tells j i) [
      | inl is ↦ subst (λ (k : ℕ). faults_at a k ≤ (m.dirs k).faults) (sym is.1) work.counted
      | inr differs ↦ subst (λ (d : Dir). faults_at a j ≤ d.faults) (sym (work.others.dirs j differs.1)) (omega arith)
    ]

-- a run on one directory keeps what each directory has, if what it makes of this one has it at each count that hasn't fallen
pub each_dir_work : {told : Type 0} {i : ℕ} {a b c : State} {P : Disk → Type 0} {K : ℕ → Dir → Type 0} → Throughout told a b (EachDir K) → OnlyAt told i b c P
    → (told → (d : Dir) → P d.disk → faults_at b i ≤ d.faults → K i d) → Throughout told a c (EachDir K)
each_dir_work {told} {i} {a} {b} {c} {P} {K} p q here = throughout_trans p (throughout_work q (λ tells m work. record { at = λ j. pick tells m work j }))
  where
    pick : told → (m : Moment) → AtWork i b m P → (j : ℕ) → K j (m.dirs j)
    pick tells m work j = elim (eqb_tells j i) [
      | inl is ↦ subst (λ (k : ℕ). K k (m.dirs k)) (sym is.1) (here tells (m.dirs i) work.disk work.counted)
      | inr differs ↦ subst (λ (d : Dir). K j d) (sym (work.others.dirs j differs.1)) ((p.ends tells).at j)
    ]

-- something was said: at each moment of it each directory is as it was
pub throughout_said : {T E told : Type 0} {bytes : List ℕ} {old new : State} {result : Result T E} → Spoke told bytes old new result → Throughout told old new (λ m. m.dirs ≡ old.now.dirs)
throughout_said {T} {E} {told} {bytes} {old} {new} {result} spoke = record {
  count = spoke.count;
  later = (untouched_spoke spoke).later;
  ends = λ tells. spoke.dirs;
  each = λ tells t m le since. moments result (spoke.ok tells) (spoke.err tells) t m le since;
}
  where
    sorted : (m : Moment) → Stops (Say bytes) old.now m ⊎ (m ≡ new.now) → m.dirs ≡ old.now.dirs
    sorted m w = ⊎_elim (λ stopped. stopped.0) (λ now. ap (λ (x : Moment). x.dirs) now ∙ spoke.dirs) w

    moments : (r : Result T E) → OnOk r (Said bytes old new) → OnErr r (Cut bytes old new ⊎ Unsaid old new) → (t : ℕ) (m : Moment) → t ≤ moment old → Since new t m → Since old t m ⊎ (m.dirs ≡ old.now.dirs)
    moments (Ok v) ok err t m le s = ⊎_elim (λ w. inl w) (λ w. inr (sorted m w)) (since_recorded old new (Say bytes) ok.recorded t m le s)
    moments (Err e) ok err t m le s = ⊎_elim
        (λ cut. ⊎_elim (λ w. inl w) (λ w. inr (sorted m w)) (since_recorded old new (Say bytes) cut.recorded t m le s))
        (λ unsaid. ⊎_elim (λ w. inl w) (λ now. inr (sorted m (inr now))) (since_unrecorded old new unsaid.unrecorded t m s))
        err

-- what was said keeps what each directory has
pub each_dir_said : {T E told : Type 0} {bytes : List ℕ} {a b c : State} {result : Result T E} {K : ℕ → Dir → Type 0} → Throughout told a b (EachDir K) → Spoke told bytes b c result → Throughout told a c (EachDir K)
each_dir_said {b = b} {K = K} p spoke = throughout_trans p (throughout_weaker (throughout_said spoke) (λ tells m same. record { at = λ j. subst (λ (dirs : ℕ → Dir). K j (dirs j)) (sym same) ((p.ends tells).at j) }))
