-- Runs of any fact, runs that change no directory or say nothing, and which counts rose, from call to call.
use Rattle.std.proofs.lemmas.List.{append-nil, take_all}
use Rattle.std.proofs.lemmas.List.Elements.{All-nil, All-cons, All-append}
use Rattle.std.proofs.Common.{◌≡◌, ◌⊎◌, inl, inr, ⊎_elim, ℕ, ◌<◌, ◌≤◌, List, [], ◌∷◌, ◌++◌, length, take, Bool, true, false, if◌then◌else◌, Result, Ok, Err, IsErr, is_ok, refl, sym, ◌∙◌, ap, subst, arith, append_assoc}
use Rattle.std.proofs.lemmas.Bool.Decides.{eqb_tells}
use Rattle.nn_host.specs.Disk.{Reads, Look}
use Rattle.nn_host.specs.Moments.{Dir, Moment, Entry, On, State, Say, moment, disk_at, faults_at, Stops, Since}
use Rattle.nn_host.specs.Calls.{Frame, IsCounted, Effect, Recorded, Called, Spoke, next_count}
use Rattle.nn_host.specs.Runs.{Throughout, Undisturbed, Untouched, OutWhole, SilentAfter, OutAsIn, Unspoken, SameCounts, RoseAt, Looked, AllAnswered, LooksAlone}
use Rattle.nn_host.proofs.MomentsLemmas.{since_recorded, since_unrecorded, since_called, moment_recorded, moment_unrecorded, moment_called, frame_refl, frame_trans}

-- runs of any fact

pub throughout_refl : {told : Type 0} {a : State} {Q : Moment → Type 0} → (told → Q a.now) → Throughout told a a Q
throughout_refl start = record { count = refl; later = λ tells. omega arith; ends = start; each = λ tells t m le since. inl since }

pub throughout_trans : {told : Type 0} {a b c : State} {Q : Moment → Type 0} → Throughout told a b Q → Throughout told b c Q → Throughout told a c Q
throughout_trans p q = record {
  count = q.count ∙ p.count;
  later = λ tells. omega (arith, p.later tells, q.later tells);
  ends = q.ends;
  each = λ tells t m le since. ⊎_elim (λ w. p.each tells t m le w) (λ w. inr w) (q.each tells t m (omega (arith, le, p.later tells)) since);
}

pub throughout_weaker : {told : Type 0} {a b : State} {P Q : Moment → Type 0} → Throughout told a b P → (told → (m : Moment) → P m → Q m) → Throughout told a b Q
throughout_weaker {b = b} p weaker = record {
  count = p.count;
  later = p.later;
  ends = λ tells. weaker tells b.now (p.ends tells);
  each = λ tells t m le since. ⊎_elim (λ w. inl w) (λ w. inr (weaker tells m w)) (p.each tells t m le since);
}

-- of a host that tells what the other does
pub throughout_told : {told more : Type 0} {a b : State} {Q : Moment → Type 0} → (more → told) → Throughout told a b Q → Throughout more a b Q
throughout_told tell p = record { count = p.count; later = λ t. p.later (tell t); ends = λ t. p.ends (tell t); each = λ t. p.each (tell t) }

-- two facts of each moment
pub throughout_both : {told : Type 0} {a b : State} {P Q : Moment → Type 0} → Throughout told a b P → Throughout told a b Q → Throughout told a b (λ m. P m × Q m)
throughout_both p q = record {
  count = p.count;
  later = p.later;
  ends = λ tells. (p.ends tells, q.ends tells);
  each = λ tells t m le since. ⊎_elim (λ w. inl w) (λ one. ⊎_elim (λ w. inl w) (λ two. inr (one, two)) (q.each tells t m le since)) (p.each tells t m le since);
}

-- runs that change no directory

undisturbed_trans : (a b : State) (m : Moment) → Undisturbed a b.now → Undisturbed b m → Undisturbed a m
undisturbed_trans a b m p q = record { disks = λ j. q.disks j ∙ p.disks j }

pub untouched_refl : {told : Type 0} {a : State} → Untouched told a a
untouched_refl = throughout_refl (λ tells. record { disks = λ j. refl })

pub untouched_trans : {told : Type 0} {a b c : State} → Untouched told a b → Untouched told b c → Untouched told a c
untouched_trans {a = a} {b = b} p q = record {
  count = q.count ∙ p.count;
  later = λ tells. omega (arith, p.later tells, q.later tells);
  ends = λ tells. record { disks = λ j. (q.ends tells).disks j ∙ (p.ends tells).disks j };
  each = λ tells t m le since. ⊎_elim (λ w. p.each tells t m le w) (λ w. inr (undisturbed_trans a b m (p.ends tells) w)) (q.each tells t m (omega (arith, le, p.later tells)) since);
}

-- runs in which the output doesn't fail

pub out_whole_refl : {told : Type 0} {a : State} → OutWhole told a a
out_whole_refl = throughout_refl (λ tells. refl)

pub out_whole_trans : {told : Type 0} {a b c : State} → OutWhole told a b → OutWhole told b c → OutWhole told a c
out_whole_trans {told} p q = throughout_trans p (throughout_weaker q (λ tells m same. same ∙ p.ends tells))

pub silent_whole : {told : Type 0} {a b : State} → OutWhole told a b → SilentAfter told a b
silent_whole p = throughout_weaker p (λ tells m same. inl same)

pub silent_after : {told : Type 0} {a b c : State} → OutWhole told a b → SilentAfter told b c → SilentAfter told a c
silent_after p q = throughout_trans
    (throughout_weaker p (λ tells m same. inl same))
    (throughout_weaker q (λ tells m either. ⊎_elim (λ same. inl (same ∙ p.ends tells)) (λ said. inr said) either))

-- runs in which nothing is said

pub unspoken_refl : {told : Type 0} {a : State} → Unspoken told a a
unspoken_refl {told} {a} = record { now = same; each = throughout_refl (λ tells. same) }
  where
    same : OutAsIn a a.now
    same = record { said = refl; out_faults = refl }

pub unspoken_trans : {told : Type 0} {a b c : State} → Unspoken told a b → Unspoken told b c → Unspoken told a c
unspoken_trans {told} {a} {b} {c} p q = record { now = on c.now q.now; each = throughout_trans p.each (throughout_weaker q.each (λ tells m same. on m same)) }
  where
    on : (m : Moment) → OutAsIn b m → OutAsIn a m
    on m same = record { said = same.said ∙ p.now.said; out_faults = same.out_faults ∙ p.now.out_faults }

pub out_whole_unspoken : {told : Type 0} {a b : State} → Unspoken told a b → OutWhole told a b
out_whole_unspoken p = throughout_weaker p.each (λ tells m same. same.out_faults)

-- which counts rose

pub counts_refl : {a : State} → SameCounts a a
counts_refl = record { faults = λ j. refl }

pub counts_trans : {a b c : State} → SameCounts a b → SameCounts b c → SameCounts a c
counts_trans p q = record { faults = λ j. q.faults j ∙ p.faults j }

pub counts_once : {i : ℕ} {a b : State} → Frame i a b → faults_at b i ≡ faults_at a i → SameCounts a b
counts_once {i} {a} {b} frame here = record { faults = λ j. at j }
  where
    at : (j : ℕ) → faults_at b j ≡ faults_at a j
    at j = elim (eqb_tells j i) [
      | inl is ↦ subst (λ (k : ℕ). faults_at b k ≡ faults_at a k) (sym is.1) here
      | inr differs ↦ ap (λ (d : Dir). d.faults) (frame.now.dirs j differs.1)
    ]

-- no count rose, and then that of one directory
pub rose_last : {i : ℕ} {a b c : State} → SameCounts a b → i < a.count → Frame i b c → faults_at c i ≡ next_count (faults_at b i) → RoseAt i a c
rose_last {i} p below frame rose = record {
  below = below;
  rose = rose ∙ ap next_count (p.faults i);
  others = λ j ne. ap (λ (d : Dir). d.faults) (frame.now.dirs j ne) ∙ p.faults j;
}

pub rose_then : {i : ℕ} {a b c : State} → SameCounts a b → b.count ≡ a.count → RoseAt i b c → RoseAt i a c
rose_then {i} p same q = record { below = subst (λ (n : ℕ). i < n) same q.below; rose = q.rose ∙ ap next_count (p.faults i); others = λ j ne. q.others j ne ∙ p.faults j }

-- looks

same_disk : {T E : Type 0} (i : ℕ) (old new : State) (result : Result T E) → Effect i Look old new result → disk_at new i ≡ disk_at old i
same_disk i old new (Ok v) effect = effect.ok.disk
same_disk i old new (Err e) effect = ⊎_elim (λ broken. ⊎_elim (λ same. same) (λ same. same) broken.disk) (λ unbegun. unbegun.disk) effect.err

one_look : (i : ℕ) (old new : State) → Frame i old new → disk_at new i ≡ disk_at old i → Undisturbed old new.now
one_look i old new frame here = record { disks = λ j. at j }
  where
    at : (j : ℕ) → disk_at new j ≡ disk_at old j
    at j = elim (eqb_tells j i) [
      | inl is ↦ subst (λ (k : ℕ). disk_at new k ≡ disk_at old k) (sym is.1) here
      | inr differs ↦ ap (λ (d : Dir). d.disk) (frame.now.dirs j differs.1)
    ]

pub looked_once : {T E told : Type 0} {i : ℕ} {old new : State} {result : Result T E} → Called told i Look old new result → Looked told i old new (is_ok result)
looked_once {T} {E} {told} {i} {old} {new} {result} called = record {
  frame = called.frame;
  counted = counted result called.counted;
  untouched = record {
    count = called.frame.count;
    later = λ tells. moment_called i Look old new result (called.effect tells);
    ends = at_end;
    each = λ tells t m le since. ⊎_elim
        (λ w. inl w)
        (λ w. ⊎_elim (λ stopped. absurd stopped.1) (λ now. inr (subst (λ (x : Moment). Undisturbed old x) (sym now) (at_end tells))) w)
        (since_called i Look old new result (called.effect tells) t m le since);
  };
  out = record {
    count = called.frame.count;
    later = λ tells. moment_called i Look old new result (called.effect tells);
    ends = λ tells. called.frame.now.out_faults;
    each = λ tells t m le since. ⊎_elim
        (λ w. inl w)
        (λ w. ⊎_elim (λ stopped. absurd stopped.1) (λ now. inr (ap (λ (x : Moment). x.out_faults) now ∙ called.frame.now.out_faults)) w)
        (since_called i Look old new result (called.effect tells) t m le since);
  };
  reads = λ tells. same_reads result (called.effect tells);
  calls = λ tells. one_entry result (called.effect tells);
}
  where
    at_end : told → Undisturbed old new.now
    at_end tells = one_look i old new called.frame (same_disk i old new result (called.effect tells))

    counted : (r : Result T E) → IsCounted i old new r → faults_at new i ≡ (if is_ok r then faults_at old i else next_count (faults_at old i))
    counted (Ok v) is = is.ok
    counted (Err e) is = is.err

    same_reads : (r : Result T E) → Effect i Look old new r → is_ok r ≡ true → new.reads i ≡ old.reads i
    same_reads (Ok v) effect answered = effect.ok.reads
    same_reads (Err e) effect answered = cc

    one : List Entry
    one = record { ended = old.ended; before = old.now; event = On i Look } ∷ []

    recorded : Recorded (On i Look) old new → LooksAlone i old new
    recorded r = (one, r.trace, All-cons (λ (e : Entry). e.event ≡ On i Look) (record { ended = old.ended; before = old.now; event = On i Look }) [] refl (All-nil (λ (e : Entry). e.event ≡ On i Look)))

    one_entry : (r : Result T E) → Effect i Look old new r → LooksAlone i old new
    one_entry (Ok v) effect = recorded effect.ok.recorded
    one_entry (Err e) effect = ⊎_elim (λ broken. recorded broken.recorded) (λ unbegun. ([], unbegun.unrecorded.trace ∙ sym (append-nil old.trace), All-nil (λ (e : Entry). e.event ≡ On i Look))) effect.err

-- nothing was asked yet
pub looked_refl : {told : Type 0} {i : ℕ} {a : State} → Looked told i a a true
looked_refl {told} {i} {a} = record { frame = frame_refl i a; counted = refl; untouched = untouched_refl; out = out_whole_refl; reads = λ tells is. refl; calls = λ tells. ([], sym (append-nil a.trace), All-nil (λ (e : Entry). e.event ≡ On i Look)) }

-- a look that was answered, and then further ones
pub looked_then : {told : Type 0} {i : ℕ} {a b c : State} {answered : Bool} → Looked told i a b true → Looked told i b c answered → Looked told i a c answered
looked_then {told} {i} {a} {b} {c} {answered} p q = record {
  frame = frame_trans i a b c p.frame q.frame;
  counted = q.counted ∙ (λ k. if answered then p.counted k else next_count (p.counted k));
  untouched = untouched_trans p.untouched q.untouched;
  out = out_whole_trans p.out q.out;
  reads = λ tells is. q.reads tells is ∙ p.reads tells refl;
  calls = λ tells.
      let first = p.calls tells in
      let more = q.calls tells in (
        first.0 ++ more.0,
        more.1 ∙ ap (λ (l : List Entry). l ++ more.0) first.1 ∙ append_assoc a.trace first.0 more.0,
        All-append (λ (e : Entry). e.event ≡ On i Look) first.0 more.0 first.2 more.2,
      );
}

-- a function that hands a failed look on has failed
pub looked_failed : {T E told : Type 0} {i : ℕ} {a b : State} (result : Result T E) → Looked told i a b false → IsErr result → Looked told i a b (is_ok result)
looked_failed (Ok v) p failed = cc
looked_failed (Err e) p failed = p

-- something was said

later_spoke : {T E told : Type 0} {bytes : List ℕ} {old new : State} (result : Result T E) → Spoke told bytes old new result → told → moment old ≤ moment new
later_spoke {bytes = bytes} {old = old} {new = new} (Ok v) spoke tells = moment_recorded old new (Say bytes) (spoke.ok tells).recorded
later_spoke {bytes = bytes} {old = old} {new = new} (Err e) spoke tells =
    ⊎_elim (λ cut. moment_recorded old new (Say bytes) cut.recorded) (λ unsaid. moment_unrecorded old new unsaid.unrecorded) (spoke.err tells)

since_spoke : {T E told : Type 0} {bytes : List ℕ} {old new : State} (result : Result T E) → Spoke told bytes old new result → told → (t : ℕ) (m : Moment) → t ≤ moment old
    → Since new t m → Since old t m ⊎ (Stops (Say bytes) old.now m ⊎ (m ≡ new.now))
since_spoke {bytes = bytes} {old = old} {new = new} (Ok v) spoke tells t m le since = since_recorded old new (Say bytes) (spoke.ok tells).recorded t m le since
since_spoke {bytes = bytes} {old = old} {new = new} (Err e) spoke tells t m le since = ⊎_elim
    (λ cut. since_recorded old new (Say bytes) cut.recorded t m le since)
    (λ unsaid. ⊎_elim (λ w. inl w) (λ now. inr (inr now)) (since_unrecorded old new unsaid.unrecorded t m since))
    (spoke.err tells)

-- each moment of it has Q, if those inside it and its end have
spoke_throughout : {T E told : Type 0} {bytes : List ℕ} {old new : State} {result : Result T E} (Q : Moment → Type 0) → Spoke told bytes old new result
    → ((m : Moment) → Stops (Say bytes) old.now m → Q m) → (told → Q new.now) → Throughout told old new Q
spoke_throughout {result = result} Q spoke inside end = record {
  count = spoke.count;
  later = λ tells. later_spoke result spoke tells;
  ends = end;
  each = λ tells t m le since. ⊎_elim
      (λ w. inl w)
      (λ w. inr (⊎_elim (λ stopped. inside m stopped) (λ now. subst Q (sym now) (end tells)) w))
      (since_spoke result spoke tells t m le since);
}

pub untouched_spoke : {T E told : Type 0} {bytes : List ℕ} {old new : State} {result : Result T E} → Spoke told bytes old new result → Untouched told old new
untouched_spoke {old = old} {new = new} spoke = spoke_throughout (Undisturbed old) spoke (λ m stopped. same m stopped.0) (λ tells. same new.now spoke.dirs)
  where
    same : (m : Moment) → m.dirs ≡ old.now.dirs → Undisturbed old m
    same m dirs = record { disks = λ j. ap (λ (f : ℕ → Dir). (f j).disk) dirs }

pub silent_spoke : {T E told : Type 0} {bytes : List ℕ} {old new : State} {result : Result T E} → Spoke told bytes old new result → SilentAfter told old new
silent_spoke {old = old} {new = new} spoke =
    spoke_throughout (λ m. (m.out_faults ≡ old.now.out_faults) ⊎ (m.said ≡ new.now.said)) spoke (λ m stopped. inl stopped.1) (λ tells. inr refl)

pub out_spoke : {T E told : Type 0} {bytes : List ℕ} {old new : State} {v : T} → Spoke {T = T} {E = E} told bytes old new (Ok v) → OutWhole told old new
out_spoke {old = old} spoke = spoke_throughout (λ m. m.out_faults ≡ old.now.out_faults) spoke (λ m stopped. stopped.1) (λ tells. spoke.counted_ok)

-- an output that failed took a front of the bytes
pub spoke_front : {T E told : Type 0} {bytes : List ℕ} {old new : State} {e : E} → Spoke {T = T} {E = E} told bytes old new (Err e) → told → (n : ℕ) × (new.now.said ≡ old.now.said ++ take n bytes)
spoke_front {old = old} spoke tells = ⊎_elim (λ cut. cut.said) (λ unsaid. (0, unsaid.said ∙ sym (append-nil old.now.said))) (spoke.err tells)

-- at each moment of it a front of the bytes was said
pub said_front : {T E told : Type 0} {bytes : List ℕ} {old new : State} {result : Result T E} → Spoke told bytes old new result → Throughout told old new (λ m. (n : ℕ) × (m.said ≡ old.now.said ++ take n bytes))
said_front {T} {E} {told} {bytes} {old} {new} {result} spoke = spoke_throughout (λ m. (n : ℕ) × (m.said ≡ old.now.said ++ take n bytes)) spoke (λ m stopped. stopped.2) (λ tells. at_end result spoke tells)
  where
    at_end : (r : Result T E) → Spoke told bytes old new r → told → (n : ℕ) × (new.now.said ≡ old.now.said ++ take n bytes)
    at_end (Ok v) spoke tells = (length bytes, (spoke.ok tells).said ∙ ap (λ (x : List ℕ). old.now.said ++ x) (sym (take_all (length bytes) bytes (omega arith))))
    at_end (Err e) spoke tells = spoke_front spoke tells

-- runs in which each call was answered

pub all_answered_refl : {told : Type 0} {a : State} → AllAnswered told a a
all_answered_refl = record { untouched = untouched_refl; out = out_whole_refl; faults = λ j. refl; out_faults = refl; reads = λ tells j. refl }

pub all_answered_trans : {told : Type 0} {a b c : State} → AllAnswered told a b → AllAnswered told b c → AllAnswered told a c
all_answered_trans p q = record {
  untouched = untouched_trans p.untouched q.untouched;
  out = out_whole_trans p.out q.out;
  faults = λ j. q.faults j ∙ p.faults j;
  out_faults = q.out_faults ∙ p.out_faults;
  reads = λ tells j. q.reads tells j ∙ p.reads tells j;
}

pub all_answered_looked : {told : Type 0} {i : ℕ} {a b : State} → Looked told i a b true → AllAnswered told a b
all_answered_looked {told} {i} {a} {b} p = record {
  untouched = p.untouched;
  out = p.out;
  faults = λ j. at j;
  out_faults = p.frame.now.out_faults;
  reads = λ tells j. reads_at tells j;
}
  where
    at : (j : ℕ) → faults_at b j ≡ faults_at a j
    at j = elim (eqb_tells j i) [
      | inl is ↦ subst (λ (k : ℕ). faults_at b k ≡ faults_at a k) (sym is.1) p.counted
      | inr differs ↦ ap (λ (d : Dir). d.faults) (p.frame.now.dirs j differs.1)
    ]

    reads_at : told → (j : ℕ) → b.reads j ≡ a.reads j
    reads_at tells j = elim (eqb_tells j i) [
      | inl is ↦ subst (λ (k : ℕ). b.reads k ≡ a.reads k) (sym is.1) (p.reads tells refl)
      | inr differs ↦ p.frame.reads j differs.1
    ]

pub all_answered_spoke : {T E told : Type 0} {bytes : List ℕ} {a b : State} {v : T} → Spoke {T = T} {E = E} told bytes a b (Ok v) → AllAnswered told a b
all_answered_spoke {T} {E} {told} {bytes} {a} {b} {v} spoke = record {
  untouched = untouched_spoke spoke;
  out = out_spoke spoke;
  faults = λ j. ap (λ (f : ℕ → Dir). (f j).faults) spoke.dirs;
  out_faults = spoke.counted_ok;
  reads = λ tells j. ap (λ (f : ℕ → Reads). f j) spoke.reads;
}
