-- What a call in memory does, as the trait says it.
use Rattle.std.proofs.Common.{◌≡◌, ◌≢◌, inl, inr, ℕ, Option, Some, None, Result, Ok, Err, length, refl, sym, ◌∙◌, ap, subst}
use Rattle.std.proofs.lemmas.List.{get_or-set_other}
use Rattle.std.specs.Prelude.{slice_index, is_err, false, OnOk}
use Rattle.nn_base.specs.declared.ids.DirNo.{DirNo}
use Rattle.nn_host.specs.Disk.{Held, Broken, Leaves, IsSound}
use Rattle.nn_host.specs.Calls.{Called, Frame, next_count}
use Rattle.nn_memhost.specs.declared.counts.Counts.{Counts}
use Rattle.nn_memhost.specs.declared.asked.Asked.{Asked}
use Rattle.nn_memhost.specs.declared.past.Request.TheVariants.{On}
use Rattle.nn_memhost.specs.declared.past.Part.{Part}
use Rattle.nn_memhost.specs.declared.past.Logged.{Logged}
use Rattle.nn_memhost.specs.declared.mem.MemHost.{MemHost}
use Rattle.nn_memhost.specs.Asked.{call_of}
use Rattle.nn_memhost.specs.Content.{Content}
use Rattle.nn_memhost.specs.Counts.{raised}
use Rattle.nn_memhost.specs.Held.{disk_of, reads_of, kept_left}
use Rattle.nn_memhost.specs.Past.{Past, one, state_of}
use Rattle.nn_memhost.specs.Mem.{past_of, mem_state, next_part}
use Rattle.nn_memhost.specs.Lawful.{mem_lawful}
use Rattle.nn_memhost.proofs.PastLemmas.{put_here, put_there}
use Rattle.nn_memhost.specs.Leaving.{LeavesAsListed}
use Rattle.nn_memhost.proofs.ViewLemmas.{view_reads, view_disk, view_broken, view_reads_left, view_disk_left}

-- the counts of the other directories stay
others_stay : (i : ℕ) (counts : Counts) (j : ℕ) → j ≢ i → slice_index (raised i counts).dirs j ≡ slice_index counts.dirs j
others_stay i counts j ne = get_or-set_other counts.dirs i j (next_count (slice_index counts.dirs i)) 0 ne

-- the call as it is written down
abbrev pub asking : DirNo → Asked → Option Part → Counts → Logged
asking i asked failed counts = record { request = On i asked; failed = failed; before = counts }

module _ (p : Past) (i : DirNo) (asked : Asked) (counts : Counts) (n : ℕ) where
  frame : (failed : Option Part) (after : Counts) → ((j : ℕ) → j ≢ i.0 → slice_index after.dirs j ≡ slice_index counts.dirs j) → after.out ≡ counts.out
      → Frame i.0 (state_of p counts n) (state_of (one p (asking i asked failed counts)) after n)
  frame failed after others out = record {
    now = record {
      dirs = λ j ne. (λ k. record { disk = disk_of (put_there i.0 (kept_left failed (call_of asked) (p.now.kept i.0)) p.now.kept j ne k); faults = others j ne k });
      said = refl;
      out_faults = out;
    };
    reads = λ j ne. ap (λ (h : Held Content). reads_of h) (put_there i.0 (kept_left failed (call_of asked) (p.now.kept i.0)) p.now.kept j ne);
    count = refl;
  }

  pub done : {T E told : Type 0} (v : T) → Called {T = T} {E = E} told i.0 (call_of asked) (state_of p counts n) (state_of (one p (asking i asked None counts)) counts n) (Ok v)
  done v = record {
    frame = frame None counts (λ j ne. refl) refl;
    counted = record { ok = refl; err = tt };
    effect = λ tells. record {
      ok = record {
        recorded = record { trace = refl; ended = refl };
        disk = ap (λ (h : Held Content). disk_of h) (put_here i.0 (kept_left None (call_of asked) (p.now.kept i.0)) p.now.kept) ∙ view_disk (call_of asked) (p.now.kept i.0);
        reads = ap (λ (h : Held Content). reads_of h) (put_here i.0 (kept_left None (call_of asked) (p.now.kept i.0)) p.now.kept) ∙ view_reads (call_of asked) (p.now.kept i.0);
      };
      err = tt;
    };
  }

  pub failed : {T E told : Type 0} (part : Part) (e : E) → slice_index (raised i.0 counts).dirs i.0 ≡ next_count (slice_index counts.dirs i.0) → IsSound (disk_of (p.now.kept i.0))
      → Leaves (disk_of ((one p (asking i asked (Some part) counts)).now.kept i.0)) (reads_of ((one p (asking i asked (Some part) counts)).now.kept i.0))
      → Called {T = T} {E = E} told i.0 (call_of asked) (state_of p counts n) (state_of (one p (asking i asked (Some part) counts)) (raised i.0 counts) n) (Err e)
  failed part e here sound leaves = record {
    frame = frame (Some part) (raised i.0 counts) (others_stay i.0 counts) refl;
    counted = record { ok = tt; err = here };
    effect = λ tells. record {
      ok = tt;
      err = inl (record {
        recorded = record { trace = refl; ended = refl };
        disk = subst (λ (h : Held Content). Broken (call_of asked) (reads_of (p.now.kept i.0)) (disk_of (p.now.kept i.0)) (disk_of h)) (sym (put_here i.0 (kept_left (Some part) (call_of asked) (p.now.kept i.0)) p.now.kept)) (view_broken part (call_of asked) (p.now.kept i.0) sound);
        reads = leaves;
      });
    };
  }

  pub starved : {T E told : Type 0} (e : E) → slice_index (raised i.0 counts).dirs i.0 ≡ next_count (slice_index counts.dirs i.0)
      → Called {T = T} {E = E} told i.0 (call_of asked) (state_of p counts n) (state_of p (raised i.0 counts) n) (Err e)
  starved e here = record {
    frame = record {
      now = record { dirs = λ j ne. (λ k. record { disk = disk_of (p.now.kept j); faults = others_stay i.0 counts j ne k }); said = refl; out_faults = refl };
      reads = λ j ne. refl;
      count = refl;
    };
    counted = record { ok = tt; err = here };
    effect = λ tells. record { ok = tt; err = inr (record { unrecorded = record { trace = refl; ended = refl }; disk = refl; reads = refl }) };
  }

-- the same of a host, which has become another one in the call
module _ (m : MemHost) (i : DirNo) (asked : Asked) (later : Past) (count : ℕ) (same_count : count ≡ length m.dirs.items) where
  pub done_in : {T E told : Type 0} (v : T) (counts : Counts) → later ≡ one (past_of m) (asking i asked None m.counts) → counts ≡ m.counts
      → Called {T = T} {E = E} told i.0 (call_of asked) (mem_state m) (state_of later counts count) (Ok v)
  done_in {T} {E} {told} v counts is same =
      subst (λ (c : Counts). Called {T = T} {E = E} told i.0 (call_of asked) (mem_state m) (state_of later c count) (Ok v)) (sym same)
      (subst (λ (p : Past). Called {T = T} {E = E} told i.0 (call_of asked) (mem_state m) (state_of p m.counts count) (Ok v)) (sym is)
      (subst (λ (n : ℕ). Called {T = T} {E = E} told i.0 (call_of asked) (mem_state m) (state_of (one (past_of m) (asking i asked None m.counts)) m.counts n) (Ok v)) (sym same_count)
      (done (past_of m) i asked m.counts (length m.dirs.items) v)))

  pub failed_in : {T E told : Type 0} (part : Part) (e : E) (counts : Counts) → later ≡ one (past_of m) (asking i asked (Some part) m.counts) → counts ≡ raised i.0 m.counts
      → slice_index counts.dirs i.0 ≡ next_count (slice_index m.counts.dirs i.0) → Leaves (disk_of (later.now.kept i.0)) (reads_of (later.now.kept i.0))
      → Called {T = T} {E = E} told i.0 (call_of asked) (mem_state m) (state_of later counts count) (Err e)
  failed_in {T} {E} {told} part e counts is raise here leaves =
      subst (λ (c : Counts). Called {T = T} {E = E} told i.0 (call_of asked) (mem_state m) (state_of later c count) (Err e)) (sym raise)
      (subst (λ (n : ℕ). Called {T = T} {E = E} told i.0 (call_of asked) (mem_state m) (state_of later (raised i.0 m.counts) n) (Err e)) (sym same_count)
      (subst (λ (p : Past). Called {T = T} {E = E} told i.0 (call_of asked) (mem_state m) (state_of p (raised i.0 m.counts) (length m.dirs.items)) (Err e)) (sym is)
      (failed (past_of m) i asked m.counts (length m.dirs.items) part e
      (sym (ap (λ (c : Counts). slice_index c.dirs i.0) raise) ∙ here) ((mem_lawful m).disks i.0)
      (subst (λ (p : Past). Leaves (disk_of (p.now.kept i.0)) (reads_of (p.now.kept i.0))) is leaves))))

  pub starved_in : {T E told : Type 0} (e : E) (counts : Counts) → later ≡ past_of m → counts ≡ raised i.0 m.counts → slice_index counts.dirs i.0 ≡ next_count (slice_index m.counts.dirs i.0)
      → Called {T = T} {E = E} told i.0 (call_of asked) (mem_state m) (state_of later counts count) (Err e)
  starved_in {T} {E} {told} e counts is raise here =
      subst (λ (c : Counts). Called {T = T} {E = E} told i.0 (call_of asked) (mem_state m) (state_of later c count) (Err e)) (sym raise)
      (subst (λ (n : ℕ). Called {T = T} {E = E} told i.0 (call_of asked) (mem_state m) (state_of later (raised i.0 m.counts) n) (Err e)) (sym same_count)
      (subst (λ (p : Past). Called {T = T} {E = E} told i.0 (call_of asked) (mem_state m) (state_of p (raised i.0 m.counts) (length m.dirs.items)) (Err e)) (sym is)
      (starved (past_of m) i asked m.counts (length m.dirs.items) e (sym (ap (λ (c : Counts). slice_index c.dirs i.0) raise) ∙ here))))

-- a call that was recorded leaves what the list says
module _ (old new : MemHost) (i : DirNo) (asked : Asked) (failed : Option Part) (is : past_of new ≡ one (past_of old) (asking i asked failed old.counts)) (named : failed ≡ next_part old) where
  at_once : (past_of new).now.kept i.0 ≡ kept_left (next_part old) (call_of asked) ((past_of old).now.kept i.0)
  at_once =
      ap (λ (p : Past). p.now.kept i.0) is
      ∙ put_here i.0 (kept_left failed (call_of asked) ((past_of old).now.kept i.0)) (past_of old).now.kept
      ∙ ap (λ (f : Option Part). kept_left f (call_of asked) ((past_of old).now.kept i.0)) named

  pub leaves_listed : LeavesAsListed i.0 (call_of asked) old new
  leaves_listed = record {
    reads = λ more. ap (λ (h : Held Content). reads_of h) at_once ∙ view_reads_left (next_part old) (call_of asked) ((past_of old).now.kept i.0);
    disk = λ more. ap (λ (h : Held Content). disk_of h) at_once ∙ view_disk_left (next_part old) (call_of asked) ((past_of old).now.kept i.0);
  }

-- what a call that didn't fail ensures
pub on_ok : {T E P : Type 0} (r : Result T E) → is_err r ≡ false → OnOk r P → P
on_ok (Ok v) e p = p
on_ok (Err x) e p = cc
