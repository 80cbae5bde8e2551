-- A host that starts on what a stop leaves.
use Rattle.std.proofs.Common.{◌≡◌, ◌⊎◌, inl, inr, ⊎_elim, drop, ℕ, zero, suc, ◌<◌, List, [], ◌∷◌, length, take, get_or, Some, Result, Ok, Err, refl, sym, ◌∙◌, ap, subst, arith}
use Rattle.std.specs.Prelude.{IfOk, slice_get}
use Rattle.std.specs.Global.{Vec}
use Rattle.std.proofs.Math.Path.{fun_ext}
use Rattle.nn_host.specs.Disk.{Held, Disk, Leaves}
use Rattle.nn_host.specs.Moments.{Moment, Entry, State, Left, Stops, Within}
use Rattle.nn_memhost.specs.declared.kept.KeptDir.{KeptDir}
use Rattle.nn_memhost.specs.declared.past.Logged.{Logged}
use Rattle.nn_memhost.specs.declared.stop.Choice.{Choice}
use Rattle.nn_memhost.specs.declared.mem.MemHost.{MemHost}
use Rattle.nn_memhost.specs.Content.{Content}
use Rattle.nn_memhost.specs.Counts.{no_faults}
use Rattle.nn_memhost.specs.Flight.{all_flight}
use Rattle.nn_memhost.specs.Held.{map_held, disk_of, reads_of}
use Rattle.nn_memhost.specs.Left.{IsLeft}
use Rattle.nn_memhost.specs.Past.{Past, Standing, kept_at, moment_of, event_of, start, run, state_of}
use Rattle.nn_memhost.specs.Stop.{IsStop, stopped_content, left_by, flown, moment_in}
use Rattle.nn_memhost.specs.Mem.{start_of, mem_state}
use Rattle.nn_memhost.proofs.StopLemmas.{leaves_left, stopped_reads, all_flown, inside_entry, entry_at}

pub get_read : {A : Type 0} (xs : List A) (k : ℕ) (e : A) → k < length xs → e ≡ get_or xs k e → slice_get xs k ≡ Some e
get_read [] k e lt is = absurd (omega arith)
get_read (x ∷ xs) zero e lt is = ap (λ (y : _). Some y) (sym is)
get_read (x ∷ xs) (suc k) e lt is = get_read xs k e (omega arith) is

pub read_get : {A : Type 0} (xs : List A) (k : ℕ) (e : A) → slice_get xs k ≡ Some e → (k < length xs) × (e ≡ get_or xs k e)
read_get [] k e is = cc
read_get (x ∷ xs) zero e is = (omega arith, cc)
read_get (x ∷ xs) (suc k) e is = let rest = read_get xs k e is in (omega (arith, rest.0), rest.1)

module _ (m : MemHost) (k : ℕ) (choice : Choice) (logged : Logged) where
  -- the contents that were made are those that the stop leaves
  pub is_left : {E : Type 0} (left : Result (Vec KeptDir) E) (kept flew from : List KeptDir) → slice_get m.calls.items k ≡ Some logged → length from ≡ length m.dirs.items
      → ((j : ℕ) → kept_at kept j ≡ (run (start_of m) (take k m.calls.items)).now.kept j)
      → ((j : ℕ) → kept_at flew j ≡ all_flight choice.done logged.request (kept_at kept) j) → from ≡ flew
      → IfOk left (λ l. length l.items ≡ length from) → IfOk left (λ l. (j : ℕ) → kept_at l.items j ≡ map_held (stopped_content choice.keep) (kept_at from j)) → IfOk left (IsLeft k choice m)
  is_left (Err e) kept flew from call count before flight same len stays = tt
  is_left (Ok l) kept flew from call count before flight same len stays = record {
    logged = logged;
    call = call;
    count = len ∙ count;
    kept = λ j.
        stays j
        ∙ ap (λ (h : Held Content). map_held (stopped_content choice.keep) h)
        (ap (λ (ds : List KeptDir). kept_at ds j) same ∙ flight j ∙ ap (λ (held : ℕ → Held Content). all_flight choice.done logged.request held j) (fun_ext before));
  }

-- the host that starts on them
module _ (m : MemHost) (k : ℕ) (choice : Choice) (left : Vec KeptDir) (is : IsLeft k choice m left) where
  pub is_stop : IsStop k choice (mem_state m) (state_of (start (kept_at left.items) [] no_faults) no_faults (length left.items))
  is_stop =
      let here = read_get m.calls.items k is.logged is.call in
      let p : Past = run (start_of m) (take k m.calls.items) in
      let e : Entry = record { ended = p.ended; before = moment_of p.now is.logged.before; event = event_of is.logged.request } in
      record {
        entry = e;
        call = entry_at (start_of m) m.calls.items k is.logged refl here.0 here.1;
        inside = inside_entry choice.done e;
        reads = at p.now;
        leaves = λ j. subst (λ r. Leaves (flown choice.done (event_of is.logged.request) j (disk_of (p.now.kept j))) r) (sym (at p.now j)) (leaves_left choice.keep (flown choice.done (event_of is.logged.request) j (disk_of (p.now.kept j))));
        count = is.count;
      }
    where
      at : (now : Standing) (j : ℕ) → reads_of (kept_at left.items j) ≡ left_by choice.keep (flown choice.done (event_of is.logged.request) j (disk_of ((run (start_of m) (take k m.calls.items)).now.kept j)))
      at now j =
          ap (λ (h : Held Content). reads_of h) (is.kept j)
          ∙ stopped_reads choice.keep (all_flight choice.done is.logged.request (run (start_of m) (take k m.calls.items)).now.kept j)
          ∙ ap (λ (d : Disk). left_by choice.keep d) (all_flown choice.done is.logged.request (run (start_of m) (take k m.calls.items)).now.kept j)

-- what a stop inside call k leaves is what a stop since k may leave
within_at : (es : List Entry) (k : ℕ) (e : Entry) (m : Moment) → slice_get es k ≡ Some e → (m ≡ e.before) ⊎ Stops e.event e.before m → Within (drop k es) m
within_at [] k e m is inside = cc
within_at (x ∷ es) zero e m is inside =
    let same : x ≡ e = cc in
    subst (λ (y : Entry). Within (y ∷ es) m) (sym same) (⊎_elim (λ before. inr (inl before)) (λ stopped. inr (inr (inl stopped))) inside)
within_at (x ∷ es) (suc k) e m is inside = within_at es k e m is inside

pub left_since : (k : ℕ) (choice : Choice) (old new : State) (stop : IsStop k choice old new) → Left old k new.reads (moment_in choice.done stop.entry)
left_since k choice old new stop = record {
  since = inr (inr (within_at old.trace k stop.entry (moment_in choice.done stop.entry) stop.call stop.inside));
  leaves = stop.leaves;
}
