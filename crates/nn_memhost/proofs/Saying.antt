-- What is said to a host in memory, as the trait says it.
use Rattle.std.proofs.Common.{◌≡◌, inl, ℕ, ◌<◌, ◌≤◌, ◌+◌, List, [], ◌++◌, Option, Some, None, Ok, Err, refl, sym, ◌∙◌, ap, subst, arith, length, length-append, take}
use Rattle.std.proofs.Math.Seq.{take-length}
use Rattle.std.proofs.lemmas.List.{take-append-le}
use Rattle.std.specs.Global.{Vec}
use Rattle.std.specs.List.{list_all}
use Rattle.std.specs.Prelude.{true}
use Rattle.nn_host.specs.Disk.{Held}
use Rattle.nn_host.specs.Moments.{moment}
use Rattle.nn_host.specs.Calls.{Spoke}
use Rattle.nn_memhost.specs.declared.counts.Counts.{Counts}
use Rattle.nn_memhost.specs.declared.past.Request.TheVariants.{Say}
use Rattle.nn_memhost.specs.declared.past.Part.{Part}
use Rattle.nn_memhost.specs.declared.past.Logged.{Logged}
use Rattle.nn_memhost.specs.declared.mem.MemHost.{MemHost}
use Rattle.nn_memhost.specs.Base.{base_of}
use Rattle.nn_memhost.specs.Content.{Content}
use Rattle.nn_memhost.specs.Counts.{raised_out}
use Rattle.nn_memhost.specs.Part.{taken_of}
use Rattle.nn_memhost.specs.Past.{Past, NotedSaying, kept_at, start, run, one, state_of, is_below}
use Rattle.nn_memhost.specs.Mem.{start_of, past_of, mem_state}
use Rattle.nn_memhost.proofs.StopLemmas.{list_all-push}
use Rattle.nn_memhost.proofs.PastLemmas.{run-push, trace_len, start_same}

module _ (p : Past) (counts : Counts) (n : ℕ) (copy : Vec ℕ) where
  said_done : {T E told : Type 0} (v : T) → Spoke {T = T} {E = E} told copy.items (state_of p counts n) (state_of (one p (record { request = Say copy; failed = None; before = counts })) counts n) (Ok v)
  said_done v = record {
    dirs = refl;
    reads = refl;
    count = refl;
    counted_ok = refl;
    counted_err = tt;
    ok = λ tells. record { recorded = record { trace = refl; ended = refl }; said = ap (λ (l : List ℕ). p.now.said ++ l) (take-length copy.items) };
    err = λ tells. tt;
  }

  said_failed : {T E told : Type 0} (part : Part) (e : E) → Spoke {T = T} {E = E} told copy.items (state_of p counts n) (state_of (one p (record { request = Say copy; failed = Some part; before = counts })) (raised_out counts) n) (Err e)
  said_failed part e = record {
    dirs = refl;
    reads = refl;
    count = refl;
    counted_ok = tt;
    counted_err = refl;
    ok = λ tells. tt;
    err = λ tells. inl (record { recorded = record { trace = refl; ended = refl }; said = (taken_of (Some part) copy.items, refl) });
  }

-- the same of a host
module _ (m : MemHost) (base : ℕ → Held Content) (based : (j : ℕ) → base j ≡ kept_at (base_of m.base m.dirs.items) j) (bytes : List ℕ) (failed : Option Part) (calls : List Logged) (said : List ℕ) (noted : NotedSaying bytes failed m.counts m.calls.items calls) (more : said ≡ m.said.items ++ take (taken_of failed bytes) bytes) where
  same_start : start base (take m.said_before said) m.began ≡ start_of m
  same_start = start_same base (kept_at (base_of m.base m.dirs.items)) (take m.said_before said) m.began based
      ∙ ap (λ (l : List ℕ). start (kept_at (base_of m.base m.dirs.items)) l m.began) (ap (λ (l : List ℕ). take m.said_before l) more ∙ take-append-le m.said_before m.said.items _ m.earlier)

  pub still_within : m.said_before ≤ length said
  still_within = omega (arith, m.earlier, ap length more, length-append m.said.items (take (taken_of failed bytes) bytes))

  pub one_more : run (start base (take m.said_before said) m.began) calls ≡ one (past_of m) (record { request = Say noted.copy; failed = failed; before = m.counts })
  one_more = (λ k. run (same_start k) (noted.noted k)) ∙ run-push (start_of m) m.calls.items (record { request = Say noted.copy; failed = failed; before = m.counts })

  pub one_recorded : length (run (start base (take m.said_before said) m.began) calls).trace ≡ moment (mem_state m) + 1
  one_recorded = ap (λ (p : Past). length p.trace) one_more ∙ length-append (past_of m).trace _

  pub all_said : (run (start base (take m.said_before said) m.began) calls).now.said ≡ said
  all_said = ap (λ (p : Past). p.now.said) one_more ∙ (λ k. m.spoken k ++ take (taken_of failed (noted.same k)) (noted.same k)) ∙ sym more

  pub all_tied : (j : ℕ) → (run (start base (take m.said_before said) m.began) calls).now.kept j ≡ kept_at m.dirs.items j
  all_tied j = ap (λ (p : Past). p.now.kept j) one_more ∙ m.tied j

  pub spoke_done : {T E told : Type 0} (v : T) → failed ≡ None → Spoke {T = T} {E = E} told bytes (mem_state m) (state_of (run (start base (take m.said_before said) m.began) calls) m.counts (length m.dirs.items)) (Ok v)
  spoke_done {T} {E} {told} v none =
      let to : one (past_of m) (record { request = Say noted.copy; failed = None; before = m.counts }) ≡ run (start base (take m.said_before said) m.began) calls = (λ k. one (past_of m) (record { request = Say noted.copy; failed = sym none k; before = m.counts })) ∙ sym one_more in
      subst (λ (q : Past). Spoke {T = T} {E = E} told bytes (mem_state m) (state_of q m.counts (length m.dirs.items)) (Ok v)) to
      (subst (λ (b : List ℕ). Spoke {T = T} {E = E} told b (mem_state m) (state_of (one (past_of m) (record { request = Say noted.copy; failed = None; before = m.counts })) m.counts (length m.dirs.items)) (Ok v)) noted.same
      (said_done (past_of m) m.counts (length m.dirs.items) noted.copy v))

  pub spoke_failed : {T E told : Type 0} (e : E) (part : Part) (counts : Counts) → failed ≡ Some part → counts ≡ raised_out m.counts → Spoke {T = T} {E = E} told bytes (mem_state m) (state_of (run (start base (take m.said_before said) m.began) calls) counts (length m.dirs.items)) (Err e)
  spoke_failed {T} {E} {told} e part counts at raised =
      let to : one (past_of m) (record { request = Say noted.copy; failed = Some part; before = m.counts }) ≡ run (start base (take m.said_before said) m.began) calls = (λ k. one (past_of m) (record { request = Say noted.copy; failed = sym at k; before = m.counts })) ∙ sym one_more in
      subst (λ (c : Counts). Spoke {T = T} {E = E} told bytes (mem_state m) (state_of (run (start base (take m.said_before said) m.began) calls) c (length m.dirs.items)) (Err e)) (sym raised)
      (subst (λ (q : Past). Spoke {T = T} {E = E} told bytes (mem_state m) (state_of q (raised_out m.counts) (length m.dirs.items)) (Err e)) to
      (subst (λ (b : List ℕ). Spoke {T = T} {E = E} told b (mem_state m) (state_of (one (past_of m) (record { request = Say noted.copy; failed = Some part; before = m.counts })) (raised_out m.counts) (length m.dirs.items)) (Err e)) noted.same
      (said_failed (past_of m) m.counts (length m.dirs.items) noted.copy part e)))

-- without a call more nothing was recorded
pub not_recorded : (m : MemHost) (p : Past) (calls : List Logged) (later : Past) → p.trace ≡ [] → calls ≡ m.calls.items → later ≡ run p calls → moment (mem_state m) < length later.trace → ⊥
not_recorded m p calls later none same is more =
    omega (arith, more, ap (λ (q : Past). length q.trace) is, ap length same, ap length none, trace_len (start_of m) m.calls.items, trace_len p calls)

pub all_placed : (m : MemHost) (bytes : List ℕ) (failed : Option Part) (calls : List Logged) → NotedSaying bytes failed m.counts m.calls.items calls → list_all (is_below (length m.dirs.items)) calls ≡ true
all_placed m bytes failed calls noted =
    ap (λ (l : List Logged). list_all (is_below (length m.dirs.items)) l) noted.noted
    ∙ list_all-push (is_below (length m.dirs.items)) m.calls.items (record { request = Say noted.copy; failed = failed; before = m.counts }) m.placed refl
