-- What a record of calls comes to after one call more.
use Rattle.std.proofs.Common.{◌≡◌, ◌≢◌, inl, inr, ℕ, ◌+◌, List, [], ◌∷◌, ◌++◌, length, refl, ap, arith, length-append}
use Rattle.std.proofs.Math.Path.{fun_ext}
use Rattle.std.proofs.lemmas.Bool.Decides.{eqb_tells}
use Rattle.nn_host.specs.Disk.{Held}
use Rattle.nn_memhost.specs.declared.counts.Counts.{Counts}
use Rattle.nn_memhost.specs.declared.past.Logged.{Logged}
use Rattle.nn_memhost.specs.Content.{Content}
use Rattle.nn_memhost.specs.Past.{Past, moment_of, event_of, put_at, start, one, run}

pub run-push : (p : Past) (es : List Logged) (e : Logged) → run p (es ++ e ∷ []) ≡ one (run p es) e
run-push p [] e = refl
run-push p (x ∷ es) e = run-push (one p x) es e

pub trace_len : (p : Past) (es : List Logged) → length (run p es).trace ≡ length p.trace + length es
trace_len p [] = omega arith
trace_len p (e ∷ es) = omega (arith, trace_len (one p e) es, length-append p.trace (record { ended = p.ended; before = moment_of p.now e.before; event = event_of e.request } ∷ []))

pub put_here : (i : ℕ) (h : Held Content) (kept : ℕ → Held Content) → put_at i h kept i ≡ h
put_here i h kept = elim (eqb_tells i i) [ inl same ↦ rw same.0 | inr other ↦ absurd (other.1 refl) ]

pub put_there : (i : ℕ) (h : Held Content) (kept : ℕ → Held Content) (j : ℕ) → j ≢ i → put_at i h kept j ≡ kept j
put_there i h kept j ne = elim (eqb_tells j i) [ inl same ↦ absurd (ne same.1) | inr other ↦ rw other.0 ]

pub start_same : (a b : ℕ → Held Content) (said : List ℕ) (counts : Counts) → ((j : ℕ) → a j ≡ b j) → start a said counts ≡ start b said counts
start_same a b said counts same = ap (λ (kept : ℕ → Held Content). start kept said counts) (fun_ext same)
