-- What the steps of a journal make of it and its directories.
use Rattle.std.proofs.Common.{◌≡◌, ◌≢◌, ◌⊎◌, inl, inr, ⊎_elim, ℕ, ◌+◌, ◌<◌, ◌≤◌, Bool, true, false, List, [], ◌∷◌, ◌++◌, length, ◌∙◌, ap, subst, arith}
use Rattle.std.proofs.lemmas.Bool.{cases_Bool}
use Rattle.nn_base.specs.DirSets.{Members}
use Rattle.nn_host.specs.Moments.{State, disk_at}
use Rattle.nn_marks.specs.declared.version.Version.{Version}
use Rattle.nn_record.specs.declared.transaction.Record.{Record}
use Rattle.nn_segment_file.specs.Log.{Shared, IsFinalized}
use Rattle.nn_segment_file.specs.Stages.{Going}
use Rattle.nn_record.specs.Spelling.{spelling, IsRecord}
use Rattle.nn_segment_file.specs.declared.step.Step.TheVariants as step
use Rattle.nn_journal.specs.Among.{SteppedAll}
use Rattle.nn_journal.specs.Places.{Place, Brings, BringsAhead, BringsLogged, BringsLoggedAhead, IsInProgress, IsMarked, end_record, start_record, place_of, most_unended, full_segment}
use Rattle.nn_journal.specs.Finalizing.{Finalizes, FinalizesLogged}
use Rattle.nn_journal.specs.Rolling.{HasSettled}
use Rattle.nn_journal.specs.declared.journal.JournalSet.{JournalSet}
use Rattle.nn_journal.proofs.BringsLemmas.{end_brings, start_brings, write_brings, brings_both, brings_on, finalized_then, idle_base, settled_ahead, logged_ahead, Wrote, wrote_place, write_stands}
use Rattle.nn_journal.proofs.MarkLemmas.{no_items}
use Rattle.nn_journal.proofs.RoundLemmas.{settled_ended}

-- a segment that was just begun has its mark alone
pub only_mark : {version : Version} {list : Shared} {base : ℕ} {kept : List Record} {place : Place} → IsInProgress version list base kept [] [] place → IsMarked (Going base kept) → place.first ≡ place.last → kept ≡ start_record (base + 1) ∷ []
only_mark {base = base} p marked begins = marked.1 ∙ ap (λ (rs : List Record). start_record (base + 1) ∷ rs) (no_items marked.0 (omega (arith, p.first, p.last, begins, ap length marked.1)))

brings_holders : {told : Type 0} {p0 p1 : Place} {below : ℕ} {other holders live0 live1 : Members} {a b : State} → other ≡ holders → Brings told p0 p1 below other live0 live1 a b → Brings told p0 p1 below holders live0 live1 a b
brings_holders {told} {p0} {p1} {below} {other} {holders} {live0} {live1} {a} {b} same p = subst (λ (h : Members). Brings told p0 p1 below h live0 live1 a b) same p

module _ {told : Type 0} {a b : State} (j0 j1 : JournalSet) (kept : (j1.holders ≡ j0.holders) × (j1.header ≡ j0.header)) where
  pub end_of : SteppedAll told (step.End (j0.last + 1)) j0.first (spelling (end_record (j0.last + 1))) j0.holders j0.live j1.live a b → IsRecord (end_record (j0.last + 1)) → j0.size ≤ most_unended → j0.going ≡ true
      → (j1.going ≡ false) × (j1.first ≡ j0.first) × (j1.last ≡ j0.last + 1) × (j1.size ≡ j0.size) → Brings told (place_of j0) (place_of j1) j1.last j0.holders j0.live j1.live a b
  end_of stepped is small going place = end_brings (place_of j0) (place_of j1) stepped is small going (record { going = place.0; head = kept.1; last = place.2 })

  pub start_of : SteppedAll told step.Start (j0.last + 1) (j0.header ++ spelling (start_record (j0.last + 1))) j0.holders j0.live j1.live a b → IsRecord (start_record (j0.last + 1)) → j0.going ≡ false
      → (j1.going ≡ true) × (j1.first ≡ j0.last + 1) × (j1.last ≡ j0.last + 1) → j1.size ≡ length (j0.header ++ spelling (start_record (j0.last + 1))) → Brings told (place_of j0) (place_of j1) j1.last j0.holders j0.live j1.live a b
  start_of stepped is idle place size = start_brings (place_of j0) (place_of j1) stepped is idle (record { going = place.0; head = kept.1; first = place.1; last = place.2; size = size })

  pub write_of : SteppedAll told step.Write j0.first j0.buffer.items j0.holders j0.live j1.live a b → 1 ≤ length j0.buffer.items → j0.size + length j0.buffer.items ≤ most_unended → j1.size ≡ j0.size + length j0.buffer.items
      → (j1.going ≡ j0.going) × (j1.first ≡ j0.first) × (j1.last ≡ j0.last) → BringsLogged told j0.buffer.items (place_of j0) (place_of j1) j1.last j0.holders j0.live j1.live a b
  write_of stepped some small size place = write_brings (place_of j0) (place_of j1) j0.buffer.items stepped some small (record { going = place.0; head = kept.1; first = place.1; last = place.2; size = size })

-- a step and then another
pub both_of : {told : Type 0} {a b c : State} (j0 j1 j2 : JournalSet) → j1.holders ≡ j0.holders → j2.last ≡ j1.last + 1 → Brings told (place_of j0) (place_of j1) j1.last j0.holders j0.live j1.live a b → Brings told (place_of j1) (place_of j2) j2.last j1.holders j1.live j2.live b c
    → Brings told (place_of j0) (place_of j2) j2.last j0.holders j0.live j2.live a c
both_of j0 j1 j2 holders next one two = brings_both j2.last (omega (arith, next)) (omega arith) one (brings_holders holders two)

-- the end of a segment, and then the start of the next
pub both_ended : {told : Type 0} {b1 b2 : ℕ} {a b c : State} (j0 j1 j2 : JournalSet) → j1.holders ≡ j0.holders → j1.going ≡ false → j1.last ≡ j0.last + 1 → Finalizes told (place_of j0) j0.live j1.live a b → Brings told (place_of j0) (place_of j1) b1 j0.holders j0.live j1.live a b
    → Brings told (place_of j1) (place_of j2) b2 j1.holders j1.live j2.live b c → Finalizes told (place_of j0) j0.live j2.live a c
both_ended {b2 = b2} j0 j1 j2 holders idle next done one two = finalized_then done one (brings_on b2 (brings_holders holders two)) (λ version list stage m going order. omega (arith, idle_base version list (place_of j1) stage m idle, next, order))

-- ---- a step and what follows it

settled_holders : {told : Type 0} {again : Bool} {p1 p2 : Place} {other holders live1 live2 : Members} {b c : State} → other ≡ holders → HasSettled again told p1 p2 other live1 live2 b c → HasSettled again told p1 p2 holders live1 live2 b c
settled_holders {told} {again} {p1} {p2} {other} {holders} {live1} {live2} {b} {c} same p = subst (λ (h : Members). HasSettled again told p1 p2 h live1 live2 b c) same p

module _ {told : Type 0} {a b c : State} (j0 j1 j2 : JournalSet) (again : Bool) (holders : j1.holders ≡ j0.holders) (one : again ≡ false → j1.live ≡ j0.live) where
  pub ahead_of : 1 ≤ j1.last → Brings told (place_of j0) (place_of j1) j1.last j0.holders j0.live j1.live a b → HasSettled again told (place_of j1) (place_of j2) j1.holders j1.live j2.live b c → BringsAhead told (place_of j0) (place_of j2) j0.holders j0.live j2.live a c
  ahead_of some brings settled = settled_ahead again one some brings (settled_holders holders settled)

  pub logged_ahead_of : j1.last ≡ j0.last → BringsLogged told j0.buffer.items (place_of j0) (place_of j1) j1.last j0.holders j0.live j1.live a b → HasSettled again told (place_of j1) (place_of j2) j1.holders j1.live j2.live b c → BringsLoggedAhead told j0.buffer.items (place_of j0) (place_of j2) j0.holders j0.live j2.live a c
  logged_ahead_of last brings settled = logged_ahead again one last brings (settled_holders holders settled)

  -- the segment that was ended stays so
  pub ended_of : {b1 : ℕ} → j1.going ≡ false → j1.last ≡ j0.last + 1 → Finalizes told (place_of j0) j0.live j1.live a b → Brings told (place_of j0) (place_of j1) b1 j0.holders j0.live j1.live a b → HasSettled again told (place_of j1) (place_of j2) j1.holders j1.live j2.live b c → Finalizes told (place_of j0) j0.live j2.live a c
  ended_of idle next ended brings settled = settled_ended again idle next ended brings (settled_holders holders settled)

-- ---- records are written, and then their segment is ended

module _ {told : Type 0} {a b c : State} (j0 j1 j2 : JournalSet) (again : Bool) (one : again ≡ false → (j1.live ≡ j0.live) × (j1.size ≤ full_segment)) where
  pub logged_finalizes : SteppedAll told step.Write j0.first j0.buffer.items j0.holders j0.live j1.live a b → 1 ≤ length j0.buffer.items → j0.size + length j0.buffer.items ≤ most_unended → Wrote (length j0.buffer.items) (place_of j0) (place_of j1)
      → HasSettled again told (place_of j1) (place_of j2) j1.holders j1.live j2.live b c → (j2.live ≢ j0.live) ⊎ (full_segment < j1.size) → FinalizesLogged told j0.buffer.items (place_of j0) j0.live j2.live a c
  logged_finalizes stepped some small placed settled why version list base kept logged m start tells j is_live = elim (cases_Bool again) [
    | inl is ↦ (let at = (settled.rolled is).ended version list base (kept ++ logged) (wrote_place (place_of j0) (place_of j1) j0.buffer.items version list base kept logged m placed) (write_stands (place_of j0) (place_of j1) j0.buffer.items stepped some small version list base kept logged m start) tells j is_live in
        subst (λ (n : ℕ). IsFinalized version.layout j0.first (n + 1) ((kept ++ logged) ++ end_record (n + 1) ∷ []) (disk_at c j)) placed.last
        (subst (λ (n : ℕ). IsFinalized version.layout n (j1.last + 1) ((kept ++ logged) ++ end_record (j1.last + 1) ∷ []) (disk_at c j)) placed.first at))
    | inr is ↦ absurd (⊎_elim (λ ne. ne ((settled.stayed is).1 ∙ (one is).0)) (λ full. omega (arith, full, (one is).1)) why)
  ]
