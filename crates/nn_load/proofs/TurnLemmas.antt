-- One turn of the replay, by the file that was read in it.
use Rattle.std.proofs.Common.{◌≡◌, inl, inr, ℕ, ℤ, ◌+◌, ◌<◌, ◌≤◌, true, false, not, Bool, List, [], ◌++◌, length, Option, Some, None, refl, sym, subst, arith}
use Rattle.std.proofs.lemmas.Bool.{cases_lt}
use Rattle.nn_base.specs.declared.sub.Sub.{Sub}
use Rattle.nn_base.specs.declared.file_name.FileName.{FileName}
use Rattle.nn_base.specs.declared.file_name.FileName.TheVariants.{Edits, InProgress}
use Rattle.nn_base.specs.FileText.{IsInRange}
use Rattle.nn_host.specs.Disk.{Reads}
use Rattle.nn_host.specs.Listing.{IsListing}
use Rattle.nn_tree.specs.Namespace.{Namespace}
use Rattle.nn_record.specs.declared.transaction.Record.{Record}
use Rattle.nn_chain.specs.Folder.{Folder, folder_at}
use Rattle.nn_chain.specs.Records.{HoldsRecord}
use Rattle.nn_chain.specs.Chain.{Reached, Leads, IsEnd}
use Rattle.nn_chain.proofs.SameLemmas.{joined}
use Rattle.nn_load.specs.declared.chain.Left.{Left}
use Rattle.nn_load.specs.declared.chain.Waiting.{Waiting}
use Rattle.nn_load.specs.declared.held.Held.{Held}
use Rattle.nn_load.specs.Replaying.{UpTo, AreReplayed}
use Rattle.nn_load.specs.Queue.{StandsAt, EndBy, HasNoFinalized, IsNextFinalized, HasNoInProgress, IsNextInProgress, HasGap, ComesFirst, AreLeft}
use Rattle.nn_load.specs.Segments.{IsSpent}
use Rattle.nn_load.specs.Turns.{reached, IsTurn, IsHeldAt, IsWaiting, IsLeft, IsPlayed}
use Rattle.nn_load.proofs.QueueLemmas.{begins_later, finalized_comes, in_progress_comes, none_comes, late_comes, plays_on, file_leads, file_ends, left_later, finalized_left, all_spent, finalized_passed, in_progress_left}

-- nothing was read
pub none_left : (folder : Folder) (layout : ℤ) (names : List FileName) (last : ℕ) → AreLeft folder layout names 0 0 last
none_left folder layout names last = record { finalized_spent = λ j span lt at. absurd (omega arith); in_progress_spent = λ j first lt at. absurd (omega arith) }

-- records led to where the turn began, and on to where it ended
pub turn_on : {folder : Folder} {layout : ℤ} {names : List FileName} {old new : Left} {before after : Namespace} {start : Reached} → (records : List Record) × Leads folder layout start records (reached old before)
    → IsTurn folder layout names old new before after → (records : List Record) × Leads folder layout start records (reached new after)
turn_on {folder} {layout} {names} {old} {new} {before} {after} {start} so_far turn = (so_far.0 ++ turn.records, joined layout folder start (reached old before) (reached new after) so_far.0 turn.records so_far.1 turn.leads)

-- ---- gaps

pub gap_nowhere : (names : List FileName) (from last until : ℕ) → HasNoFinalized names from last → HasGap names from last until
gap_nowhere names from last until none j span later ranged at = inl (none j span later at.below at)

gap_within : (names : List FileName) (from last until less : ℕ) → less ≤ until → HasGap names from last until → HasGap names from last less
gap_within names from last until less le gap j span later ranged at = elim (gap j span later ranged at) [ inl early ↦ inl early | inr behind ↦ inr (omega (arith, behind)) ]

module _ (reads : Reads) (sub : Sub) (layout : ℤ) (names : List FileName) (listing : IsListing reads sub names) where
  pub gap_before : (from last k until : ℕ) (span : ℕ × ℕ) → IsNextFinalized names from last k span → until < span.0 → HasGap names from last until
  gap_before from last k until span next lower j o later ranged at = elim (cases_lt j k) [
    | inl earlier ↦ inl (next.before j o later earlier at)
    | inr behind ↦ inr (omega (arith, lower, begins_later reads sub layout names listing k j span o next.stands at behind next.ranged ranged))
  ]

  -- ---- turns

  module _ (old : Left) (left : AreLeft (folder_at reads sub) layout names old.finalized old.in_progress old.last) (before after : Namespace) (k last : ℕ) where
    pub finalized_turn : (span : ℕ × ℕ) (fit : Bool) → IsNextFinalized names old.finalized old.last k span → AreReplayed (HoldsRecord (folder_at reads sub) layout (Edits span)) span.1 (reached old before) (record { last = last; ns = after }) fit
        → IsTurn (folder_at reads sub) layout names old (record { finalized = k + 1; in_progress = old.in_progress; last = last; ended = not fit }) before after
    finalized_turn span fit next done = record {
      records = done.records;
      leads = file_leads folder layout (Edits span) span.1 start end fit comes done;
      left = by fit done;
      ends = unfit fit done;
    }
      where
        folder : Folder
        folder = folder_at reads sub

        start : Reached
        start = reached old before

        end : Reached
        end = record { last = last; ns = after }

        comes : ComesFirst (folder_at reads sub) layout old.last span.1 (Edits span)
        comes = finalized_comes reads sub layout names listing old.finalized old.in_progress old.last left k span next

        by : (fit : Bool) → AreReplayed (HoldsRecord folder layout (Edits span)) span.1 start end fit → not fit ≡ false → AreLeft folder layout names (k + 1) old.in_progress last
        by true done e = finalized_left folder layout names old.finalized old.in_progress k start end left span next done
        by false done e = cc

        unfit : (fit : Bool) → AreReplayed (HoldsRecord folder layout (Edits span)) span.1 start end fit → not fit ≡ true → IsEnd folder layout end
        unfit true done e = cc
        unfit false done e = file_ends folder layout (Edits span) span.1 start end false comes done refl

    module _ (until first : ℕ) (gap : HasGap names old.finalized old.last until) (next : IsNextInProgress names old.in_progress old.in_progress first) (fit : Bool)
        (done : AreReplayed (HoldsRecord (folder_at reads sub) layout (InProgress first)) until (reached old before) (record { last = last; ns = after }) fit) where
      in_progress_turn : (place : ℕ) → (fit ≡ true → AreLeft (folder_at reads sub) layout names old.finalized place last)
          → IsTurn (folder_at reads sub) layout names old (record { finalized = old.finalized; in_progress = place; last = last; ended = not fit }) before after
      in_progress_turn place left_then = record {
        records = done.records;
        leads = file_leads (folder_at reads sub) layout (InProgress first) until (reached old before) (record { last = last; ns = after }) fit comes done;
        left = by fit left_then;
        ends = unfit fit (file_ends (folder_at reads sub) layout (InProgress first) until (reached old before) (record { last = last; ns = after }) fit comes done);
      }
        where
          comes : ComesFirst (folder_at reads sub) layout old.last until (InProgress first)
          comes = in_progress_comes reads sub layout names listing old.finalized old.in_progress old.last left until old.in_progress first gap next

          by : (fit : Bool) → (fit ≡ true → AreLeft (folder_at reads sub) layout names old.finalized place last) → not fit ≡ false → AreLeft (folder_at reads sub) layout names old.finalized place last
          by true p e = p refl
          by false p e = cc

          unfit : (fit : Bool) → (fit ≡ false → IsEnd (folder_at reads sub) layout (record { last = last; ns = after })) → not fit ≡ true → IsEnd (folder_at reads sub) layout (record { last = last; ns = after })
          unfit true p e = cc
          unfit false p e = p refl

      later : old.last ≤ last
      later = plays_on (UpTo (HoldsRecord (folder_at reads sub) layout (InProgress first)) until) (reached old before) (record { last = last; ns = after }) done.records done.plays

      -- a finalized segment takes over
      pub waiting_turn : IsTurn (folder_at reads sub) layout names old (record { finalized = old.finalized; in_progress = old.in_progress; last = last; ended = not fit }) before after
      waiting_turn = in_progress_turn old.in_progress (λ e. left_later (folder_at reads sub) layout names old.finalized old.in_progress old.last last later left)

      -- each record of it came
      pub spent_turn : (fit ≡ true → IsSpent (folder_at reads sub) layout last (InProgress first)) → IsTurn (folder_at reads sub) layout names old (record { finalized = old.finalized; in_progress = old.in_progress + 1; last = last; ended = not fit }) before after
      spent_turn spent = in_progress_turn (old.in_progress + 1) (λ e. in_progress_left (folder_at reads sub) layout names old.finalized old.in_progress old.last left first last later next.stands (spent e))

      -- it was read to its end
      pub whole_turn : last < until → IsTurn (folder_at reads sub) layout names old (record { finalized = old.finalized; in_progress = old.in_progress + 1; last = last; ended = not fit }) before after
      whole_turn short = spent_turn (λ e. all_spent (folder_at reads sub) layout (InProgress first) until (reached old before) (record { last = last; ns = after })
          (subst (λ b. AreReplayed (HoldsRecord (folder_at reads sub) layout (InProgress first)) until (reached old before) (record { last = last; ns = after }) b) e done) short)

  -- no file has the next record
  module _ (old : Left) (left : AreLeft (folder_at reads sub) layout names old.finalized old.in_progress old.last) (before : Namespace) (until : ℕ) (room : old.last < until) (gap : HasGap names old.finalized old.last until) where
    last_turn : IsEnd (folder_at reads sub) layout (reached old before) → IsTurn (folder_at reads sub) layout names old (record { finalized = old.finalized; in_progress = old.in_progress; last = old.last; ended = true }) before before
    last_turn ends = record { records = []; leads = refl; left = λ e. cc; ends = λ e. ends }

    near : HasGap names old.finalized old.last (old.last + 1)
    near = gap_within names old.finalized old.last until (old.last + 1) (omega arith) gap

    pub empty_turn : HasNoInProgress names old.in_progress → IsTurn (folder_at reads sub) layout names old (record { finalized = old.finalized; in_progress = old.in_progress; last = old.last; ended = true }) before before
    empty_turn none = last_turn (none_comes reads sub layout names listing old.finalized old.in_progress old.last left before near none)

    pub late_turn : (k first : ℕ) → IsNextInProgress names old.in_progress k first → old.last + 1 < first → IsTurn (folder_at reads sub) layout names old (record { finalized = old.finalized; in_progress = old.in_progress; last = old.last; ended = true }) before before
    late_turn k first next late = last_turn (late_comes reads sub layout names listing old.finalized old.in_progress old.last left before k first near next late)

-- ---- from one turn to the next

-- a turn goes by the last id that it began with, and not by what was passed before it
pub turn_from : {folder : Folder} {layout : ℤ} {names : List FileName} {old other new : Left} {before after : Namespace} → other.last ≡ old.last → IsTurn folder layout names other new before after → IsTurn folder layout names old new before after
turn_from {folder} {layout} {names} {old} {other} {new} {before} {after} same turn = record {
  records = turn.records;
  leads = subst (λ (n : ℕ). Leads folder layout (record { last = n; ns = before }) turn.records (reached new after)) same turn.leads;
  left = turn.left;
  ends = turn.ends;
}

pub played_from : {folder : Folder} {layout : ℤ} {names : List FileName} {old other : Left} {new : Waiting} {before after : Namespace} → other.last ≡ old.last → IsPlayed folder layout names other new before after → IsPlayed folder layout names old new before after
played_from same played = record { turn = turn_from same played.turn; held = played.held }

-- what is held stays where it is
pub held_on : (names : List FileName) (old new : Left) (held : Option Held) → new.in_progress ≡ old.in_progress → old.last ≤ new.last → IsHeldAt names old held → IsHeldAt names new held
held_on names old new None same le at = tt
held_on names old new (Some held) same le at = (subst (λ k. StandsAt names k (InProgress held.first)) (sym same) at.0, at.1, omega (arith, at.2, le), at.3)

-- the finalized segments that are behind are let go
abbrev pub passed : Waiting → ℕ → Waiting
passed at k = record { left = record { finalized = k; in_progress = at.left.in_progress; last = at.left.last; ended = at.left.ended }; held = at.held }

pub passed_waits : (names : List FileName) (at : Waiting) (k : ℕ) → k ≤ length names → IsWaiting names at → IsWaiting names (passed at k)
passed_waits names at k below waits = record {
  inside = record { finalized = below; in_progress = waits.inside.in_progress };
  held = held_on names at.left (passed at k).left at.held refl (omega arith) waits.held;
}

pub passed_left : (folder : Folder) (layout : ℤ) (names : List FileName) (at : Waiting) (k : ℕ) → EndBy names at.left.finalized k at.left.last → IsLeft folder layout names at → IsLeft folder layout names (passed at k)
passed_left folder layout names at k ends left = record { queues = finalized_passed folder layout names at.left.finalized at.left.in_progress at.left.last left.queues k ends; held = left.held }

pub first_finalized : (names : List FileName) (from last k : ℕ) (span : ℕ × ℕ) → IsNextFinalized names from last k span → IsNextFinalized names k last k span
first_finalized names from last k span next = record { from_on = omega arith; ranged = next.ranged; stands = next.stands; after = next.after; before = λ j o low high at. absurd (omega (arith, low, high)) }

pub first_in_progress : (names : List FileName) (k first : ℕ) → IsInRange (InProgress first) → StandsAt names k (InProgress first) → IsNextInProgress names k k first
first_in_progress names k first ranged stands = record { from_on = omega arith; ranged = ranged; stands = stands; before = λ j o low high at. absurd (omega (arith, low, high)) }
