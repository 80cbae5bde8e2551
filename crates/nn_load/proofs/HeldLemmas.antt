-- A segment that is held, and how many of its records were gone over.
use Rattle.std.proofs.Common.{◌≡◌, ◌≢◌, ◌⊎◌, inl, inr, ℕ, ℤ, ◌+◌, ◌-◌, ◌<◌, ◌≤◌, true, Bool, List, [], ◌∷◌, ◌++◌, length, take, drop, Some, None, refl, sym, ◌∙◌, ap, subst, append_assoc, arith}
use Rattle.std.specs.Prelude.{Contains}
use Rattle.std.proofs.lemmas.Bool.{cases_Bool}
use Rattle.std.proofs.lemmas.Option.{same_Some}
use Rattle.nn_base.specs.Limits.{most_segment_read}
use Rattle.nn_base.specs.declared.file_name.FileName.TheVariants.{InProgress}
use Rattle.nn_base.specs.FileText.{IsInRange}
use Rattle.nn_record.specs.declared.transaction.Record.{Record}
use Rattle.nn_segment.specs.Segment.{header, has_header, spelled, AreFrom, IsRun, IsIntactRun, last_id}
use Rattle.nn_segment.specs.Reaching.{NoneNext, BeginWith, IsWhole}
use Rattle.nn_segment.proofs.RunLemmas.{behind_header, nothing_is_intact, id_at}
use Rattle.nn_segment.proofs.ReachLemmas.{Reached as Read, nothing_reached, whole_reached}
use Rattle.nn_chain.specs.Folder.{Folder}
use Rattle.nn_chain.specs.Records.{HoldsRecord}
use Rattle.nn_chain.specs.Chain.{Reached}
use Rattle.nn_load.specs.declared.held.Held.{Held}
use Rattle.nn_load.specs.Held.{EndsWith, AreWalked, IsOf, WasReplayed}
use Rattle.nn_load.specs.Segments.{IsPart, IsSpent}
use Rattle.nn_load.specs.Replaying.{UpTo, AreReplayed}
use Rattle.nn_load.proofs.FileLemmas.{file_replayed, in_run}
use Rattle.nn_load.proofs.ReplayLemmas.{Walk, IsAtFront, in_whole, plays_weaker}

-- ---- the last id of a run

some_last : (r : Record) (rs : List Record) → None ≢ last_id (r ∷ rs)
some_last r [] e = cc
some_last r (s ∷ rs) e = some_last s rs e

-- a run without a last id is empty
pub none_run : (bytes : List ℕ) (layout : ℤ) (first : ℕ) (rs : List Record) → None ≡ last_id rs → IsIntactRun bytes layout first rs → IsIntactRun bytes layout first []
none_run bytes layout first [] e intact = intact
none_run bytes layout first (r ∷ rs) e intact = absurd (some_last r rs e)

last_counts : (first : ℕ) (rs : List Record) (last : ℕ) → AreFrom first rs → last_id rs ≡ Some last → last + 1 ≡ first + length rs
last_counts first [] last from e = cc
last_counts first (r ∷ []) last from e = omega (arith, from.0, same_Some r.id last e)
last_counts first (r ∷ s ∷ rs) last from e = omega (arith, last_counts (first + 1) (s ∷ rs) last from.2 e)

-- ---- what stands behind the header

module _ (bytes : List ℕ) (layout : ℤ) (first : ℕ) where
  pub headed : (rs : List Record) (last : ℕ) → last_id rs ≡ Some last → IsIntactRun bytes layout first rs → has_header bytes layout ≡ true
  headed [] last e intact = cc
  headed (r ∷ rs) last e intact = elim (cases_Bool (has_header bytes layout)) [
    | inl seen ↦ seen
    | inr unseen ↦ absurd (omega (arith, (nothing_is_intact bytes layout first unseen).longest (r ∷ rs) intact.run))
  ]

  run_of : (r : Record) (rs : List Record) (run : IsRun bytes layout first (r ∷ rs)) (qs : List Record) → BeginWith (drop 8 bytes) first qs → IsRun bytes layout first qs
  run_of r rs run [] begin = tt
  run_of r rs run (q ∷ qs) begin = (
    begin.ids,
    begin.after,
    run.2 ∙ append_assoc (header layout) (spelled (r ∷ rs)) run.1 ∙ ap (λ t. header layout ++ t) (sym (behind_header bytes layout (spelled (r ∷ rs)) run.1 run.2) ∙ begin.text) ∙ sym (append_assoc (header layout) (spelled (q ∷ qs)) begin.after),
  )

  pub whole_behind : (rs : List Record) (last : ℕ) → last_id rs ≡ Some last → IsIntactRun bytes layout first rs → IsWhole (drop 8 bytes) first rs
  whole_behind [] last e intact = cc
  whole_behind (r ∷ rs) last e intact = record {
    begin = record { ids = intact.run.0; after = intact.run.1; text = behind_header bytes layout (spelled (r ∷ rs)) intact.run.1 intact.run.2 };
    longest = λ qs begin. intact.longest qs (run_of r rs intact.run qs begin);
  }

-- ---- records that were gone over

pub none_walked : (bytes : List ℕ) (first : ℕ) → AreWalked bytes first 0 first
none_walked bytes first = let none = nothing_reached (drop 8 bytes) first in record { rs = none.rs; ids = none.ids; text = none.text; len = none.len; count = none.count }

pub read_of : (bytes : List ℕ) (first end next : ℕ) (walked : AreWalked bytes first end next) → Read (drop 8 bytes) first (last_id walked.rs) end next
read_of bytes first end next walked = record { rs = walked.rs; ids = walked.ids; text = walked.text; len = walked.len; count = walked.count; last_is = refl }

-- the walk over those that are left
pub walk_resumes : (bytes : List ℕ) (first until : ℕ) (start : Reached) (end next : ℕ) → AreWalked bytes first end next → next ≤ start.last + 1 → start.last < until → Walk (drop 8 bytes) first until start end next start true
walk_resumes bytes first until start end next walked near room = record {
  seen = last_id walked.rs;
  read = read_of bytes first end next walked;
  records = [];
  plays = refl;
  reach = λ e. inl near;
  clash = λ e. cc;
  above = omega arith;
  within = omega arith;
}

module _ (bytes : List ℕ) (layout : ℤ) (first until : ℕ) (start : Reached) (end next : ℕ) (at : Reached) (fit : Bool) (walk : Walk (drop 8 bytes) first until start end next at fit) (last : ℕ) (whole : EndsWith bytes layout first last) where
  pub walked : AreWalked bytes first end next
  walked = let read = walk.read in record { rs = read.rs; ids = read.ids; text = read.text; len = read.len; count = read.count }

  module _ (less : next ≤ until + 1) where
    pub near : fit ≡ true → next ≤ at.last + 1
    near e = elim (walk.reach e) [ inl close ↦ close | inr full ↦ omega (arith, full, less) ]

    its : IsWhole (drop 8 bytes) first whole.run
    its = whole_behind bytes layout first whole.run last whole.last_is whole.intact

    counts : last + 1 ≡ first + length whole.run
    counts = last_counts first whole.run last its.begin.ids whole.last_is

    -- each record of the run has an id up to the last
    low : (r : Record) → Contains whole.run r → r.id ≤ last
    low r has = omega (arith, id_at first whole.run has.0 r its.begin.ids has.1, ap (λ (x : Record). x.id) has.2, has.1, counts)

    pub spent : fit ≡ true → last < next → (r : Record) → Contains whole.run r → r.id ≤ at.last
    spent e passed r has = omega (arith, low r has, passed, near e)

    -- it stopped where no record is left, or behind the last that is wanted
    module _ (stop : (until < next) ⊎ NoneNext (take (length (drop 8 bytes) - end) (drop end (drop 8 bytes))) next) where
      passed_by : NoneNext (take (length (drop 8 bytes) - end) (drop end (drop 8 bytes))) next → last < next
      passed_by none = let found = whole_reached (drop 8 bytes) first walk.seen end next walk.read none in omega (arith, found.longest whole.run its.begin, counts, walk.read.count)

      full : fit ≡ true → until < next → at.last ≡ until
      full e beyond = omega (arith, near e, beyond, walk.within)

      pub stops : fit ≡ true → next ≤ last → at.last ≡ until
      stops e behind = elim stop [ inl beyond ↦ full e beyond | inr none ↦ absurd (omega (arith, passed_by none, behind)) ]

      pub replayed : AreReplayed (Contains whole.run) until start at fit
      replayed =
          let inside : (r : Record) → UpTo (IsAtFront (drop 8 bytes) first) until r → UpTo (Contains whole.run) until r = λ r has. (in_whole (drop 8 bytes) first whole.run r its has.0, has.1) in
          record {
            records = walk.records;
            plays = plays_weaker (UpTo (IsAtFront (drop 8 bytes) first) until) (UpTo (Contains whole.run) until) start at walk.records (λ r above has. inside r has) walk.plays;
            all = λ e. elim stop [ inl beyond ↦ inr (full e beyond) | inr none ↦ inl (spent e (passed_by none)) ];
            clash = λ e. let found = walk.clash e in record { r = found.r; has = inside found.r found.has; next = found.next; unfit = found.unfit };
          }

-- ---- what replaying leaves

pub was_replayed : (old new : Held) (until : ℕ) (start at : Reached) (fit : Bool) → Walk (drop 8 old.bytes.items) old.first until start new.end new.next at fit → EndsWith old.bytes.items old.layout old.first old.last → new.next ≤ until + 1
    → (until < new.next) ⊎ NoneNext (take (length (drop 8 old.bytes.items) - new.end) (drop new.end (drop 8 old.bytes.items))) new.next → new.first ≡ old.first → new.bytes.items ≡ old.bytes.items → new.layout ≡ old.layout → new.last ≡ old.last → WasReplayed old new until start at fit
was_replayed old new until start at fit walk ends less stop first bytes layout last =
    record {
      run = ends.run;
      intact = ends.intact;
      replayed = replayed old.bytes.items old.layout old.first until start new.end new.next at fit walk old.last ends less stop;
      spent = λ e passed. spent old.bytes.items old.layout old.first until start new.end new.next at fit walk old.last ends less e (omega (arith, passed, last));
      stops = λ e behind. stops old.bytes.items old.layout old.first until start new.end new.next at fit walk old.last ends less stop e (omega (arith, behind, last));
      near = near old.bytes.items old.layout old.first until start new.end new.next at fit walk old.last ends less;
      within = (walk.above, walk.within);
      gone_over = record {
        ends = subst (EndsWith new.bytes.items new.layout new.first) (sym last) (subst (λ (n : ℕ). EndsWith new.bytes.items new.layout n old.last) (sym first)
            (subst (λ (l : ℤ). EndsWith new.bytes.items l old.first old.last) (sym layout) (subst (λ (b : List ℕ). EndsWith b old.layout old.first old.last) (sym bytes) ends)));
        walked = subst (λ (n : ℕ). AreWalked new.bytes.items n new.end new.next) (sym first) (subst (λ (b : List ℕ). AreWalked b old.first new.end new.next) (sym bytes)
            (walked old.bytes.items old.layout old.first until start new.end new.next at fit walk old.last ends));
      };
      same = (first, bytes, layout);
    }

-- ---- its file

-- no record is in a file whose run is empty
pub none_in_file : (folder : Folder) (layout : ℤ) (first : ℕ) (bytes : List ℕ) → IsInRange (InProgress first) → folder (InProgress first) ≡ Some bytes → length bytes ≤ most_segment_read → IsIntactRun bytes layout first [] → (r : Record) → ¬ HoldsRecord folder layout (InProgress first) r
none_in_file folder layout first bytes ranged there small intact r h =
    let has = in_run folder layout (InProgress first) first 0 (record { ranged = ranged; begins = refl; within = λ id le. tt }) bytes there small [] intact r h in
    omega (arith, has.1)

module _ (folder : Folder) (layout : ℤ) (old new : Held) (until : ℕ) (start end : Reached) (fit : Bool) (of : IsOf folder layout old) (ranged : IsInRange (InProgress old.first)) (was : WasReplayed old new until start end fit) where
  part : IsPart (InProgress old.first) old.first until
  part = record { ranged = ranged; begins = refl; within = λ id le. tt }

  intact : IsIntactRun old.bytes.items layout old.first was.run
  intact = subst (λ (l : ℤ). IsIntactRun old.bytes.items l old.first was.run) of.2 was.intact

  pub held_replayed : AreReplayed (HoldsRecord folder layout (InProgress old.first)) until start end fit
  held_replayed = file_replayed folder layout (InProgress old.first) old.first until part old.bytes.items of.0 of.1 was.run intact start end fit was.replayed

  pub held_spent : new.last < new.next → fit ≡ true → IsSpent folder layout end.last (InProgress old.first)
  held_spent passed e r above h = omega (arith, above, was.spent e passed r (in_run folder layout (InProgress old.first) old.first until part old.bytes.items of.0 of.1 was.run intact r h))

  pub held_of : IsOf folder layout new
  held_of = (
    ap (λ n. folder (InProgress n)) was.same.0 ∙ of.0 ∙ ap (λ (b : List ℕ). Some b) (sym was.same.1),
    subst (λ (b : List ℕ). length b ≤ most_segment_read) (sym was.same.1) of.1,
    was.same.2 ∙ of.2,
  )
