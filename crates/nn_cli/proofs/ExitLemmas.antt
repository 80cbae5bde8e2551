-- How the process ends, from the status of the run.
use Rattle.std.proofs.Common.{◌≡◌, Some, None, inl, inr, ℕ, List, [], length, ap, subst}
use Rattle.nn_base.specs.Paths.{Bytes}
use Rattle.nn_host.specs.Moments.{State}
use Rattle.nn_files.specs.Untold.{unfailed_state}
use Rattle.nn_server.specs.declared.status.Status.{Status}
use Rattle.nn_server.specs.declared.status.Status.TheVariants.{Memory}
use Rattle.nn_server.specs.Codes.{code_of}
use Rattle.nn_serve.specs.Ran.{RunRan}
use Rattle.nn_top.specs.Wanted.{Wanted, States, Format, Dry, Generate, Run, dirs_in}
use Rattle.nn_top.specs.Commands.{wanted_by, HaveNoReading}
use Rattle.nn_top.specs.Did.{Unread, Did}
use Rattle.nn_top.proofs.ReadingLemmas.{one_reading, read_or_not}
use Rattle.nn_cli.specs.Exit.{ExitsAs, CanEndBy, ExitsBy}

-- memory ran out before the run
pub exits_starved : (words : List Bytes) (exit : ℕ) → exit ≡ code_of Memory → ExitsBy words exit
exits_starved words exit code = record { read = λ wanted asks. inl code; unread = λ none. inl code }

-- of a source that tells nothing, its count alone is spoken of
counts_alone : {Source : Type 0} (left : Source → Bytes) (faults : Source → ℕ) (before after : Source) (old new : State) (wanted : Wanted) (status : Status) → Did ⊥ ⊥ left faults wanted before after old new status
    → Did ⊥ ⊥ (λ n. []) (λ n. n) wanted (faults before) (faults after) old new status
counts_alone left faults before after old new (States dirs) status did = (ap faults did.0, did.1)
counts_alone left faults before after old new (Format cluster namespace dirs) status did = (ap faults did.0, did.1)
counts_alone left faults before after old new Dry status did = record {
  end = did.end;
  lines = did.lines;
  trace = did.trace;
  ran = record {
    lines = did.ran.lines;
    read = record { taken = did.ran.read.taken; fits = did.ran.read.fits; lines_are = did.ran.read.lines_are; of_script = λ never. absurd never; counted = did.ran.read.counted };
    said = did.ran.said;
    dirs = did.ran.dirs;
  };
  closes = did.closes;
}
counts_alone left faults before after old new (Generate count) status did = (ap faults did.0, did.1)
counts_alone left faults before after old new (Run at (Some files) dirs) status did = (ap faults did.0, did.1)
counts_alone left faults before after old new (Run at None dirs) status did = record {
  ended = record {
    end = did.ended.end;
    lines = did.ended.lines;
    trace = did.ended.trace;
    ran = record {
      seen = ran.seen;
      read = record { taken = ran.read.taken; fits = ran.read.fits; lines_are = ran.read.lines_are; of_script = λ never. absurd never; counted = ran.read.counted };
      reached = ran.reached;
      most = ran.most;
      said = ran.said;
      kept = ran.kept;
      ended = ran.ended;
      refused = ran.refused;
      opening = ran.opening;
      started = ran.started;
      some = ran.some;
      cause = ran.cause;
      once = ran.once;
      live = ran.live;
      tried = ran.tried;
      fit = λ never. absurd never;
      complete = λ never. absurd never;
    };
    closes = did.ended.closes;
  };
  stops = did.stops;
  stopped = did.stopped;
}
  where
    ran : RunRan ⊥ ⊥ at (left before) (left after) (faults before) (faults after) old new did.ended.lines did.ended.end
    ran = did.ended.ran

-- words with a reading were done
pub exits_done : {Source : Type 0} (left : Source → Bytes) (faults : Source → ℕ) (before after : Source) (old new : State) (words : List Bytes) (wanted : Wanted) (exit : ℕ) → wanted_by words ≡ Some wanted
    → faults before ≡ 0 → old ≡ unfailed_state (length (dirs_in wanted)) → ExitsAs (Did ⊥ ⊥ left faults wanted before after old new) exit → ExitsBy words exit
exits_done left faults before after old new words wanted exit asks unfailed opened exits = record {
  read = λ again asks_again. inr (subst (λ (w : Wanted). ExitsAs (CanEndBy w) exit) (one_reading words wanted again asks asks_again) (exits.0, exits.1, ends));
  unread = λ none. absurd (read_or_not words wanted asks none);
}
  where
    ends : CanEndBy wanted exits.0
    ends = (
      faults after,
      new,
      subst (λ (s : State). Did ⊥ ⊥ (λ n. []) (λ n. n) wanted 0 (faults after) s new exits.0) opened
          (subst (λ (n : ℕ). Did ⊥ ⊥ (λ n. []) (λ n. n) wanted n (faults after) old new exits.0) unfailed (counts_alone left faults before after old new wanted exits.0 exits.2)),
    )

-- words without one were answered
pub exits_unread : {old new : State} (words : List Bytes) (exit : ℕ) → HaveNoReading words → old ≡ unfailed_state 0 → ExitsAs (Unread ⊥ old new) exit → ExitsBy words exit
exits_unread {new = new} words exit none opened exits = record {
  read = λ wanted asks. absurd (read_or_not words wanted asks none);
  unread = λ here. inr (exits.0, exits.1, (new, subst (λ (s : State). Unread ⊥ s new exits.0) opened exits.2));
}
