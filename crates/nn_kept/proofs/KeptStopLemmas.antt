-- What a fair stop leaves at a moment at which each directory is kept.
use Rattle.nn_host.specs.Disk.{Reads, Leaves}
use Rattle.std.proofs.Common.{ℕ, ◌<◌, Bool, List}
use Rattle.nn_host.specs.Moments.{Dir, Moment}
use Rattle.nn_chain.specs.Fair.{IsFairStop}
use Rattle.nn_pick.specs.Dirs.{Dirs, choice}
use Rattle.nn_pick.specs.Opening.{Book}
use Rattle.nn_kept.specs.Kept.{Shared, IsKept}
use Rattle.nn_kept.specs.Laws.{IsPartOf, OpenInto, HasOfRun, HasLedOfRun, AllKept, SomeCounts, KeptStops}
use Rattle.nn_kept.proofs.KeptOpenLemmas.{open_held}

module _ (shared : Shared) (count : ℕ) (run held : ℕ → Dir → Bool) (m : Moment) (contents : ℕ → Reads) (all : AllKept shared count run held m) (leaves : (i : ℕ) → Leaves (m.dirs i).disk (contents i)) (fair : IsFairStop count m contents) where
  kept : (i : ℕ) → i < count → IsKept shared (contents i)
  kept i below = (all.at i below).kept (contents i) (leaves i) (fair i below)

  module _ (n : ℕ) (numbers : ℕ → ℕ) (bound : (k : ℕ) → k < n → numbers k < count) where
    some_run : SomeCounts run m n numbers → HasOfRun shared (choice contents n numbers)
    some_run some =
        let i = numbers some.0 in
        let is = (all.at i (bound some.0 some.1)).run some.2 (contents i) (leaves i) (fair i (bound some.0 some.1)) in
        (some.0, is.0, some.1, is.1)

    some_held : SomeCounts held m n numbers → HasLedOfRun shared (choice contents n numbers)
    some_held some =
        let i = numbers some.0 in
        (some.0, some.1, (all.at i (bound some.0 some.1)).led some.2 (contents i) (leaves i) (fair i (bound some.0 some.1)))

wider : (some all : List Book) (held : Type 0) (dirs : Dirs) → IsPartOf some all → OpenInto some held dirs → OpenInto all held dirs
wider some all held dirs part is = record {
  sound = is.sound;
  inside = record { saved = is.inside.saved; there = part (record { ns = is.sound.opened.book.ns; saved = is.inside.saved }) is.inside.there; part = is.inside.part };
  kept = λ h. part is.sound.opened.book (is.kept h);
}

pub kept_stops : KeptStops
kept_stops shared window count run held m contents part all leaves fair n numbers bound some =
    wider shared.window window (SomeCounts held m n numbers) (choice contents n numbers) part
    (open_held shared (choice contents n numbers) (SomeCounts held m n numbers)
    (λ k lt. kept shared count run held m contents all leaves fair (numbers k) (bound k lt))
    (some_run shared count run held m contents all leaves fair n numbers bound some)
    (some_held shared count run held m contents all leaves fair n numbers bound))
