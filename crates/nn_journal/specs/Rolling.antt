-- What rounds make of a journal and its directories: each ends the segment in progress and begins the next, until none drops a directory.
use Rattle.std.specs.Prelude.{◌≡◌, ℕ, ◌+◌, ◌*◌, ◌<◌, ◌≤◌, ◌&&◌, not, Bool, true, false}
use Rattle.nn_base.specs.DirSets.{Members, has, count_of}
use Rattle.nn_host.specs.Moments.{State, moment}
use Rattle.nn_journal.specs.Places.{Place, BringsAhead, Went}
use Rattle.nn_journal.specs.Finalizing.{Finalizes}

-- So many calls a live directory. A directory that is dropped costs at most a round in eight of them more, ten calls in each.
abbrev pub CallsWithin : Type 0 → ℕ → Members → Members → State → State → Type 0
CallsWithin told each old_live live old new = told → moment new + 80 * count_of live ≤ moment old + each * count_of old_live + 80 * count_of old_live

-- The live ones went on ahead of those that were dropped, at most as often as one was dropped and once more.
pub record HasRolled (told : Type 0) (old_place place : Place) (holders old_live live : Members) (old new : State) : Type 0 where
  pub rose : old_place.last < place.last
  pub begins : place.going ≡ true → place.first ≡ place.last
  pub ids : place.last + 2 * count_of live ≤ old_place.last + 2 + 2 * count_of old_live
  pub ahead : BringsAhead told old_place place holders old_live live old new
  pub ended : Finalizes told old_place old_live live old new
  pub calls : CallsWithin told 10 old_live live old new

-- they did if they had to, and else nothing was done
pub record HasSettled (again : Bool) (told : Type 0) (old_place place : Place) (holders old_live live : Members) (old new : State) : Type 0 where
  pub rolled : again ≡ true → HasRolled told old_place place holders old_live live old new
  pub stayed : again ≡ false → (place ≡ old_place) × (live ≡ old_live) × (new ≡ old)

-- These directories were dropped without a call on them, and the rest went on ahead of them.
pub record DropsAhead (told : Type 0) (gone : Members) (old_place place : Place) (holders old_live live : Members) (old new : State) : Type 0 where
  pub rest : Members
  pub without : (j : ℕ) → has rest j ≡ (has old_live j && not (has gone j))
  pub ahead : BringsAhead told old_place place holders rest live old new
  pub ended : Finalizes told old_place rest live old new
  pub went : Went told rest live old new
  pub calls : CallsWithin told 10 rest live old new
