-- How texts go out: in which calls of the output, and what is left of them where it fails.
use Rattle.std.specs.Prelude.{◌≡◌, ◌⊎◌, ℕ, zero, suc, ◌+◌, ◌-◌, ◌/◌, List, [], ◌∷◌, ◌++◌, length, take, drop, map, Result, Ok, Err}
use Rattle.std.specs.List.{All, concat}
use Rattle.nn_base.specs.Paths.{Bytes}
use Rattle.nn_host.specs.Moments.{Moment, State, Say, faults_at}
use Rattle.nn_host.specs.Calls.{most_said, next_count}
use Rattle.nn_host.specs.Runs.{AllAnswered, Throughout, Untouched, SilentAfter}
use Rattle.nn_host.specs.declared.host.Failed.{Failed}
use Rattle.nn_say.specs.Records.{Records}

-- the first k pieces of a text
abbrev pub first_pieces : ℕ → Bytes → List Bytes
first_pieces zero text = []
first_pieces (suc k) text = take most_said text ∷ first_pieces k (drop most_said text)

-- a text in pieces: each has as many bytes as one call takes, but for the last, which has those that are left; no text has no piece
unfoldable pub pieces_of : Bytes → List Bytes
pieces_of text = first_pieces ((length text + (most_said - 1)) / most_said) text

-- at each moment from old to new no directory was touched, and a front of this text was said
abbrev pub SaysFronts : Type 0 → State → State → Bytes → Type 0
SaysFronts told old new text = Throughout told old new (λ (m : Moment). (m.dirs ≡ old.now.dirs) × (n : ℕ) × (m.said ≡ old.now.said ++ take n text))

-- from old to new these pieces were said, each in one call, and no call failed
pub record SaysAll (told : Type 0) (old new : State) (pieces : List Bytes) : Type 0 where
  pub fronts : SaysFronts told old new (concat pieces)
  pub answered : AllAnswered told old new
  pub said : told → new.now.said ≡ old.now.said ++ concat pieces
  pub calls : told → Records (map Say pieces) old.trace new.trace

-- the output failed over one of these pieces: those before it went out whole, and of it a front, where it was asked to take it;
-- `text` is what went out, `asked` the pieces that it was asked to take
pub record CutOff (pieces : List Bytes) (text : Bytes) (asked : List Bytes) : Type 0 where
  pub whole : List Bytes
  pub broken : Bytes
  pub rest : List Bytes
  pub are : pieces ≡ whole ++ broken ∷ rest
  pub went : ((n : ℕ) × (text ≡ concat whole ++ take n broken) × (asked ≡ whole ++ broken ∷ [])) ⊎ ((text ≡ concat whole) × (asked ≡ whole))

-- the output failed, nothing was said after that, and no directory was touched
pub record OutFailed (told : Type 0) (old new : State) : Type 0 where
  pub untouched : Untouched told old new
  pub silent : SilentAfter told old new
  pub faults : (j : ℕ) → faults_at new j ≡ faults_at old j
  pub out_faults : new.now.out_faults ≡ next_count old.now.out_faults
  pub reads : told → (j : ℕ) → new.reads j ≡ old.reads j

-- from old to new the output failed over one of these pieces
pub record BreaksOff (told : Type 0) (old new : State) (pieces : List Bytes) : Type 0 where
  pub fronts : SaysFronts told old new (concat pieces)
  pub failed : OutFailed told old new
  pub cut : told → (text : Bytes) × (asked : List Bytes) × CutOff pieces text asked × (new.now.said ≡ old.now.said ++ text) × Records (map Say asked) old.trace new.trace

-- a text was said, or the output failed over it
abbrev pub Says : Type 0 → State → State → Bytes → Result (Unit {0}) Failed → Type 0
Says told old new text (Ok done) = SaysAll told old new (pieces_of text)
Says told old new text (Err failed) = BreaksOff told old new (pieces_of text)

-- ---- a text whose end waits for a call

-- pieces of as many bytes as one call takes were said; behind them waits the rest of what waited before and of a text
pub record Streams (told : Type 0) (old new : State) (before text after : Bytes) : Type 0 where
  pub pieces : List Bytes
  pub full : All (λ piece. length piece ≡ most_said) pieces
  pub says : SaysAll told old new pieces
  pub bytes : before ++ text ≡ concat pieces ++ after

-- a text was put behind what waits, or the output failed over that, whatever else follows
abbrev pub Puts : {T : Type 0} → Type 0 → State → State → Bytes → Bytes → Bytes → Result T Failed → Type 0
Puts told old new before text after (Ok done) = Streams told old new before text after
Puts told old new before text after (Err failed) = (rest : Bytes) → BreaksOff told old new (pieces_of ((before ++ text) ++ rest))
