-- Records of consecutive ids that are replayed one after the other, over a namespace.
use Rattle.std.specs.Prelude.{◌≡◌, ◌⊎◌, ◌+◌, ◌<◌, ◌≤◌, ℕ, Bool, true, false, List, [], ◌∷◌}
use Rattle.nn_record.specs.declared.transaction.Record.{Record}
use Rattle.nn_ops.specs.Step.{Fits}
use Rattle.nn_chain.specs.Chain.{Reached, after}

-- Each of these records has P and the next id, and fits.
abbrev pub Plays : (Record → Type 0) → Reached → List Record → Reached → Type 0
Plays P at [] end = end ≡ at
Plays P at (r ∷ rs) end = P r × (r.id ≡ at.last + 1) × Fits at.ns r.op × Plays P (after r at) rs end

-- The record of the next id has P, and doesn't fit.
pub record Clashes (P : Record → Type 0) (at : Reached) : Type 0 where
  pub r : Record
  pub has : P r
  pub next : r.id ≡ at.last + 1
  pub unfit : ¬ Fits at.ns r.op

-- a record with P, of an id up to this one
abbrev pub UpTo : (Record → Type 0) → ℕ → Record → Type 0
UpTo P until r = P r × (r.id ≤ until)

-- The records with P were replayed up to this id, as long as they fit.
pub record AreReplayed (P : Record → Type 0) (until : ℕ) (start end : Reached) (fit : Bool) : Type 0 where
  pub records : List Record
  pub plays : Plays (UpTo P until) start records end
  pub all : fit ≡ true → ((r : Record) → P r → r.id ≤ end.last) ⊎ (end.last ≡ until)
  pub clash : fit ≡ false → Clashes (UpTo P until) end

-- ---- one record

-- nothing was replayed: the records no longer fit, or this id isn't one of those that are wanted
pub record IsPassed (until id : ℕ) (old new : Reached) (old_fit new_fit : Bool) : Type 0 where
  pub same : new ≡ old
  pub same_fit : new_fit ≡ old_fit
  pub unwanted : (old_fit ≡ false) ⊎ (id ≤ old.last) ⊎ (until < id)

-- the record is wanted, if it is the next
pub record IsWanted (until id : ℕ) (old : Reached) (old_fit : Bool) : Type 0 where
  pub fit : old_fit ≡ true
  pub above : old.last < id
  pub within : id ≤ until

-- it was replayed where it fits
abbrev pub IsTried : Record → Reached → Reached → Bool → Type 0
IsTried r old new true = Fits old.ns r.op × (new ≡ after r old)
IsTried r old new false = (Fits old.ns r.op → ⊥) × (new ≡ old)

abbrev pub Advances : ℕ → Record → Reached → Reached → Bool → Bool → Type 0
Advances until r old new old_fit new_fit = IsPassed until r.id old new old_fit new_fit ⊎ (IsWanted until r.id old old_fit × IsTried r old new new_fit)
