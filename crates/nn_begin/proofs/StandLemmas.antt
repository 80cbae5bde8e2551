-- Where nothing is saved, no directory is a holder once a journal was begun: so they stand for a run without saved states.
use Rattle.std.proofs.Common.{◌≡◌, inl, inr, ℕ, ◌+◌, ◌<◌, Bool, true, false, List, Option, Some, None, refl, sym, subst, true≢false}
use Rattle.std.specs.Prelude.{is_some}
use Rattle.std.proofs.lemmas.Bool.{cases_Bool}
use Rattle.std.proofs.lemmas.Option.{none-some}
use Rattle.nn_base.specs.DirSets.{has}
use Rattle.nn_host.specs.Disk.{Disk}
use Rattle.nn_host.specs.Moments.{State}
use Rattle.nn_host.proofs.CleanLemmas.{reading}
use Rattle.nn_marks.specs.declared.version.Version.{Version}
use Rattle.nn_state.specs.declared.typed.Settled.{Settled}
use Rattle.nn_state.specs.Seat.{saved}
use Rattle.nn_tree.specs.Namespace.{Namespace}
use Rattle.nn_chain.specs.Folder.{folder_at}
use Rattle.nn_journal.specs.declared.journal.JournalSet.{JournalSet}
use Rattle.nn_pick.specs.Refusing.{spent_from}
use Rattle.nn_kept.specs.Kept.{Shared}
use Rattle.nn_kept.specs.Ends.{EndsBetween}
use Rattle.nn_steps.proofs.SeatLemmas.{reads_whole, reads_fair}
use Rattle.nn_run.specs.Steps.{Lives, BetweenLines}
use Rattle.nn_begin.specs.Begun.{IsBegun}

some_of : {A : Type 0} (o : Option A) → is_some o ≡ true → (x : A) × (o ≡ Some x)
some_of None e = absurd (true≢false (sym e))
some_of (Some x) e = (x, refl)

-- a directory that ends somewhere has nothing saved where nothing is
pub none_held : (version : Version) (list : ℕ → Namespace) (lo hi : ℕ) (d : Disk) → EndsBetween version true None list lo hi d → ⊥
none_held version list lo hi d ends =
    let it = (ends (reading d) (reads_whole d) (reads_fair d)).3 in
    let some = some_of (saved (reading d)) it.previous in
    let held = it.holds (folder_at (reading d) some.0) (record { sub = some.0; serves = some.1; is = refl }) in
    none-some held.end.ns held.is

-- as between two lines of a run without a saved state
pub between_unsaved : (shared : Shared) (version : Version) (id : ℕ) (ns : Namespace) (at : List Settled) (journal : JournalSet) (s : State) → IsBegun shared version id ns at journal s → shared.saved version.ctime ≡ None → id + 1 < spent_from
    → BetweenLines version (shared.ns version.ctime) s.count (has journal.live) (λ i. false) (record { ns = ns; saved = None }) (id + 1) s.now
between_unsaved shared version id ns at journal s begun none room =
    let it = subst (λ (what : Option Namespace). BetweenLines version (shared.ns version.ctime) s.count (has journal.live) (has journal.holders) (record { ns = ns; saved = what }) (id + 1) s.now) none (begun.between room) in
    record {
      shared = it.shared;
      window = it.window;
      floor = it.floor;
      lead = it.lead;
      ours = it.ours;
      ns = it.ns;
      saved = it.saved;
      room = it.room;
      stands = it.stands;
      lives = λ i below e. no_holder i (it.lives i below e);
      others = it.others;
    }
  where
    no_holder : (i : ℕ) → Lives version (has journal.holders i) (record { ns = ns; saved = None }) (shared.ns version.ctime) (id + 1) (s.now.dirs i).disk → Lives version false (record { ns = ns; saved = None }) (shared.ns version.ctime) (id + 1) (s.now.dirs i).disk
    no_holder i lives = elim (cases_Bool (has journal.holders i)) [
      | inl is ↦ absurd (none_held version (shared.ns version.ctime) (id + 1) (id + 1) (s.now.dirs i).disk (subst (λ (h : Bool). EndsBetween version h None (shared.ns version.ctime) (id + 1) (id + 1) (s.now.dirs i).disk) is lives.ends))
      | inr isnt ↦ subst (λ (h : Bool). Lives version h (record { ns = ns; saved = None }) (shared.ns version.ctime) (id + 1) (s.now.dirs i).disk) isnt lives
    ]
