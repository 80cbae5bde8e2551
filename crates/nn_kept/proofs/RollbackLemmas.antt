-- Sound directories open for a rollback too, just where their Book has a saved namespace.
use Rattle.std.proofs.Common.{◌≡◌, ℕ, ◌<◌, Option, Some, None, refl, sym, ◌∙◌, arith}
use Rattle.std.proofs.lemmas.Option.{none-some}
use Rattle.nn_tree.specs.Namespace.{Namespace}
use Rattle.nn_pick.specs.declared.intent.Intent.TheVariants.{Start, Rollback}
use Rattle.nn_pick.specs.declared.refusal.Refusal.{Refusal}
use Rattle.nn_pick.specs.declared.refusal.Refusal.TheVariants as refusal
use Rattle.nn_pick.specs.Dirs.{Dirs, ServesPrevious}
use Rattle.nn_pick.specs.Refusing.{Applies, IsChosenWithPrevious, test_of}
use Rattle.nn_pick.specs.Opening.{Opens, IsSaved, Unsaved, Lost, Kept, AreSound}
use Rattle.nn_kept.specs.First.{SoundRollsBack}
use Rattle.nn_kept.proofs.KeptOpenLemmas.{there}
use Rattle.nn_state.specs.Seat.{saved}
use Rattle.nn_chain.specs.Folder.{folder_at}

-- what refuses no start refuses no rollback, but for the previous
unrefused : (dirs : Dirs) → ((r : Refusal) → ¬ Applies dirs Start r) → (r : Refusal) → test_of r < 11 → ¬ Applies dirs Rollback r
unrefused dirs none (refusal.Missing i) less is = none (refusal.Missing i) is
unrefused dirs none (refusal.Inconsistent i why) less is = none (refusal.Inconsistent i why) is
unrefused dirs none (refusal.Formatted i) less is = is
unrefused dirs none refusal.NotFormatted less is = none refusal.NotFormatted is
unrefused dirs none (refusal.BadVersion i fault) less is = none (refusal.BadVersion i fault) is
unrefused dirs none (refusal.Mismatch first dir key) less is = none (refusal.Mismatch first dir key) is
unrefused dirs none (refusal.FutureLayout i found) less is = none (refusal.FutureLayout i found) is
unrefused dirs none (refusal.ForeignLayout i found) less is = none (refusal.ForeignLayout i found) is
unrefused dirs none (refusal.NoImage i why) less is = none (refusal.NoImage i why) is
unrefused dirs none (refusal.Gap seen last) less is = none (refusal.Gap seen last) is
unrefused dirs none (refusal.Spent last) less is = none (refusal.Spent last) is
unrefused dirs none (refusal.PreviousExists i) less is = cc
unrefused dirs none (refusal.CtimeSpent old) less is = cc
unrefused dirs none refusal.NoPrevious less is = omega (arith, less)
unrefused dirs none (refusal.BadPrevious i why) less is = omega (arith, less)

module _ (dirs : Dirs) (sound : AreSound dirs Start) where
  -- something is saved just where there is a holder

  a_holder : (what : Namespace) (it : Option Namespace) → IsSaved dirs it → it ≡ Some what → (i : ℕ) × IsChosenWithPrevious dirs i
  a_holder what it (Unsaved none is) some = absurd (none-some what (sym is ∙ some))
  a_holder what it (Lost i low lost is) some = (i, low.holds)
  a_holder what it (Kept i folder own end low chain is) some = (i, low.holds)

  no_holder : sound.opened.book.saved ≡ None → (i : ℕ) → ¬ IsChosenWithPrevious dirs i
  no_holder none i is =
      let sub = there (saved (dirs.at i)) is.1 in
      let serves : ServesPrevious (dirs.at i) (folder_at (dirs.at i) sub.0) = record { sub = sub.0; serves = sub.1; is = refl } in
      let it = (sound.saved i is).chain i is.0.0 is.0.1 (folder_at (dirs.at i) sub.0) is.0.3.ahead serves in
      none-some it.1.ns (sym none ∙ it.3)

  opens_for : (what : Namespace) → sound.opened.book.saved ≡ Some what → (r : Refusal) → ¬ Applies dirs Rollback r
  opens_for what some refusal.NoPrevious is = let h = a_holder what sound.opened.book.saved sound.opens.saved some in is.1 h.0 h.1
  opens_for what some (refusal.BadPrevious i why) is =
      let bad = is.2 in
      let holder : IsChosenWithPrevious dirs i.0 = ((bad.version, bad.current, bad.end, bad.chosen), λ gone. none-some bad.serves.sub (sym gone ∙ bad.serves.serves)) in
      (sound.saved i.0 holder).sound i.0 bad.version bad.current bad.folder why bad.chosen.ahead bad.serves bad.wrong.0
  opens_for what some (refusal.Missing i) is = unrefused dirs sound.opens.unrefused (refusal.Missing i) (omega arith) is
  opens_for what some (refusal.Inconsistent i why) is = unrefused dirs sound.opens.unrefused (refusal.Inconsistent i why) (omega arith) is
  opens_for what some (refusal.Formatted i) is = is
  opens_for what some refusal.NotFormatted is = unrefused dirs sound.opens.unrefused refusal.NotFormatted (omega arith) is
  opens_for what some (refusal.BadVersion i fault) is = unrefused dirs sound.opens.unrefused (refusal.BadVersion i fault) (omega arith) is
  opens_for what some (refusal.Mismatch first dir key) is = unrefused dirs sound.opens.unrefused (refusal.Mismatch first dir key) (omega arith) is
  opens_for what some (refusal.FutureLayout i found) is = unrefused dirs sound.opens.unrefused (refusal.FutureLayout i found) (omega arith) is
  opens_for what some (refusal.ForeignLayout i found) is = unrefused dirs sound.opens.unrefused (refusal.ForeignLayout i found) (omega arith) is
  opens_for what some (refusal.NoImage i why) is = unrefused dirs sound.opens.unrefused (refusal.NoImage i why) (omega arith) is
  opens_for what some (refusal.Gap seen last) is = unrefused dirs sound.opens.unrefused (refusal.Gap seen last) (omega arith) is
  opens_for what some (refusal.Spent last) is = unrefused dirs sound.opens.unrefused (refusal.Spent last) (omega arith) is
  opens_for what some (refusal.PreviousExists i) is = unrefused dirs sound.opens.unrefused (refusal.PreviousExists i) (omega arith) is
  opens_for what some (refusal.CtimeSpent old) is = unrefused dirs sound.opens.unrefused (refusal.CtimeSpent old) (omega arith) is

  opens_too : (what : Namespace) → sound.opened.book.saved ≡ Some what → Opens dirs Rollback sound.opened
  opens_too what some = record {
    unrefused = opens_for what some;
    chosen = sound.opens.chosen;
    version = sound.opens.version;
    end = sound.opens.end;
    first = sound.opens.first;
    last = sound.opens.last;
    namespace = sound.opens.namespace;
    saved = sound.opens.saved;
  }

pub sound_rolls_back : SoundRollsBack
sound_rolls_back dirs sound = record {
  opens = opens_too dirs sound;
  sound_too = λ what some. record { opened = sound.opened; opens = opens_too dirs sound what some; one = sound.one; saved = sound.saved };
  refused = λ none. record { applies = (refl, no_holder dirs sound none); first = λ earlier less. unrefused dirs sound.opens.unrefused earlier less };
}
