-- What a look at a directory says of it in which nothing is under way.
use Rattle.std.proofs.Common.{◌≡◌, ◌⊎◌, inl, inr, Bool, true, false, sym, ◌∙◌, ap, refl}
use Rattle.std.specs.Prelude.{is_some}
use Rattle.nn_base.specs.declared.sub.Sub.TheVariants.{Current, Previous}
use Rattle.nn_base.specs.declared.file_name.FileName.TheVariants.{Version}
use Rattle.nn_host.specs.Disk.{Disk, Reads, Leaves}
use Rattle.nn_state.specs.declared.state.Seven.{Seven}
use Rattle.nn_state.specs.declared.state.StorageState.TheVariants as state
use Rattle.nn_state.specs.declared.typed.Settled.{Settled}
use Rattle.nn_state.specs.declared.typed.Settled.TheVariants as settled
use Rattle.nn_state.specs.declared.typed.ReadyWithPrevious.{ReadyWithPrevious}
use Rattle.nn_state.specs.Table.{seven_of}
use Rattle.nn_state.specs.Typed.{IsIn, FitsReady, FitsWithPrevious, FitsFresh, FitsSettled}
use Rattle.nn_state.proofs.TableLemmas.{normal_seven, fresh_seven}
use Rattle.nn_state.proofs.LeftLemmas.{seven_left}

module _ (d : Disk) (c : Reads) (leaves : Leaves d c) where
  pub saved_told : (b : Bool) → b ≡ c.has Previous → IsIn state.Normal d → b ≡ true → FitsWithPrevious d
  saved_told b is normal told = record { normal = normal; something_saved = sym (leaves.subs Previous) ∙ sym is ∙ told }

  pub unsaved_told : (b : Bool) → b ≡ c.has Previous → IsIn state.Normal d → b ≡ false → FitsReady d
  unsaved_told b is normal told = record { normal = normal; nothing_saved = sym (leaves.subs Previous) ∙ sym is ∙ told }

  version_is : is_some (c.file Current Version) ≡ is_some (d.file Current Version)
  version_is = λ k. (seven_left d c leaves k).current

  pub version_told : (b : Bool) → b ≡ is_some (c.file Current Version) → IsIn state.Normal d ⊎ IsIn state.NotFormatted d → d.has Previous ≡ false → b ≡ true → FitsReady d
  version_told b is (inl normal) none told = record { normal = normal; nothing_saved = none }
  version_told b is (inr fresh) none told = let e = sym told ∙ is ∙ version_is ∙ ap (λ (s : Seven). s.current) (fresh_seven (seven_of d) fresh) in cc

  pub unversioned_told : (b : Bool) → b ≡ is_some (c.file Current Version) → IsIn state.Normal d ⊎ IsIn state.NotFormatted d → d.has Previous ≡ false → b ≡ false → FitsFresh d
  unversioned_told b is (inr fresh) none told = fresh
  unversioned_told b is (inl normal) none told = let e = sym told ∙ is ∙ version_is ∙ ap (λ (s : Seven). s.current) (normal_seven (seven_of d) normal) in cc

-- without a saved state
pub none_saved : (it : Settled) → ((saved : ReadyWithPrevious) → it ≡ settled.ReadyWithPrevious saved → ⊥) → (d : Disk) → FitsSettled it d → d.has Previous ≡ false
none_saved (settled.Ready it) not d fits = fits.nothing_saved
none_saved (settled.ReadyWithPrevious it) not d fits = absurd (not it refl)
none_saved (settled.Fresh it) not d fits = λ k. (fresh_seven (seven_of d) fits k).previous
