-- An image of which something is wrong isn't intact, and just one thing is wrong with it first.
use Rattle.std.proofs.Common.{◌≡◌, ◌≢◌, ◌⊎◌, ⊎_elim, ℕ, ◌≤◌, List, length, unsigned_abs, Some, None, refl, sym, ◌∙◌, ap, subst}
use Rattle.std.proofs.lemmas.Option.{same_Some}
use Rattle.nn_base.specs.Limits.{most_image}
use Rattle.nn_base.specs.declared.file_name.FileName.TheVariants.{Image}
use Rattle.nn_marks.specs.declared.version.Version.{Version}
use Rattle.nn_image.specs.declared.fault.ImageFault.{ImageFault}
use Rattle.nn_image.specs.declared.fault.ImageFault.TheVariants as fault
use Rattle.nn_image.specs.Imaged.{IsImage}
use Rattle.nn_image.specs.Faults.{IsFault, OneFault, NoFaultOfAnImage, OneImage}
use Rattle.nn_chain.specs.declared.why.ImageWhy.{ImageWhy}
use Rattle.nn_chain.specs.declared.why.ImageWhy.TheVariants.{Absent, Digest, Named, Fault}
use Rattle.nn_chain.specs.Folder.{Folder}
use Rattle.nn_chain.specs.Images.{HasDigest, HasIntact, HasImage, IsAnother, IsUnsound}

-- the bytes of an image file are one list
module _ (folder : Folder) (id : ℕ) where
  same_bytes : (a b : List ℕ) → folder (Image id) ≡ Some a → folder (Image id) ≡ Some b → b ≡ a
  same_bytes a b p q = same_Some b a (sym q ∙ p)

  meet : {P Q : List ℕ → Type 0} → HasImage folder id P → HasImage folder id Q → (bytes : List ℕ) × P bytes × Q bytes
  meet {P} {Q} p q = (p.0, p.2, subst Q (same_bytes p.0 q.0 p.1 q.1) q.2)

  no_absent : {P : List ℕ → Type 0} → folder (Image id) ≡ None → HasImage folder id P → ⊥
  no_absent none p = let apart = sym none ∙ p.1 in cc

-- a fault other than that of a file too large is one of bytes whose digest agrees
module _ (folder : Folder) (version : Version) (id : ℕ) (bytes : List ℕ) where
  digest_first : (found : ImageFault) → length bytes ≤ most_image → ¬ HasDigest folder id bytes → (found ≡ fault.TooLarge) ⊎ HasDigest folder id bytes → IsFault found bytes (unsigned_abs version.layout) → ⊥
  digest_first found small none may is = ⊎_elim
      (λ large. let over : IsFault fault.TooLarge bytes (unsigned_abs version.layout) = subst (λ (f : ImageFault). IsFault f bytes (unsigned_abs version.layout)) large is in over small)
      (λ agrees. none agrees)
      may

module _ (no_fault : NoFaultOfAnImage) (one : OneImage) (folder : Folder) (version : Version) (id : ℕ) where
  fault_first : (bytes : List ℕ) (found : ImageFault) → found ≢ fault.Memory → IsFault found bytes (unsigned_abs version.layout) → IsAnother version id bytes → ⊥
  fault_first bytes found lacking is other = no_fault found bytes other.ns other.inner other.namespace (unsigned_abs version.layout) lacking other.image is

  pub unsound_not_intact : (why : ImageWhy) → IsUnsound folder version id why → ¬ HasIntact folder version id
  unsound_not_intact Absent none (ns, intact) = let apart = sym none ∙ intact.there in cc
  unsound_not_intact Digest is (ns, intact) =
      let bytes = same_bytes folder id is.0 intact.bytes is.1 intact.there in
      is.2.1 (subst (λ (t : List ℕ). HasDigest folder id t) bytes intact.digest)
  unsound_not_intact (Fault found) is (ns, intact) =
      let layout = unsigned_abs version.layout in
      let bytes = same_bytes folder id is.0 intact.bytes is.1 intact.there in
      no_fault found is.0 ns id version.namespace layout is.2.1 (subst (λ (t : List ℕ). IsImage t ns id version.namespace layout) bytes intact.image) is.2.2
  unsound_not_intact Named is (ns, intact) =
      let layout = unsigned_abs version.layout in
      let other = is.2.1 in
      let bytes = same_bytes folder id is.0 intact.bytes is.1 intact.there in
      let same = one is.0 other.ns ns other.inner id other.namespace version.namespace layout layout other.image (subst (λ (t : List ℕ). IsImage t ns id version.namespace layout) bytes intact.image) in
      ⊎_elim (λ ne. ne same.1) (λ ne. ne same.2) other.other

  -- what is wrong with the bytes of one file

  absent_digest : IsUnsound folder version id Absent → IsUnsound folder version id Digest → ⊥
  absent_digest p q = no_absent folder id p q

  absent_fault : (g : ImageFault) → IsUnsound folder version id Absent → IsUnsound folder version id (Fault g) → ⊥
  absent_fault g p q = no_absent folder id p q

  absent_named : IsUnsound folder version id Absent → IsUnsound folder version id Named → ⊥
  absent_named p q = no_absent folder id p q

  digest_fault : (g : ImageFault) → IsUnsound folder version id Digest → IsUnsound folder version id (Fault g) → ⊥
  digest_fault g p q = let b = meet folder id p q in digest_first folder version id b.0 g b.1.0 b.1.1 b.2.0 b.2.2

  digest_named : IsUnsound folder version id Digest → IsUnsound folder version id Named → ⊥
  digest_named p q = let b = meet folder id p q in b.1.1 b.2.0

  fault_named : (f : ImageFault) → IsUnsound folder version id (Fault f) → IsUnsound folder version id Named → ⊥
  fault_named f p q = let b = meet folder id p q in fault_first b.0 f b.1.1 b.1.2 b.2.1

  pub one_why : OneFault → (why other : ImageWhy) → IsUnsound folder version id why → IsUnsound folder version id other → why ≡ other
  one_why one_fault Absent Absent p q = refl
  one_why one_fault Absent Digest p q = absurd (absent_digest p q)
  one_why one_fault Absent (Fault g) p q = absurd (absent_fault g p q)
  one_why one_fault Absent Named p q = absurd (absent_named p q)
  one_why one_fault Digest Absent p q = absurd (absent_digest q p)
  one_why one_fault Digest Digest p q = refl
  one_why one_fault Digest (Fault g) p q = absurd (digest_fault g p q)
  one_why one_fault Digest Named p q = absurd (digest_named p q)
  one_why one_fault (Fault f) Absent p q = absurd (absent_fault f q p)
  one_why one_fault (Fault f) Digest p q = absurd (digest_fault f q p)
  one_why one_fault (Fault f) (Fault g) p q =
      let b = meet folder id p q in
      ap Fault (one_fault f g b.0 (unsigned_abs version.layout) b.1.1 b.2.1 b.1.2 b.2.2)
  one_why one_fault (Fault f) Named p q = absurd (fault_named f p q)
  one_why one_fault Named Absent p q = absurd (absent_named q p)
  one_why one_fault Named Digest p q = absurd (digest_named q p)
  one_why one_fault Named (Fault g) p q = absurd (fault_named g q p)
  one_why one_fault Named Named p q = refl
