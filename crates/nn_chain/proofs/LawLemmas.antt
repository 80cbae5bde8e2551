-- Why an image isn't intact, and why a folder has no intact one: one reason at most, and none beside an intact one.
use Rattle.std.proofs.Common.{◌≡◌, ℕ, ◌<◌, inl, inr, sym, ◌∙◌, subst, arith}
use Rattle.nn_marks.specs.declared.version.Version.{Version}
use Rattle.nn_image.proofs.FirstFaultLemmas.{first_fault, none_of_an_image}
use Rattle.nn_image.proofs.LoadLemmas.{one_image}
use Rattle.nn_chain.specs.declared.why.ImageWhy.{ImageWhy}
use Rattle.nn_chain.specs.Folder.{Folder}
use Rattle.nn_chain.specs.Images.{IsUnsound, IsLastImage, IsLastUnsound, HasNoImageFile}
use Rattle.nn_chain.specs.Laws.{OneWhy, NoneIntactUnsound, OneReason, NoReasonBesideIntact}
use Rattle.nn_chain.proofs.UnsoundLemmas.{one_why, unsound_not_intact}

-- ---- an image

pub one_thing_wrong : OneWhy
one_thing_wrong folder version id why other p q = one_why none_of_an_image one_image folder version id first_fault why other p q

pub none_intact_unsound : NoneIntactUnsound
none_intact_unsound folder version id why intact is = unsound_not_intact none_of_an_image one_image folder version id why is intact

-- ---- a folder

one_last : (folder : Folder) (id other : ℕ) → IsLastImage folder id → IsLastImage folder other → id ≡ other
one_last folder id other p q =
    let below : id < other → ⊥ = λ lt. q.there (p.last other q.ranged lt) in
    let above : other < id → ⊥ = λ lt. p.there (q.last id p.ranged lt) in
    omega arith

none_there : (folder : Folder) (version : Version) (why : ImageWhy) → HasNoImageFile folder → ¬ IsLastUnsound folder version why
none_there folder version why none is = is.last.there (none is.id is.last.ranged)

pub one_reason : OneReason
one_reason folder version why other p q = elim p.why_is [
  | inl absent ↦ elim q.why_is [
    | inl too ↦ absent.0 ∙ sym too.0
    | inr wrong ↦ absurd (none_there folder version other absent.1 wrong)
  ]
  | inr wrong ↦ elim q.why_is [
    | inl absent ↦ absurd (none_there folder version why absent.1 wrong)
    | inr too ↦
        let same = one_last folder too.id wrong.id too.last wrong.last in
        one_thing_wrong folder version wrong.id why other wrong.unsound (subst (λ (id : ℕ). IsUnsound folder version id other) same too.unsound)
  ]
]

pub no_reason_beside_intact : NoReasonBesideIntact
no_reason_beside_intact folder version id why intact is = is.none id intact
