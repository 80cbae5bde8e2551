-- The tests of names tell: they answer true exactly where the two names are equal.
use Rattle.std.specs.Prelude.{◌≡◌, ◌≢◌, ◌⊎◌, ℕ, zero, suc, true, false, ◌==◌, ◌&&◌, refl}
use Rattle.std.proofs.Common.{inl, inr, ap, sym, ◌∙◌}
use Rattle.std.proofs.lemmas.Bool.Decides.{eqb_tells}
use Rattle.nn_base.specs.declared.sub.Sub.{Sub}
use Rattle.nn_base.specs.declared.sub.Sub.TheVariants.{Current, Previous, PreviousTmp, RemovedTmp, FinalizedTmp, LastCheckpointTmp, PreviousCheckpoint}
use Rattle.nn_base.specs.declared.file_name.FileName.{FileName}
use Rattle.nn_base.specs.declared.file_name.FileName.TheVariants.{Version, VersionTmp, Seen, SeenTmp, Image, Md5, Md5Tmp, Ckpt, Edits, InProgress}
use Rattle.nn_base.specs.Names.{sub_code, sub_eq, form_of, first_id, last_id, file_eq}

sub_at : ℕ → Sub
sub_at zero = Current
sub_at (suc zero) = Previous
sub_at (suc (suc zero)) = PreviousTmp
sub_at (suc (suc (suc zero))) = RemovedTmp
sub_at (suc (suc (suc (suc zero)))) = FinalizedTmp
sub_at (suc (suc (suc (suc (suc zero))))) = LastCheckpointTmp
sub_at (suc (suc (suc (suc (suc (suc n)))))) = PreviousCheckpoint

sub_at-sub_code : (s : Sub) → sub_at (sub_code s) ≡ s
unfolding sub_at
sub_at-sub_code Current = refl
sub_at-sub_code Previous = refl
sub_at-sub_code PreviousTmp = refl
sub_at-sub_code RemovedTmp = refl
sub_at-sub_code FinalizedTmp = refl
sub_at-sub_code LastCheckpointTmp = refl
sub_at-sub_code PreviousCheckpoint = refl

pub sub_code_is_injective : (a b : Sub) → sub_code a ≡ sub_code b → a ≡ b
sub_code_is_injective a b e = sym (sub_at-sub_code a) ∙ ap sub_at e ∙ sub_at-sub_code b

pub sub_tells : (a b : Sub) → ((sub_eq a b ≡ true) × (a ≡ b)) ⊎ ((sub_eq a b ≡ false) × (a ≢ b))
sub_tells a b = elim (eqb_tells (sub_code a) (sub_code b)) [
  | inl same ↦ inl (same.0, sub_code_is_injective a b same.1)
  | inr other ↦ inr (other.0, λ e. other.1 (ap sub_code e))
]

file_at : ℕ → ℕ → ℕ → FileName
file_at zero a b = Version
file_at (suc zero) a b = VersionTmp
file_at (suc (suc zero)) a b = Seen
file_at (suc (suc (suc zero))) a b = SeenTmp
file_at (suc (suc (suc (suc zero)))) a b = Image a
file_at (suc (suc (suc (suc (suc zero))))) a b = Md5 a
file_at (suc (suc (suc (suc (suc (suc zero)))))) a b = Md5Tmp a
file_at (suc (suc (suc (suc (suc (suc (suc zero))))))) a b = Ckpt a
file_at (suc (suc (suc (suc (suc (suc (suc (suc zero)))))))) a b = Edits (a, b)
file_at (suc (suc (suc (suc (suc (suc (suc (suc (suc n))))))))) a b = InProgress a

file_at-parts : (n : FileName) → file_at (form_of n) (first_id n) (last_id n) ≡ n
unfolding file_at
file_at-parts Version = refl
file_at-parts VersionTmp = refl
file_at-parts Seen = refl
file_at-parts SeenTmp = refl
file_at-parts (Image id) = refl
file_at-parts (Md5 id) = refl
file_at-parts (Md5Tmp id) = refl
file_at-parts (Ckpt id) = refl
file_at-parts (Edits span) = refl
file_at-parts (InProgress first) = refl

pub parts_are_injective : (a b : FileName) → form_of a ≡ form_of b → first_id a ≡ first_id b → last_id a ≡ last_id b → a ≡ b
parts_are_injective a b x y z = sym (file_at-parts a) ∙ (λ i. file_at (x i) (y i) (z i)) ∙ file_at-parts b

pub file_tells : (a b : FileName) → ((file_eq a b ≡ true) × (a ≡ b)) ⊎ ((file_eq a b ≡ false) × (a ≢ b))
file_tells a b = elim (eqb_tells (form_of a) (form_of b)) [
  | inr other ↦ inr (ap (λ t. t && (first_id a == first_id b && last_id a == last_id b)) other.0, λ e. other.1 (ap form_of e))
  | inl same ↦ elim (eqb_tells (first_id a) (first_id b)) [
    | inr other ↦ inr ((λ i. same.0 i && (other.0 i && last_id a == last_id b)), λ e. other.1 (ap first_id e))
    | inl first ↦ elim (eqb_tells (last_id a) (last_id b)) [
      | inr other ↦ inr ((λ i. same.0 i && (first.0 i && other.0 i)), λ e. other.1 (ap last_id e))
      | inl last ↦ inl ((λ i. same.0 i && (first.0 i && last.0 i)), parts_are_injective a b same.1 first.1 last.1)
    ]
  ]
]
