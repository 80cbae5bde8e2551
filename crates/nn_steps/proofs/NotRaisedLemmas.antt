-- The rank of a directory that is topped up isn't raised, but to the one to which it is brought.
use Rattle.std.proofs.Common.{◌≡◌, inl, inr, ℕ, List, Option, Some, refl, sym, ◌∙◌, ap, subst}
use Rattle.nn_base.specs.declared.sub.Sub.{Sub}
use Rattle.nn_base.specs.declared.sub.Sub.TheVariants.{Current}
use Rattle.nn_base.specs.declared.file_name.FileName.{FileName}
use Rattle.nn_base.specs.declared.file_name.FileName.TheVariants as name
use Rattle.nn_host.specs.Disk.{Disk, Reads, Leaves, LeavesFile}
use Rattle.nn_host.proofs.CleanLemmas.{whole}
use Rattle.nn_marks.specs.declared.version.Version.{Version}
use Rattle.nn_tree.specs.Namespace.{Namespace}
use Rattle.nn_chain.specs.Folder.{Folder, folder_at}
use Rattle.nn_chain.specs.Fair.{IsFair}
use Rattle.nn_chain.proofs.BareLemmas.{bare_chain}
use Rattle.nn_remake.specs.Publishing.{IsPublishing}
use Rattle.nn_remake.proofs.ToppingLemmas.{same_current}
use Rattle.nn_steps.specs.NotRaised.{IsNotRaised, LeftNotRaised, ToppingUpIsNotRaised}
use Rattle.nn_steps.proofs.SeatLemmas.{FairAt, in_place, in_the_place, placed, leaves_whole, reads_fair}
use Rattle.nn_steps.proofs.LoweringLemmas.{LeftLower, not_raised_same, not_raised_then}
use Rattle.nn_steps.proofs.CutLemmas.{cut_lower}
use Rattle.nn_steps.proofs.ToppedLemmas.{NoSegments, NoneLater, top_left, marks, none_here, none_later, gone_lower, whole_left}

-- ---- where `current` stays

module _ (old d : Disk) (c : Reads) (leaves : Leaves d c) (same : (n : FileName) → d.file Current n ≡ old.file Current n) where
  rest : Sub → FileName → Option (List ℕ)
  rest s n = whole (old.file s n)

  before : Reads
  before = record { root = old.root; has = old.has; file = in_place (Some Current) (Some Current) c rest }

  left_before : Leaves old before
  unfolding before rest
  left_before = record { root = refl; subs = λ s. refl; files = placed old d c (λ n f g. LeavesFile f g) rest (Some Current) (Some Current) same leaves.files (λ s n. leaves_whole (old.file s n)) }

  fair_before : IsFair d c → IsFair old before
  unfolding before rest
  fair_before fair sub n first file bytes ranged begins there reads = placed old d c FairAt rest (Some Current) (Some Current) same (λ s m f g b r e x y. fair s m f g b r e x y) (λ s m f g b r e x y. reads_fair old s m f g b r e x y) sub n first file bytes ranged begins there reads

  same_file : (n : FileName) → before.file Current n ≡ c.file Current n
  unfolding before
  same_file n = in_the_place c rest (Some Current) (Some Current) Current Current refl refl n

  pub current_lower : LeftLower old d c
  current_lower = record {
    before = before;
    left = left_before;
    fair = fair_before;
    says = sym (same_file name.Version);
    rank = λ v. subst (λ (f : Folder). IsNotRaised v (folder_at before Current) f) (λ k n. same_file n k) (not_raised_same v (folder_at before Current));
  }

-- ---- one step after the other

module _ (version : Version) (id : ℕ) (ns : Namespace) where
  lower_only : {old d : Disk} {c : Reads} → LeftLower old d c → LeftNotRaised version id ns old d c
  lower_only is = record { before = is.before; left = is.left; fair = is.fair; says = is.says; rank = inl is.rank }

  lower_then : {old mid d : Disk} {c : Reads} → (second : LeftNotRaised version id ns mid d c) → LeftLower old mid second.before → LeftNotRaised version id ns old d c
  lower_then {c = c} second first = record {
    before = first.before;
    left = first.left;
    fair = λ fair. first.fair (second.fair fair);
    says = second.says ∙ first.says;
    rank = elim second.rank [
      | inl lower ↦ inl (λ v. not_raised_then v (folder_at first.before Current) (folder_at second.before Current) (folder_at c Current) (first.rank v) (lower v))
      | inr brought ↦ inr brought
    ];
  }

  published : (low d : Disk) → NoSegments low → NoneLater id low → IsPublishing version id ns low d → (c : Reads) → Leaves d c → LeftNotRaised version id ns low d c
  published low d segments later is c leaves = elim is.image [
    | inl same ↦ lower_only (current_lower low d c leaves (λ n. ap (λ (x : Disk). x.file Current n) same))
    | inr more ↦ elim more [
      | inl gone ↦ lower_only (gone_lower id low d is.beside c leaves segments gone)
      | inr whole ↦ (
          let it = top_left id low d is.beside c leaves in
          let intact = whole_left version id ns d c leaves whole in
          let chain = bare_chain (folder_at c Current) version id ns intact (none_later id low d is.beside c leaves later) (none_here id low d is.beside c leaves segments) in
          record { before = it.before; left = it.left; fair = it.fair; says = (marks id low d is.beside c leaves).version; rank = inr (record { intact = intact; chain = chain.0; bare = chain.1 }) }
          )
    ]
  ]

pub topping_up_is_not_raised : ToppingUpIsNotRaised
topping_up_is_not_raised saved version id ns old d (inl (inl same)) c leaves = lower_only version id ns (current_lower old d c leaves (λ n. ap (λ (x : Disk). x.file Current n) same))
topping_up_is_not_raised saved version id ns old d (inl (inr giving)) c leaves = lower_only version id ns (current_lower old d c leaves (λ n. giving.1.files Current n (λ e. cc) (λ e. cc)))
topping_up_is_not_raised saved version id ns old d (inr (inl cutting)) c leaves =
    let second = lower_only version id ns (cut_lower id cutting.0 d cutting.2 c leaves) in
    lower_then version id ns second (current_lower old cutting.0 second.before second.left (λ n. same_current old cutting.0 n cutting.1))
topping_up_is_not_raised saved version id ns old d (inr (inr last)) c leaves =
    let third = published version id ns last.1 d last.3.segments last.3.images last.4 c leaves in
    let second = lower_then version id ns third (cut_lower id last.0 last.1 last.3.cutting third.before third.left) in
    lower_then version id ns second (current_lower old last.0 second.before second.left (λ n. same_current old last.0 n last.2))
