-- What is left of an image while its messages are given out.
use Rattle.std.proofs.Common.{◌≡◌, ℕ, Bool, ◌≤◌, List, [], ◌++◌, length, min, sym, ap, subst, ◌∙◌, arith, length-append, append_assoc}
use Rattle.std.proofs.Math.ListN.{drop_of_length-le}
use Rattle.nn_base.specs.Paths.{Names}
use Rattle.nn_base.specs.Limits.{most_piece}
use Rattle.nn_tree.specs.declared.spot.Spot.{Spot}
use Rattle.nn_tree.specs.Namespace.{Namespace}
use Rattle.nn_image.specs.declared.saver.Saver.{Saver}
use Rattle.nn_image.specs.declared.task.Progress.{Progress}
use Rattle.nn_image.specs.declared.task.Stage.TheVariants.{Done}
use Rattle.nn_image.specs.Saving.{Target, IsTarget, IsStage, AreCounted, Saves, target_of, ungiven, left, rest}

module _ (ns : Namespace) (has : Spot → Bool) (place : Spot → Names) where
  -- a saver that gave out a part of its message
  pub given_saves : (s to : Saver) → to.task ≡ s.task → to.names ≡ s.names → to.progress ≡ s.progress → to.given ≤ length to.message.items → Saves s ns has place → Saves to ns has place
  given_saves s to task names progress within saves = record {
    target = subst IsTarget (sym same) saves.target;
    stands = subst (λ t. IsStage t to.progress.stage) (sym same) (ap_stage (λ p. IsStage (target_of s ns has place) p.stage) saves.stands);
    counted = subst (λ t. AreCounted t to.progress.stage to.progress.lengths) (sym same) (ap_stage (λ p. AreCounted (target_of s ns has place) p.stage p.lengths) saves.counted);
    given = within;
  }
    where
      same : target_of to ns has place ≡ target_of s ns has place
      same = λ i. record { ns = ns; has = has; place = place; table = names i; task = task i }

      ap_stage : (P : Progress → Type 0) → P s.progress → P to.progress
      ap_stage P h = subst P (sym progress) h

  pub given_left : (s to : Saver) (front old new : List ℕ) → to.task ≡ s.task → to.names ≡ s.names → to.progress ≡ s.progress → old ++ ungiven s ≡ new ++ ungiven to → front ≡ old ++ left s ns has place → front ≡ new ++ left to ns has place
  unfolding left
  given_left s to front old new task names progress text was =
      let t : Target = target_of s ns has place in
      let same : rest t s.progress.stage ≡ rest (target_of to ns has place) to.progress.stage = λ i. rest (let t : Target = record { ns = ns; has = has; place = place; table = sym names i; task = sym task i } in t) (sym progress i).stage in
      was ∙ sym (append_assoc old (ungiven s) (rest t s.progress.stage)) ∙ (λ i. text i ++ same i) ∙ append_assoc new (ungiven to) (rest (target_of to ns has place) to.progress.stage)

  -- nothing is left behind the last message
  pub none_left : (s : Saver) → length s.message.items ≤ s.given → s.progress.stage ≡ Done → left s ns has place ≡ []
  unfolding left rest
  none_left s all done = (λ i. drop_of_length-le s.message.items all i ++ rest (target_of s ns has place) (done i))

-- ---- how long a piece is

pub full_piece : (front out rest : List ℕ) → front ≡ out ++ rest → most_piece ≤ length out → length out ≤ most_piece → length out ≡ min most_piece (length front)
full_piece front out rest is enough room = let e = ap length is in let s = length-append out rest in grind (arith, e, s)

pub last_piece : (front out rest : List ℕ) → front ≡ out ++ rest → rest ≡ [] → length out ≤ most_piece → length out ≡ min most_piece (length front)
last_piece front out rest is none room = let e = ap length is in let s = length-append out rest in let z = ap length none in grind (arith, e, s, z)
