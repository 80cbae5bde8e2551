-- What holds at each moment of a run is what a stop finds.
use Rattle.std.proofs.Common.{◌≡◌, ◌≢◌, inl, inr, List, [], ◌∷◌, length, drop, refl, sym, ◌∙◌, ap, subst, arith}
use Rattle.std.proofs.lemmas.List.{length-drop}
use Rattle.nn_host.specs.Moments.{Moment, Entry, State, IsLawful, Within, moment}
use Rattle.nn_kept.proofs.KeptStopLemmas.{kept_stops}
use Rattle.nn_run.specs.Window.{Answered, whole_in, said_since}
use Rattle.nn_run.specs.Course.{Course, commands, IsAsAtEntry, IsUnbegun, run_window, run_at, held_at, RunKeptStops}
use Rattle.nn_run.proofs.WindowLemmas.{nil_of, not_whole, not_begun}

drop_all : {A : Type 0} (xs : List A) → drop (length xs) xs ≡ []
drop_all [] = refl
drop_all (x ∷ xs) = drop_all xs

now_is_entry : (old : State) → IsAsAtEntry old old.now
now_is_entry old = record { at = λ j. inl refl }

ended_is_entry : (old : State) → IsLawful old → IsAsAtEntry old old.ended
ended_is_entry old lawful = record { at = λ j. inl (lawful.ended j) }

module _ (course : Course) (a : Answered) (rest : List Answered) (old : State) (begins : commands course ≡ a ∷ rest) (some : a.text ≢ []) (lawful : IsLawful old) where
  unbegun : (m : Moment) → m.said ≡ old.now.said → IsAsAtEntry old m → IsUnbegun course old m
  unbegun m same disks =
      let nothing : said_since old m ≡ [] = nil_of (said_since old m) (omega (arith, length-drop (length old.now.said) m.said, ap length same)) in
      record { answered = ap (whole_in (commands course)) nothing ∙ ap (λ cs. whole_in cs []) begins ∙ not_whole a rest [] (not_begun a.text some); disks = disks }

pub run_stops : RunKeptStops
run_stops course a rest old new begins some lawful through m contents left fair = elim (through.each (record {}) (moment old) m (omega arith) left.since) [
  | inl before ↦ elim before [
    | inl is_now ↦ inl (subst (IsUnbegun course old) (sym is_now) (unbegun course a rest old begins some lawful old.now refl (now_is_entry old)))
    | inr others ↦ elim others [
      | inl is_ended ↦ inl (subst (IsUnbegun course old) (sym is_ended) (unbegun course a rest old begins some lawful old.ended lawful.said (ended_is_entry old lawful)))
      | inr within ↦ absurd (subst (λ (l : List Entry). Within l m) (drop_all old.trace) within)
    ]
  ]
  | inr here ↦ elim here [
    | inl entry ↦ inl entry
    | inr kept ↦ inr (λ n numbers bound some_count. kept_stops kept.0 (run_window course old m) old.count (run_at course old m) (held_at course old m) m contents kept.1 kept.2 left.leaves fair n numbers bound some_count)
  ]
]
