-- What is planned, as one file after the other is looked at, and for all of them in one list.
use Rattle.std.proofs.Common.{◌≡◌, ◌≢◌, ◌⊎◌, inl, inr, ⊎_elim, ℕ, ◌+◌, ◌<◌, ℤ, Bool, true, false, ◌||◌, List, [], ◌∷◌, ◌++◌, length, get_or, take, Contains, Option, Some, None, refl, sym, ◌∙◌, ap, subst, arith}
use Rattle.std.proofs.lemmas.List.{append-nil, take_more}
use Rattle.std.proofs.lemmas.List.Elements.{Contains-append_left, Contains-push, Contains-push_cases}
use Rattle.std.proofs.lemmas.Option.{none-some}
use Rattle.nn_base.specs.declared.file_name.FileName.{FileName}
use Rattle.nn_base.specs.declared.file_name.FileName.TheVariants as name
use Rattle.nn_host.specs.Listing.{IsBefore}
use Rattle.nn_chain.specs.Folder.{Folder}
use Rattle.nn_chain.specs.Records.{first_in}
use Rattle.nn_remake.specs.Removing.{is_later_image}
use Rattle.nn_remake.specs.Tidying.{is_unnamed, IsBeyond}
use Rattle.nn_tidy.specs.declared.fate.Fate.TheVariants.{Stays}
use Rattle.nn_tidy.proofs.PairLemmas.{pairs_across, pairs_front, pairs_push}
use Rattle.nn_tidy.specs.declared.steps.Step.{Step}
use Rattle.nn_tidy.specs.declared.plan.Plan.{Plan}
use Rattle.nn_tidy.specs.Fates.{is_loose, IsEnding, IsFate}
use Rattle.nn_tidy.specs.Plans.{ArePicked, IsLooseStep, IsBeyondStep, IsPlan}

-- ---- one file more

module _ (C : FileName → Option FileName → Type 0) (names : List FileName) (n : FileName) (steps : List Step) (was : ArePicked C names steps) where
  pub pick_push : (t : Option FileName) → C n t → ArePicked C (names ++ n ∷ []) (steps ++ record { from = n; to = t } ∷ [])
  pick_push t holds = record {
    all = λ m to has c. ⊎_elim
        (λ before. let it = was.all m to before c in (it.0, Contains-append_left steps (it_is t ∷ []) (record { from = m; to = it.0 }) it.1))
        (λ same. (t, subst (λ (x : FileName). Contains (steps ++ it_is t ∷ []) (record { from = x; to = t })) same (Contains-push steps (it_is t))))
        (Contains-push_cases names n m has);
    only = λ s has. ⊎_elim
        (λ before. let it = was.only s before in (Contains-append_left names (n ∷ []) s.from it.0, it.1))
        (λ same. subst (λ (q : Step). Contains (names ++ n ∷ []) q.from × C q.from q.to) same (Contains-push names n, holds))
        (Contains-push_cases steps (it_is t) s has);
    rising = λ up. pairs_push (λ (a b : Step). IsBefore a.from b.from) steps (it_is t) (was.rising (pairs_front IsBefore names (n ∷ []) up)) (λ s has. pairs_across IsBefore names (n ∷ []) s.from n up (was.only s has).0 (Contains-push [] n));
  }
    where
      it_is : Option FileName → Step
      it_is to = record { from = n; to = to }

  pub pick_skip : ((t : Option FileName) → ¬ C n t) → ArePicked C (names ++ n ∷ []) steps
  pick_skip none = record {
    all = λ m to has c. ⊎_elim
        (λ before. was.all m to before c)
        (λ same. absurd (none to (subst (λ (x : FileName). C x to) (sym same) c)))
        (Contains-push_cases names n m has);
    only = λ s has. let it = was.only s has in (Contains-append_left names (n ∷ []) s.from it.0, it.1);
    rising = λ up. was.rising (pairs_front IsBefore names (n ∷ []) up);
  }

-- ---- files have one fate

loose_kind : (id : ℕ) (n : FileName) → is_loose id n ≡ true → first_in n ≡ None
loose_kind id name.Version e = refl
loose_kind id name.VersionTmp e = refl
loose_kind id name.Seen e = refl
loose_kind id name.SeenTmp e = refl
loose_kind id (name.Image other) e = refl
loose_kind id (name.Md5 other) e = refl
loose_kind id (name.Md5Tmp other) e = refl
loose_kind id (name.Ckpt other) e = refl
loose_kind id (name.Edits span) e = cc
loose_kind id (name.InProgress first) e = cc

pub loose_or : (id : ℕ) (n : FileName) → is_loose id n ≡ true → (is_unnamed n ≡ true) ⊎ (is_later_image id n ≡ true)
loose_or id n e = by (is_unnamed n) (is_later_image id n) e
  where
    by : (a b : Bool) → (a || b) ≡ true → (a ≡ true) ⊎ (b ≡ true)
    by true b e = inl refl
    by false b e = inr e

pub or_loose : (id : ℕ) (n : FileName) → (is_unnamed n ≡ true) ⊎ (is_later_image id n ≡ true) → is_loose id n ≡ true
or_loose id n (inl e) = λ i. e i || is_later_image id n
or_loose id n (inr e) = by (is_unnamed n) (is_later_image id n) e
  where
    by : (a b : Bool) → b ≡ true → (a || b) ≡ true
    by true b e = refl
    by false b e = e

module _ (folder : Folder) (layout : ℤ) (id : ℕ) (n : FileName) where
  pub beyond_kind : IsBeyond folder layout id n → first_in n ≢ None
  beyond_kind (inl beyond) e = none-some beyond.0 (sym e ∙ beyond.1)
  beyond_kind (inr beyond) e = none-some beyond.2.first (sym e ∙ beyond.2.begins)

  pub ending_is : (t : Option FileName) → IsEnding folder layout id n t → (first : ℕ) × (n ≡ name.InProgress first)
  ending_is None ends = (ends.1.0, ends.1.1)
  ending_is (Some to) ends = (ends.1.0, ends.1.2)

  pub ending_below : (t : Option FileName) → IsEnding folder layout id n t → ¬ IsBeyond folder layout id n
  ending_below None ends = ends.0
  ending_below (Some to) ends = ends.0

  pub loose_not_beyond : is_loose id n ≡ true → ¬ IsBeyond folder layout id n
  loose_not_beyond loose beyond = beyond_kind beyond (loose_kind id n loose)

  pub loose_not_ending : is_loose id n ≡ true → (t : Option FileName) → ¬ IsEnding folder layout id n t
  loose_not_ending loose t ends = let it = ending_is t ends in none-some it.0 (sym (loose_kind id n loose) ∙ ap first_in it.1)

  -- the file is put into the list of its fate, and into no other
  module _ (names : List FileName) (plan : Plan) (was : IsPlan folder layout id names plan) where
    pub plan_stays : IsFate folder layout id n Stays → IsPlan folder layout id (names ++ n ∷ []) plan
    plan_stays fate = record {
      loose = pick_skip (IsLooseStep id) names n plan.loose.items was.loose (λ t c. fate.0 (⊎_elim (λ e. inl e) (λ e. inr (inl e)) (loose_or id n c.1)));
      beyond = pick_skip (IsBeyondStep folder layout id) names n plan.beyond.items was.beyond (λ t c. fate.0 (inr (inr (inl c.1))));
      ends = pick_skip (IsEnding folder layout id) names n plan.ends.items was.ends (λ t c. let it = ending_is t c in fate.1 it.0 it.1);
      progress = λ first has. ⊎_elim (λ before. was.progress first before) (λ same. absurd (fate.1 first same)) (Contains-push_cases names n (name.InProgress first) has);
    }

    module _ (new : Plan) where
      -- a step that was planned is so in longer lists
      more : (first : ℕ) → (t : Option FileName) × (Contains plan.beyond.items (record { from = name.InProgress first; to = t }) ⊎ Contains plan.ends.items (record { from = name.InProgress first; to = t })) → (bs es : List Step) → new.beyond.items ≡ plan.beyond.items ++ bs → new.ends.items ≡ plan.ends.items ++ es
          → (t : Option FileName) × (Contains new.beyond.items (record { from = name.InProgress first; to = t }) ⊎ Contains new.ends.items (record { from = name.InProgress first; to = t }))
      more first it bs es b e = (
        it.0,
        ⊎_elim
            (λ has. inl (subst (λ (xs : List Step). Contains xs (record { from = name.InProgress first; to = it.0 })) (sym b) (Contains-append_left plan.beyond.items bs (record { from = name.InProgress first; to = it.0 }) has)))
            (λ has. inr (subst (λ (xs : List Step). Contains xs (record { from = name.InProgress first; to = it.0 })) (sym e) (Contains-append_left plan.ends.items es (record { from = name.InProgress first; to = it.0 }) has)))
            it.1,
      )

      pub plan_loose : is_loose id n ≡ true → new.loose.items ≡ plan.loose.items ++ record { from = n; to = None } ∷ [] → new.beyond.items ≡ plan.beyond.items → new.ends.items ≡ plan.ends.items → IsPlan folder layout id (names ++ n ∷ []) new
      plan_loose loose l b e = record {
        loose = subst (ArePicked (IsLooseStep id) (names ++ n ∷ [])) (sym l) (pick_push (IsLooseStep id) names n plan.loose.items was.loose None (refl, loose));
        beyond = subst (ArePicked (IsBeyondStep folder layout id) (names ++ n ∷ [])) (sym b) (pick_skip (IsBeyondStep folder layout id) names n plan.beyond.items was.beyond (λ t c. loose_not_beyond loose c.1));
        ends = subst (ArePicked (IsEnding folder layout id) (names ++ n ∷ [])) (sym e) (pick_skip (IsEnding folder layout id) names n plan.ends.items was.ends (λ t c. loose_not_ending loose t c));
        progress = λ first has. ⊎_elim
            (λ before. more first (was.progress first before) [] [] (b ∙ sym (append-nil plan.beyond.items)) (e ∙ sym (append-nil plan.ends.items)))
            (λ same. absurd (none-some first (sym (loose_kind id n loose) ∙ ap first_in same)))
            (Contains-push_cases names n (name.InProgress first) has);
      }

      pub plan_beyond : IsBeyond folder layout id n → new.loose.items ≡ plan.loose.items → new.beyond.items ≡ plan.beyond.items ++ record { from = n; to = None } ∷ [] → new.ends.items ≡ plan.ends.items → IsPlan folder layout id (names ++ n ∷ []) new
      plan_beyond beyond l b e = record {
        loose = subst (ArePicked (IsLooseStep id) (names ++ n ∷ [])) (sym l) (pick_skip (IsLooseStep id) names n plan.loose.items was.loose (λ t c. loose_not_beyond c.1 beyond));
        beyond = subst (ArePicked (IsBeyondStep folder layout id) (names ++ n ∷ [])) (sym b) (pick_push (IsBeyondStep folder layout id) names n plan.beyond.items was.beyond None (refl, beyond));
        ends = subst (ArePicked (IsEnding folder layout id) (names ++ n ∷ [])) (sym e) (pick_skip (IsEnding folder layout id) names n plan.ends.items was.ends (λ t c. ending_below t c beyond));
        progress = λ first has. ⊎_elim
            (λ before. more first (was.progress first before) (record { from = n; to = None } ∷ []) [] b (e ∙ sym (append-nil plan.ends.items)))
            (λ same. (None, inl (subst (λ (xs : List Step). Contains xs (record { from = name.InProgress first; to = None })) (sym b) (subst (λ (x : FileName). Contains (plan.beyond.items ++ record { from = n; to = None } ∷ []) (record { from = x; to = None })) same (Contains-push plan.beyond.items (record { from = n; to = None }))))))
            (Contains-push_cases names n (name.InProgress first) has);
      }

      pub plan_ends : (t : Option FileName) → IsEnding folder layout id n t → new.loose.items ≡ plan.loose.items → new.beyond.items ≡ plan.beyond.items → new.ends.items ≡ plan.ends.items ++ record { from = n; to = t } ∷ [] → IsPlan folder layout id (names ++ n ∷ []) new
      plan_ends t ends l b e = record {
        loose = subst (ArePicked (IsLooseStep id) (names ++ n ∷ [])) (sym l) (pick_skip (IsLooseStep id) names n plan.loose.items was.loose (λ u c. loose_not_ending c.1 t ends));
        beyond = subst (ArePicked (IsBeyondStep folder layout id) (names ++ n ∷ [])) (sym b) (pick_skip (IsBeyondStep folder layout id) names n plan.beyond.items was.beyond (λ u c. ending_below t ends c.1));
        ends = subst (ArePicked (IsEnding folder layout id) (names ++ n ∷ [])) (sym e) (pick_push (IsEnding folder layout id) names n plan.ends.items was.ends t ends);
        progress = λ first has. ⊎_elim
            (λ before. more first (was.progress first before) [] (record { from = n; to = t } ∷ []) (b ∙ sym (append-nil plan.beyond.items)) e)
            (λ same. (t, inr (subst (λ (xs : List Step). Contains xs (record { from = name.InProgress first; to = t })) (sym e) (subst (λ (x : FileName). Contains (plan.ends.items ++ record { from = n; to = t } ∷ []) (record { from = x; to = t })) same (Contains-push plan.ends.items (record { from = n; to = t }))))))
            (Contains-push_cases names n (name.InProgress first) has);
      }

pub plan_none : (folder : Folder) (layout : ℤ) (id : ℕ) (plan : Plan) → plan.loose.items ≡ [] → plan.beyond.items ≡ [] → plan.ends.items ≡ [] → IsPlan folder layout id [] plan
plan_none folder layout id plan l b e = record {
  loose = subst (ArePicked (IsLooseStep id) []) (sym l) (none (IsLooseStep id));
  beyond = subst (ArePicked (IsBeyondStep folder layout id) []) (sym b) (none (IsBeyondStep folder layout id));
  ends = subst (ArePicked (IsEnding folder layout id) []) (sym e) (none (IsEnding folder layout id));
  progress = λ first has. absurd (omega (arith, has.1));
}
  where
    none : (C : FileName → Option FileName → Type 0) → ArePicked C [] []
    none C = record {
      all = λ n to has c. absurd (omega (arith, has.1));
      only = λ s has. absurd (omega (arith, has.1));
      rising = λ up i j d lt below. absurd (omega (arith, below));
    }

-- the next file of a listing
pub plan_next : (folder : Folder) (layout : ℤ) (id : ℕ) (names : List FileName) (k : ℕ) (n : FileName) (plan : Plan) → k < length names → n ≡ get_or names k n → IsPlan folder layout id (take k names ++ n ∷ []) plan → IsPlan folder layout id (take (k + 1) names) plan
plan_next folder layout id names k n plan below is planned = subst (λ (xs : List FileName). IsPlan folder layout id xs plan) (sym (take_more names k n below ∙ ap (λ (m : FileName). take k names ++ m ∷ []) (sym is))) planned
