-- What the planned steps make of a folder: it is being tidied, and then it is tidy.
use Rattle.std.proofs.Common.{◌≡◌, ◌≢◌, ◌⊎◌, inl, inr, ⊎_elim, ℕ, ℤ, true, List, [], ◌∷◌, ◌++◌, get_or, Contains, Option, Some, None, is_some, refl, sym, ◌∙◌, ap, subst, arith}
use Rattle.std.specs.List.{AllPairs}
use Rattle.std.proofs.lemmas.Option.{none-some, same_Some}
use Rattle.std.proofs.lemmas.List.Elements.{Contains-append_left, Contains-append_right, Contains-append_cases, Contains-push, Contains-push_cases, Contains-get_or}
use Rattle.nn_base.specs.declared.sub.Sub.TheVariants.{Current}
use Rattle.nn_base.specs.declared.file_name.FileName.{FileName}
use Rattle.nn_base.specs.declared.file_name.FileName.TheVariants as name
use Rattle.nn_base.proofs.NamesLemmas.{file_tells}
use Rattle.nn_host.specs.Disk.{Held, Reads}
use Rattle.nn_host.specs.Listing.{IsListing, IsBefore}
use Rattle.nn_chain.specs.Folder.{Folder, folder_at}
use Rattle.nn_remake.specs.Tidying.{IsBeyond, RunEnds, GetsName, GetsNone, Goes, IsRenamed, IsTidying, IsTidied}
use Rattle.nn_remake.proofs.CuttingLemmas.{IsListed, contains_or}
use Rattle.nn_remake.proofs.TidyingLemmas.{not_progress}
use Rattle.nn_tidy.specs.declared.steps.Step.{Step}
use Rattle.nn_tidy.specs.declared.plan.Plan.{Plan}
use Rattle.nn_tidy.specs.Steps.{IsApart, AreApart, AreThere, HasTaken, AreTaken}
use Rattle.nn_tidy.specs.Fates.{is_loose, IsEnding}
use Rattle.nn_tidy.specs.Plans.{IsLooseStep, IsBeyondStep, IsPlan}
use Rattle.nn_tidy.proofs.PairLemmas.{pairs_across, pairs_joined, pairs_weaker}
use Rattle.nn_tidy.proofs.SegmentLemmas.{in_order, before_other, same_progress, same_edits, one_end, old_not_beyond, new_not_beyond, new_stays}
use Rattle.nn_tidy.proofs.PlanLemmas.{loose_or, or_loose, loose_not_beyond, loose_not_ending, ending_below}

-- ---- the steps of a plan

abbrev pub steps_of : Plan → List Step
steps_of plan = plan.ends.items ++ (plan.beyond.items ++ plan.loose.items)

module _ (r : Reads) (layout : ℤ) (id : ℕ) (names : List FileName) (list : IsListing r Current names) (plan : Plan) (is : IsPlan (folder_at r Current) layout id names plan) where
  abbrev folder : Folder
  folder = folder_at r Current

  abbrev steps : List Step
  steps = steps_of plan

  in_ends : (s : Step) → Contains plan.ends.items s → Contains steps s
  in_ends s has = Contains-append_left plan.ends.items (plan.beyond.items ++ plan.loose.items) s has

  in_beyond : (s : Step) → Contains plan.beyond.items s → Contains steps s
  in_beyond s has = Contains-append_right plan.ends.items (plan.beyond.items ++ plan.loose.items) s (Contains-append_left plan.beyond.items plan.loose.items s has)

  in_loose : (s : Step) → Contains plan.loose.items s → Contains steps s
  in_loose s has = Contains-append_right plan.ends.items (plan.beyond.items ++ plan.loose.items) s (Contains-append_right plan.beyond.items plan.loose.items s has)

  -- which one it is of
  Group : Step → Type 0
  Group s = IsEnding folder layout id s.from s.to ⊎ IsBeyondStep folder layout id s.from s.to ⊎ IsLooseStep id s.from s.to

  group : (s : Step) → Contains steps s → Contains names s.from × Group s
  unfolding Group
  group s has = ⊎_elim
      (λ end. let it = is.ends.only s end in (it.0, inl it.1))
      (λ rest. ⊎_elim
      (λ beyond. let it = is.beyond.only s beyond in (it.0, inr (inl it.1)))
      (λ loose. let it = is.loose.only s loose in (it.0, inr (inr it.1)))
      (Contains-append_cases plan.beyond.items plan.loose.items s rest))
      (Contains-append_cases plan.ends.items (plan.beyond.items ++ plan.loose.items) s has)

  -- a file that gets another name is a segment in progress
  record Names (s : Step) (n : FileName) : Type 0 where
    pub first : ℕ
    pub last : ℕ
    pub from : s.from ≡ name.InProgress first
    pub to : n ≡ name.Edits (first, last)
    pub gets : GetsName folder layout id first last

  ending_names : (from : FileName) (t : Option FileName) (n : FileName) → IsEnding folder layout id from t → t ≡ Some n → Names (record { from = from; to = t }) n
  ending_names from None n ends e = absurd (none-some n e)
  ending_names from (Some to) n ends e = let it = ends.1 in record { first = it.0; last = it.1; from = it.2; to = sym (same_Some to n e) ∙ it.3; gets = it.4 }

  names_of_step : (s : Step) (n : FileName) → Contains steps s → s.to ≡ Some n → Names s n
  unfolding Group
  names_of_step s n has e = go (group s has).1
    where
      go : Group s → Names s n
      go (inl ends) = ending_names s.from s.to n ends e
      go (inr (inl beyond)) = absurd (none-some n (sym beyond.0 ∙ e))
      go (inr (inr loose)) = absurd (none-some n (sym loose.0 ∙ e))

  -- ---- they are apart

  listed_there : (n : FileName) → Contains names n → folder n ≢ None
  listed_there n has none = let there = list.only n has in let out = ap (λ (f : Option (List ℕ)). is_some f) none in cc

  from_listed : (s : Step) → Contains steps s → Contains names s.from
  from_listed s has = (group s has).0

  free_not_from : (s q : Step) → Contains steps s → Contains steps q → s.to ≢ Some q.from
  free_not_from s q has other e =
      let it = names_of_step s q.from has e in
      listed_there q.from (from_listed q other) (ap folder it.to ∙ it.gets.free)

  apart : (a b : Step) → Contains steps a → Contains steps b → a.from ≢ b.from → IsApart a b
  apart a b a_in b_in ne = record {
    from = ne;
    into = free_not_from a b a_in b_in;
    back = free_not_from b a b_in a_in;
    names = λ n e f.
        let one = names_of_step a n a_in e in
        let two = names_of_step b n b_in f in
        let same = (same_edits (one.first, one.last) (two.first, two.last) (sym one.to ∙ two.to)).0 in
        ne (one.from ∙ ap (λ (k : ℕ). name.InProgress k) same ∙ sym two.from);
  }

  -- of two steps the files differ
  Differ : Step → Step → Type 0
  Differ a b = a.from ≢ b.from

  rising_differ : (xs : List Step) → AllPairs (λ (a b : Step). IsBefore a.from b.from) xs → AllPairs Differ xs
  unfolding Differ
  rising_differ xs rising = pairs_weaker Differ xs (λ a b x y before. before_other a.from b.from before) rising

  loose_at : (s : Step) → Contains plan.loose.items s → is_loose id s.from ≡ true
  loose_at s has = (is.loose.only s has).1.1

  beyond_at : (s : Step) → Contains plan.beyond.items s → IsBeyond folder layout id s.from
  beyond_at s has = (is.beyond.only s has).1.1

  ending_at : (s : Step) → Contains plan.ends.items s → IsEnding folder layout id s.from s.to
  ending_at s has = (is.ends.only s has).1

  differ : AllPairs Differ steps
  unfolding Differ
  differ = pairs_joined Differ plan.ends.items (plan.beyond.items ++ plan.loose.items) (rising_differ plan.ends.items (is.ends.rising list.ascending))
      (pairs_joined Differ plan.beyond.items plan.loose.items (rising_differ plan.beyond.items (is.beyond.rising list.ascending)) (rising_differ plan.loose.items (is.loose.rising list.ascending))
      (λ a b x y same. loose_not_beyond folder layout id b.from (loose_at b y) (subst (IsBeyond folder layout id) same (beyond_at a x))))
      (λ a b x y same. ⊎_elim
      (λ beyond. ending_below folder layout id a.from a.to (ending_at a x) (subst (IsBeyond folder layout id) (sym same) (beyond_at b beyond)))
      (λ loose. loose_not_ending folder layout id b.from (loose_at b loose) a.to (subst (λ (n : FileName). IsEnding folder layout id n a.to) same (ending_at a x)))
      (Contains-append_cases plan.beyond.items plan.loose.items b y))

  pub are_apart : AreApart steps
  unfolding Differ
  are_apart = (pairs_weaker IsApart steps (λ a b x y ne. apart a b x y ne) differ, λ k d below. let it = Contains-get_or steps k d below in free_not_from (get_or steps k d) (get_or steps k d) it it)

  pub are_there : AreThere steps r
  are_there s has = list.only s.from (from_listed s has)

  -- ---- which steps there are

  in_names : (n : FileName) (bytes : List ℕ) → folder n ≡ Some bytes → Contains names n
  in_names n bytes there = list.all n (ap (λ (f : Option (List ℕ)). is_some f) there)

  with_to : (xs : List Step) (n : FileName) (t u : Option FileName) → t ≡ u → Contains xs (record { from = n; to = t }) → Contains xs (record { from = n; to = u })
  with_to xs n t u e has = subst (λ (v : Option FileName). Contains xs (record { from = n; to = v })) e has

  loose_goes : (n : FileName) → Contains names n → is_loose id n ≡ true → Contains steps (record { from = n; to = None })
  loose_goes n has loose =
      let it = is.loose.all n None has (refl, loose) in
      in_loose (record { from = n; to = None }) (with_to plan.loose.items n it.0 None (is.loose.only (record { from = n; to = it.0 }) it.1).1.0 it.1)

  beyond_goes : (n : FileName) → Contains names n → IsBeyond folder layout id n → Contains plan.beyond.items (record { from = n; to = None })
  beyond_goes n has beyond =
      let it = is.beyond.all n None has (refl, beyond) in
      with_to plan.beyond.items n it.0 None (is.beyond.only (record { from = n; to = it.0 }) it.1).1.0 it.1

  none_gets : (first : ℕ) (t : Option FileName) → IsEnding folder layout id (name.InProgress first) t → ((last : ℕ) → ¬ GetsName folder layout id first last) → t ≡ None
  none_gets first None ends none = refl
  none_gets first (Some to) ends none = let it = ends.1 in absurd (none it.1 (subst (λ (k : ℕ). GetsName folder layout id k it.1) (sym (same_progress first it.0 it.2)) it.4))

  nameless_goes : (first : ℕ) → Contains names (name.InProgress first) → ((last : ℕ) → ¬ GetsName folder layout id first last) → Contains steps (record { from = name.InProgress first; to = None })
  nameless_goes first has none =
      let it = is.progress first has in
      ⊎_elim
      (λ beyond. in_beyond (record { from = name.InProgress first; to = None }) (with_to plan.beyond.items (name.InProgress first) it.0 None (is.beyond.only (record { from = name.InProgress first; to = it.0 }) beyond).1.0 beyond))
      (λ ends. in_ends (record { from = name.InProgress first; to = None }) (with_to plan.ends.items (name.InProgress first) it.0 None (none_gets first it.0 (ending_at (record { from = name.InProgress first; to = it.0 }) ends) none) ends))
      it.1

  what_goes : (n : FileName) → Contains names n → Goes folder layout id n → Contains steps (record { from = n; to = None })
  what_goes n has (inl e) = loose_goes n has (or_loose id n (inl e))
  what_goes n has (inr (inl e)) = loose_goes n has (or_loose id n (inr e))
  what_goes n has (inr (inr (inl beyond))) = in_beyond (record { from = n; to = None }) (beyond_goes n has beyond)
  what_goes n has (inr (inr (inr none))) = subst (λ (m : FileName). Contains steps (record { from = m; to = None })) (sym none.1) (nameless_goes none.0 (subst (Contains names) none.1 has) none.2)

  gets_this : (first last : ℕ) (t : Option FileName) → GetsName folder layout id first last → IsEnding folder layout id (name.InProgress first) t → t ≡ Some (name.Edits (first, last))
  gets_this first last None gets ends = absurd (ends.1.2 last (subst (λ (k : ℕ). GetsName folder layout id k last) (same_progress first ends.1.0 ends.1.1) gets))
  gets_this first last (Some to) gets ends =
      let it = ends.1 in
      let same = same_progress first it.0 it.2 in
      let end = one_end folder layout id first last it.1 gets.ends (subst (λ (k : ℕ). RunEnds folder layout k it.1) (sym same) it.4.ends) in
      λ i. Some ((it.3 ∙ sym (λ j. name.Edits (same j, end j))) i)

  what_is_named : (first last : ℕ) → GetsName folder layout id first last → Contains steps (record { from = name.InProgress first; to = Some (name.Edits (first, last)) })
  what_is_named first last gets =
      let it = is.progress first (in_names (name.InProgress first) gets.ends.holds.bytes gets.ends.holds.there) in
      ⊎_elim
      (λ beyond. absurd (old_not_beyond folder layout id first last gets (beyond_at (record { from = name.InProgress first; to = it.0 }) beyond)))
      (λ ends. in_ends (record { from = name.InProgress first; to = Some (name.Edits (first, last)) }) (with_to plan.ends.items (name.InProgress first) it.0 (Some (name.Edits (first, last))) (gets_this first last it.0 gets (ending_at (record { from = name.InProgress first; to = it.0 }) ends)) ends))
      it.1

  progress_goes : (first : ℕ) → Contains names (name.InProgress first) → (t : Option FileName) × Contains steps (record { from = name.InProgress first; to = t })
  progress_goes first has =
      let it = is.progress first has in
      (it.0, ⊎_elim (λ beyond. in_beyond (record { from = name.InProgress first; to = it.0 }) beyond) (λ ends. in_ends (record { from = name.InProgress first; to = it.0 }) ends) it.1)

  -- ---- in which order

  InTurn : Step → Step → Type 0
  InTurn a b = IsBeyond folder layout id a.from → IsBeyond folder layout id b.from → IsBefore a.from b.from

  in_turn : AllPairs InTurn steps
  unfolding InTurn
  in_turn = pairs_joined InTurn plan.ends.items (plan.beyond.items ++ plan.loose.items)
      (pairs_weaker InTurn plan.ends.items (λ a b x y before one other. before) (is.ends.rising list.ascending))
      (pairs_joined InTurn plan.beyond.items plan.loose.items
      (pairs_weaker InTurn plan.beyond.items (λ a b x y before one other. before) (is.beyond.rising list.ascending))
      (pairs_weaker InTurn plan.loose.items (λ a b x y before one other. before) (is.loose.rising list.ascending))
      (λ a b x y one other. absurd (loose_not_beyond folder layout id b.from (loose_at b y) other)))
      (λ a b x y one other. absurd (ending_below folder layout id a.from a.to (ending_at a x) one))

  -- ---- what they make of it

  -- a step touches this file, or none does
  Touched : List Step → FileName → Type 0
  Touched taken n = (s : Step) × Contains taken s × ((n ≡ s.from) ⊎ (s.to ≡ Some n))

  Untouched : List Step → FileName → Type 0
  Untouched taken n = (s : Step) → Contains taken s → (n ≢ s.from) × (s.to ≢ Some n)

  one_touches : (s : Step) (n : FileName) → ((n ≡ s.from) ⊎ (s.to ≡ Some n)) ⊎ ((n ≢ s.from) × (s.to ≢ Some n))
  one_touches s n = elim (file_tells n s.from) [
    | inl same ↦ inl (inl same.1)
    | inr other ↦ by s.to refl other.1
  ]
    where
      by : (t : Option FileName) → s.to ≡ t → n ≢ s.from → ((n ≡ s.from) ⊎ (s.to ≡ Some n)) ⊎ ((n ≢ s.from) × (s.to ≢ Some n))
      by None e ne = inr (ne, λ f. none-some n (sym e ∙ f))
      by (Some to) e ne = elim (file_tells to n) [
        | inl same ↦ inl (inr (e ∙ ap (λ (m : FileName). Some m) same.1))
        | inr other ↦ inr (ne, λ f. other.1 (same_Some to n (sym e ∙ f)))
      ]

  touched_or : (taken : List Step) (n : FileName) → Touched taken n ⊎ Untouched taken n
  unfolding Touched Untouched
  touched_or [] n = inr (λ s has. absurd (omega (arith, has.1)))
  touched_or (s ∷ taken) n = ⊎_elim
      (λ here. inl (s, first_one, here))
      (λ out. ⊎_elim
      (λ later. inl (later.0, Contains-append_right (s ∷ []) taken later.0 later.1, later.2))
      (λ none. inr (λ q has. ⊎_elim
      (λ mine. ⊎_elim (λ nothing. absurd (omega (arith, nothing.1))) (λ same. subst (λ (x : Step). (n ≢ x.from) × (x.to ≢ Some n)) same out) (Contains-push_cases [] s q mine))
      (λ others. none q others)
      (Contains-append_cases (s ∷ []) taken q has)))
      (touched_or taken n))
      (one_touches s n)
    where
      first_one : Contains (s ∷ taken) s
      first_one = Contains-append_left (s ∷ []) taken s (Contains-push [] s)

  module _ {A : Type 0} (old : Held A) (listed : IsListed names old) (d : Held A) where
    module _ (taken : List Step) (part : (s : Step) → Contains taken s → Contains steps s) (has : HasTaken taken old d) where
      Change : FileName → Type 0
      Change n = (d.file Current n ≡ old.file Current n) ⊎ (Goes folder layout id n × (d.file Current n ≡ None)) ⊎ IsRenamed folder layout id old d n

      renamed_by : (s : Step) → Contains taken s → (to : FileName) → s.to ≡ Some to → (n : FileName) → (n ≡ s.from) ⊎ (n ≡ to) → IsRenamed folder layout id old d n
      renamed_by s mine to e n either =
          let it = names_of_step s to (part s mine) e in
          record {
            first = it.first;
            last = it.last;
            gets = it.gets;
            from = ap (λ (m : FileName). d.file Current m) (sym it.from) ∙ has.gone s mine;
            to = ap (λ (m : FileName). d.file Current m) (sym it.to) ∙ has.renamed s to mine e ∙ ap (λ (m : FileName). old.file Current m) it.from;
            either = ⊎_elim (λ x. inl (x ∙ it.from)) (λ x. inr (x ∙ it.to)) either;
          }

      removed_by : (s : Step) → Contains taken s → s.to ≡ None → Goes folder layout id s.from × (d.file Current s.from ≡ None)
      unfolding Group
      removed_by s mine e = (why (group s (part s mine)).1, has.gone s mine)
        where
          ends_none : (t : Option FileName) → t ≡ None → IsEnding folder layout id s.from t → GetsNone folder layout id s.from
          ends_none None e ends = ends.1
          ends_none (Some to) e ends = absurd (none-some to (sym e))

          why : Group s → Goes folder layout id s.from
          why (inl ends) = inr (inr (inr (ends_none s.to e ends)))
          why (inr (inl beyond)) = inr (inr (inl beyond.1))
          why (inr (inr loose)) = ⊎_elim (λ x. inl x) (λ x. inr (inl x)) (loose_or id s.from loose.1)

      change : (n : FileName) → Change n
      unfolding Change Touched Untouched
      change n = ⊎_elim (λ touched. by touched.0 touched.1 touched.2 touched.0.to refl) (λ out. inl (has.kept n out)) (touched_or taken n)
        where
          by : (s : Step) → Contains taken s → ((n ≡ s.from) ⊎ (s.to ≡ Some n)) → (t : Option FileName) → s.to ≡ t → Change n
          by s mine (inl here) None e = inr (inl (subst (λ (m : FileName). Goes folder layout id m × (d.file Current m ≡ None)) (sym here) (removed_by s mine e)))
          by s mine (inl here) (Some to) e = inr (inr (renamed_by s mine to e n (inl here)))
          by s mine (inr there) t e = inr (inr (renamed_by s mine n there n (inr refl)))

      -- a segment beyond the id has gone, or is as it was
      beyond_by : (n : FileName) → IsBeyond folder layout id n → ((s : Step) × Contains taken s × (n ≡ s.from)) ⊎ (d.file Current n ≡ old.file Current n)
      unfolding Touched Untouched
      beyond_by n beyond = ⊎_elim
          (λ touched. ⊎_elim
          (λ here. inl (touched.0, touched.1, here))
          (λ there.
          let it = names_of_step touched.0 n (part touched.0 touched.1) there in
          absurd (new_not_beyond folder layout id it.first it.last it.gets (subst (IsBeyond folder layout id) it.to beyond)))
          touched.2)
          (λ out. inr (has.kept n out))
          (touched_or taken n)

    module _ (is_taken : AreTaken steps old d) where
      in_part : (s : Step) → Contains is_taken.taken s → Contains steps s
      in_part s mine = subst (λ (xs : List Step). Contains xs s) (sym is_taken.split) (Contains-append_right is_taken.left is_taken.taken s mine)

      -- one behind it, in order of names, is gone too
      later_gone : (n m : FileName) → IsBeyond folder layout id n → IsBeyond folder layout id m → IsBefore n m → (s : Step) → Contains is_taken.taken s → n ≡ s.from → d.file Current m ≡ None
      unfolding InTurn
      later_gone n m one other before s mine here = elim (contains_or names m) [
        | inr out ↦ ⊎_elim (λ it. ap (λ (x : FileName). d.file Current x) it.2 ∙ is_taken.has.gone it.0 it.1) (λ same. same ∙ listed.none m out) (beyond_by is_taken.taken in_part is_taken.has m other)
        | inl in_list ↦ ⊎_elim
            (λ left.
            let turn = pairs_across InTurn is_taken.left is_taken.taken (record { from = m; to = None }) s (subst (AllPairs InTurn) is_taken.split in_turn) left mine in
            absurd (in_order n m before (subst (IsBefore m) (sym here) (turn other (subst (IsBeyond folder layout id) here one)))))
            (λ gone. is_taken.has.gone (record { from = m; to = None }) gone)
            (Contains-append_cases is_taken.left is_taken.taken (record { from = m; to = None }) (subst (λ (xs : List Step). Contains xs (record { from = m; to = None })) is_taken.split (in_beyond (record { from = m; to = None }) (beyond_goes m in_list other))))
      ]

      pub tidying : IsTidying folder layout id old d
      unfolding Change
      tidying = record {
        root = is_taken.has.root;
        subs = is_taken.has.subs;
        other_subs = is_taken.has.other_subs;
        files = change is_taken.taken in_part is_taken.has;
        falling = λ n m one other before. ⊎_elim (λ it. inr (later_gone n m one other before it.0 it.1 it.2)) (λ same. inl same) (beyond_by is_taken.taken in_part is_taken.has n one);
      }

    module _ (has : HasTaken steps old d) where
      whole : AreTaken steps old d
      whole = record { left = []; taken = steps; split = refl; has = has }

      pub tidied : IsTidied folder layout id old d
      tidied = record {
        tidying = tidying whole;
        gone = λ n goes. elim (contains_or names n) [
          | inl in_list ↦ has.gone (record { from = n; to = None }) (what_goes n in_list goes)
          | inr out ↦ ⊎_elim
              (λ same. same ∙ listed.none n out)
              (λ other. ⊎_elim
              (λ gone. gone.1)
              (λ named. ⊎_elim
              (λ here. ap (λ (x : FileName). d.file Current x) here ∙ named.from)
              (λ there. absurd (new_stays folder layout id named.first named.last named.gets (subst (Goes folder layout id) there goes)))
              named.either)
              other)
              ((tidying whole).files n)
        ];
        renamed = λ first last gets. has.renamed (record { from = name.InProgress first; to = Some (name.Edits (first, last)) }) (name.Edits (first, last)) (what_is_named first last gets) refl;
        ended = λ first. elim (contains_or names (name.InProgress first)) [
          | inl in_list ↦ (let it = progress_goes first in_list in has.gone (record { from = name.InProgress first; to = it.0 }) it.1)
          | inr out ↦ ⊎_elim
              (λ same. same ∙ listed.none (name.InProgress first) out)
              (λ other. ⊎_elim
              (λ gone. gone.1)
              (λ named. ⊎_elim
              (λ here. ap (λ (x : FileName). d.file Current x) here ∙ named.from)
              (λ there. absurd (not_progress (named.first, named.last) first (sym there)))
              named.either)
              other)
              ((tidying whole).files (name.InProgress first))
        ];
      }
