-- VERSIONs as they were read: the first refusal among them, and that no test on them applies where there is none.
use Rattle.std.proofs.Common.{◌≡◌, inl, inr, ℕ, ℤ, ◌<◌, ◌<ℤ◌, T, Bool, true, false, List, length, Option, Some, None, refl, sym, ◌∙◌, subst, arith}
use Rattle.std.specs.Prelude.{int_lt}
use Rattle.std.proofs.lemmas.Bool.{cases_lt}
use Rattle.std.proofs.lemmas.Option.{none-some}
use Rattle.nn_base.specs.declared.ids.DirNo.{DirNo}
use Rattle.nn_base.specs.Limits.{program_layout}
use Rattle.nn_marks.specs.declared.key.Key.{Key}
use Rattle.nn_marks.specs.declared.version.Version.{Version}
use Rattle.nn_chain.specs.Folder.{Folder}
use Rattle.nn_pick.specs.declared.intent.Intent.{Intent}
use Rattle.nn_pick.specs.declared.refusal.Refusal.{Refusal}
use Rattle.nn_pick.specs.declared.refusal.Refusal.TheVariants.{Mismatch, FutureLayout, ForeignLayout}
use Rattle.nn_choose.specs.declared.served.Served.{Served}
use Rattle.nn_pick.specs.Dirs.{Dirs, ServesUnder}
use Rattle.nn_pick.specs.Refused.{first_refused}
use Rattle.nn_pick.specs.Refusing.{Applies, Refuses, IsFuture, IsForeign, test_of}
use Rattle.nn_choose.specs.Served.{AreServed, IsFirstOf, served_at, future_in, foreign_in, is_future, is_foreign}
use Rattle.nn_choose.specs.Picking.{NoneBefore}
use Rattle.nn_choose.proofs.FoundLemmas.{within_list, found_at}
use Rattle.nn_choose.proofs.ClashLemmas.{none_mismatch, no_layout, layout_lowest}

-- ---- numbers

below_true : (a b : ℤ) → a <ℤ b → int_lt a b ≡ true
below_true a b lt = of (int_lt a b) refl lt.lt
  where
    of : (x : Bool) → int_lt a b ≡ x → T (int_lt a b) → int_lt a b ≡ true
    of true is t = is
    of false is t = absurd (subst T is t)

true_below : (a b : ℤ) → int_lt a b ≡ true → a <ℤ b
true_below a b is = record { lt = subst T (sym is) tt }

future_so : (layout : ℤ) → is_future layout ≡ true → IsFuture layout
future_so layout is = true_below layout program_layout is

future_back : (layout : ℤ) → IsFuture layout → is_future layout ≡ true
future_back layout lt = below_true layout program_layout lt

foreign_so : (layout : ℤ) → is_foreign layout ≡ true → IsForeign layout
foreign_so layout is = (true_below program_layout layout is, λ ours. let e : int_lt program_layout program_layout ≡ true = subst (λ (l : ℤ). int_lt program_layout l ≡ true) ours is in cc)

foreign_back : (layout : ℤ) → IsForeign layout → is_foreign layout ≡ true
foreign_back layout is = below_true program_layout layout is.0

-- ---- the refusals

-- no two are of different clusters
abbrev pub NoMismatch : Dirs → Type 0
NoMismatch dirs = (intent : Intent) (f i : DirNo) (key : Key) → ¬ Applies dirs intent (Mismatch f i key)

module _ (dirs : Dirs) (served : List (Option Served)) (are : AreServed dirs served) (passed : NoneBefore dirs 4) (one : NoMismatch dirs) where
  before_future : (intent : Intent) (earlier : Refusal) → test_of earlier < 5 → ¬ Applies dirs intent earlier
  before_future intent (Mismatch f i key) lt applies = one intent f i key applies
  before_future intent earlier lt applies = elim (cases_lt (test_of earlier) 4) [ inl before ↦ passed intent earlier before applies | inr past ↦ omega (arith, lt, past) ]

  pub future_refuses : (refusal : Refusal) → first_refused (λ i. future_in i (served_at served i)) (length served) ≡ Some refusal → (intent : Intent) → Refuses dirs intent refusal
  future_refuses refusal e intent =
      let it = layout_lowest dirs served are IsFuture is_future FutureLayout future_back future_so refusal e in
      subst (Refuses dirs intent) it.is (record { applies = (it.lowest, it.has); first = before_future intent })

  module _ (no_future : first_refused (λ i. future_in i (served_at served i)) (length served) ≡ None) where
    before_foreign : (intent : Intent) (earlier : Refusal) → test_of earlier < 6 → ¬ Applies dirs intent earlier
    before_foreign intent (Mismatch f i key) lt applies = one intent f i key applies
    before_foreign intent (FutureLayout i found) lt applies = no_layout dirs served are IsFuture is_future FutureLayout future_back no_future i.0 found applies.0.below applies.1
    before_foreign intent earlier lt applies = elim (cases_lt (test_of earlier) 4) [ inl before ↦ passed intent earlier before applies | inr past ↦ omega (arith, lt, past) ]

    pub foreign_refuses : (refusal : Refusal) → first_refused (λ i. foreign_in i (served_at served i)) (length served) ≡ Some refusal → (intent : Intent) → Refuses dirs intent refusal
    foreign_refuses refusal e intent =
        let it = layout_lowest dirs served are IsForeign is_foreign ForeignLayout foreign_back foreign_so refusal e in
        subst (Refuses dirs intent) it.is (record { applies = (it.lowest, it.has); first = before_foreign intent })

    pub none_clashes : first_refused (λ i. foreign_in i (served_at served i)) (length served) ≡ None → NoneBefore dirs 7
    none_clashes no_foreign intent (ForeignLayout i found) lt applies = no_layout dirs served are IsForeign is_foreign ForeignLayout foreign_back no_foreign i.0 found applies.0.below applies.1
    none_clashes no_foreign intent (Mismatch f i key) lt applies = one intent f i key applies
    none_clashes no_foreign intent (FutureLayout i found) lt applies = no_layout dirs served are IsFuture is_future FutureLayout future_back no_future i.0 found applies.0.below applies.1
    none_clashes no_foreign intent earlier lt applies = elim (cases_lt (test_of earlier) 4) [ inl before ↦ passed intent earlier before applies | inr past ↦ omega (arith, lt, past) ]

-- none is formatted
module _ (served : List (Option Served)) (none : IsFirstOf served None) (dirs : Dirs) (are : AreServed dirs served) where
  bare_under : (j : ℕ) (version : Version) (folder : Folder) → j < dirs.count → ServesUnder (dirs.at j) version folder → ⊥
  bare_under j version folder below under =
      let found = found_at dirs served are j version folder below under in
      none-some found.it (sym (none j (within_list dirs served are j below)) ∙ found.at)

  pub bare_clashes : NoneBefore dirs 4 → NoneBefore dirs 7
  bare_clashes passed intent (Mismatch f i key) lt applies = none_mismatch dirs served are none intent f i key applies
  bare_clashes passed intent (FutureLayout i found) lt applies = bare_under i.0 applies.1.version applies.1.folder applies.0.below applies.1.under
  bare_clashes passed intent (ForeignLayout i found) lt applies = bare_under i.0 applies.1.version applies.1.folder applies.0.below applies.1.under
  bare_clashes passed intent earlier lt applies = elim (cases_lt (test_of earlier) 4) [ inl before ↦ passed intent earlier before applies | inr past ↦ omega (arith, lt, past) ]
