-- Done work opens to the Book after all lines.
use Rattle.std.proofs.Common.{◌≡◌, inl, inr, ℕ, suc, zero, ◌-◌, ◌<◌, ◌^◌, nat_lt, nat_le, Bool, true, false, ◌||◌, [], ◌∷◌, None, sym, ◌∙◌, ap, subst, arith}
use Rattle.std.specs.Prelude.{Contains, is_none, ◌&&◌}
use Rattle.std.proofs.lemmas.Bool.{and_parts, leb-true}
use Rattle.std.proofs.lemmas.Bool.Decides.{nat_tests}
use Rattle.nn_host.specs.Moments.{Dir, State, IsLawful, faults_at}
use Rattle.nn_marks.specs.declared.version.Version.{Version}
use Rattle.nn_tree.specs.Namespace.{Namespace}
use Rattle.nn_chain.specs.Fair.{IsFairStop}
use Rattle.nn_pick.specs.Dirs.{choice}
use Rattle.nn_pick.specs.Opening.{Book}
use Rattle.nn_kept.specs.Kept.{IsOfWindow}
use Rattle.nn_kept.specs.Laws.{AllKept, SomeCounts, IsPartOf}
use Rattle.nn_kept.proofs.KeptStopLemmas.{kept_stops}
use Rattle.nn_run.specs.Window.{is_unfailed_since, base_since}
use Rattle.nn_run.specs.Loop.{AreAlive}
use Rattle.nn_run.specs.Steps.{BetweenLines}
use Rattle.nn_run.proofs.BetweenLemmas.{between_is_kept}
use Rattle.nn_run.proofs.StepLemmas.{fewer_kept}
use Rattle.nn_whole.specs.Ended.{OpenJustTo, book_after, EndedOpens}

-- what is in a list of one is that one
only_one : {A : Type 0} (x y : A) → Contains (x ∷ []) y → y ≡ x
only_one x y (zero, below, is) = sym is
only_one x y (suc k, below, is) = absurd (omega (arith, below))

-- a Book of the window of one Book with nothing saved is that Book
just_that : (book other : Book) → book.saved ≡ None → IsOfWindow (book ∷ []) other → other ≡ book
just_that book other unsaved is =
    let one = only_one book (record { ns = other.ns; saved = is.saved }) is.there in
    let ns : other.ns ≡ book.ns = ap (λ (b : Book). b.ns) one in
    let there : is.saved ≡ book.saved = ap (λ (b : Book). b.saved) one in
    let kept : other.saved ≡ book.saved = elim is.part [
      | inl same ↦ same ∙ there
      | inr none ↦ none ∙ sym unsaved
    ] in
    λ i. record { ns = ns i; saved = kept i }

module _ (base : ℕ → ℕ) (live holders : ℕ → Bool) (book : Book) (version : Version) (list : ℕ → Namespace) (last : ℕ) (old new : State) (lawful : IsLawful new) (unsaved : book.saved ≡ None)
    (between : BetweenLines version list old.count live holders book last new.now) (alive : AreAlive old.count live new base) where
  abbrev of_run : ℕ → Dir → Bool
  of_run i d = is_unfailed_since (base i) d

  is_live : (i : ℕ) → i < old.count → of_run i (new.now.dirs i) ≡ true → live i ≡ true
  is_live i below e =
      let parts = and_parts (nat_lt (base i) (2 ^ 64 - 1)) (nat_le (faults_at new i) (base i)) e in
      let room : base i < 2 ^ 64 - 1 = grind (parts.0, arith, nat_tests) in
      alive i below room (leb-true _ _ parts.1)

  counted : AllKept between.shared old.count (of_run) (λ i d. false) new.now
  counted = fewer_kept between.shared old.count (λ i d. live i) (λ i d. (is_none book.saved || holders i) && live i) (of_run) (λ i d. false) new.now
      (between_is_kept version list old.count live holders book last new.now between) is_live (λ i below e. absurd (cc e))

  window : IsPartOf between.shared.window (book ∷ [])
  window b there = subst (λ w. Contains w b) between.window there

  opens_just : IsFairStop old.count new.now new.reads → (n : ℕ) (numbers : ℕ → ℕ) → ((k : ℕ) → k < n → numbers k < old.count) → SomeCounts (of_run) new.now n numbers → OpenJustTo book (choice new.reads n numbers)
  opens_just fair n numbers bound some =
      let opens = kept_stops between.shared (book ∷ []) old.count (of_run) (λ i d. false) new.now new.reads window counted lawful.reads fair n numbers bound some in
      record { sound = opens.sound; is = just_that book opens.sound.opened.book unsaved opens.inside }

pub ended_opens : EndedOpens
ended_opens asked opened live holders lines version list last old new lawful unsaved between alive fair n numbers bound some =
    opens_just (λ i. base_since old lines i) live holders (book_after asked old.count opened lines) version list last old new lawful unsaved between alive fair n numbers bound some
