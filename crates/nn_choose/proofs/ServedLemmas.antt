-- What serves in several directories, as it was read, and the lowest directory of which something is refused.
use Rattle.std.proofs.Common.{◌≡◌, inl, inr, ℕ, zero, suc, ◌+◌, ◌<◌, ◌≤◌, true, false, List, length, Option, Some, None, refl, sym, ◌∙◌, ap, subst, arith, add-one}
use Rattle.std.specs.Prelude.{is_some, IfSome, IfNone}
use Rattle.std.proofs.lemmas.Bool.{cases_lt}
use Rattle.std.proofs.lemmas.Bool.Decides.{eqb_tells}
use Rattle.std.proofs.lemmas.List.{get_or_past}
use Rattle.std.proofs.lemmas.Option.{same_Some, none-some}
use Rattle.nn_pick.specs.declared.refusal.Refusal.{Refusal}
use Rattle.nn_choose.specs.declared.served.Lead.{Lead}
use Rattle.nn_choose.specs.declared.served.Served.{Served}
use Rattle.nn_pick.specs.Refused.{or_else, first_refused}
use Rattle.nn_choose.specs.Served.{served_at, IsLead, IsLeadBelow}

-- a directory of which something was read is one of the list
pub served_within : (served : List (Option Served)) (j : ℕ) (it : Served) → served_at served j ≡ Some it → j < length served
served_within served j it at = elim (cases_lt j (length served)) [
  | inl below ↦ below
  | inr past ↦ absurd (none-some it (sym (get_or_past served j None past) ∙ at))
]

-- ---- the lowest that is refused

pub refused_more : (f : ℕ → Option Refusal) (n : ℕ) (here : Option Refusal) → first_refused f n ≡ None → here ≡ f n → first_refused f (n + 1) ≡ here
refused_more f n here none is = rw (add-one n) ((λ i. or_else (none i) (f n)) ∙ sym is)

pub refused_stays : (f : ℕ → Option Refusal) (n m : ℕ) (refusal : Refusal) → n ≤ m → first_refused f n ≡ Some refusal → first_refused f m ≡ Some refusal
refused_stays f n zero refusal le is = subst (λ (k : ℕ). first_refused f k ≡ Some refusal) (zero_below n le) is
  where
    zero_below : (k : ℕ) → k ≤ 0 → k ≡ 0
    zero_below k below = omega (arith, below)
refused_stays f n (suc m) refusal le is = elim (eqb_tells n (suc m)) [
  | inl same ↦ subst (λ (k : ℕ). first_refused f k ≡ Some refusal) same.1 is
  | inr differs ↦ (λ i. or_else (refused_stays f n m refusal (omega (arith, le, differs.1)) is i) (f m))
]

pub refused_here : (f : ℕ → Option Refusal) (n m : ℕ) (refusal : Refusal) → n < m → first_refused f n ≡ None → f n ≡ Some refusal → first_refused f m ≡ Some refusal
refused_here f n m refusal lt none here = refused_stays f (n + 1) m refusal (omega (arith, lt)) (refused_more f n (Some refusal) none (sym here))

-- it is refused, and none before it
pub record IsFirstAt (f : ℕ → Option Refusal) (n : ℕ) (refusal : Refusal) : Type 0 where
  pub at : ℕ
  pub below : at < n
  pub here : f at ≡ Some refusal
  pub none : (j : ℕ) → j < at → f j ≡ None

pub none_refused : (f : ℕ → Option Refusal) (n : ℕ) → first_refused f n ≡ None → (j : ℕ) → j < n → f j ≡ None
none_refused f zero e j below = absurd (omega (arith, below))
none_refused f (suc n) e j below = elim (eqb_tells j n) [
  | inl is ↦ subst (λ (k : ℕ). f k ≡ None) (sym is.1) (parts (first_refused f n) (f n) e).1
  | inr differs ↦ none_refused f n (parts (first_refused f n) (f n) e).0 j (omega (arith, below, differs.1))
]
  where
    parts : (first later : Option Refusal) → or_else first later ≡ None → (first ≡ None) × (later ≡ None)
    parts None later is = (refl, is)
    parts (Some first) later is = cc

pub some_refused : (f : ℕ → Option Refusal) (n : ℕ) (refusal : Refusal) → first_refused f n ≡ Some refusal → IsFirstAt f n refusal
some_refused f zero refusal e = cc
some_refused f (suc n) refusal e = by (first_refused f n) refl (λ is. some_refused f n refusal is)
  where
    by : (first : Option Refusal) → first_refused f n ≡ first → (first_refused f n ≡ Some refusal → IsFirstAt f n refusal) → IsFirstAt f (suc n) refusal
    by None is below = record { at = n; below = omega arith; here = (λ i. or_else (sym is i) (f n)) ∙ e; none = none_refused f n is }
    by (Some it) is below =
        let lower = below (is ∙ (λ i. or_else (sym is i) (f n)) ∙ e) in
        record { at = lower.at; below = omega (arith, lower.below); here = lower.here; none = lower.none }

-- a loop that goes over the directories, and returns where one is refused

pub refused_returned : (f : ℕ → Option Refusal) (n m : ℕ) (result : Option Refusal) → n < m → first_refused f n ≡ None → result ≡ f n → is_some result ≡ true → result ≡ first_refused f m
refused_returned f n m None lt none is there = cc
refused_returned f n m (Some refusal) lt none is there = sym (refused_here f n m refusal lt none (sym is))

pub refused_goes_on : (f : ℕ → Option Refusal) (n : ℕ) (result : Option Refusal) → first_refused f n ≡ None → result ≡ f n → is_some result ≡ false → first_refused f (n + 1) ≡ None
refused_goes_on f n None none is there = refused_more f n None none is
refused_goes_on f n (Some refusal) none is there = cc

pub refused_never : (f : ℕ → Option Refusal) (n m : ℕ) → n ≤ m → m ≤ n → first_refused f n ≡ None → None ≡ first_refused f m
refused_never f n m le ge none = sym (subst (λ (k : ℕ). first_refused f k ≡ None) (same n m le ge) none)
  where
    same : (a b : ℕ) → a ≤ b → b ≤ a → a ≡ b
    same a b p q = omega (arith, p, q)

-- ---- the greatest cTime

pub lead_none : (served : List (Option Served)) (n : ℕ) → ((j : ℕ) → j < n → served_at served j ≡ None) → served_at served n ≡ None → (j : ℕ) → j < n + 1 → served_at served j ≡ None
lead_none served n below here j lt = elim (eqb_tells j n) [
  | inl is ↦ subst (λ (k : ℕ). served_at served k ≡ None) (sym is.1) here
  | inr differs ↦ below j (omega (arith, lt, differs.1))
]

-- the one that leads stays
pub lead_stays : (served : List (Option Served)) (n : ℕ) (lead : Lead) → IsLead served n lead → ((it : Served) → served_at served n ≡ Some it → it.version.ctime ≤ lead.served.version.ctime) → IsLead served (n + 1) lead
lead_stays served n lead is here = record {
  below = omega (arith, is.below);
  at = is.at;
  lower = is.lower;
  greatest = λ j it lt at. elim (eqb_tells j n) [
    | inl same ↦ here it (subst (λ (k : ℕ). served_at served k ≡ Some it) same.1 at)
    | inr differs ↦ is.greatest j it (omega (arith, lt, differs.1)) at
  ];
}

-- nothing serves in the next one
pub lead_bare : (served : List (Option Served)) (n : ℕ) (lead : Option Lead) → IsLeadBelow served n lead → served_at served n ≡ None → IsLeadBelow served (n + 1) lead
lead_bare served n None is here = lead_none served n is here
lead_bare served n (Some lead) is here = lead_stays served n lead is (λ it at. absurd (none-some it (sym here ∙ at)))

-- the next one leads
pub lead_goes : (served : List (Option Served)) (n : ℕ) (lead : Lead) → lead.dir.0 ≡ n → served_at served n ≡ Some lead.served
    → ((j : ℕ) (it : Served) → j < n → served_at served j ≡ Some it → it.version.ctime < lead.served.version.ctime) → IsLead served (n + 1) lead
lead_goes served n lead place here below = record {
  below = omega (arith, place);
  at = subst (λ (k : ℕ). served_at served k ≡ Some lead.served) (sym place) here;
  lower = λ j it lt at. below j it (omega (arith, lt, place)) at;
  greatest = λ j it lt at. elim (eqb_tells j n) [
    | inl same ↦ same_it it (subst (λ (k : ℕ). served_at served k ≡ Some it) same.1 at)
    | inr differs ↦ let under = below j it (omega (arith, lt, differs.1)) at in omega (arith, under)
  ];
}
  where
    same_it : (it : Served) → served_at served n ≡ Some it → it.version.ctime ≤ lead.served.version.ctime
    same_it it at = omega (arith, ap (λ (s : Served). s.version.ctime) (same_Some it lead.served (sym at ∙ here)))

-- ---- what a clause says of an option

pub if_some : {A : Type 0} {P : A → Type 0} (result : Option A) → ((it : A) → result ≡ Some it → P it) → IfSome result P
if_some None p = tt
if_some (Some it) p = p it refl

pub if_none : {A Q : Type 0} (result : Option A) → (result ≡ None → Q) → IfNone result Q
if_none None q = q refl
if_none (Some it) q = tt
