-- The moments since t after one call more: those from before it, those inside it, and now.
use Rattle.std.proofs.Common.{◌≡◌, ◌⊎◌, inl, inr, ⊎_elim, ℕ, zero, suc, ◌≤◌, List, [], ◌∷◌, ◌++◌, length, drop, Result, Ok, Err, refl, ◌∙◌, ap, subst, arith, length-append}
use Rattle.nn_host.specs.Disk.{Call}
use Rattle.nn_host.specs.Moments.{Moment, Event, On, Entry, State, moment, SameBut, Stops, Within, Since}
use Rattle.nn_host.specs.Calls.{Frame, Effect, Recorded, Unrecorded}

drop-push : {A : Type 0} (t : ℕ) (past : List A) (v : A) → t ≤ length past → drop t (past ++ v ∷ []) ≡ drop t past ++ v ∷ []
drop-push zero past v le = refl
drop-push (suc t) [] v le = absurd (omega arith)
drop-push (suc t) (p ∷ past) v le = drop-push t past v (omega arith)

within_push : (es : List Entry) (e : Entry) (m : Moment) → Within (es ++ e ∷ []) m → Within es m ⊎ ((m ≡ e.ended) ⊎ (m ≡ e.before) ⊎ Stops e.event e.before m)
within_push [] e m within = ⊎_elim (λ w. inr (inl w)) (λ w. ⊎_elim (λ x. inr (inr (inl x))) (λ x. ⊎_elim (λ y. inr (inr (inr y))) (λ none. absurd none) x) w) within
within_push (d ∷ es) e m within = ⊎_elim
    (λ w. inl (inl w))
    (λ w. ⊎_elim (λ x. inl (inr (inl x))) (λ x. ⊎_elim (λ y. inl (inr (inr (inl y)))) (λ y. ⊎_elim (λ z. inl (inr (inr (inr z)))) (λ z. inr z) (within_push es e m y)) x) w)
    within

pub since_recorded : (old new : State) (event : Event) → Recorded event old new → (t : ℕ) (m : Moment) → t ≤ moment old
    → Since new t m → Since old t m ⊎ (Stops event old.now m ⊎ (m ≡ new.now))
since_recorded old new event recorded t m le since = ⊎_elim (λ now. inr (inr now)) (λ w. ⊎_elim (λ ended. inr (inr (ended ∙ recorded.ended))) (λ within. inside within) w) since
  where
    e : Entry
    e = record { ended = old.ended; before = old.now; event = event }

    inside : Within (drop t new.trace) m → Since old t m ⊎ (Stops event old.now m ⊎ (m ≡ new.now))
    inside within =
        let there = subst (λ (l : List Entry). Within l m) (ap (λ (l : List Entry). drop t l) recorded.trace ∙ drop-push t old.trace e le) within in
        ⊎_elim (λ w. inl (inr (inr w))) (λ w. ⊎_elim (λ x. inl (inr (inl x))) (λ x. ⊎_elim (λ y. inl (inl y)) (λ y. inr (inl y)) x) w) (within_push (drop t old.trace) e m there)

pub since_unrecorded : (old new : State) → Unrecorded old new → (t : ℕ) (m : Moment) → Since new t m → Since old t m ⊎ (m ≡ new.now)
since_unrecorded old new un t m since = ⊎_elim
    (λ now. inr now)
    (λ w. ⊎_elim (λ ended. inl (inr (inl (ended ∙ un.ended)))) (λ within. inl (inr (inr (subst (λ (l : List Entry). Within (drop t l) m) un.trace within)))) w)
    since

pub moment_recorded : (old new : State) (event : Event) → Recorded event old new → moment old ≤ moment new
moment_recorded old new event recorded = omega (arith, ap length recorded.trace, length-append old.trace (record { ended = old.ended; before = old.now; event = event } ∷ []))

pub moment_unrecorded : (old new : State) → Unrecorded old new → moment old ≤ moment new
moment_unrecorded old new un = omega (arith, ap length un.trace)

pub since_called : {T E : Type 0} (i : ℕ) (call : Call) (old new : State) (result : Result T E) → Effect i call old new result → (t : ℕ) (m : Moment) → t ≤ moment old
    → Since new t m → Since old t m ⊎ (Stops (On i call) old.now m ⊎ (m ≡ new.now))
since_called i call old new (Ok v) effect t m le since = since_recorded old new (On i call) effect.ok.recorded t m le since
since_called i call old new (Err e) effect t m le since = ⊎_elim
    (λ broken. since_recorded old new (On i call) broken.recorded t m le since)
    (λ unbegun. ⊎_elim (λ w. inl w) (λ now. inr (inr now)) (since_unrecorded old new unbegun.unrecorded t m since))
    effect.err

pub moment_called : {T E : Type 0} (i : ℕ) (call : Call) (old new : State) (result : Result T E) → Effect i call old new result → moment old ≤ moment new
moment_called i call old new (Ok v) effect = moment_recorded old new (On i call) effect.ok.recorded
moment_called i call old new (Err e) effect = ⊎_elim
    (λ broken. moment_recorded old new (On i call) broken.recorded)
    (λ unbegun. moment_unrecorded old new unbegun.unrecorded)
    effect.err

pub same_all : (i : ℕ) (m : Moment) → SameBut i m m
same_all i m = record { dirs = λ j ne. refl; said = refl; out_faults = refl }

pub same_but : (i : ℕ) (a b c : Moment) → SameBut i a b → SameBut i b c → SameBut i a c
same_but i a b c p q = record { dirs = λ j ne. q.dirs j ne ∙ p.dirs j ne; said = q.said ∙ p.said; out_faults = q.out_faults ∙ p.out_faults }

pub frame_refl : (i : ℕ) (a : State) → Frame i a a
frame_refl i a = record { now = same_all i a.now; reads = λ j ne. refl; count = refl }

pub frame_trans : (i : ℕ) (a b c : State) → Frame i a b → Frame i b c → Frame i a c
frame_trans i a b c p q = record { now = same_but i a.now b.now c.now p.now q.now; reads = λ j ne. q.reads j ne ∙ p.reads j ne; count = q.count ∙ p.count }
