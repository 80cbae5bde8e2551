-- A segment that is cut short has a front of the intact run that it had.
use Rattle.std.proofs.Common.{◌≡◌, ℕ, ◌+◌, ◌≤◌, ℤ, List, [], ◌∷◌, ◌++◌, length, refl, sym, ◌∙◌, ap, subst, append_assoc, append-nil, arith}
use Rattle.std.proofs.lemmas.List.{append_cancel_left}
use Rattle.nn_record.specs.declared.transaction.Record.{Record}
use Rattle.nn_record.specs.Spelling.{spelling}
use Rattle.nn_record.proofs.RecordLemmas.{none_begins_another}
use Rattle.nn_segment.specs.Segment.{header, spelled, AreFrom, IsRun, IsIntactRun}
use Rattle.nn_chain.specs.Fair.{IsPrefix, CutShortIsFair, WholeIsFair}

-- ---- records that stand one after the other

first_apart : (r : Record) (rs : List Record) (rest : List ℕ) → spelled (r ∷ rs) ++ rest ≡ spelling r ++ (spelled rs ++ rest)
unfolding spelled
first_apart r rs rest = append_assoc (spelling r) (spelled rs) rest

pub fewer_begin : (first : ℕ) (rs qs : List Record) (rest after : List ℕ) → AreFrom first rs → AreFrom first qs → spelled rs ++ rest ≡ spelled qs ++ after → length rs ≤ length qs → IsPrefix rs qs
fewer_begin first [] qs rest after rs_from qs_from e few = (qs, refl)
fewer_begin first (r ∷ rs) [] rest after rs_from qs_from e few = absurd (omega arith)
fewer_begin first (r ∷ rs) (q ∷ qs) rest after rs_from qs_from e few =
    let same = none_begins_another r q (spelled rs ++ rest) (spelled qs ++ after) rs_from.1 qs_from.1 (sym (first_apart r rs rest) ∙ e ∙ first_apart q qs after) in
    let more = fewer_begin (first + 1) rs qs rest after rs_from.2 qs_from.2 same.1 (omega arith) in
    (more.0, λ i. sym same.0 i ∷ more.1 i)

-- ---- runs

behind : (bytes : List ℕ) (layout : ℤ) (text after : List ℕ) → bytes ≡ header layout ++ text ++ after → bytes ≡ header layout ++ (text ++ after)
behind bytes layout text after e = e ∙ append_assoc (header layout) text after

shorter_run : (bytes : List ℕ) (layout : ℤ) (first : ℕ) (rs qs : List Record) → IsRun bytes layout first rs → IsRun bytes layout first qs → length rs ≤ length qs → IsPrefix rs qs
shorter_run bytes layout first [] qs x y few = (qs, refl)
shorter_run bytes layout first (r ∷ rs) [] x y few = absurd (omega arith)
shorter_run bytes layout first (r ∷ rs) (q ∷ qs) x y few =
    let texts = append_cancel_left (header layout) (spelled (r ∷ rs) ++ x.1) (spelled (q ∷ qs) ++ y.1) (sym (behind bytes layout (spelled (r ∷ rs)) x.1 x.2) ∙ behind bytes layout (spelled (q ∷ qs)) y.1 y.2) in
    fewer_begin first (r ∷ rs) (q ∷ qs) x.1 y.1 x.0 y.0 texts few

-- a run is one of any bytes that begin so
run_of_more : (bytes more : List ℕ) (layout : ℤ) (first : ℕ) (rs : List Record) → IsRun bytes layout first rs → IsRun (bytes ++ more) layout first rs
run_of_more bytes more layout first [] run = tt
run_of_more bytes more layout first (r ∷ rs) run = (run.0, run.1 ++ more, ap (λ t. t ++ more) run.2 ∙ append_assoc (header layout ++ spelled (r ∷ rs)) run.1 more)

pub cut_run : (bytes more : List ℕ) (layout : ℤ) (first : ℕ) (left given : List Record) → IsIntactRun bytes layout first left → IsIntactRun (bytes ++ more) layout first given → IsPrefix left given
cut_run bytes more layout first left given cut all =
    let run = run_of_more bytes more layout first left cut.run in
    shorter_run (bytes ++ more) layout first left given run all.run (all.longest left run)

-- ---- files

pub cut_short_is_fair : CutShortIsFair
cut_short_is_fair d c cut sub name first file bytes ranged begins there reads layout left given cut_is all =
    let part = cut sub name file bytes there reads in
    cut_run bytes part.0 layout first left given cut_is (subst (λ (t : List ℕ). IsIntactRun t layout first given) part.1 all)

pub whole_is_fair : WholeIsFair
whole_is_fair d c whole = cut_short_is_fair d c (λ sub name file bytes there reads. ([], sym (whole sub name file bytes there reads) ∙ sym (append-nil bytes)))
