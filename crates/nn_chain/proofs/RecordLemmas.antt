-- A folder has at most one record of each id.
use Rattle.std.proofs.Common.{◌≡◌, ℕ, zero, suc, ◌+◌, ◌<◌, ℤ, List, [], ◌∷◌, ◌++◌, length, drop, get_or, ◌^◌, Some, inl, inr, refl, sym, ◌∙◌, ap, subst, append-nil, arith}
use Rattle.std.specs.Prelude.{codes, Contains, slice_get}
use Rattle.std.specs.Ordering.{nat_cmp, ordering_reverse}
use Rattle.std.specs.declared.cmp.Ordering.{Ordering}
use Rattle.std.specs.declared.cmp.Ordering.TheVariants.{Less, Equal, Greater}
use Rattle.std.specs.Cmp.Lexicographic.{slice_cmp}
use Rattle.std.proofs.lemmas.Cmp.{nat_list_cmp_total}
use Rattle.std.proofs.lemmas.Map.Lookups.{exact_bytes}
use Rattle.std.proofs.lemmas.Option.{same_Some, slice_get-get_or}
use Rattle.nn_base.specs.declared.file_name.FileName.{FileName}
use Rattle.nn_base.specs.declared.file_name.FileName.TheVariants.{Version, VersionTmp, Seen, SeenTmp, Image, Md5, Md5Tmp, Ckpt, Edits, InProgress}
use Rattle.nn_base.specs.FileText.{text_of, id_text, IsInRange}
use Rattle.nn_base.proofs.FileTextLemmas.{id_text_parts, in_progresses, edits_forms}
use Rattle.nn_host.specs.Listing.{IsBefore}
use Rattle.nn_record.specs.declared.transaction.Record.{Record}
use Rattle.nn_segment.specs.Segment.{AreFrom, IsRun, IsIntactRun}
use Rattle.nn_segment.proofs.RunLemmas.{one_intact_run}
use Rattle.nn_chain.specs.Folder.{Folder}
use Rattle.nn_chain.specs.Records.{first_in, HoldsRecord, IsRecordOf}

-- ---- names of segment files

same_id : (a b : ℕ) → a < 2 ^ 63 → b < 2 ^ 63 → id_text a ≡ id_text b → a ≡ b
same_id a b small_a small_b e = (id_text_parts a b [] [] small_a small_b (append-nil (id_text a) ∙ e ∙ sym (append-nil (id_text b)))).0

same_span : (s t : ℕ × ℕ) → IsInRange (Edits s) → IsInRange (Edits t) → id_text s.0 ++ (codes "-" ++ id_text s.1) ≡ id_text t.0 ++ (codes "-" ++ id_text t.1) → s ≡ t
same_span s t s_in t_in e =
    let parts = id_text_parts s.0 t.0 (codes "-" ++ id_text s.1) (codes "-" ++ id_text t.1) (omega (arith, s_in)) (omega (arith, t_in)) e in
    let ends = same_id s.1 t.1 s_in.2 t_in.2 (ap (drop 1) parts.1) in
    λ i. (parts.0 i, ends i)

-- a segment file has a text of its own
one_segment : (a b : FileName) (first : ℕ) → first_in a ≡ Some first → IsInRange a → IsInRange b → text_of a ≡ text_of b → a ≡ b
one_segment Version b first begins a_in b_in e = cc
one_segment VersionTmp b first begins a_in b_in e = cc
one_segment Seen b first begins a_in b_in e = cc
one_segment SeenTmp b first begins a_in b_in e = cc
one_segment (Image id) b first begins a_in b_in e = cc
one_segment (Md5 id) b first begins a_in b_in e = cc
one_segment (Md5Tmp id) b first begins a_in b_in e = cc
one_segment (Ckpt id) b first begins a_in b_in e = cc
one_segment (Edits span) b first begins a_in b_in e = elim (edits_forms b (id_text span.0 ++ (codes "-" ++ id_text span.1)) (sym e)) [
  | inl it ↦ ap Edits (same_span span it.0 a_in (subst IsInRange it.2 b_in) it.1) ∙ sym it.2
  | inr other ↦ let is = in_progresses (Edits span) other.0 a_in (e ∙ sym e ∙ ap (λ t. codes "edits_" ++ t) other.1) in let apart = is.4 in cc
]
one_segment (InProgress id) b first begins a_in b_in e =
    let is = in_progresses b (id_text id) b_in (sym e) in
    ap InProgress (same_id id is.0 a_in.1 is.2 is.3) ∙ sym is.4

-- ---- the order of texts

data Compared (a b : FileName) : Type 0 where
  before : IsBefore a b → Compared a b
  same : text_of a ≡ text_of b → Compared a b
  behind : IsBefore b a → Compared a b

compared : (a b : FileName) → Compared a b
compared a b = by (slice_cmp nat_cmp (text_of a) (text_of b)) refl
  where
    by : (o : Ordering) → slice_cmp nat_cmp (text_of a) (text_of b) ≡ o → Compared a b
    by Less is = before is
    by Equal is = same (exact_bytes (text_of a) (text_of b) is)
    by Greater is = behind (nat_list_cmp_total.antisymm (text_of b) (text_of a) ∙ ap ordering_reverse is)

-- ---- records of one run

pub run_from : (bytes : List ℕ) (layout : ℤ) (first : ℕ) (rs : List Record) → IsRun bytes layout first rs → AreFrom first rs
run_from bytes layout first [] run = tt
run_from bytes layout first (r ∷ rs) run = run.0

pub id_at : (first : ℕ) (rs : List Record) (k : ℕ) (d : Record) → AreFrom first rs → k < length rs → (get_or rs k d).id ≡ first + k
id_at first [] k d from lt = absurd (omega arith)
id_at first (r ∷ rs) zero d from lt = omega (arith, from.0)
id_at first (r ∷ rs) (suc k) d from lt = omega (arith, id_at (first + 1) rs k d from.2 (omega arith))

one_of_run : (first : ℕ) (rs : List Record) (r s : Record) → AreFrom first rs → Contains rs r → Contains rs s → r.id ≡ s.id → r ≡ s
one_of_run first rs r s from r_in s_in e =
    let r_at : r.id ≡ first + r_in.0 = sym (ap (λ (x : Record). x.id) r_in.2) ∙ id_at first rs r_in.0 r from r_in.1 in
    let s_at : s.id ≡ first + s_in.0 = sym (ap (λ (x : Record). x.id) s_in.2) ∙ id_at first rs s_in.0 s from s_in.1 in
    let place : r_in.0 ≡ s_in.0 = omega arith in
    let r_is : slice_get rs r_in.0 ≡ Some r = slice_get-get_or rs r_in.0 r r_in.1 ∙ ap (λ (x : Record). Some x) r_in.2 in
    let s_is : slice_get rs s_in.0 ≡ Some s = slice_get-get_or rs s_in.0 s s_in.1 ∙ ap (λ (x : Record). Some x) s_in.2 in
    same_Some r s (sym r_is ∙ ap (slice_get rs) place ∙ s_is)

-- ---- records of one file

one_of_file : (folder : Folder) (layout : ℤ) (name : FileName) (r s : Record) → HoldsRecord folder layout name r → HoldsRecord folder layout name s → r.id ≡ s.id → r ≡ s
one_of_file folder layout name r s p q e =
    let first : q.first ≡ p.first = same_Some q.first p.first (sym q.begins ∙ p.begins) in
    let bytes : q.bytes ≡ p.bytes = same_Some q.bytes p.bytes (sym q.there ∙ p.there) in
    let intact : IsIntactRun p.bytes layout p.first q.run = subst (λ (t : List ℕ). IsIntactRun t layout p.first q.run) bytes (subst (λ n. IsIntactRun q.bytes layout n q.run) first q.intact) in
    let run : q.run ≡ p.run = one_intact_run p.bytes layout p.first q.run p.run intact p.intact in
    one_of_run p.first p.run r s (run_from p.bytes layout p.first p.run p.intact.run) p.has (subst (λ (rs : List Record). Contains rs s) run q.has) e

-- ---- records of a folder

pub one_record : (folder : Folder) (layout : ℤ) (r s : Record) → IsRecordOf folder layout r → IsRecordOf folder layout s → r.id ≡ s.id → r ≡ s
one_record folder layout r s p q e = elim (compared p.name q.name) [
  | before is ↦ absurd (q.first p.name r is e p.holds)
  | same is ↦
      let name = one_segment p.name q.name p.holds.first p.holds.begins p.holds.ranged q.holds.ranged is in
      one_of_file folder layout q.name r s (subst (λ (n : FileName). HoldsRecord folder layout n r) name p.holds) q.holds e
  | behind is ↦ absurd (p.first q.name s is (sym e) q.holds)
]
