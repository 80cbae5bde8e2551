-- A folder has at most one chain.
use Rattle.std.proofs.Common.{◌≡◌, ℕ, ◌<◌, ℤ, List, [], ◌∷◌, refl, sym, ◌∙◌, subst, unsigned_abs, arith}
use Rattle.std.proofs.lemmas.Option.{same_Some}
use Rattle.nn_marks.specs.declared.version.Version.{Version}
use Rattle.nn_tree.specs.Namespace.{Namespace}
use Rattle.nn_record.specs.declared.transaction.Record.{Record}
use Rattle.nn_image.specs.Imaged.{IsImage}
use Rattle.nn_image.proofs.LoadLemmas.{one_image}
use Rattle.nn_chain.specs.Folder.{Folder}
use Rattle.nn_chain.specs.Images.{IsIntact}
use Rattle.nn_chain.specs.Chain.{Reached, after, IsNextRecord, Leads, IsEnd}
use Rattle.nn_chain.specs.Laws.{OneChain}
use Rattle.nn_chain.proofs.RecordLemmas.{one_record}

-- ---- the records after an image

pub same_records : (folder : Folder) (layout : ℤ) (at end other : Reached) (rs qs : List Record) → Leads folder layout at rs end → IsEnd folder layout end → Leads folder layout at qs other → IsEnd folder layout other → (rs ≡ qs) × (end ≡ other)
same_records folder layout at end other [] [] p p_ends q q_ends = (refl, p ∙ sym q)
same_records folder layout at end other [] (s ∷ qs) p p_ends q q_ends = absurd (p_ends s (subst (λ (x : Reached). IsNextRecord folder layout x s) (sym p) q.0))
same_records folder layout at end other (r ∷ rs) [] p p_ends q q_ends = absurd (q_ends r (subst (λ (x : Reached). IsNextRecord folder layout x r) (sym q) p.0))
same_records folder layout at end other (r ∷ rs) (s ∷ qs) p p_ends q q_ends =
    let next : s ≡ r = one_record folder layout s r q.0.its p.0.its (q.0.next ∙ sym p.0.next) in
    let rest = same_records folder layout (after r at) end other rs qs p.1 p_ends (subst (λ (x : Record). Leads folder layout (after x at) qs other) next q.1) q_ends in
    (λ i. sym next i ∷ rest.0 i, rest.1)

-- ---- the image

pub one_intact : (folder : Folder) (version : Version) (id : ℕ) (ns other : Namespace) → IsIntact folder version id ns → IsIntact folder version id other → ns ≡ other
one_intact folder version id ns other p q =
    let bytes : q.bytes ≡ p.bytes = same_Some q.bytes p.bytes (sym q.there ∙ p.there) in
    let layout = unsigned_abs version.layout in
    (one_image p.bytes ns other id id version.namespace version.namespace layout layout p.image (subst (λ t. IsImage t other id version.namespace layout) bytes q.image)).0

-- ---- chains

pub one_chain : OneChain
one_chain folder version end other p q =
    let below : p.image < q.image → ⊥ = λ lt. p.newest.last q.image lt q.newest.intact in
    let above : q.image < p.image → ⊥ = λ lt. q.newest.last p.image lt p.newest.intact in
    let image : q.image ≡ p.image = omega arith in
    let base : q.from.base ≡ p.from.base = one_intact folder version p.image q.from.base p.from.base (subst (λ n. IsIntact folder version n q.from.base) image q.from.intact) p.from.intact in
    let start : Reached = record { last = p.image; ns = p.from.base } in
    let begun = subst (λ n. Leads folder version.layout (record { last = n; ns = q.from.base }) q.from.records other) image q.from.leads in
    let leads = subst (λ (ns : Namespace). Leads folder version.layout (record { last = p.image; ns = ns }) q.from.records other) base begun in
    let rest = same_records folder version.layout start end other p.from.records q.from.records p.from.leads p.from.ends leads q.from.ends in
    record { image = sym image; base = sym base; records = rest.0; ends = rest.1 }
