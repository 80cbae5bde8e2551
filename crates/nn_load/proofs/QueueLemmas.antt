-- The segments of a listing that are left, and whose records come next.
use Rattle.std.proofs.Common.{◌≡◌, inl, inr, ⊎_elim, ℕ, ℤ, ◌+◌, ◌<◌, ◌≤◌, true, false, Bool, List, [], ◌∷◌, Some, is_some, refl, sym, ◌∙◌, ap, subst, arith}
use Rattle.std.proofs.lemmas.Bool.{cases_order, cases_lt}
use Rattle.std.proofs.lemmas.List.{get_or_default}
use Rattle.std.proofs.lemmas.Option.{same_Some}
use Rattle.nn_base.specs.declared.sub.Sub.{Sub}
use Rattle.nn_base.specs.declared.file_name.FileName.{FileName}
use Rattle.nn_base.specs.declared.file_name.FileName.TheVariants as name
use Rattle.nn_base.specs.declared.file_name.FileName.TheVariants.{Edits, InProgress}
use Rattle.nn_base.specs.FileText.{IsInRange}
use Rattle.nn_host.specs.Disk.{Reads}
use Rattle.nn_host.specs.Listing.{IsBefore, IsListing}
use Rattle.nn_tree.specs.Namespace.{Namespace}
use Rattle.nn_record.specs.declared.transaction.Record.{Record}
use Rattle.nn_ops.specs.Step.{Fits}
use Rattle.nn_segment.proofs.RunLemmas.{run_from, id_at}
use Rattle.nn_chain.specs.Folder.{Folder, folder_at}
use Rattle.nn_chain.specs.Records.{first_in, HoldsRecord, IsRecordOf}
use Rattle.nn_chain.specs.Chain.{Reached, after, Leads, IsEnd}
use Rattle.nn_chain.proofs.RecordLemmas.{one_record}
use Rattle.nn_load.specs.Replaying.{Plays, UpTo, AreReplayed}
use Rattle.nn_load.specs.Segments.{IsSpent}
use Rattle.nn_load.specs.Queue.{StandsAt, EndBy, IsNextFinalized, NoneInProgress, IsNextInProgress, HasNoInProgress, HasGap, ComesFirst, AreLeft}
use Rattle.nn_load.proofs.OrderLemmas.{finalized_ascend, in_progress_ascend, finalized_first, not_behind, in_order}
use Rattle.nn_load.proofs.ReplayLemmas.{plays_weaker}

-- ---- records of one file

-- no record of a file has an id below its first
not_below_first : (folder : Folder) (layout : ℤ) (name : FileName) (r : Record) (h : HoldsRecord folder layout name r) → h.first ≤ r.id
not_below_first folder layout name r h = omega (arith, id_at h.first h.run h.has.0 r (run_from h.bytes layout h.first h.run h.intact.run) h.has.1, ap (λ (x : Record). x.id) h.has.2)

spent_later : (folder : Folder) (layout : ℤ) (name : FileName) (last then : ℕ) → last ≤ then → IsSpent folder layout last name → IsSpent folder layout then name
spent_later folder layout name last then le spent r above = spent r (omega arith)

first_of_span : {folder : Folder} {layout : ℤ} (span : ℕ × ℕ) (r : Record) (h : HoldsRecord folder layout (Edits span) r) → h.first ≡ span.0
first_of_span span r h = same_Some h.first span.0 (sym h.begins)

-- a finalized segment that ends by then
ended_spent : (folder : Folder) (layout : ℤ) (span : ℕ × ℕ) (last : ℕ) → span.1 ≤ last → IsSpent folder layout last (Edits span)
ended_spent folder layout span last le r above h = omega (arith, above, h.within)

-- two finalized segments at one place are one, and so are two in progress
pub one_at : (names : List FileName) (k : ℕ) (a b : FileName) → StandsAt names k a → StandsAt names k b → a ≡ b
one_at names k a b p q = sym p.is ∙ get_or_default names k a b p.below ∙ q.is

-- ---- the order of a listing

module _ (reads : Reads) (sub : Sub) (layout : ℤ) (names : List FileName) (listing : IsListing reads sub names) where
  -- each file that holds a record stands in the listing
  listed : (name : FileName) (r : Record) → HoldsRecord (folder_at reads sub) layout name r → (k : ℕ) × StandsAt names k name
  listed name r h = let found = listing.all name (ap is_some h.there) in (found.0, record { below = found.1; is = found.2 })

  -- what stands later isn't before it
  not_before : (j k : ℕ) (a b : FileName) → StandsAt names j a → StandsAt names k b → k ≤ j → IsBefore a b → ⊥
  not_before j k a b p q le before = elim (cases_order k j) [
    | inl same ↦ let one = one_at names k a b (subst (λ n. StandsAt names n a) (sym same) p) q in not_behind b b (subst (λ (n : FileName). IsBefore n b) one before) (subst (λ (n : FileName). IsBefore n b) one before)
    | inr apart ↦ elim apart [ inl lower ↦ not_behind b a (in_order names k j b a listing.ascending lower p.below q.is p.is) before | inr higher ↦ absurd (omega arith) ]
  ]

  -- a finalized segment at a later place begins no earlier
  pub begins_later : (j k : ℕ) (a b : ℕ × ℕ) → StandsAt names j (Edits a) → StandsAt names k (Edits b) → j ≤ k → IsInRange (Edits a) → IsInRange (Edits b) → a.0 ≤ b.0
  begins_later j k a b p q le a_in b_in = elim (cases_order j k) [
    | inl same ↦ let one = one_at names k (Edits a) (Edits b) (subst (λ n. StandsAt names n (Edits a)) same p) q in let spans : a ≡ b = cc in omega (arith, ap (λ (s : ℕ × ℕ). s.0) spans)
    | inr apart ↦ elim apart [ inl lower ↦ finalized_ascend a b a_in b_in (in_order names j k (Edits a) (Edits b) listing.ascending lower q.below p.is q.is) | inr higher ↦ absurd (omega arith) ]
  ]

  begins_later_in_progress : (j k a b : ℕ) → StandsAt names j (InProgress a) → StandsAt names k (InProgress b) → j ≤ k → IsInRange (InProgress a) → IsInRange (InProgress b) → a ≤ b
  begins_later_in_progress j k a b p q le a_in b_in = elim (cases_order j k) [
    | inl same ↦ let one = one_at names k (InProgress a) (InProgress b) (subst (λ n. StandsAt names n (InProgress a)) same p) q in let firsts : a ≡ b = cc in omega arith
    | inr apart ↦ elim apart [ inl lower ↦ let less = in_progress_ascend a b a_in b_in (in_order names j k (InProgress a) (InProgress b) listing.ascending lower q.below p.is q.is) in omega arith | inr higher ↦ absurd (omega arith) ]
  ]

  -- ---- what comes first

  module _ (finalized in_progress last : ℕ) (left : AreLeft (folder_at reads sub) layout names finalized in_progress last) where
    -- of the finalized segments that are left none holds a record of an id up to `until`
    none_in_gap : (until : ℕ) → HasGap names finalized last until → (span : ℕ × ℕ) (r : Record) → last < r.id → r.id ≤ until → ¬ HoldsRecord (folder_at reads sub) layout (Edits span) r
    none_in_gap until gap span r above within h =
        let at = listed (Edits span) r h in
        elim (cases_lt at.0 finalized) [
          | inl passed ↦ left.finalized_spent at.0 span passed at.1 r above h
          | inr later ↦ elim (gap at.0 span later h.ranged at.1) [
            | inl early ↦ omega (arith, early, above, h.within)
            | inr behind ↦ omega (arith, behind, within, not_below_first (folder_at reads sub) layout (Edits span) r h, first_of_span span r h)
          ]
        ]

    -- the first finalized segment that is left and ends later
    pub finalized_comes : (k : ℕ) (span : ℕ × ℕ) → IsNextFinalized names finalized last k span → ComesFirst (folder_at reads sub) layout last span.1 (Edits span)
    finalized_comes k span next = record { none = λ other r before above within h. by other r before above h.begins h }
      where
        by : (other : FileName) (r : Record) → IsBefore other (Edits span) → last < r.id → {first : ℕ} → first_in other ≡ Some first → HoldsRecord (folder_at reads sub) layout other r → ⊥
        by name.Version r before above begins h = cc
        by name.VersionTmp r before above begins h = cc
        by name.Seen r before above begins h = cc
        by name.SeenTmp r before above begins h = cc
        by (name.Image id) r before above begins h = cc
        by (name.Md5 id) r before above begins h = cc
        by (name.Md5Tmp id) r before above begins h = cc
        by (name.Ckpt id) r before above begins h = cc
        by (Edits o) r before above begins h =
            let at = listed (Edits o) r h in
            elim (cases_lt at.0 finalized) [
              | inl passed ↦ left.finalized_spent at.0 o passed at.1 r above h
              | inr later ↦ elim (cases_lt at.0 k) [
                | inl earlier ↦ let ends = next.before at.0 o later earlier at.1 in omega (arith, ends, above, h.within)
                | inr behind ↦ not_before at.0 k (Edits o) (Edits span) at.1 next.stands behind before
              ]
            ]
        by (InProgress o) r before above begins h = finalized_first o span before

    -- the first segment in progress that is left, where no finalized one holds records up to `until`
    pub in_progress_comes : (until k first : ℕ) → HasGap names finalized last until → IsNextInProgress names in_progress k first → ComesFirst (folder_at reads sub) layout last until (InProgress first)
    in_progress_comes until k first gap next = record { none = λ other r before above within h. by other r before above within h.begins h }
      where
        by : (other : FileName) (r : Record) → IsBefore other (InProgress first) → last < r.id → r.id ≤ until → {begin : ℕ} → first_in other ≡ Some begin → HoldsRecord (folder_at reads sub) layout other r → ⊥
        by name.Version r before above within begins h = cc
        by name.VersionTmp r before above within begins h = cc
        by name.Seen r before above within begins h = cc
        by name.SeenTmp r before above within begins h = cc
        by (name.Image id) r before above within begins h = cc
        by (name.Md5 id) r before above within begins h = cc
        by (name.Md5Tmp id) r before above within begins h = cc
        by (name.Ckpt id) r before above within begins h = cc
        by (Edits o) r before above within begins h = none_in_gap until gap o r above within h
        by (InProgress o) r before above within begins h =
            let at = listed (InProgress o) r h in
            elim (cases_lt at.0 in_progress) [
              | inl passed ↦ left.in_progress_spent at.0 o passed at.1 r above h
              | inr later ↦ elim (cases_lt at.0 k) [
                | inl earlier ↦ next.before at.0 o later earlier at.1
                | inr behind ↦ not_before at.0 k (InProgress o) (InProgress first) at.1 next.stands behind before
              ]
            ]

    -- none that is left holds the next record
    nothing_comes : (ns : Namespace) → HasGap names finalized last (last + 1) → ((o : ℕ) (r : Record) → HoldsRecord (folder_at reads sub) layout (InProgress o) r → r.id ≡ last + 1 → ⊥) → IsEnd (folder_at reads sub) layout (record { last = last; ns = ns })
    nothing_comes ns gap none r next = by next.its.name next.its.holds.begins next.its.holds
      where
        by : (other : FileName) {begin : ℕ} → first_in other ≡ Some begin → HoldsRecord (folder_at reads sub) layout other r → ⊥
        by name.Version begins h = cc
        by name.VersionTmp begins h = cc
        by name.Seen begins h = cc
        by name.SeenTmp begins h = cc
        by (name.Image id) begins h = cc
        by (name.Md5 id) begins h = cc
        by (name.Md5Tmp id) begins h = cc
        by (name.Ckpt id) begins h = cc
        by (Edits o) begins h = none_in_gap (last + 1) gap o r (omega (arith, next.next)) (omega (arith, next.next)) h
        by (InProgress o) begins h = none o r h next.next

    pub none_comes : (ns : Namespace) → HasGap names finalized last (last + 1) → HasNoInProgress names in_progress → IsEnd (folder_at reads sub) layout (record { last = last; ns = ns })
    none_comes ns gap none = nothing_comes ns gap (λ o r h next. let at = listed (InProgress o) r h in elim (cases_lt at.0 in_progress) [
      | inl passed ↦ left.in_progress_spent at.0 o passed at.1 r (omega (arith, next)) h
      | inr later ↦ none at.0 o later at.1.below at.1
    ])

    pub late_comes : (ns : Namespace) (k first : ℕ) → HasGap names finalized last (last + 1) → IsNextInProgress names in_progress k first → last + 1 < first → IsEnd (folder_at reads sub) layout (record { last = last; ns = ns })
    late_comes ns k first gap head late = nothing_comes ns gap (λ o r h next. let at = listed (InProgress o) r h in elim (cases_lt at.0 in_progress) [
      | inl passed ↦ left.in_progress_spent at.0 o passed at.1 r (omega (arith, next)) h
      | inr later ↦ elim (cases_lt at.0 k) [
        | inl earlier ↦ head.before at.0 o later earlier at.1
        | inr behind ↦ omega (arith, late, next, begins_later_in_progress k at.0 first o head.stands at.1 behind head.ranged h.ranged, not_below_first (folder_at reads sub) layout (InProgress o) r h, same_Some h.first o (sym h.begins))
      ]
    ])

-- ---- a file that was replayed

pub plays_on : (P : Record → Type 0) (at end : Reached) (rs : List Record) → Plays P at rs end → at.last ≤ end.last
plays_on P at end [] p = omega (arith, ap (λ (x : Reached). x.last) p)
plays_on P at end (r ∷ rs) p = omega (arith, p.1, plays_on P (after r at) end rs p.3)

leads_of : (folder : Folder) (layout : ℤ) (at end : Reached) (rs : List Record) → Plays (IsRecordOf folder layout) at rs end → Leads folder layout at rs end
leads_of folder layout at end [] p = p
leads_of folder layout at end (r ∷ rs) p = (record { next = p.1; its = p.0; fits = p.2 }, leads_of folder layout (after r at) end rs p.3)

module _ (folder : Folder) (layout : ℤ) (name : FileName) (until : ℕ) (start end : Reached) (fit : Bool) (first : ComesFirst folder layout start.last until name) (done : AreReplayed (HoldsRecord folder layout name) until start end fit) where
  its : (r : Record) → start.last < r.id → UpTo (HoldsRecord folder layout name) until r → IsRecordOf folder layout r
  its r above has = record { name = name; holds = has.0; first = λ other s before e h. first.none other s before (omega (arith, e, above)) (omega (arith, e, has.1)) h }

  pub file_leads : Leads folder layout start done.records end
  file_leads = leads_of folder layout start end done.records (plays_weaker (UpTo (HoldsRecord folder layout name) until) (IsRecordOf folder layout) start end done.records its done.plays)

  -- the next record doesn't fit
  pub file_ends : fit ≡ false → IsEnd folder layout end
  file_ends unfit r next =
      let clash = done.clash unfit in
      let low = plays_on (UpTo (HoldsRecord folder layout name) until) start end done.records done.plays in
      let same = one_record folder layout r clash.r next.its (its clash.r (omega (arith, clash.next, low)) clash.has) (next.next ∙ sym clash.next) in
      clash.unfit (subst (λ (x : Record). Fits end.ns x.op) same next.fits)

-- ---- what is left after it

pub left_later : (folder : Folder) (layout : ℤ) (names : List FileName) (finalized in_progress last then : ℕ) → last ≤ then → AreLeft folder layout names finalized in_progress last → AreLeft folder layout names finalized in_progress then
left_later folder layout names finalized in_progress last then le left = record {
  finalized_spent = λ j span lt at. spent_later folder layout (Edits span) last then le (left.finalized_spent j span lt at);
  in_progress_spent = λ j first lt at. spent_later folder layout (InProgress first) last then le (left.in_progress_spent j first lt at);
}

module _ (folder : Folder) (layout : ℤ) (names : List FileName) (finalized in_progress k : ℕ) (start end : Reached) (left : AreLeft folder layout names finalized in_progress start.last) where
  -- a finalized segment: each record of it came
  pub finalized_left : (span : ℕ × ℕ) → IsNextFinalized names finalized start.last k span → AreReplayed (HoldsRecord folder layout (Edits span)) span.1 start end true → AreLeft folder layout names (k + 1) in_progress end.last
  finalized_left span next done = record { finalized_spent = spent; in_progress_spent = before.in_progress_spent }
    where
      le : start.last ≤ end.last
      le = plays_on (UpTo (HoldsRecord folder layout (Edits span)) span.1) start end done.records done.plays

      before : AreLeft folder layout names finalized in_progress end.last
      before = left_later folder layout names finalized in_progress start.last end.last le left

      this : IsSpent folder layout end.last (Edits span)
      this r above h = ⊎_elim (λ low. omega (arith, low r h, above)) (λ full. omega (arith, full, above, h.within)) (done.all refl)

      spent : (j : ℕ) (o : ℕ × ℕ) → j < k + 1 → StandsAt names j (Edits o) → IsSpent folder layout end.last (Edits o)
      spent j o lt at = elim (cases_lt j finalized) [
        | inl passed ↦ before.finalized_spent j o passed at
        | inr later ↦ elim (cases_order j k) [
          | inl same ↦ let one = one_at names k (Edits o) (Edits span) (subst (λ n. StandsAt names n (Edits o)) same at) next.stands in subst (IsSpent folder layout end.last) (sym one) this
          | inr apart ↦ elim apart [ inl earlier ↦ let ends = next.before j o later earlier at in ended_spent folder layout o end.last (omega (arith, ends, le)) | inr beyond ↦ absurd (omega arith) ]
        ]
      ]

-- a file of which each record came
pub all_spent : (folder : Folder) (layout : ℤ) (name : FileName) (until : ℕ) (start end : Reached) → AreReplayed (HoldsRecord folder layout name) until start end true → end.last < until → IsSpent folder layout end.last name
all_spent folder layout name until start end done short r above h = ⊎_elim (λ low. omega (arith, low r h, above)) (λ full. omega (arith, full, short)) (done.all refl)

module _ (folder : Folder) (layout : ℤ) (names : List FileName) (finalized in_progress last : ℕ) (left : AreLeft folder layout names finalized in_progress last) where
  -- the finalized segments before the next one
  pub finalized_passed : (k : ℕ) → EndBy names finalized k last → AreLeft folder layout names k in_progress last
  finalized_passed k ends = record {
    finalized_spent = λ j span lt at. elim (cases_lt j finalized) [ inl passed ↦ left.finalized_spent j span passed at | inr later ↦ ended_spent folder layout span last (ends j span later lt at) ];
    in_progress_spent = left.in_progress_spent;
  }

  -- and what stands before the next in progress
  pub in_progress_passed : (k : ℕ) → NoneInProgress names in_progress k → AreLeft folder layout names finalized k last
  in_progress_passed k none = record {
    finalized_spent = left.finalized_spent;
    in_progress_spent = λ j first lt at. elim (cases_lt j in_progress) [ inl passed ↦ left.in_progress_spent j first passed at | inr later ↦ absurd (none j first later lt at) ];
  }

  -- the first in progress, of which each record came
  pub in_progress_left : (first then : ℕ) → last ≤ then → StandsAt names in_progress (InProgress first) → IsSpent folder layout then (InProgress first) → AreLeft folder layout names finalized (in_progress + 1) then
  in_progress_left first then le stands this = record { finalized_spent = before.finalized_spent; in_progress_spent = spent }
    where
      before : AreLeft folder layout names finalized in_progress then
      before = left_later folder layout names finalized in_progress last then le left

      spent : (j o : ℕ) → j < in_progress + 1 → StandsAt names j (InProgress o) → IsSpent folder layout then (InProgress o)
      spent j o lt at = elim (cases_lt j in_progress) [
        | inl earlier ↦ before.in_progress_spent j o earlier at
        | inr later ↦
            let same : j ≡ in_progress = omega arith in
            let one = one_at names in_progress (InProgress o) (InProgress first) (subst (λ n. StandsAt names n (InProgress o)) same at) stands in
            subst (IsSpent folder layout then) (sym one) this
      ]
