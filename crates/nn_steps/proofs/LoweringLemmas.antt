-- What is removed from a folder in falling byte order doesn't raise its rank.
use Rattle.std.proofs.Common.{◌≡◌, ◌⊎◌, inl, inr, ⊎_elim, ℕ, zero, suc, ◌+◌, ◌<◌, ◌≤◌, ◌^◌, ℤ, List, [], ◌∷◌, ◌++◌, Some, None, refl, sym, ◌∙◌, ap, subst, arith}
use Rattle.std.specs.Prelude.{Contains, length}
use Rattle.std.specs.List.{slice_index_or}
use Rattle.std.proofs.lemmas.Option.{none-some}
use Rattle.std.proofs.lemmas.Bool.{cases_lt}
use Rattle.nn_base.specs.declared.file_name.FileName.{FileName}
use Rattle.nn_base.specs.declared.sub.Sub.TheVariants.{Current}
use Rattle.nn_base.specs.declared.file_name.FileName.TheVariants.{Image, Md5}
use Rattle.nn_base.specs.declared.file_name.FileName.TheVariants as name
use Rattle.nn_host.specs.Disk.{Disk, Reads, Leaves}
use Rattle.nn_host.specs.Listing.{IsBefore}
use Rattle.nn_marks.specs.declared.version.Version.{Version}
use Rattle.nn_tree.specs.Namespace.{Namespace}
use Rattle.nn_record.specs.declared.transaction.Record.{Record}
use Rattle.nn_segment.specs.Segment.{AreFrom, IsRun}
use Rattle.nn_chain.specs.Folder.{Folder, folder_at}
use Rattle.nn_chain.specs.Fair.{IsFair}
use Rattle.nn_chain.specs.Images.{IsIntact, HasIntact, IsNewest}
use Rattle.nn_chain.specs.Records.{first_in, HoldsRecord, IsRecordOf}
use Rattle.nn_chain.specs.Chain.{Reached, after, IsNextRecord, Leads, IsEnd, IsChain, HasNoSegment}
use Rattle.nn_chain.proofs.SameLemmas.{joined, intact_same}
use Rattle.nn_steps.specs.NotRaised.{IsNotRaised}

-- ---- bounds

pub not_raised_same : (version : Version) (folder : Folder) → IsNotRaised version folder folder
not_raised_same version folder bound all end chain = all end chain

pub not_raised_then : (version : Version) (a b c : Folder) → IsNotRaised version a b → IsNotRaised version b c → IsNotRaised version a c
not_raised_then version a b c p q bound all = q bound (p bound all)

-- What a stop leaves of a disk has the VERSION of something that one could leave of the old disk, and ranks no higher.
pub record LeftLower (old d : Disk) (c : Reads) : Type 0 where
  pub before : Reads
  pub left : Leaves old before
  pub fair : IsFair d c → IsFair old before
  pub says : c.file Current name.Version ≡ before.file Current name.Version
  pub rank : (v : Version) → IsNotRaised v (folder_at before Current) (folder_at c Current)

-- ---- each place on the way is followed by an end

-- a record of a run has an id below 2^63
run_at : (first : ℕ) (rs : List Record) (k : ℕ) (r : Record) → AreFrom first rs → k < length rs → slice_index_or rs k r ≡ r → r.id < 2 ^ 63
run_at first [] k r ids below is = absurd (omega (arith, below))
run_at first (x ∷ rs) zero r ids below is = subst (λ (y : Record). y.id < 2 ^ 63) is ids.1.last
run_at first (x ∷ rs) (suc k) r ids below is = run_at (first + 1) rs k r ids.2 (omega (arith, below)) is

run_long : (first : ℕ) (rs : List Record) (r : Record) → AreFrom first rs → Contains rs r → r.id < 2 ^ 63
run_long first rs r ids has = run_at first rs has.0 r ids has.1 has.2

ids_of : (bytes : List ℕ) (layout : ℤ) (first : ℕ) (rs : List Record) → IsRun bytes layout first rs → AreFrom first rs
ids_of bytes layout first [] run = tt
ids_of bytes layout first (r ∷ rs) run = run.0

next_long : (folder : Folder) (layout : ℤ) (at : Reached) (r : Record) → IsNextRecord folder layout at r → r.id < 2 ^ 63
next_long folder layout at r next = let h = next.its.holds in run_long h.first h.run r (ids_of h.bytes layout h.first h.run h.intact.run) h.has

module _ (folder : Folder) (version : Version) (image : ℕ) (newest : IsNewest folder version image) (base : Namespace) (intact : IsIntact folder version image base) where
  ended : (rs : List Record) (at : Reached) → Leads folder version.layout (record { last = image; ns = base }) rs at → IsEnd folder version.layout at → IsChain folder version at
  ended rs at leads end = record { image = image; newest = newest; from = record { base = base; intact = intact; records = rs; leads = leads; ends = end } }

  -- it can't be that no chain goes through a place on the way
  goes_on : (k : ℕ) (rs : List Record) (at : Reached) → 2 ^ 63 ≤ at.last + k → Leads folder version.layout (record { last = image; ns = base }) rs at → ((end : Reached) → IsChain folder version end → ¬ (at.last ≤ end.last)) → ⊥
  goes_on zero rs at far leads none = none at (ended rs at leads (λ r next. (let long = next_long folder version.layout at r next in let is = next.next in absurd (omega (arith, far, long, is))))) (omega arith)
  goes_on (suc k) rs at far leads none = none at (ended rs at leads (λ r next. (
      let is = next.next in
      let more = joined version.layout folder (record { last = image; ns = base }) at (after r at) rs (r ∷ []) leads (next, refl) in
      goes_on k (rs ++ r ∷ []) (after r at) (omega (arith, far, is)) more (λ end chain above. none end chain (omega (arith, above, is)))
      ))) (omega arith)

-- it can't be that no chain ends at an intact image or above it
climbs : (folder : Folder) (version : Version) (k image : ℕ) → 2 ^ 63 ≤ image + k → HasIntact folder version image → ((end : Reached) → IsChain folder version end → ¬ (image ≤ end.last)) → ⊥
climbs folder version zero image far has none = let long = has.1.image.long in absurd (omega (arith, far, long))
climbs folder version (suc k) image far has none = goes_on folder version image
    (record { intact = has; last = λ later above other. climbs folder version k later (omega (arith, far, above)) other (λ end chain high. none end chain (omega (arith, above, high))) })
    has.0 has.1 (2 ^ 63) [] (record { last = image; ns = has.0 }) (omega arith) refl none

pub some_chain : (folder : Folder) (version : Version) (image : ℕ) → HasIntact folder version image → ((end : Reached) → IsChain folder version end → ¬ (image ≤ end.last)) → ⊥
some_chain folder version image has none = climbs folder version (2 ^ 63) image (omega arith) has none

-- so what is below every such chain is below a bound
below_by : (bound last : ℕ) → ((bound ≤ last) → ⊥) → last < bound
below_by bound last none = elim (cases_lt last bound) [ inl less ↦ less | inr more ↦ absurd (none more) ]

-- ---- segments are removed

-- Segment files are gone from some name on in byte order; all else is the same.
pub record IsTrimmed (old new : Folder) : Type 0 where
  pub others : (n : FileName) → first_in n ≡ None → new n ≡ old n
  pub segments : (n : FileName) (first : ℕ) → first_in n ≡ Some first → (new n ≡ old n) ⊎ (new n ≡ None)
  pub falling : (n m : FileName) (i j : ℕ) → first_in n ≡ Some i → first_in m ≡ Some j → IsBefore n m → (new n ≡ old n) ⊎ (new m ≡ None)

pub moved : (folder its : Folder) (layout : ℤ) (n : FileName) (r : Record) → its n ≡ folder n → HoldsRecord folder layout n r → HoldsRecord its layout n r
moved folder its layout n r same h = record {
  ranged = h.ranged;
  first = h.first;
  begins = h.begins;
  bytes = h.bytes;
  there = same ∙ h.there;
  small = h.small;
  run = h.run;
  intact = h.intact;
  has = h.has;
  within = h.within;
}

module _ (version : Version) (old new : Folder) (cut : IsTrimmed old new) where
  held_before : (layout : ℤ) (n : FileName) (r : Record) → HoldsRecord new layout n r → HoldsRecord old layout n r
  held_before layout n r h = ⊎_elim
      (λ same. moved new old layout n r (sym same) h)
      (λ gone. absurd (none-some h.bytes (sym gone ∙ h.there)))
      (cut.segments n h.first h.begins)

  record_before : (layout : ℤ) (r : Record) → IsRecordOf new layout r → IsRecordOf old layout r
  record_before layout r is = record {
    name = is.name;
    holds = held_before layout is.name r is.holds;
    first = λ other s before same h. ⊎_elim
        (λ stays. is.first other s before same (moved old new layout other s stays h))
        (λ gone. absurd (none-some is.holds.bytes (sym gone ∙ is.holds.there)))
        (cut.falling other is.name h.first is.holds.first h.begins is.holds.begins before);
  }

  leads_before : (layout : ℤ) (at : Reached) (rs : List Record) (end : Reached) → Leads new layout at rs end → Leads old layout at rs end
  leads_before layout at [] end leads = leads
  leads_before layout at (r ∷ rs) end leads = (record { next = leads.0.next; its = record_before layout r leads.0.its; fits = leads.0.fits }, leads_before layout (after r at) rs end leads.1)

  same_intact : (id : ℕ) (ns : Namespace) → IsIntact new version id ns → IsIntact old version id ns
  same_intact id ns = intact_same version new old id ns (record { image = sym (cut.others (Image id) refl); digest = sym (cut.others (Md5 id) refl) })

  intact_too : (id : ℕ) (ns : Namespace) → IsIntact old version id ns → IsIntact new version id ns
  intact_too id ns = intact_same version old new id ns (record { image = cut.others (Image id) refl; digest = cut.others (Md5 id) refl })

  same_newest : (image : ℕ) → IsNewest new version image → IsNewest old version image
  same_newest image is = record { intact = (is.intact.0, same_intact image is.intact.0 is.intact.1); last = λ later above has. is.last later above (has.0, intact_too later has.0 has.1) }

  pub trimmed_not_raised : IsNotRaised version old new
  trimmed_not_raised bound all end chain = below_by bound end.last (λ more. goes_on old version chain.image (same_newest chain.image chain.newest) chain.from.base
      (same_intact chain.image chain.from.base chain.from.intact) (2 ^ 63) chain.from.records end (omega arith)
      (leads_before version.layout (record { last = chain.image; ns = chain.from.base }) chain.from.records end chain.from.leads)
      (λ was is high. (let less = all was is in omega (arith, less, high, more))))

-- ---- images are removed where there is no segment

-- without a segment a chain ends at its image
no_records : (folder : Folder) (layout : ℤ) → HasNoSegment folder → (at : Reached) (rs : List Record) (end : Reached) → Leads folder layout at rs end → end.last ≡ at.last
no_records folder layout none at [] end leads = ap (λ (r : Reached). r.last) leads
no_records folder layout none at (r ∷ rs) end leads = let h = leads.0.its.holds in absurd (none-some h.bytes (sym (none leads.0.its.name h.first h.ranged h.begins) ∙ h.there))

pub bare_not_raised : (version : Version) (old new : Folder) → HasNoSegment new → ((id : ℕ) (ns : Namespace) → IsIntact new version id ns → IsIntact old version id ns) → IsNotRaised version old new
bare_not_raised version old new none was bound all end chain = below_by bound end.last (λ more. some_chain old version chain.image (chain.newest.intact.0, was chain.image chain.newest.intact.0 chain.newest.intact.1) (λ other is high. (
    let less = all other is in
    let at = no_records new version.layout none (record { last = chain.image; ns = chain.from.base }) chain.from.records end chain.from.leads in
    omega (arith, less, high, more, at)
    )))
