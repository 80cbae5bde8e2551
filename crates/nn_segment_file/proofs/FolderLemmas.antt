-- A folder that gets a segment behind the others: its chain goes on over the records of that segment.
use Rattle.std.proofs.Common.{◌≡◌, ◌≢◌, ⊎_elim, inl, inr, ℕ, suc, ◌+◌, ◌<◌, ◌≤◌, ℤ, List, [], ◌∷◌, ◌++◌, length, Contains, Some, None, refl, sym, ◌∙◌, ap, subst, arith}
use Rattle.std.proofs.lemmas.Cmp.{nat_list_cmp_total}
use Rattle.std.proofs.lemmas.Option.{same_Some}
use Rattle.nn_base.specs.declared.file_name.FileName.{FileName}
use Rattle.nn_base.specs.declared.file_name.FileName.TheVariants.{Version as VersionFile, Seen, Image, Md5}
use Rattle.nn_base.specs.FileText.{text_of, IsInRange}
use Rattle.nn_base.specs.Limits.{most_segment_read}
use Rattle.nn_base.proofs.NamesLemmas.{file_tells}
use Rattle.nn_host.specs.Listing.{IsBefore}
use Rattle.nn_marks.specs.declared.version.Version.{Version}
use Rattle.nn_record.specs.declared.transaction.Record.{Record}
use Rattle.nn_segment.specs.Segment.{AreFrom, IsIntactRun}
use Rattle.nn_segment.proofs.RunLemmas.{one_intact_run, id_at}
use Rattle.nn_chain.specs.Folder.{Folder, HasVersion, HasSeen}
use Rattle.nn_chain.specs.Images.{IsNewest}
use Rattle.nn_chain.specs.Records.{first_in, IsWithin, HoldsRecord, IsRecordOf, HasNoneAfter}
use Rattle.nn_chain.specs.Chain.{Reached, after, Leads}
use Rattle.nn_chain.proofs.SameLemmas.{SameImage, not_segment, intact_same, joined}
use Rattle.nn_segment_file.specs.Log.{Shared, Follows, EndsAt}

-- ---- names

-- no name comes before itself
not_before : (n : FileName) → ¬ IsBefore n n
not_before n before = let turned = nat_list_cmp_total.antisymm (text_of n) (text_of n) in cc

-- ---- records of a run

pub id_in : (first : ℕ) (rs : List Record) (r : Record) → AreFrom first rs → Contains rs r → (first ≤ r.id) × (r.id < first + length rs)
id_in first rs r from has =
    let at : r.id ≡ first + has.0 = sym (ap (λ (x : Record). x.id) has.2) ∙ id_at first rs has.0 r from has.1 in
    (omega (arith, at), omega (arith, at, has.1))

in_rest : (r s : Record) (rs : List Record) → Contains rs s → Contains (r ∷ rs) s
in_rest r s rs has = (suc has.0, omega (arith, has.1), has.2)

in_front : (r : Record) (rs : List Record) → Contains (r ∷ rs) r
in_front r rs = (0, omega arith, refl)

-- ---- where records lead

module _ (folder : Folder) (layout : ℤ) where
  -- no lower
  leads_on : (at : Reached) (rs : List Record) (end : Reached) → Leads folder layout at rs end → at.last ≤ end.last
  leads_on at [] end p = omega (arith, ap (λ (x : Reached). x.last) p)
  leads_on at (r ∷ rs) end p = omega (arith, p.0.next, leads_on (after r at) rs end p.1)

-- as far as a list has come
abbrev pub reached : Shared → ℕ → Reached
reached list last = record { last = last; ns = list last }

module _ (folder : Folder) (layout : ℤ) (list : Shared) where
  -- records of the folder that go on in the list lead on
  follow : (last : ℕ) (rs : List Record) → AreFrom (last + 1) rs → Follows list last rs → ((r : Record) → Contains rs r → IsRecordOf folder layout r) → Leads folder layout (reached list last) rs (reached list (last + length rs))
  follow last [] from follows its = ap (reached list) (omega arith)
  follow last (r ∷ rs) from follows its =
      let next : after r (reached list last) ≡ reached list (last + 1) = λ i. record { last = from.0 i; ns = sym follows.1 i } in
      let rest = follow (last + 1) rs from.2 follows.2 (λ s has. its s (in_rest r s rs has)) in
      let count : last + 1 + length rs ≡ last + length (r ∷ rs) = omega arith in (
        record { next = from.0; its = its r (in_front r rs); fits = follows.0 },
        subst (λ (x : Reached). Leads folder layout x rs (reached list (last + length (r ∷ rs)))) (sym next) (subst (λ (n : ℕ). Leads folder layout (reached list (last + 1)) rs (reached list n)) count rest),
      )

-- ---- a folder without a segment file, and with it

module _ (version : Version) (list : Shared) (last : ℕ) (old new : Folder) (name : FileName) (begins : first_in name ≡ Some (last + 1)) (gone : old name ≡ None) (others : (n : FileName) → n ≢ name → new n ≡ old n) where
  beside : (m : FileName) → first_in m ≡ None → new m ≡ old m
  beside m none = others m (λ e. not_segment name m (last + 1) none begins (sym e))

  -- ---- its marks and images

  version_up : HasVersion old version → HasVersion new version
  version_up p = (p.0, beside VersionFile refl ∙ p.1, p.2)

  seen_down : (id : ℕ) → HasSeen new id → HasSeen old id
  seen_down id p = ⊎_elim
      (λ says. inl (says.0, sym (beside Seen refl) ∙ says.1, says.2))
      (λ none. inr (none.0, λ said says. none.1 said (says.0, beside Seen refl ∙ says.1, says.2)))
      p

  image_up : (id : ℕ) → SameImage id old new
  image_up id = record { image = beside (Image id) refl; digest = beside (Md5 id) refl }

  image_down : (id : ℕ) → SameImage id new old
  image_down id = record { image = sym (beside (Image id) refl); digest = sym (beside (Md5 id) refl) }

  newest_up : (id : ℕ) → IsNewest old version id → IsNewest new version id
  newest_up id p = record { intact = (p.intact.0, intact_same version old new id p.intact.0 (image_up id) p.intact.1); last = λ later above has. p.last later above (has.0, intact_same version new old later has.0 (image_down later) has.1) }

  -- ---- records of other files

  holds_up : (n : FileName) (r : Record) → HoldsRecord old version.layout n r → HoldsRecord new version.layout n r
  holds_up n r h =
      let ne : n ≢ name = λ e. let apart = sym gone ∙ ap old (sym e) ∙ h.there in cc in
      record { ranged = h.ranged; first = h.first; begins = h.begins; bytes = h.bytes; there = others n ne ∙ h.there; small = h.small; run = h.run; intact = h.intact; has = h.has; within = h.within }

  holds_down : (n : FileName) (r : Record) → n ≢ name → HoldsRecord new version.layout n r → HoldsRecord old version.layout n r
  holds_down n r ne h = record { ranged = h.ranged; first = h.first; begins = h.begins; bytes = h.bytes; there = sym (others n ne) ∙ h.there; small = h.small; run = h.run; intact = h.intact; has = h.has; within = h.within }

  module _ (ranged : IsInRange name) (bytes : List ℕ) (there : new name ≡ Some bytes) (small : length bytes ≤ most_segment_read) (run : List Record) (intact : IsIntactRun bytes version.layout (last + 1) run) (from : AreFrom (last + 1) run) (within : (id : ℕ) → id ≤ last + length run → IsWithin name id) where
    -- the file holds just the records of its run
    holds_in : (r : Record) → HoldsRecord new version.layout name r → Contains run r
    holds_in r h =
        let first : h.first ≡ last + 1 = same_Some h.first (last + 1) (sym h.begins ∙ begins) in
        let text : h.bytes ≡ bytes = same_Some h.bytes bytes (sym h.there ∙ there) in
        let other : IsIntactRun bytes version.layout (last + 1) h.run = subst (λ (t : List ℕ). IsIntactRun t version.layout (last + 1) h.run) text (subst (λ (n : ℕ). IsIntactRun h.bytes version.layout n h.run) first h.intact) in
        subst (λ (rs : List Record). Contains rs r) (one_intact_run bytes version.layout (last + 1) h.run run other intact) h.has

    holds_ids : (r : Record) → HoldsRecord new version.layout name r → (last + 1 ≤ r.id) × (r.id < last + 1 + length run)
    holds_ids r h = id_in (last + 1) run r from (holds_in r h)

    -- earlier records stay
    record_up : (r : Record) → r.id ≤ last → IsRecordOf old version.layout r → IsRecordOf new version.layout r
    record_up r early p = record {
      name = p.name;
      holds = holds_up p.name r p.holds;
      first = λ other s before e h. elim (file_tells other name) [
        | inl is ↦ (let ids = holds_ids s (subst (λ (n : FileName). HoldsRecord new version.layout n s) is.1 h) in absurd (omega (arith, e, early, ids)))
        | inr differs ↦ p.first other s before e (holds_down other s differs.1 h)
      ];
    }

    leads_up : (at : Reached) (rs : List Record) (end : Reached) → end.last ≤ last → Leads old version.layout at rs end → Leads new version.layout at rs end
    leads_up at [] end early p = p
    leads_up at (r ∷ rs) end early p = (
      record { next = p.0.next; its = record_up r (omega (arith, early, leads_on old version.layout (after r at) rs end p.1)) p.0.its; fits = p.0.fits },
      leads_up (after r at) rs end early p.1,
    )

    module _ (ends : EndsAt version list last old) where
      -- its own records are those of their ids
      own_record : (r : Record) → Contains run r → IsRecordOf new version.layout r
      own_record r has =
          let ids = id_in (last + 1) run r from has in
          record {
            name = name;
            holds = record { ranged = ranged; first = last + 1; begins = begins; bytes = bytes; there = there; small = small; run = run; intact = intact; has = has; within = within r.id (omega (arith, ids)) };
            first = λ other s before e h. elim (file_tells other name) [
              | inl is ↦ absurd (not_before name (subst (λ (n : FileName). IsBefore n name) is.1 before))
              | inr differs ↦ absurd (ends.none other s (omega (arith, e, ids)) (holds_down other s differs.1 h))
            ];
          }

      none_after : HasNoneAfter new version.layout (last + length run)
      none_after n r above h = elim (file_tells n name) [
        | inl is ↦ (let ids = holds_ids r (subst (λ (m : FileName). HoldsRecord new version.layout m r) is.1 h) in absurd (omega (arith, above, ids)))
        | inr differs ↦ ends.none n r (omega (arith, above)) (holds_down n r differs.1 h)
      ]

      pub goes_on : Follows list last run → EndsAt version list (last + length run) new
      goes_on follows = record {
        says = version_up ends.says;
        seen = λ id has. omega (arith, ends.seen id (seen_down id has));
        chain = record {
          image = ends.chain.image;
          newest = newest_up ends.chain.image ends.chain.newest;
          from = record {
            base = ends.chain.from.base;
            intact = intact_same version old new ends.chain.image ends.chain.from.base (image_up ends.chain.image) ends.chain.from.intact;
            records = ends.chain.from.records ++ run;
            leads = joined version.layout new (record { last = ends.chain.image; ns = ends.chain.from.base }) (reached list last) (reached list (last + length run)) ends.chain.from.records run
                (leads_up (record { last = ends.chain.image; ns = ends.chain.from.base }) ends.chain.from.records (reached list last) (omega arith) ends.chain.from.leads)
                (follow new version.layout list last run from follows own_record);
            ends = λ r next. none_after next.its.name r (omega (arith, next.next)) next.its.holds;
          };
        };
        none = none_after;
      }
