-- Folders that have the same records of some ids: where records lead in the one, they lead in the other.
use Rattle.std.proofs.Common.{ℕ, ◌+◌, ◌<◌, ◌≤◌, ℤ, List, [], ◌∷◌, ◌++◌, sym, ap, subst, arith}
use Rattle.nn_base.specs.declared.file_name.FileName.{FileName}
use Rattle.nn_marks.specs.declared.version.Version.{Version}
use Rattle.nn_record.specs.declared.transaction.Record.{Record}
use Rattle.nn_chain.specs.Folder.{Folder}
use Rattle.nn_chain.specs.Images.{IsIntact}
use Rattle.nn_chain.specs.Records.{HoldsRecord, IsRecordOf}
use Rattle.nn_chain.specs.Chain.{Reached, after, IsNextRecord, Leads, IsEnd, IsChainFrom}
use Rattle.nn_chain.proofs.SameLemmas.{joined}
use Rattle.nn_ckpt.specs.Checkpointed.{IsLedTo}

-- the same segments hold the records of these ids
pub record SameRecords (layout : ℤ) (P : ℕ → Type 0) (old new : Folder) : Type 0 where
  pub up : (n : FileName) (r : Record) → P r.id → HoldsRecord old layout n r → HoldsRecord new layout n r
  pub down : (n : FileName) (r : Record) → P r.id → HoldsRecord new layout n r → HoldsRecord old layout n r

records_back : {layout : ℤ} {P : ℕ → Type 0} {old new : Folder} → SameRecords layout P old new → SameRecords layout P new old
records_back p = record { up = p.down; down = p.up }

-- records lead to later ids
pub leads_up : (folder : Folder) (layout : ℤ) (at : Reached) (rs : List Record) (end : Reached) → Leads folder layout at rs end → at.last ≤ end.last
leads_up folder layout at [] end leads = (let e = ap (λ (r : Reached). r.last) leads in omega (arith, e))
leads_up folder layout at (r ∷ rs) end leads =
    let more = leads_up folder layout (after r at) rs end leads.1 in
    let next = leads.0.next in
    omega (arith, more, next)

module _ (layout : ℤ) (P : ℕ → Type 0) (old new : Folder) (same : SameRecords layout P old new) where
  record_stays : (r : Record) → P r.id → IsRecordOf old layout r → IsRecordOf new layout r
  record_stays r here p = record {
    name = p.name;
    holds = same.up p.name r here p.holds;
    first = λ other s before e h. p.first other s before e (same.down other s (subst P (sym e) here) h);
  }

  next_stays : (at : Reached) (r : Record) → P (at.last + 1) → IsNextRecord old layout at r → IsNextRecord new layout at r
  next_stays at r here p = record { next = p.next; its = record_stays r (subst P (sym p.next) here) p.its; fits = p.fits }

  pub leads_stay : (at : Reached) (rs : List Record) (end : Reached) → ((id : ℕ) → at.last < id → id ≤ end.last → P id) → Leads old layout at rs end → Leads new layout at rs end
  leads_stay at [] end here p = p
  leads_stay at (r ∷ rs) end here p =
      let up = leads_up old layout (after r at) rs end p.1 in
      let next = p.0.next in (
        next_stays at r (here (at.last + 1) (omega arith) (omega (arith, up, next))) p.0,
        leads_stay (after r at) rs end (λ id above below. here id (omega (arith, next, above)) below) p.1,
      )

module _ (layout : ℤ) (P : ℕ → Type 0) (old new : Folder) (same : SameRecords layout P old new) where
  end_stays : (end : Reached) → P (end.last + 1) → IsEnd old layout end → IsEnd new layout end
  end_stays end here p r next = p r (next_stays layout P new old (records_back same) end r here next)

-- ---- chains

module _ (version : Version) (old new : Folder) (image : ℕ) where
  -- a chain stays whose image and all later records stay
  pub chain_stays : SameRecords version.layout (λ id. image < id) old new → (end : Reached) (p : IsChainFrom old version image end) → IsIntact new version image p.base → IsChainFrom new version image end
  chain_stays same end p intact =
      let up = leads_up old version.layout (record { last = image; ns = p.base }) p.records end p.leads in
      record {
        base = p.base;
        intact = intact;
        records = p.records;
        leads = leads_stay version.layout (λ id. image < id) old new same (record { last = image; ns = p.base }) p.records end (λ id above below. above) p.leads;
        ends = end_stays version.layout (λ id. image < id) old new same end (omega (arith, up)) p.ends;
      }

  pub led_stays : (P : ℕ → Type 0) → SameRecords version.layout P old new → (place : Reached) → ((id : ℕ) → image < id → id ≤ place.last → P id) → (p : IsLedTo old version image place) → IsIntact new version image p.base → IsLedTo new version image place
  led_stays P same place here p intact = record {
    base = p.base;
    intact = intact;
    records = p.records;
    leads = leads_stay version.layout P old new same (record { last = image; ns = p.base }) p.records place here p.leads;
  }

-- a chain leads on from where records lead to its image
pub chain_joined : (folder : Folder) (version : Version) (older image : ℕ) (end : Reached) (p : IsChainFrom folder version image end) → IsLedTo folder version older (record { last = image; ns = p.base }) → IsChainFrom folder version older end
chain_joined folder version older image end p led = record {
  base = led.base;
  intact = led.intact;
  records = led.records ++ p.records;
  leads = joined version.layout folder (record { last = older; ns = led.base }) (record { last = image; ns = p.base }) end led.records p.records led.leads p.leads;
  ends = p.ends;
}
