-- Folders with the same segments have the same records; where the images are the same too, they have the same chain.
use Rattle.std.proofs.Common.{◌≡◌, ◌≢◌, ℕ, ℤ, List, [], ◌∷◌, ◌++◌, Some, None, sym, ◌∙◌, ap, subst, arith}
use Rattle.nn_base.specs.declared.file_name.FileName.{FileName}
use Rattle.nn_base.specs.declared.file_name.FileName.TheVariants.{Image, Md5}
use Rattle.nn_marks.specs.declared.version.Version.{Version}
use Rattle.nn_tree.specs.Namespace.{Namespace}
use Rattle.nn_record.specs.declared.transaction.Record.{Record}
use Rattle.nn_chain.specs.Folder.{Folder}
use Rattle.nn_chain.specs.Images.{IsIntact, IsNewest}
use Rattle.nn_chain.specs.Records.{first_in, HoldsRecord, IsRecordOf, HasNoneAfter}
use Rattle.nn_chain.specs.Chain.{Reached, after, IsNextRecord, Leads, IsEnd, IsChain, EndsBare}

-- a segment file has none of the other names
pub not_segment : (n m : FileName) (first : ℕ) → first_in m ≡ None → first_in n ≡ Some first → n ≢ m
not_segment n m first none begins e = let apart = sym begins ∙ ap first_in e ∙ none in cc

-- ---- what is the same

pub record SameSegments (old new : Folder) : Type 0 where
  pub files : (n : FileName) (first : ℕ) → first_in n ≡ Some first → new n ≡ old n

-- the image of this id, and its MD5 file
pub record SameImage (id : ℕ) (old new : Folder) : Type 0 where
  pub image : new (Image id) ≡ old (Image id)
  pub digest : new (Md5 id) ≡ old (Md5 id)

-- the segments and all images
pub record SameLog (old new : Folder) : Type 0 where
  pub segments : SameSegments old new
  pub images : (id : ℕ) → SameImage id old new

pub segments_back : {old new : Folder} → SameSegments old new → SameSegments new old
segments_back p = record { files = λ n first begins. sym (p.files n first begins) }

pub image_back : {id : ℕ} {old new : Folder} → SameImage id old new → SameImage id new old
image_back p = record { image = sym p.image; digest = sym p.digest }

pub log_back : {old new : Folder} → SameLog old new → SameLog new old
log_back p = record { segments = segments_back p.segments; images = λ id. image_back (p.images id) }

-- ---- records

module _ (layout : ℤ) (old new : Folder) (same : SameSegments old new) where
  pub holds_same : (n : FileName) (r : Record) → HoldsRecord old layout n r → HoldsRecord new layout n r
  holds_same n r h = record {
    ranged = h.ranged;
    first = h.first;
    begins = h.begins;
    bytes = h.bytes;
    there = same.files n h.first h.begins ∙ h.there;
    small = h.small;
    run = h.run;
    intact = h.intact;
    has = h.has;
    within = h.within;
  }

module _ (layout : ℤ) (old new : Folder) (same : SameSegments old new) where
  pub record_same : (r : Record) → IsRecordOf old layout r → IsRecordOf new layout r
  record_same r p = record {
    name = p.name;
    holds = holds_same layout old new same p.name r p.holds;
    first = λ other s before e h. p.first other s before e (holds_same layout new old (segments_back same) other s h);
  }

  pub none_same : (last : ℕ) → HasNoneAfter old layout last → HasNoneAfter new layout last
  none_same last none n r above h = none n r above (holds_same layout new old (segments_back same) n r h)

module _ (layout : ℤ) (old new : Folder) (same : SameSegments old new) where
  pub next_same : (at : Reached) (r : Record) → IsNextRecord old layout at r → IsNextRecord new layout at r
  next_same at r p = record { next = p.next; its = record_same layout old new same r p.its; fits = p.fits }

  pub leads_same : (at : Reached) (rs : List Record) (end : Reached) → Leads old layout at rs end → Leads new layout at rs end
  leads_same at [] end p = p
  leads_same at (r ∷ rs) end p = (next_same at r p.0, leads_same (after r at) rs end p.1)

module _ (layout : ℤ) (old new : Folder) (same : SameSegments old new) where
  pub end_same : (end : Reached) → IsEnd old layout end → IsEnd new layout end
  end_same end p r next = p r (next_same layout new old (segments_back same) end r next)

-- records that lead to one place, and from there to another
pub joined : (layout : ℤ) (folder : Folder) (at mid end : Reached) (rs qs : List Record) → Leads folder layout at rs mid → Leads folder layout mid qs end → Leads folder layout at (rs ++ qs) end
joined layout folder at mid end [] qs p q = subst (λ (x : Reached). Leads folder layout x qs end) p q
joined layout folder at mid end (r ∷ rs) qs p q = (p.0, joined layout folder (after r at) mid end rs qs p.1 q)

-- a folder that has no record of a later id has none of the next
pub none_after_bare : (folder : Folder) (version : Version) (end : Reached) → HasNoneAfter folder version.layout end.last → EndsBare folder version end
none_after_bare folder version end none name r is = none name r (omega (arith, is))

-- ---- chains

module _ (version : Version) (old new : Folder) where
  pub intact_same : (id : ℕ) (ns : Namespace) → SameImage id old new → IsIntact old version id ns → IsIntact new version id ns
  intact_same id ns same p = record { bytes = p.bytes; there = same.image ∙ p.there; digest = same.digest ∙ p.digest; image = p.image }

  -- with the same segments, and the same newest image, the chain is the same
  pub chain_kept : SameSegments old new → (end : Reached) (p : IsChain old version end) → SameImage p.image old new → IsNewest new version p.image → IsChain new version end
  chain_kept same end p image newest = record {
    image = p.image;
    newest = newest;
    from = record {
      base = p.from.base;
      intact = intact_same p.image p.from.base image p.from.intact;
      records = p.from.records;
      leads = leads_same version.layout old new same (record { last = p.image; ns = p.from.base }) p.from.records end p.from.leads;
      ends = end_same version.layout old new same end p.from.ends;
    };
  }

module _ (version : Version) (old new : Folder) (same : SameLog old new) where
  pub newest_same : (image : ℕ) → IsNewest old version image → IsNewest new version image
  newest_same image p = record {
    intact = (p.intact.0, intact_same version old new image p.intact.0 (same.images image) p.intact.1);
    last = λ later above has. p.last later above (has.0, intact_same version new old later has.0 (image_back (same.images later)) has.1);
  }

  pub chain_same : (end : Reached) → IsChain old version end → IsChain new version end
  chain_same end p = chain_kept version old new same.segments end p (same.images p.image) (newest_same p.image p.newest)

  pub bare_same : (end : Reached) → EndsBare old version end → EndsBare new version end
  bare_same end bare name r is h = bare name r is (holds_same version.layout new old (segments_back same.segments) name r h)
