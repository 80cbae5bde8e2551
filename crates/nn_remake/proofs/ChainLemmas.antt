-- The chain of a folder and of one that differs in the files of one image.
use Rattle.std.proofs.Common.{◌≡◌, ◌≢◌, ◌⊎◌, inl, inr, ℕ, ◌<◌, List, [], ◌++◌, None, refl, sym, ◌∙◌, ap, subst, arith}
use Rattle.std.proofs.lemmas.Bool.{cases_order}
use Rattle.std.proofs.lemmas.Bool.Decides.{eqb_tells}
use Rattle.nn_base.specs.declared.file_name.FileName.{FileName}
use Rattle.nn_base.specs.declared.file_name.FileName.TheVariants.{Image, Md5, Md5Tmp, Ckpt}
use Rattle.nn_base.specs.Names.{first_id}
use Rattle.nn_marks.specs.declared.version.Version.{Version}
use Rattle.nn_tree.specs.Namespace.{Namespace}
use Rattle.nn_record.specs.declared.transaction.Record.{Record}
use Rattle.nn_chain.specs.Folder.{Folder}
use Rattle.nn_chain.specs.Images.{HasIntact, IsIntact, IsNewest}
use Rattle.nn_chain.specs.Chain.{Reached, Leads, IsEnd, IsChain}
use Rattle.nn_chain.proofs.SameLemmas.{SameSegments, SameImage, not_segment, leads_same, end_same, joined, intact_same, chain_kept}
use Rattle.nn_remake.specs.Rank.{IsChainThrough, HasNone, KeepsRank}

-- the same files, but for those of the image of this id
pub record SameBut (id : ℕ) (old new : Folder) : Type 0 where
  pub others : (n : FileName) → n ≢ Image id → n ≢ Md5 id → n ≢ Ckpt id → n ≢ Md5Tmp id → new n ≡ old n

pub same_sym : {id : ℕ} {old new : Folder} → SameBut id old new → SameBut id new old
same_sym same = record { others = λ n w x y z. sym (same.others n w x y z) }

pub same_segments : {id : ℕ} {old new : Folder} → SameBut id old new → SameSegments old new
same_segments {id} same = record {
  files = λ n first begins.
      same.others n (not_segment n (Image id) first refl begins) (not_segment n (Md5 id) first refl begins) (not_segment n (Ckpt id) first refl begins) (not_segment n (Md5Tmp id) first refl begins);
}

-- another image
same_image : {id : ℕ} {old new : Folder} → SameBut id old new → (other : ℕ) → other ≢ id → SameImage other old new
same_image same other ne = record {
  image = same.others (Image other) (λ e. ne (ap first_id e)) (λ e. cc) (λ e. cc) (λ e. cc);
  digest = same.others (Md5 other) (λ e. cc) (λ e. ne (ap first_id e)) (λ e. cc) (λ e. cc);
}

-- which of two ids is the later one
apart_by : (a b : ℕ) → b ≢ a → (a < b) ⊎ (b < a)
apart_by a b ne = elim (cases_order a b) [ inl is ↦ absurd (ne (sym is)) | inr order ↦ order ]

-- ---- chains

-- a chain through a place is a chain
abbrev pub whole_chain : (folder : Folder) (version : Version) (at end : Reached) → IsChainThrough folder version at end → IsChain folder version end
whole_chain folder version at end p = record {
  image = p.image;
  newest = p.newest;
  from = record {
    base = p.base;
    intact = p.intact;
    records = p.before ++ p.behind;
    leads = joined version.layout folder (record { last = p.image; ns = p.base }) at end p.before p.behind p.leads p.goes_on;
    ends = p.ends;
  };
}

module _ (version : Version) (id : ℕ) where
  module _ (old new : Folder) (same : SameBut id old new) (unsound : ¬ HasIntact old version id) where
    not_it : (image : ℕ) → HasIntact old version image → image ≢ id
    not_it image has e = unsound (subst (λ (n : ℕ). HasIntact old version n) e has)

    others_kept : (image : ℕ) → HasIntact old version image → HasIntact new version image
    others_kept image has = (has.0, intact_same version old new image has.0 (same_image same image (not_it image has)) has.1)

    others_were : (image : ℕ) → image ≢ id → HasIntact new version image → HasIntact old version image
    others_were image ne has = (has.0, intact_same version new old image has.0 (same_image (same_sym same) image ne) has.1)

    -- ---- the image isn't there

    module _ (gone : new (Image id) ≡ None) where
      none_there : ¬ HasIntact new version id
      none_there (ns, intact) = let apart = sym gone ∙ intact.there in cc

      still_none : HasNone old version → HasNone new version
      still_none none image has = elim (eqb_tells image id) [
        | inl is ↦ none_there (subst (λ (n : ℕ). HasIntact new version n) is.1 has)
        | inr differs ↦ none image (others_were image differs.1 has)
      ]

      still_newest : (image : ℕ) → IsNewest old version image → IsNewest new version image
      still_newest image p = record {
        intact = others_kept image p.intact;
        last = λ later above has. elim (eqb_tells later id) [
          | inl is ↦ none_there (subst (λ (n : ℕ). HasIntact new version n) is.1 has)
          | inr differs ↦ p.last later above (others_were later differs.1 has)
        ];
      }

      still_chain : (end : Reached) → IsChain old version end → IsChain new version end
      still_chain end p = chain_kept version old new (same_segments same) end p (same_image same p.image (not_it p.image p.newest.intact)) (still_newest p.image p.newest)

      pub rank_without : (at : Reached) → KeepsRank version at old new
      rank_without at = record {
        through = λ end p. still_chain end (whole_chain old version at end p);
        last = λ bare end p. inl (still_chain end p);
        none = λ bare none. inl (still_none none);
      }

    -- ---- the image is there, intact

    module _ (ns : Namespace) (intact : IsIntact new version id ns) where
      -- it is the newest, where no later one was intact
      newest_here : ((later : ℕ) → id < later → ¬ HasIntact old version later) → IsNewest new version id
      newest_here none = record { intact = (ns, intact); last = λ later above has. none later above (others_were later (λ e. let same : later ≡ id = e in omega (arith, above, same)) has) }

      -- and isn't, where a later one was
      newest_later : (image : ℕ) → id < image → IsNewest old version image → IsNewest new version image
      newest_later image above p = record {
        intact = others_kept image p.intact;
        last = λ later over has. p.last later over (others_were later (λ e. let same : later ≡ id = e in omega (arith, above, over, same)) has);
      }

      chain_here : IsNewest new version id → (rs : List Record) (end : Reached) → Leads old version.layout (record { last = id; ns = ns }) rs end → IsEnd old version.layout end → IsChain new version end
      chain_here newest rs end leads ends = record {
        image = id;
        newest = newest;
        from = record {
          base = ns;
          intact = intact;
          records = rs;
          leads = leads_same version.layout old new (same_segments same) (record { last = id; ns = ns }) rs end leads;
          ends = end_same version.layout old new (same_segments same) end ends;
        };
      }

      none_later : (image : ℕ) → image < id → IsNewest old version image → (later : ℕ) → id < later → ¬ HasIntact old version later
      none_later image below p later above has = p.last later (omega (arith, below, above)) has

      pub rank_with : KeepsRank version (record { last = id; ns = ns }) old new
      rank_with = record {
        through = λ end p. elim (apart_by id p.image (not_it p.image p.newest.intact)) [
          | inl above ↦ let whole = whole_chain old version (record { last = id; ns = ns }) end p in chain_kept version old new (same_segments same) end whole (same_image same p.image (not_it p.image p.newest.intact)) (newest_later p.image above p.newest)
          | inr below ↦ chain_here (newest_here (none_later p.image below p.newest)) p.behind end p.goes_on p.ends
        ];
        last = λ bare end p. elim (apart_by id p.image (not_it p.image p.newest.intact)) [
          | inl above ↦ inl (chain_kept version old new (same_segments same) end p (same_image same p.image (not_it p.image p.newest.intact)) (newest_later p.image above p.newest))
          | inr below ↦ inr (chain_here (newest_here (none_later p.image below p.newest)) [] (record { last = id; ns = ns }) refl bare)
        ];
        none = λ bare none. inr (chain_here (newest_here (λ later above. none later)) [] (record { last = id; ns = ns }) refl bare);
      }

-- nothing was changed
pub rank_same : (version : Version) (at : Reached) (folder : Folder) → KeepsRank version at folder folder
rank_same version at folder = record {
  through = λ end p. whole_chain folder version at end p;
  last = λ bare end p. inl p;
  none = λ bare none. inl none;
}
