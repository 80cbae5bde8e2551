-- The calls by which a folder is cut down: what it is at each moment of them, and once they returned.
use Rattle.std.proofs.Common.{◌≡◌, ℕ, List, sym, subst}
use Rattle.std.specs.List.{filter}
use Rattle.nn_base.specs.declared.sub.Sub.TheVariants.{Current}
use Rattle.nn_base.specs.declared.file_name.FileName.{FileName}
use Rattle.nn_host.specs.Disk.{Disk, Reads}
use Rattle.nn_host.specs.Listing.{IsListing}
use Rattle.nn_host.specs.Moments.{State, IsLawful, disk_at}
use Rattle.nn_host.specs.Runs.{OnlyAt}
use Rattle.nn_host.proofs.WorkLemmas.{work_trans, work_weaker}
use Rattle.nn_remake.specs.Removing.{is_segment, is_later_image, IsWithout, IsCutBack, WasWithout}
use Rattle.nn_remake.specs.Cutting.{IsCutting, WasCutDown}
use Rattle.nn_remake.proofs.CuttingLemmas.{IsListed, listed, listed_disk, cut_none, cut_segments, cut_mid, no_segment, cut_images, cut_all}

pub cutting_looked : {told : Type 0} {i : ℕ} {a b : State} (id : ℕ) → OnlyAt told i a b (λ d. d ≡ disk_at a i) → OnlyAt told i a b (IsCutting id (disk_at a i))
cutting_looked {i = i} {a = a} id p = work_weaker p (λ tells d same. subst (IsCutting id (disk_at a i)) (sym same) (cut_none id (disk_at a i)))

module _ {told : Type 0} {i : ℕ} {a b : State} (id : ℕ) (names : List FileName) (lawful : told → IsLawful a) (list : told → IsListing (a.reads i) Current names) (look : OnlyAt told i a b (λ d. d ≡ disk_at a i)) where
  list_reads : told → IsListed names (a.reads i)
  list_reads tells = listed (a.reads i) names (list tells)

  list_disk : told → IsListed names (disk_at a i)
  list_disk tells = listed_disk (disk_at a i) (a.reads i) names ((lawful tells).reads i) (list_reads tells)

  module _ (segments : List FileName) (which : segments ≡ filter is_segment names) where
    pub segments_run : {c : State} → OnlyAt told i b c (IsCutBack segments (disk_at b i)) → OnlyAt told i a c (IsCutting id (disk_at a i))
    segments_run p = work_trans (cutting_looked id look) (work_weaker p (λ tells d is. cut_segments id names (disk_at a i) (list_disk tells) d
        (subst (λ (xs : List FileName). IsCutBack xs (disk_at a i) d) which (subst (λ (x : Disk). IsCutBack segments x d) (look.ends tells) is))))

    module _ {c : State} (read : told → b.reads i ≡ a.reads i) (was : told → WasWithout segments i b c) where
      mid_disk : told → IsWithout (filter is_segment names) (disk_at a i) (disk_at c i)
      mid_disk tells = subst (λ (xs : List FileName). IsWithout xs (disk_at a i) (disk_at c i)) which (subst (λ (x : Disk). IsWithout segments x (disk_at c i)) (look.ends tells) (was tells).disk)

      mid_reads : told → IsWithout (filter is_segment names) (a.reads i) (c.reads i)
      mid_reads tells = subst (λ (xs : List FileName). IsWithout xs (a.reads i) (c.reads i)) which (subst (λ (x : Reads). IsWithout segments x (c.reads i)) (read tells) (was tells).reads)

      module _ (images : List FileName) (later : images ≡ filter (is_later_image id) names) where
        pub images_run : {e : State} → OnlyAt told i b c (IsCutBack segments (disk_at b i)) → OnlyAt told i c e (IsCutBack images (disk_at c i)) → OnlyAt told i a e (IsCutting id (disk_at a i))
        images_run p q = work_trans (segments_run p) (work_weaker q (λ tells d is.
            cut_images id names (disk_at a i) (list_disk tells) (disk_at c i) d (cut_mid id names (disk_at a i) (list_disk tells) (disk_at c i) (mid_disk tells)) (no_segment id names (disk_at a i) (list_disk tells) (disk_at c i) (mid_disk tells))
            (subst (λ (xs : List FileName). IsCutBack xs (disk_at c i) d) later is)))

        pub images_was : {e : State} → (told → WasWithout images i c e) → told → WasCutDown id i a e
        images_was {e} last tells = record {
          disk = cut_all id names (disk_at a i) (list_disk tells) (disk_at c i) (disk_at e i) (cut_mid id names (disk_at a i) (list_disk tells) (disk_at c i) (mid_disk tells)) (no_segment id names (disk_at a i) (list_disk tells) (disk_at c i) (mid_disk tells))
              (subst (λ (xs : List FileName). IsWithout xs (disk_at c i) (disk_at e i)) later (last tells).disk);
          reads = cut_all id names (a.reads i) (list_reads tells) (c.reads i) (e.reads i) (cut_mid id names (a.reads i) (list_reads tells) (c.reads i) (mid_reads tells)) (no_segment id names (a.reads i) (list_reads tells) (c.reads i) (mid_reads tells))
              (subst (λ (xs : List FileName). IsWithout xs (c.reads i) (e.reads i)) later (last tells).reads);
        }
