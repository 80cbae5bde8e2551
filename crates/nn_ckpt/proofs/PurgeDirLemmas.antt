-- The calls by which one directory is purged: what it is at each moment of them, and once they returned.
use Rattle.std.proofs.Common.{◌≡◌, ◌≢◌, inl, inr, ⊎_elim, ℕ, List, Contains, Option, Some, None, true, refl, sym, ◌∙◌, subst}
use Rattle.std.specs.Prelude.{is_some}
use Rattle.std.proofs.lemmas.List.Elements.{Contains-append_right}
use Rattle.std.proofs.lemmas.Option.{none-some}
use Rattle.nn_base.specs.declared.sub.Sub.TheVariants.{Current}
use Rattle.nn_base.specs.declared.file_name.FileName.{FileName}
use Rattle.nn_host.specs.Disk.{Held, Disk, Reads}
use Rattle.nn_host.specs.Listing.{IsListing}
use Rattle.nn_host.specs.Moments.{State, IsLawful, disk_at}
use Rattle.nn_host.specs.Runs.{OnlyAt}
use Rattle.nn_host.proofs.WorkLemmas.{work_trans, work_weaker}
use Rattle.nn_chain.specs.Folder.{folder_at}
use Rattle.nn_remake.specs.Removing.{IsWithout, IsCutBack, WasWithout}
use Rattle.nn_remake.proofs.CuttingLemmas.{contains_or}
use Rattle.nn_ckpt.specs.Retention.{Goes, ArePurged, IsPurging, IsPurged, WasPurged}
use Rattle.nn_ckpt.proofs.PurgeLemmas.{purging_none}
use Rattle.nn_ckpt.proofs.TwoLemmas.{none_before}

-- ---- one directory

some_of : (f : Option (List ℕ)) → f ≢ None → is_some f ≡ true
some_of None there = absurd (there refl)
some_of (Some bytes) there = refl

not_none : (f : Option (List ℕ)) → is_some f ≡ true → f ≢ None
not_none None e = λ same. cc
not_none (Some bytes) e = λ same. absurd (none-some bytes (sym same))

module _ (r : Reads) (names found : List FileName) (list : IsListing r Current names) (purged : ArePurged names found) where
  all_there : (n : FileName) → Contains names n → folder_at r Current n ≢ None
  all_there n has = not_none (r.file Current n) (list.only n has)

  only_there : (n : FileName) → folder_at r Current n ≢ None → Contains names n
  only_there n there = list.all n (some_of (r.file Current n) there)

  found_goes : (n : FileName) → Contains found n → Goes (folder_at r Current) n
  found_goes n has = purged.only (folder_at r Current) all_there only_there n has

  module _ {A : Type 0} (old d : Held A) where
    -- while some of them are gone
    without_purging : (gone : List FileName) → ((n : FileName) → Contains gone n → Goes (folder_at r Current) n) → IsWithout gone old d → IsPurging (folder_at r Current) old d
    without_purging gone goes is = record {
      root = is.root;
      subs = is.subs;
      other_subs = is.other_subs;
      files = λ n. ⊎_elim (λ has. inr (goes n has, is.removed n has)) (λ not. inl (is.kept n not)) (contains_or gone n);
    }

    cut_purging : IsCutBack found old d → IsPurging (folder_at r Current) old d
    cut_purging is = without_purging is.gone (λ n has. found_goes n (subst (λ (l : List FileName). Contains l n) (sym is.split) (Contains-append_right is.left is.gone n has))) is.without

    -- a file that isn't found goes nowhere
    none_left : ((n : FileName) → r.file Current n ≡ None → old.file Current n ≡ None) → (n : FileName) → Goes (folder_at r Current) n → ¬ Contains found n → (f : Option (List ℕ)) → r.file Current n ≡ f → old.file Current n ≡ None
    none_left absent n goes not None e = absent n e
    none_left absent n goes not (Some bytes) e = absurd (not (purged.all (folder_at r Current) all_there only_there n (λ none. none-some bytes (sym none ∙ e)) goes))

    -- once all are
    all_purged : ((n : FileName) → r.file Current n ≡ None → old.file Current n ≡ None) → IsWithout found old d → IsPurged (folder_at r Current) old d
    all_purged absent is = record {
      purging = without_purging found found_goes is;
      gone = λ n goes. ⊎_elim (λ has. is.removed n has) (λ not. is.kept n not ∙ none_left absent n goes not (r.file Current n) refl) (contains_or found n);
    }

-- ---- the calls

module _ {told : Type 0} {i : ℕ} {a b : State} (look : OnlyAt told i a b (λ d. d ≡ disk_at a i)) where
  pub purge_looked : OnlyAt told i a b (IsPurging (folder_at (a.reads i) Current) (disk_at a i))
  purge_looked = work_weaker look (λ tells d same. subst (IsPurging (folder_at (a.reads i) Current) (disk_at a i)) (sym same) (purging_none (a.reads i) (disk_at a i)))

  module _ {c : State} (names found : List FileName) (list : told → IsListing (a.reads i) Current names) (purged : ArePurged names found) where
    pub purge_run : OnlyAt told i b c (IsCutBack found (disk_at b i)) → OnlyAt told i a c (IsPurging (folder_at (a.reads i) Current) (disk_at a i))
    purge_run p = work_trans purge_looked (work_weaker p (λ tells d is. cut_purging (a.reads i) names found (list tells) purged (disk_at a i) d (subst (λ (x : Disk). IsCutBack found x d) (look.ends tells) is)))

    pub purge_was : (told → IsLawful a) → (told → b.reads i ≡ a.reads i) → (told → WasWithout found i b c) → told → WasPurged i a c
    purge_was lawful read was tells = record {
      disk = all_purged (a.reads i) names found (list tells) purged (disk_at a i) (disk_at c i)
          (λ n none. none_before ((disk_at a i).file Current n) ((a.reads i).file Current n) (((lawful tells).reads i).files Current n) none)
          (subst (λ (x : Disk). IsWithout found x (disk_at c i)) (look.ends tells) (was tells).disk);
      reads = all_purged (a.reads i) names found (list tells) purged (a.reads i) (c.reads i) (λ n none. none) (subst (λ (x : Reads). IsWithout found x (c.reads i)) (read tells) (was tells).reads);
    }
