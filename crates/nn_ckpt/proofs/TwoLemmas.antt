-- A directory with two images: what a purging keeps of it, what a stop leaves, and what that makes of it once it was pruned.
use Rattle.std.proofs.Common.{◌≡◌, ◌≢◌, inl, inr, ⊎_elim, ℕ, ◌+◌, ◌<◌, ◌≤◌, List, Option, Some, None, refl, sym, ◌∙◌, subst, arith}
use Rattle.std.proofs.lemmas.Bool.{cases_order}
use Rattle.std.proofs.lemmas.Option.{none-some}
use Rattle.nn_base.specs.declared.sub.Sub.TheVariants.{Current}
use Rattle.nn_base.specs.declared.file_name.FileName.{FileName}
use Rattle.nn_base.specs.declared.file_name.FileName.TheVariants as name
use Rattle.nn_host.specs.Disk.{Disk, Reads, File, Leaves, LeavesFile}
use Rattle.nn_host.specs.Moments.{disk_at}
use Rattle.nn_host.proofs.CleanLemmas.{reading}
use Rattle.nn_marks.specs.declared.version.Version.{Version}
use Rattle.nn_tree.specs.Namespace.{Namespace}
use Rattle.nn_chain.specs.Folder.{folder_at}
use Rattle.nn_chain.specs.Images.{IsIntact}
use Rattle.nn_chain.specs.Chain.{IsChain, IsChainFrom}
use Rattle.nn_chain.specs.Fair.{IsFair}
use Rattle.nn_chain.proofs.ChainLemmas.{one_intact}
use Rattle.nn_segment_file.specs.Log.{Shared, EndsWithin, Rests, without}
use Rattle.nn_segment_file.specs.Stages.{Stage, Ended, Going, StandsAt, last_of}
use Rattle.nn_segment_file.proofs.StageLemmas.{stage_logs}
use Rattle.nn_steps.proofs.CutLemmas.{left_none}
use Rattle.nn_steps.proofs.SeatLemmas.{reads_whole, reads_fair}
use Rattle.nn_ckpt.specs.Retention.{IsThere, Stays, IsOlder, IsPruned}
use Rattle.nn_ckpt.specs.Checkpointed.{HasLastImage, HasTwoImages, IsLedTo, IsCheckpointed}
use Rattle.nn_ckpt.specs.Laws.{ImagesAreBefore, PurgingKeepsTwo, PurgedIsPruned, TwoAreCheckpointed}
use Rattle.nn_ckpt.proofs.SpanLemmas.{leads_up, led_stays, chain_joined}
use Rattle.nn_ckpt.proofs.TrimmedLemmas.{trimmed_left, trimmed_none, trimmed_intact, trimmed_records}
use Rattle.nn_ckpt.proofs.LastLemmas.{IsLast, last_of_has, last_intact, last_there, none_later, chain_begins, chain_from, purging_trimmed, last_trimmed}
use Rattle.nn_ckpt.proofs.PurgingLemmas.{trimmed_last, last_without}

-- ---- two images

two_last : (version : Version) (list : Shared) (older id : ℕ) (d : Disk) → HasTwoImages version list older id d → IsLast version id (list id) d
two_last version list older id d two = record { whole = two.whole; later = λ other above. (let less = two.less in two.later other (omega (arith, less, above)) (λ e. omega (arith, e, above))) }

pub two_has_last : (version : Version) (list : Shared) (older id last : ℕ) (d : Disk) → HasTwoImages version list older id d → id ≤ last → HasLastImage version list last d
two_has_last version list older id last d two low =
    let is = two_last version list older id d two in
    record { id = id; whole = is.whole; low = low; later = is.later }

-- a stop takes no file away
pub none_before : (f : Option File) (w : Option (List ℕ)) → LeavesFile f w → w ≡ None → f ≡ None
none_before None w l e = refl
none_before (Some f) None l e = absurd l
none_before (Some f) (Some bytes) l e = absurd (none-some bytes (sym e))

module _ (version : Version) (list : Shared) (older id : ℕ) (d : Disk) (two : HasTwoImages version list older id d) where
  older_on_disk : d.file Current (name.Image older) ≡ None → ⊥
  older_on_disk none =
      let led = two.leads (reading d) (reads_whole d) (reads_fair d) in
      none-some led.intact.bytes (sym (left_none (d.file Current (name.Image older)) ((reading d).file Current (name.Image older)) ((reads_whole d).files Current (name.Image older)) none) ∙ led.intact.there)

  module _ (c : Reads) (leaves : Leaves d c) where
    older_there : IsThere (folder_at c Current) older
    older_there none = older_on_disk (none_before (d.file Current (name.Image older)) (c.file Current (name.Image older)) (leaves.files Current (name.Image older)) none)

    -- of the images behind the older one only the last is there
    later_is : (other : ℕ) → older < other → IsThere (folder_at c Current) other → other ≡ id
    later_is other above there = elim (cases_order other id) [
      | inl same ↦ same
      | inr (inl less) ↦ absurd (gone (λ e. omega (arith, e, less)))
      | inr (inr more) ↦ absurd (gone (λ e. omega (arith, e, more)))
    ]
      where
        gone : other ≢ id → ⊥
        gone differs = there (left_none (d.file Current (name.Image other)) (c.file Current (name.Image other)) (leaves.files Current (name.Image other)) (two.later other above differs))

    older_stays : Stays (folder_at c Current) older
    older_stays = record {
      there = older_there;
      last = λ a b above more a_there b_there.
          let first = later_is a above a_there in
          let second = later_is b (omega (arith, above, more)) b_there in
          omega (arith, first, second, more);
    }

    -- and no other is the older one of two
    older_is : (other : ℕ) → IsOlder (folder_at c Current) other → other ≡ older
    older_is other is_older = elim (cases_order other older) [
      | inl same ↦ same
      | inr (inl less) ↦ absurd (is_older.stays.last older id less two.less older_there (last_there version id (list id) d (two_last version list older id d two) c leaves))
      | inr (inr more) ↦ (
          let first = later_is other more is_older.stays.there in
          let above = is_older.later.1 in
          let second = later_is is_older.later.0 (omega (arith, more, above)) is_older.later.2 in
          absurd (omega (arith, first, second, above))
          )
    ]

-- ---- a purging

pub purging_keeps_two : PurgingKeepsTwo
purging_keeps_two version list r old d leaves purging older id two =
    let last = two_last version list older id old two in
    let trimmed = purging_trimmed (folder_at r Current) older old d (older_stays version list older id old two r leaves) (λ other is_older. (let e = older_is version list older id old two r leaves other is_older in omega (arith, e))) purging in
    let now = trimmed_last version id (list id) old d (last_trimmed version id (list id) r old d leaves last purging) last in
    record {
      whole = now.whole;
      less = two.less;
      later = λ other above differs. trimmed_none older old d trimmed (name.Image other) (two.later other above differs);
      leads = λ c left fair.
          let it = trimmed_left older old d trimmed c left in
          let led = two.leads it.before it.left (it.fair fair) in
          led_stays version (folder_at it.before Current) (folder_at c Current) older (λ x. older < x) (trimmed_records older old d trimmed c left version.layout) (record { last = id; ns = list id }) (λ x above below. above) led
          (trimmed_intact older old d trimmed c left version led.base led.intact);
    }

-- ---- once it was purged

pub purged_is_pruned : PurgedIsPruned
purged_is_pruned i old new as_read was c leaves = record {
  images = λ id there. record { there = there; last = λ a b above more a_there b_there. not_gone id there (λ stays. stays.last a b above more (was_there a a_there) (was_there b b_there)) };
  digests = λ id none. gone (name.Md5 id) (was.disk.gone (name.Md5 id) (image_went id none));
  named = λ id. gone (name.Ckpt id) (was.disk.gone (name.Ckpt id) tt);
  segments = λ older first end is_older order ended. gone (name.Edits (first, end)) (was.disk.gone (name.Edits (first, end)) (older, older_read older is_older, ended));
}
  where
    gone : (n : FileName) → (disk_at new i).file Current n ≡ None → c.file Current n ≡ None
    gone n none = left_none ((disk_at new i).file Current n) (c.file Current n) (leaves.files Current n) none

    -- an image that isn't left is none that stays
    image_went : (id : ℕ) → c.file Current (name.Image id) ≡ None → ¬ Stays (folder_at (old.reads i) Current) id
    image_went id none stays =
        let left : (disk_at new i).file Current (name.Image id) ≡ None = none_before ((disk_at new i).file Current (name.Image id)) (c.file Current (name.Image id)) (leaves.files Current (name.Image id)) none in
        ⊎_elim
        (λ same. stays.there (left_none ((disk_at old i).file Current (name.Image id)) ((old.reads i).file Current (name.Image id)) (as_read.files Current (name.Image id)) (sym same ∙ left)))
        (λ went. went.0 stays)
        (was.disk.purging.files (name.Image id))

    -- what is left was there as it read
    was_there : (id : ℕ) → IsThere (folder_at c Current) id → IsThere (folder_at (old.reads i) Current) id
    was_there id there none =
        let before = none_before ((disk_at old i).file Current (name.Image id)) ((old.reads i).file Current (name.Image id)) (as_read.files Current (name.Image id)) none in
        there (gone (name.Image id) (⊎_elim (λ same. same ∙ before) (λ went. went.1) (was.disk.purging.files (name.Image id))))

    not_gone : (id : ℕ) → IsThere (folder_at c Current) id → ¬ (¬ Stays (folder_at (old.reads i) Current) id)
    not_gone id there goes = there (gone (name.Image id) (was.disk.gone (name.Image id) goes))

    older_read : (id : ℕ) → IsOlder (folder_at c Current) id → IsOlder (folder_at (old.reads i) Current) id
    older_read id older = record {
      stays = record { there = was_there id older.stays.there; last = λ a b above more a_there b_there. not_gone id older.stays.there (λ stays. stays.last a b above more a_there b_there) };
      later = (older.later.0, older.later.1, was_there older.later.0 older.later.2);
    }

-- ---- where a segment in progress begins

image_before : (version : Version) (list : Shared) (id : ℕ) (ns : Namespace) (end : ℕ) (d : Disk) → IsLast version id ns d → Rests version list end d → id ≤ end
image_before version list id ns end d is rests =
    let it = rests.logs.left (reading d) (reads_whole d) (reads_fair d) in
    let begins = chain_begins version id ns d is (reading d) (reads_whole d) (record { last = it.last; ns = list it.last }) it.ends.chain in
    let up = leads_up (folder_at (reading d) Current) version.layout (record { last = it.ends.chain.image; ns = it.ends.chain.from.base }) it.ends.chain.from.records (record { last = it.last; ns = list it.last }) it.ends.chain.from.leads in
    let most = it.most in
    omega (arith, begins, up, most)

pub images_are_before : ImagesAreBefore
images_are_before version list (Ended end) last d was stands = image_before version list was.id (list was.id) end d (last_of_has version list last d was) stands
images_are_before version list (Going base kept) last d was stands =
    image_before version list was.id (list was.id) base (without (name.InProgress (base + 1)) d) (last_without version was.id (list was.id) (name.InProgress (base + 1)) d (λ other e. cc) (λ e. cc) (last_of_has version list last d was)) stands.writes.rests

-- ---- a checkpoint

module _ (version : Version) (list : Shared) (stage : Stage) (older id : ℕ) (ns : Namespace) (d : Disk) (stands : StandsAt version list stage d) (two : HasTwoImages version list older id d) (same_id : list id ≡ ns) (same_last : list (last_of stage) ≡ ns) (c : Reads) (leaves : Leaves d c) (fair : IsFair d c) where
  last : IsLast version id (list id) d
  last = two_last version list older id d two

  ends : EndsWithin version list (last_of stage) (last_of stage) (folder_at c Current)
  ends = (stage_logs version list stage d stands).left c leaves fair

  chain : IsChain (folder_at c Current) version (record { last = last_of stage; ns = ns })
  chain =
      let least = ends.least in
      let most = ends.most in
      let at : ends.last ≡ last_of stage = omega arith in
      subst (λ (n : Namespace). IsChain (folder_at c Current) version (record { last = last_of stage; ns = n })) same_last (subst (λ (n : ℕ). IsChain (folder_at c Current) version (record { last = n; ns = list n })) at ends.ends.chain)

  from : IsChainFrom (folder_at c Current) version id (record { last = last_of stage; ns = ns })
  from = chain_from version id (list id) d last c leaves (record { last = last_of stage; ns = ns }) chain

  base : list id ≡ from.base
  base = one_intact (folder_at c Current) version id (list id) from.base (last_intact version id (list id) d last c leaves) from.intact

  older_chain : IsChainFrom (folder_at c Current) version older (record { last = last_of stage; ns = ns })
  older_chain = chain_joined (folder_at c Current) version older id (record { last = last_of stage; ns = ns }) from (subst (λ (n : Namespace). IsLedTo (folder_at c Current) version older (record { last = id; ns = n })) base (two.leads c leaves fair))

  checkpointed : IsPruned (folder_at c Current) → IsCheckpointed version id (last_of stage) ns (folder_at c Current)
  checkpointed pruned = record {
    intact = subst (λ (n : Namespace). IsIntact (folder_at c Current) version id n) same_id (last_intact version id (list id) d last c leaves);
    newest = none_later version id (list id) d last c leaves;
    two = (older, record { stays = older_stays version list older id d two c leaves; later = (id, two.less, last_there version id (list id) d last c leaves) });
    pruned = pruned;
    chain = chain;
    older = λ other is_older. subst (λ (n : ℕ). IsChainFrom (folder_at c Current) version n (record { last = last_of stage; ns = ns })) (sym (older_is version list older id d two c leaves other is_older)) older_chain;
  }

pub two_are_checkpointed : TwoAreCheckpointed
two_are_checkpointed version list stage older id ns d stands two same_id same_last pruned c leaves fair = checkpointed version list stage older id ns d stands two same_id same_last c leaves fair (pruned c leaves fair)
