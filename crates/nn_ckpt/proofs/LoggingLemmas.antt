-- A directory whose segments are written to behind an id: its images stay, the records up to that id too, and what was pruned.
use Rattle.std.proofs.Common.{◌≡◌, ◌≢◌, ◌⊎◌, inl, inr, ⊎_elim, ℕ, ◌<◌, ◌≤◌, ℤ, Option, Some, None, refl, sym, ◌∙◌, ap, subst, arith}
use Rattle.std.proofs.lemmas.Bool.{cases_order}
use Rattle.std.proofs.lemmas.Option.{none-some, same_Some}
use Rattle.nn_base.specs.declared.sub.Sub.{Sub}
use Rattle.nn_base.specs.declared.sub.Sub.TheVariants.{Current}
use Rattle.nn_base.specs.declared.file_name.FileName.{FileName}
use Rattle.nn_base.specs.declared.file_name.FileName.TheVariants as name
use Rattle.nn_base.proofs.NamesLemmas.{sub_tells, file_tells}
use Rattle.nn_host.specs.Disk.{Disk, Reads, Leaves}
use Rattle.nn_marks.specs.declared.version.Version.{Version}
use Rattle.nn_record.specs.declared.transaction.Record.{Record}
use Rattle.nn_chain.specs.Folder.{Folder, folder_at}
use Rattle.nn_chain.specs.Records.{first_in, HoldsRecord}
use Rattle.nn_chain.proofs.RecordLemmas.{run_from}
use Rattle.nn_chain.proofs.SameLemmas.{intact_same}
use Rattle.nn_segment_file.specs.Log.{Shared, Beside, IsOfLog}
use Rattle.nn_segment_file.proofs.BesideLemmas.{not_log, older_not_log}
use Rattle.nn_segment_file.proofs.FolderLemmas.{id_in}
use Rattle.nn_steps.proofs.BesideLemmas.{LeftBeside, left_beside}
use Rattle.nn_steps.proofs.LoweringLemmas.{moved}
use Rattle.nn_ckpt.specs.Retention.{IsThere, Stays, IsOlder, IsPruned}
use Rattle.nn_ckpt.specs.Checkpointed.{HasLastImage}
use Rattle.nn_ckpt.specs.Laws.{LoggingKeepsImage, LoggingKeepsTwo, LoggingKeepsPruned}
use Rattle.nn_ckpt.proofs.SpanLemmas.{SameRecords, led_stays}
use Rattle.nn_ckpt.proofs.LastLemmas.{last_of_has, older_below}

-- ---- which files are of the log

behind_tells : (base : ℕ) (n : FileName) (o : Option ℕ) → first_in n ≡ o → n ≢ name.Seen → n ≢ name.SeenTmp → IsOfLog base n ⊎ ¬ IsOfLog base n
behind_tells base n None begins seen tmp = inr (not_log n begins seen tmp)
behind_tells base n (Some first) begins seen tmp = elim (cases_order first base) [
  | inl same ↦ inr (older_not_log n first begins (omega (arith, same)))
  | inr (inl less) ↦ inr (older_not_log n first begins (omega (arith, less)))
  | inr (inr more) ↦ inl (inr (inr (first, begins, more)))
]

log_tells : (base : ℕ) (n : FileName) → IsOfLog base n ⊎ ¬ IsOfLog base n
log_tells base n = elim (file_tells n name.Seen) [
  | inl seen ↦ inl (inl seen.1)
  | inr not_seen ↦ elim (file_tells n name.SeenTmp) [
    | inl tmp ↦ inl (inr (inl tmp.1))
    | inr not_tmp ↦ behind_tells base n (first_in n) refl not_seen.1 not_tmp.1
  ]
]

-- a segment of it begins behind
log_begins : (base : ℕ) (n : FileName) (first : ℕ) → first_in n ≡ Some first → IsOfLog base n → base < first
log_begins base n first begins log = ⊎_elim
    (λ e. absurd (none-some first (sym (ap first_in e) ∙ begins)))
    (λ rest. ⊎_elim
    (λ e. absurd (none-some first (sym (ap first_in e) ∙ begins)))
    (λ (s : (f : ℕ) × (first_in n ≡ Some f) × (base < f)). subst (λ (f : ℕ). base < f) (same_Some s.0 first (sym s.1 ∙ begins)) s.2)
    rest)
    log

-- and so do its records
log_holds : (base : ℕ) (folder : Folder) (layout : ℤ) (n : FileName) (r : Record) → IsOfLog base n → HoldsRecord folder layout n r → base < r.id
log_holds base folder layout n r log h =
    let above = log_begins base n h.first h.begins log in
    let ids = id_in h.first h.run r (run_from h.bytes layout h.first h.run h.intact.run) h.has in
    omega (arith, above, ids)

-- ---- what a stop leaves

module _ (base : ℕ) (old d : Disk) (beside : Beside (IsOfLog base) old d) where
  image_kept : (id : ℕ) → d.file Current (name.Image id) ≡ old.file Current (name.Image id)
  image_kept id = beside.other_files (name.Image id) (not_log (name.Image id) refl (λ e. cc) (λ e. cc))

  digest_kept : (id : ℕ) → d.file Current (name.Md5 id) ≡ old.file Current (name.Md5 id)
  digest_kept id = beside.other_files (name.Md5 id) (not_log (name.Md5 id) refl (λ e. cc) (λ e. cc))

  IsOther : Sub → FileName → Type 0
  IsOther s n = (s ≡ Current) × IsOfLog base n

  decide : (s : Sub) (n : FileName) → (d.file s n ≡ old.file s n) ⊎ IsOther s n
  unfolding IsOther
  decide s n = elim (sub_tells s Current) [
    | inr other ↦ inl (beside.other_subs s n other.1)
    | inl here ↦ ⊎_elim (λ log. inr (here.1, log)) (λ not. inl (subst (λ (q : Sub). d.file q n ≡ old.file q n) (sym here.1) (beside.other_files n not))) (log_tells base n)
  ]

  module _ (c : Reads) (leaves : Leaves d c) where
    it : LeftBeside IsOther old d c
    it = left_beside IsOther old d beside.root beside.subs decide c leaves

    kept : (n : FileName) → ¬ IsOfLog base n → c.file Current n ≡ it.before.file Current n
    unfolding it IsOther
    kept n not = ⊎_elim (λ same. same) (λ other. absurd (not other.1)) (it.files Current n)

    image_left : (id : ℕ) → c.file Current (name.Image id) ≡ it.before.file Current (name.Image id)
    image_left id = kept (name.Image id) (not_log (name.Image id) refl (λ e. cc) (λ e. cc))

    records : (layout : ℤ) → SameRecords layout (λ id. id ≤ base) (folder_at it.before Current) (folder_at c Current)
    records layout = record {
      up = λ n r low h. ⊎_elim
          (λ log. (let high = log_holds base (folder_at it.before Current) layout n r log h in absurd (omega (arith, high, low))))
          (λ not. moved (folder_at it.before Current) (folder_at c Current) layout n r (kept n not) h)
          (log_tells base n);
      down = λ n r low h. ⊎_elim
          (λ log. (let high = log_holds base (folder_at c Current) layout n r log h in absurd (omega (arith, high, low))))
          (λ not. moved (folder_at c Current) (folder_at it.before Current) layout n r (sym (kept n not)) h)
          (log_tells base n);
    }

    -- ---- what was pruned

    there_before : (id : ℕ) → IsThere (folder_at c Current) id → IsThere (folder_at it.before Current) id
    there_before id there none = there (image_left id ∙ none)

    there_now : (id : ℕ) → IsThere (folder_at it.before Current) id → IsThere (folder_at c Current) id
    there_now id there none = there (sym (image_left id) ∙ none)

    stays_now : (id : ℕ) → Stays (folder_at it.before Current) id → Stays (folder_at c Current) id
    stays_now id stays = record { there = there_now id stays.there; last = λ a b above more a_there b_there. stays.last a b above more (there_before a a_there) (there_before b b_there) }

    older_before : (id : ℕ) → IsOlder (folder_at c Current) id → IsOlder (folder_at it.before Current) id
    older_before id older = record {
      stays = record { there = there_before id older.stays.there; last = λ a b above more a_there b_there. older.stays.last a b above more (there_now a a_there) (there_now b b_there) };
      later = (older.later.0, older.later.1, there_before older.later.0 older.later.2);
    }

    pruned_left : (version : Version) (list : Shared) (last : ℕ) (was : HasLastImage version list last old) → was.id ≤ base → IsPruned (folder_at it.before Current) → IsPruned (folder_at c Current)
    unfolding it
    pruned_left version list last was low pruned = record {
      images = λ id there. stays_now id (pruned.images id (there_before id there));
      digests = λ id none. kept (name.Md5 id) (not_log (name.Md5 id) refl (λ e. cc) (λ e. cc)) ∙ pruned.digests id (sym (image_left id) ∙ none);
      named = λ id. kept (name.Ckpt id) (not_log (name.Ckpt id) refl (λ e. cc) (λ e. cc)) ∙ pruned.named id;
      segments = λ older first end is_older order ended.
          let was_older = older_before older is_older in
          let below = older_below version was.id (list was.id) old (last_of_has version list last old was) it.before it.left older was_older in
          let begins : first ≤ base = omega (arith, order, ended, below, low) in
          kept (name.Edits (first, end)) (older_not_log (name.Edits (first, end)) first refl begins) ∙ pruned.segments older first end was_older order ended;
    }

-- ---- the laws

pub logging_keeps_image : LoggingKeepsImage
logging_keeps_image version list base last after old d was up beside = record {
  id = was.id;
  whole = record { bytes = was.whole.bytes; image = was.whole.image; stands = record { image = image_kept base old d beside was.id ∙ was.whole.stands.image; digest = digest_kept base old d beside was.id ∙ was.whole.stands.digest } };
  low = (let low = was.low in omega (arith, low, up));
  later = λ other above. image_kept base old d beside other ∙ was.later other above;
}

pub logging_keeps_two : LoggingKeepsTwo
unfolding it
logging_keeps_two version list older id base old d was low beside = record {
  whole = record { bytes = was.whole.bytes; image = was.whole.image; stands = record { image = image_kept base old d beside id ∙ was.whole.stands.image; digest = digest_kept base old d beside id ∙ was.whole.stands.digest } };
  less = was.less;
  later = λ other above differs. image_kept base old d beside other ∙ was.later other above differs;
  leads = λ c leaves fair.
      let left = it base old d beside c leaves in
      let led = was.leads left.before left.left (left.fair fair) in
      led_stays version (folder_at left.before Current) (folder_at c Current) older (λ x. x ≤ base) (records base old d beside c leaves version.layout) (record { last = id; ns = list id }) (λ x above below. omega (arith, below, low)) led
      (intact_same version (folder_at left.before Current) (folder_at c Current) older led.base
      (record { image = image_left base old d beside c leaves older; digest = kept base old d beside c leaves (name.Md5 older) (not_log (name.Md5 older) refl (λ e. cc) (λ e. cc)) }) led.intact);
}

pub logging_keeps_pruned : LoggingKeepsPruned
unfolding it
logging_keeps_pruned version list base last old d was low beside pruned c leaves fair =
    let left = it base old d beside c leaves in
    pruned_left base old d beside c leaves version list last was low (pruned left.before left.left (left.fair fair))
