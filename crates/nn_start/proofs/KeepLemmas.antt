-- What stays of what served in a directory while others are published, tidied and written beside it.
use Rattle.std.proofs.Common.{◌≡◌, inl, inr, ⊎_elim, ℕ, Bool, true, false, Option, None, refl, sym, ◌∙◌, ap, subst, arith, true≢false, le-ltb, ltb-true}
use Rattle.std.specs.Prelude.{is_some}
use Rattle.std.proofs.lemmas.Bool.{cases_Bool}
use Rattle.nn_base.specs.declared.file_name.FileName.{FileName}
use Rattle.nn_base.specs.declared.file_name.FileName.TheVariants as name
use Rattle.nn_base.specs.declared.sub.Sub.TheVariants.{Previous}
use Rattle.nn_host.specs.Disk.{Disk, File}
use Rattle.nn_host.specs.Moments.{Dir, State, disk_at}
use Rattle.nn_marks.specs.declared.version.Version.{Version}
use Rattle.nn_state.specs.Table.{seven_of}
use Rattle.nn_state.specs.Recovery.{IsRecovered}
use Rattle.nn_state.proofs.TableLemmas.{seven_by}
use Rattle.nn_chain.specs.Folder.{Folder}
use Rattle.nn_chain.specs.Records.{first_in}
use Rattle.nn_segment_file.specs.Log.{Beside, IsOfLog}
use Rattle.nn_segment_file.proofs.BesideLemmas.{beside_weaker}
use Rattle.nn_remake.specs.Publishing.{BesideImage}
use Rattle.nn_remake.specs.Removing.{is_later_image}
use Rattle.nn_remake.specs.Tidying.{IsTidying, is_unnamed}
use Rattle.nn_remake.proofs.TidyingLemmas.{tidying_stays}
use Rattle.nn_open.specs.Answers.{settled_disk}
use Rattle.nn_start.specs.Entry.{AllReopened}
use Rattle.nn_start.specs.Bringing.{IsAsItWas}
use Rattle.nn_start.specs.Keeping.{is_older, IsYounger, KeepsOwn, ChosenKeepOwn}

-- ---- which files are touched

older_stays : (id : ℕ) (n : FileName) → is_older id n ≡ true → (is_unnamed n ≡ false) × (is_later_image id n ≡ false) × (first_in n ≡ None)
older_stays id name.Version e = (refl, refl, refl)
older_stays id (name.Image other) e = (refl, le-ltb id other (let less = ltb-true other id e in omega (arith, less)), refl)
older_stays id (name.Md5 other) e = (refl, refl, refl)
older_stays id name.VersionTmp e = absurd (true≢false (sym e))
older_stays id name.Seen e = absurd (true≢false (sym e))
older_stays id name.SeenTmp e = absurd (true≢false (sym e))
older_stays id (name.Md5Tmp other) e = absurd (true≢false (sym e))
older_stays id (name.Ckpt other) e = absurd (true≢false (sym e))
older_stays id (name.Edits span) e = absurd (true≢false (sym e))
older_stays id (name.InProgress first) e = absurd (true≢false (sym e))

is_young : (id : ℕ) (n : FileName) → ¬ (is_older id n ≡ true) → IsYounger id n
is_young id n none = elim (cases_Bool (is_older id n)) [ inl is ↦ absurd (none is) | inr isnt ↦ isnt ]

is_older_by : (id : ℕ) (n : FileName) → ¬ IsYounger id n → is_older id n ≡ true
is_older_by id n none = elim (cases_Bool (is_older id n)) [ inl is ↦ is | inr isnt ↦ absurd (none isnt) ]

-- the image of this id isn't one of an earlier id
pub image_young : (id : ℕ) (old d : Disk) → BesideImage id old d → Beside (IsYounger id) old d
image_young id old d p = record {
  root = p.root;
  subs = p.subs;
  other_subs = p.other_subs;
  other_files = λ n out. p.other_files n
      (λ e. out (ap (is_older id) e ∙ le-ltb id id (omega arith)))
      (λ e. out (ap (is_older id) e ∙ le-ltb id id (omega arith)))
      (λ e. out (ap (is_older id) e))
      (λ e. out (ap (is_older id) e));
}

pub tidying_young : (folder : Folder) (version : Version) (id : ℕ) (old d : Disk) → IsTidying folder version.layout id old d → Beside (IsYounger id) old d
tidying_young folder version id old d is = record {
  root = is.root;
  subs = is.subs;
  other_subs = is.other_subs;
  other_files = λ n out. (let stays = older_stays id n (is_older_by id n out) in tidying_stays folder version.layout id old d is n stays.0 stays.1 stays.2);
}

pub log_young : (id : ℕ) (old d : Disk) → Beside (IsOfLog id) old d → Beside (IsYounger id) old d
log_young id old d p = beside_weaker (λ n log. is_young id n (λ older. ⊎_elim
    (λ e. true≢false (sym older ∙ ap (is_older id) e))
    (λ r. ⊎_elim (λ e. true≢false (sym older ∙ ap (is_older id) e)) (λ s. (let apart = sym (older_stays id n older).2 ∙ s.1 in cc)) r)
    log)) p

-- the table says the same then
pub young_seven : (id : ℕ) (old d : Disk) → Beside (IsYounger id) old d → seven_of d ≡ seven_of old
young_seven id old d p = seven_by old d p.root p.subs (ap (λ (o : Option File). is_some o) (p.other_files name.Version (λ e. true≢false e)))

-- ---- what served stays

recovered_own : (id : ℕ) (old d : Disk) → IsRecovered old d → KeepsOwn id old d
recovered_own id old d is = record { current = λ s serves n older. (is.current s serves).files n; previous = is.previous; unsaved = is.unsaved }

pub keeps_more : {id : ℕ} {old mid d : Disk} → KeepsOwn id old mid → Beside (IsYounger id) mid d → KeepsOwn id old d
keeps_more {id} {old} {mid} {d} keeps beside = record {
  current = λ s serves n older. beside.other_files n (λ e. true≢false (sym older ∙ e)) ∙ keeps.current s serves n older;
  previous = λ s saves. (
      let it = keeps.previous s saves in
      record { there = beside.subs Previous ∙ it.there; files = λ n. beside.other_subs Previous n (λ e. cc) ∙ it.files n }
      );
  unsaved = λ none. beside.subs Previous ∙ keeps.unsaved none;
}

-- of directories that were opened, then brought up, and then published into
pub chosen_own : {chosen : ℕ → Bool} {id : ℕ} (a b c d : State) → AllReopened a b → ((i : ℕ) → chosen i ≡ true → IsAsItWas i b c) → ((i : ℕ) → Beside (IsYounger id) (disk_at c i) (disk_at d i)) → ChosenKeepOwn chosen id a d
chosen_own {chosen} {id} a b c d opened left beside i below chose =
    keeps_more (subst (λ (it : Dir). KeepsOwn id (settled_disk a i) it.disk) (sym (left i chose).dir) (recovered_own id (settled_disk a i) (disk_at b i) (opened i below).disk)) (beside i)
