-- Writing seen_txid changes no chain.
use Rattle.std.proofs.Common.{◌≡◌, ◌≢◌, inl, inr, ⊎_elim, ℕ, ◌+◌, ◌^◌, ◌<◌, ◌≤◌, List, Some, None, refl, sym, ◌∙◌, ap, subst, arith}
use Rattle.std.specs.Fmt.{decimal}
use Rattle.std.proofs.lemmas.Option.{same_Some}
use Rattle.nn_base.specs.declared.sub.Sub.TheVariants.{Current}
use Rattle.nn_base.specs.declared.file_name.FileName.{FileName}
use Rattle.nn_base.specs.declared.file_name.FileName.TheVariants.{Version as VersionFile, Seen, SeenTmp}
use Rattle.nn_base.proofs.NamesLemmas.{file_tells}
use Rattle.nn_host.specs.Disk.{Disk, Reads, Leaves, certain}
use Rattle.nn_host.specs.Moments.{State, disk_at}
use Rattle.nn_host.proofs.FilesLemmas.{there, beside, file_kept}
use Rattle.nn_small.specs.Small.{OldOrNew, Written}
use Rattle.nn_small.proofs.SmallLemmas.{replaced_name, replaced_tmp}
use Rattle.nn_marks.specs.declared.version.Version.{Version}
use Rattle.nn_marks.specs.Seen.{seen_text_of, IsSeenText}
use Rattle.nn_marks.proofs.SeenLemmas.{number_in-decimal, seen_only}
use Rattle.nn_record.specs.declared.transaction.Record.{Record}
use Rattle.nn_chain.specs.Folder.{Folder, folder_at, HasSeen, SaysSeen}
use Rattle.nn_chain.specs.Records.{first_in}
use Rattle.nn_chain.specs.Fair.{IsFair}
use Rattle.nn_chain.proofs.SameLemmas.{SameLog, not_segment, none_same, chain_same}
use Rattle.nn_chain.proofs.SmallFileLemmas.{BesideSmall, LeftSmall, small_log, left_small}
use Rattle.nn_segment_file.specs.Log.{Shared, EndsAt, EndsWithin, Logs, Rests, without, Writes}

-- what stands there once it is written
pub seen_written : {i : ℕ} {bytes : List ℕ} {old new : State} → Written i Current SeenTmp Seen bytes old new → ((disk_at new i).file Current Seen ≡ certain (Some bytes)) × ((disk_at new i).file Current SeenTmp ≡ None)
seen_written {i} {bytes} {old} {new} written = (
  ap (λ (d : Disk). d.file Current Seen) written.disk ∙ replaced_name (disk_at old i) Current SeenTmp Seen (certain (Some bytes)),
  ap (λ (d : Disk). d.file Current SeenTmp) written.disk ∙ replaced_tmp (disk_at old i) Current SeenTmp Seen (certain (Some bytes)) (λ e. cc),
)

-- ---- what seen_txid says

says_only : (folder : Folder) (id said : ℕ) → id < 2 ^ 63 → folder Seen ≡ Some (seen_text_of id) → SaysSeen folder said → said ≡ id
says_only folder id said small there says =
    let text : says.0 ≡ seen_text_of id = same_Some says.0 (seen_text_of id) (sym says.1 ∙ there) in
    let read = seen_only (seen_text_of id) (decimal id) said (inl refl) (subst (λ (t : List ℕ). IsSeenText t said) text says.2) in
    same_Some said id (sym read ∙ number_in-decimal id small)

has_only : (folder : Folder) (id said : ℕ) → id < 2 ^ 63 → folder Seen ≡ Some (seen_text_of id) → HasSeen folder said → said ≤ id
has_only folder id said small there has = ⊎_elim
    (λ says. omega (arith, says_only folder id said small there says))
    (λ none. omega (arith, none.0))
    has

-- ---- what a stop leaves

ends_beside : (version : Version) (list : Shared) (last : ℕ) (old new : Reads) → BesideSmall Current SeenTmp Seen old new → ((id : ℕ) → HasSeen (folder_at new Current) id → id ≤ last + 1) → EndsAt version list last (folder_at old Current) → EndsAt version list last (folder_at new Current)
ends_beside version list last old new p seen ends =
    let same : SameLog (folder_at old Current) (folder_at new Current) = small_log refl refl (λ id. (λ e. cc, λ e. cc, λ e. cc, λ e. cc)) p in
    record {
      says = (ends.says.0, p.other_files VersionFile (λ e. cc) (λ e. cc) ∙ ends.says.1, ends.says.2);
      seen = seen;
      chain = chain_same version (folder_at old Current) (folder_at new Current) same (record { last = last; ns = list last }) ends.chain;
      none = none_same version.layout (folder_at old Current) (folder_at new Current) same.segments last ends.none;
    }

-- a file that reads the same says the same
has_back : (old new : Folder) (id : ℕ) → new Seen ≡ old Seen → HasSeen new id → HasSeen old id
has_back old new id same has = ⊎_elim
    (λ says. inl (says.0, sym same ∙ says.1, says.2))
    (λ none. inr (none.0, λ said says. none.1 said (says.0, same ∙ says.1, says.2)))
    has

module _ (id : ℕ) (old d : Disk) (small : OldOrNew Current SeenTmp Seen (seen_text_of id) old d) (version : Version) (list : Shared) (lo hi : ℕ) (ranged : id < 2 ^ 63) (low : id ≤ lo + 1) (logs : Logs version list lo hi old) where
  seen_within : (c : Reads) → Leaves d c → IsFair d c → EndsWithin version list lo hi (folder_at c Current)
  seen_within c leaves fair =
      let p : LeftSmall Current SeenTmp Seen (seen_text_of id) old d c = left_small Current SeenTmp Seen (seen_text_of id) old d (λ e. cc) small c leaves refl refl in
      let at = logs.left p.before p.left (p.fair fair) in
      record {
        last = at.last;
        least = at.least;
        most = at.most;
        ends = ends_beside version list at.last p.before c p.beside (λ said has. ⊎_elim
            (λ same. at.ends.seen said (has_back (folder_at p.before Current) (folder_at c Current) said same has))
            (λ new. omega (arith, low, at.least, has_only (folder_at c Current) id said ranged new has))
            p.file) at.ends;
      }

  pub seen_logs : Logs version list lo hi d
  seen_logs = record { left = seen_within }

-- ---- the same of a disk that rests, and of one with a segment behind the others

module _ (id : ℕ) (version : Version) (list : Shared) (last : ℕ) (ranged : id < 2 ^ 63) (low : id ≤ last + 1) where
  segment_same : (old d : Disk) → OldOrNew Current SeenTmp Seen (seen_text_of id) old d → (n : FileName) (first : ℕ) → first_in n ≡ Some first → d.file Current n ≡ old.file Current n
  segment_same old d small n first begins = small.other_files n (not_segment n SeenTmp first refl begins) (not_segment n Seen first refl begins)

  pub seen_rests : (old d : Disk) → OldOrNew Current SeenTmp Seen (seen_text_of id) old d → Rests version list last old → Rests version list last d
  seen_rests old d small rests = record {
    has = small.subs Current ∙ rests.has;
    logs = seen_logs id old d small version list last last ranged low rests.logs;
    none = λ n first in_range begins above. segment_same old d small n first begins ∙ rests.none n first in_range begins above;
  }

  -- a small file is written beside a segment file
  small_without : (old d : Disk) (name : FileName) → first_in name ≡ Some (last + 1) → OldOrNew Current SeenTmp Seen (seen_text_of id) old d → OldOrNew Current SeenTmp Seen (seen_text_of id) (without name old) (without name d)
  small_without old d name begins small =
      let seen : Seen ≢ name = λ e. not_segment name Seen (last + 1) refl begins (sym e) in
      let tmp : SeenTmp ≢ name = λ e. not_segment name SeenTmp (last + 1) refl begins (sym e) in
      record {
        root = small.root;
        subs = small.subs;
        other_subs = λ s n ne. file_kept d Current name None s n (λ at. ne at.0) ∙ small.other_subs s n ne ∙ sym (file_kept old Current name None s n (λ at. ne at.0));
        other_files = λ n a b. elim (file_tells n name) [
          | inl is ↦ subst (λ (m : FileName). (without name d).file Current m ≡ (without name old).file Current m) (sym is.1) (there d Current name None ∙ sym (there old Current name None))
          | inr differs ↦ beside d Current name n None differs.1 ∙ small.other_files n a b ∙ sym (beside old Current name n None differs.1)
        ];
        file = ⊎_elim
            (λ same. inl (beside d Current name Seen None seen ∙ same ∙ sym (beside old Current name Seen None seen)))
            (λ new. inr (beside d Current name Seen None seen ∙ new.0, beside d Current name SeenTmp None tmp ∙ new.1))
            small.file;
      }

  pub seen_writes : (kept more : List Record) (name : FileName) (old d : Disk) → OldOrNew Current SeenTmp Seen (seen_text_of id) old d → Writes version list last kept more name old → Writes version list last kept more name d
  seen_writes kept more name old d small writes = record {
    rests = seen_rests (without name old) (without name d) (small_without old d name writes.begins small) writes.rests;
    ranged = writes.ranged;
    begins = writes.begins;
    within = writes.within;
    file = writes.file;
    stands = segment_same old d small name (last + 1) writes.begins ∙ writes.stands;
    segment = writes.segment;
    small = writes.small;
    ids = writes.ids;
    follows = writes.follows;
  }
