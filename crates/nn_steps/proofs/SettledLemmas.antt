-- A directory that was settled: a stop leaves of it what reads. It stays so in what is recovered.
use Rattle.std.proofs.Common.{◌≡◌, inl, inr, ⊎_elim, ℕ, List, Some, sym, ◌∙◌, ap, subst, arith}
use Rattle.md5.specs.Md5.{md5}
use Rattle.nn_base.specs.declared.sub.Sub.TheVariants.{Current}
use Rattle.nn_base.specs.declared.file_name.FileName.{FileName}
use Rattle.nn_base.specs.declared.file_name.FileName.TheVariants as name
use Rattle.nn_base.proofs.NamesLemmas.{file_tells}
use Rattle.nn_host.specs.Disk.{Disk, Reads, certain}
use Rattle.nn_host.specs.Moments.{disk_at}
use Rattle.nn_host.proofs.CleanLemmas.{sure_left}
use Rattle.nn_marks.specs.Digest.{md5_text_of}
use Rattle.nn_tree.specs.Namespace.{Namespace}
use Rattle.nn_chain.specs.Folder.{folder_at}
use Rattle.nn_chain.specs.Images.{IsIntact}
use Rattle.nn_remake.specs.Publishing.{WasWritten}
use Rattle.nn_kept.specs.Ends.{EndsAt}
use Rattle.nn_kept.specs.Kept.{IsKept}
use Rattle.nn_kept.specs.Laws.{IsOutranked}
use Rattle.nn_kept.proofs.KeptFirstLemmas.{settled_reads}
use Rattle.nn_steps.specs.Steps.{SettledEnds, SettledStaysBehind, RecoveredIsSure, PublishedIsIntact, PublishedIsSure}
use Rattle.nn_steps.proofs.ToppedLemmas.{whole_left}

pub settled_ends : SettledEnds
settled_ends version has what list id d r before is c leaves fair =
    (id, omega arith, omega arith, subst (λ (x : Reads). EndsAt x version has what (record { last = id; ns = list id })) (sym (settled_reads d r c before leaves)) is)

pub settled_stays_behind : SettledStaysBehind
settled_stays_behind shared d r before kept low c leaves fair =
    let same = sym (settled_reads d r c before leaves) in
    (subst (IsKept shared) same kept, subst (IsOutranked shared) same low)

pub recovered_is_sure : RecoveredIsSure
recovered_is_sure i sub old new serves reads_too was sure n =
    (was.disk.current sub serves).files n ∙ sure n ∙ ap certain (sym ((was.reads.current sub reads_too).files n))

pub published_is_intact : PublishedIsIntact
published_is_intact version id ns i old new sure only published c leaves fair = ⊎_elim
    (λ missing. whole_left version id ns (disk_at new i) c leaves (record { bytes = missing.written.bytes; image = missing.written.image; stands = missing.written.disk.stands }))
    (λ there. was_there there.disk (only there.intact.0 there.intact.1) there.intact.1)
    published
  where
    kept_file : (n : FileName) (bytes : List ℕ) → disk_at new i ≡ disk_at old i → (old.reads i).file Current n ≡ Some bytes → c.file Current n ≡ Some bytes
    kept_file n bytes same reads = sure_left (disk_at new i) c Current n bytes leaves (ap (λ (x : Disk). x.file Current n) same ∙ sure n ∙ ap certain reads)

    was_there : disk_at new i ≡ disk_at old i → {other : Namespace} → other ≡ ns → IsIntact (folder_at (old.reads i) Current) version id other → IsIntact (folder_at c Current) version id ns
    was_there same is intact =
        let its = subst (IsIntact (folder_at (old.reads i) Current) version id) is intact in
        record { bytes = its.bytes; there = kept_file (name.Image id) its.bytes same its.there; digest = kept_file (name.Md5 id) (md5_text_of (md5 its.bytes) id) same its.digest; image = its.image }

-- ---- files that are certain stay so

pub published_is_sure : PublishedIsSure
published_is_sure version id ns i old new sure published n = ⊎_elim
    (λ missing. written missing.written)
    (λ there. ap (λ (x : Disk). x.file Current n) there.disk ∙ sure n ∙ ap (λ (x : Reads). certain (x.file Current n)) (sym there.reads))
    published
  where
    written : WasWritten version id ns i old new → (disk_at new i).file Current n ≡ certain ((new.reads i).file Current n)
    written was = elim (file_tells n (name.Image id)) [
      | inl same ↦ subst (λ (m : FileName). (disk_at new i).file Current m ≡ certain ((new.reads i).file Current m)) (sym same.1) (was.disk.stands.image ∙ ap certain (sym was.reads.stands.image))
      | inr image ↦ elim (file_tells n (name.Md5 id)) [
        | inl same ↦ subst (λ (m : FileName). (disk_at new i).file Current m ≡ certain ((new.reads i).file Current m)) (sym same.1) (was.disk.stands.digest ∙ ap certain (sym was.reads.stands.digest))
        | inr digest ↦ elim (file_tells n (name.Ckpt id)) [
          | inl same ↦ subst (λ (m : FileName). (disk_at new i).file Current m ≡ certain ((new.reads i).file Current m)) (sym same.1) (was.disk.ckpt ∙ ap certain (sym was.reads.ckpt))
          | inr ckpt ↦ elim (file_tells n (name.Md5Tmp id)) [
            | inl same ↦ subst (λ (m : FileName). (disk_at new i).file Current m ≡ certain ((new.reads i).file Current m)) (sym same.1) (was.disk.tmp ∙ ap certain (sym was.reads.tmp))
            | inr tmp ↦ was.disk.beside.other_files n image.1 digest.1 ckpt.1 tmp.1 ∙ sure n ∙ ap certain (sym (was.reads.beside.other_files n image.1 digest.1 ckpt.1 tmp.1))
          ]
        ]
      ]
    ]
