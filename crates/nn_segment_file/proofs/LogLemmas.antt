-- What each stop leaves of a disk with a segment behind the others.
use Rattle.std.proofs.Common.{◌≡◌, ℕ, ◌+◌, ◌≤◌, List, [], ◌∷◌, ◌++◌, length, Option, Some, None, refl, sym, ◌∙◌, ap, subst, arith, length-append}
use Rattle.nn_base.specs.Limits.{most_segment_read}
use Rattle.nn_base.specs.declared.sub.Sub.TheVariants.{Current}
use Rattle.nn_base.specs.declared.file_name.FileName.{FileName}
use Rattle.nn_host.specs.Disk.{Disk, Reads, File, RemoveFile, Leaves, LeavesFile, Torn, with_file}
use Rattle.nn_host.proofs.FilesLemmas.{there, beside, file_kept}
use Rattle.nn_host.proofs.LawfulLemmas.{leaves_after}
use Rattle.nn_marks.specs.declared.version.Version.{Version}
use Rattle.nn_record.specs.declared.transaction.Record.{Record}
use Rattle.nn_segment.specs.Segment.{AreFrom}
use Rattle.nn_chain.specs.Folder.{folder_at}
use Rattle.nn_chain.specs.Fair.{IsFair}
use Rattle.nn_segment_file.specs.Log.{Shared, Follows, EndsAt, EndsWithin, Logs, without, Writes}
use Rattle.nn_segment_file.proofs.TornLemmas.{left_run, from_front}
use Rattle.nn_segment_file.proofs.FolderLemmas.{goes_on}

-- a stop that is fair is fair to the other files
fair_without : (name : FileName) (d : Disk) (c : Reads) → IsFair d c → IsFair (without name d) (with_file c Current name None)
fair_without name d c fair sub n first file bytes ranged begins stands reads =
    let out : (sub ≡ Current) × (n ≡ name) → ⊥ = λ at.
    let gone : (without name d).file sub n ≡ None = (λ i. (without name d).file (at.0 i) (at.1 i)) ∙ there d Current name None in
    let apart = sym gone ∙ stands in
    cc in
    fair sub n first file bytes ranged begins (sym (file_kept d Current name None sub n out) ∙ stands) (sym (file_kept c Current name None sub n out) ∙ reads)

-- what is left of a file that stands
record Left (f : File) (w : Option (List ℕ)) : Type 0 where
  bytes : List ℕ
  there : w ≡ Some bytes
  torn : Torn f bytes

left_of : (f : File) (v : Option File) (w : Option (List ℕ)) → v ≡ Some f → LeavesFile v w → Left f w
left_of f None w e l = cc
left_of f (Some g) None e l = absurd l
left_of f (Some g) (Some bytes) e l = record { bytes = bytes; there = refl; torn = subst (λ (x : Option File). LeavesFile x (Some bytes)) e l }

-- ---- the shared list

pub follows_front : (list : Shared) (last : ℕ) (rs qs : List Record) → Follows list last (rs ++ qs) → Follows list last rs
follows_front list last [] qs follows = tt
follows_front list last (r ∷ rs) qs follows = (follows.0, follows.1, follows_front list (last + 1) rs qs follows.2)

-- ---- the log

-- From what is on the disk follows where each stop leaves its chain: behind the records that were synced, or some of the others.
module _ (version : Version) (list : Shared) (last : ℕ) (kept more : List Record) (name : FileName) (d : Disk) (writes : Writes version list last kept more name d) where
  ends_within : (c : Reads) → Leaves d c → IsFair d c → EndsWithin version list (last + length kept) (last + length (kept ++ more)) (folder_at c Current)
  ends_within c leaves fair =
      let c0 : Reads = with_file c Current name None in
      let left = left_of writes.file (d.file Current name) (c.file Current name) writes.stands (leaves.files Current name) in
      let run = left_run version.layout (last + 1) kept more writes.file left.bytes writes.segment writes.ids left.torn (fair Current name (last + 1) writes.file left.bytes writes.ranged writes.begins writes.stands left.there) in
      let count : length (kept ++ more) ≡ length run.run + length run.lost = ap length run.split ∙ length-append run.run run.lost in
      let before = writes.rests.logs.left c0 (leaves_after (RemoveFile Current name) d c leaves) (fair_without name d c fair) in
      let at : before.last ≡ last = omega (arith, before.least, before.most) in
      let ends : EndsAt version list last (folder_at c0 Current) = subst (λ (n : ℕ). EndsAt version list n (folder_at c0 Current)) at before.ends in
      let size : length left.bytes ≤ most_segment_read = omega (arith, writes.small, ap length left.torn.split, length-append writes.file.synced left.torn.tail, left.torn.short, ap length writes.segment.whole, length-append writes.file.synced writes.file.pending) in
      record {
        last = last + length run.run;
        least = omega (arith, run.least);
        most = omega (arith, count);
        ends = goes_on version list last (folder_at c0 Current) (folder_at c Current) name writes.begins (there c Current name None) (λ n ne. sym (beside c Current name n None ne))
            writes.ranged left.bytes left.there size run.run run.intact (from_front (last + 1) run.run run.lost (subst (AreFrom (last + 1)) run.split writes.ids)) (λ id le. writes.within id (omega (arith, le, count)))
            ends (follows_front list last run.run run.lost (subst (Follows list last) run.split writes.follows));
      }

  pub writes_logs : Logs version list (last + length kept) (last + length (kept ++ more)) d
  writes_logs = record { left = ends_within }
