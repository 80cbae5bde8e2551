-- A directory while it is purged: it ends where it ended, and stands where it stood.
use Rattle.std.proofs.Common.{◌≢◌, ℕ, ◌+◌, Bool, Option, None, refl, sym, ◌∙◌, subst}
use Rattle.nn_base.specs.declared.sub.Sub.TheVariants.{Current}
use Rattle.nn_base.specs.declared.file_name.FileName.{FileName}
use Rattle.nn_base.specs.declared.file_name.FileName.TheVariants as name
use Rattle.nn_host.specs.Disk.{Disk, Reads, Leaves}
use Rattle.nn_host.proofs.FilesLemmas.{beside}
use Rattle.nn_marks.specs.declared.version.Version.{Version}
use Rattle.nn_tree.specs.Namespace.{Namespace}
use Rattle.nn_state.specs.declared.state.StorageState.TheVariants.{Normal}
use Rattle.nn_state.specs.Typed.{IsIn}
use Rattle.nn_chain.specs.Folder.{Folder, folder_at}
use Rattle.nn_chain.specs.Chain.{Reached, IsChain, EndsBare}
use Rattle.nn_chain.specs.Fair.{IsFair}
use Rattle.nn_segment_file.specs.Log.{Shared, EndsWithin, Rests, without}
use Rattle.nn_segment_file.specs.Stages.{Stage, Ended, Going, StandsAt}
use Rattle.nn_kept.specs.Ends.{EndsAt}
use Rattle.nn_kept.proofs.KeptOnwardLemmas.{version_there, seen_there}
use Rattle.nn_steps.proofs.NormalLemmas.{is_current, marks_end}
use Rattle.nn_ckpt.specs.Laws.{PurgingEnds, PurgingStands}
use Rattle.nn_ckpt.proofs.SpanLemmas.{chain_stays}
use Rattle.nn_ckpt.proofs.TrimmedLemmas.{IsTrimmed, trimmed_left, trimmed_stays, trimmed_none, trimmed_normal, trimmed_marks, trimmed_intact, trimmed_records, trimmed_without, held_before}
use Rattle.nn_ckpt.proofs.LastLemmas.{IsLast, last_of_has, last_newest, chain_from, last_trimmed}

-- ---- the last image

module _ (version : Version) (id : ℕ) (ns : Namespace) (old d : Disk) (is : IsTrimmed id old d) (last : IsLast version id ns old) where
  pub trimmed_last : IsLast version id ns d
  trimmed_last = record {
    whole = record {
      bytes = last.whole.bytes;
      image = last.whole.image;
      stands = record {
        image = trimmed_stays id old d is (name.Image id) (λ e. e refl) ∙ last.whole.stands.image;
        digest = trimmed_stays id old d is (name.Md5 id) (λ e. e refl) ∙ last.whole.stands.digest;
      };
    };
    later = λ other above. trimmed_none id old d is (name.Image other) (last.later other above);
  }

  -- ---- the chain

  module _ (c : Reads) (leaves : Leaves d c) where
    before : Folder
    before = folder_at (trimmed_left id old d is c leaves).before Current

    pub trimmed_chain : (end : Reached) → IsChain (folder_at (trimmed_left id old d is c leaves).before Current) version end → IsChain (folder_at c Current) version end
    trimmed_chain end chain =
        let left = trimmed_left id old d is c leaves in
        let from = chain_from version id ns old last left.before left.left end chain in
        record {
          image = id;
          newest = last_newest version id ns d trimmed_last c leaves;
          from = chain_stays version (folder_at left.before Current) (folder_at c Current) id (trimmed_records id old d is c leaves version.layout) end from (trimmed_intact id old d is c leaves version from.base from.intact);
        }

    trimmed_bare : (end : Reached) → EndsBare (folder_at (trimmed_left id old d is c leaves).before Current) version end → EndsBare (folder_at c Current) version end
    trimmed_bare end bare n r next h = bare n r next (held_before id old d is c leaves version.layout n r h)

    pub trimmed_ends : (has : Bool) (what : Option Namespace) (end : Reached) → IsIn Normal old → EndsAt (trimmed_left id old d is c leaves).before version has what end → EndsAt c version has what end
    trimmed_ends has what end normal was =
        let left = trimmed_left id old d is c leaves in
        let normal_before = trimmed_normal id old d is c leaves normal in
        let here = is_current left.before normal_before was.folder was.under.serves in
        marks_end left.before c normal_before (trimmed_marks id old d is c leaves) version has what end was
        (trimmed_chain end (subst (λ (f : Folder). IsChain f version end) here was.chain))
        (trimmed_bare end (subst (λ (f : Folder). EndsBare f version end) here was.bare))

pub purging_ends : PurgingEnds
purging_ends version has what list last r old d normal leaves had ends p =
    let was = last_of_has version list last old had in
    let is = last_trimmed version had.id (list had.id) r old d leaves was p in
    let now = trimmed_last version had.id (list had.id) old d is was in (
      λ c left fair.
          let it = trimmed_left had.id old d is c left in
          let at = ends it.before it.left (it.fair fair) in
          (at.0, at.1, at.2, trimmed_ends version had.id (list had.id) old d is was c left has what (record { last = at.0; ns = list at.0 }) normal at.3),
      record { id = had.id; whole = now.whole; low = had.low; later = now.later },
    )

-- ---- where it stands

module _ (version : Version) (list : Shared) (id : ℕ) (ns : Namespace) (old d : Disk) (is : IsTrimmed id old d) (last : IsLast version id ns old) where
  left_rests : (end : ℕ) → Rests version list end old → (c : Reads) → Leaves d c → IsFair d c → EndsWithin version list end end (folder_at c Current)
  left_rests end rests c leaves fair =
      let it = trimmed_left id old d is c leaves in
      let marks = trimmed_marks id old d is c leaves in
      let at = rests.logs.left it.before it.left (it.fair fair) in
      record {
        last = at.last;
        least = at.least;
        most = at.most;
        ends = record {
          says = version_there (folder_at it.before Current) (folder_at c Current) version (sym marks.version) at.ends.says;
          seen = λ said has_seen. at.ends.seen said (seen_there (folder_at c Current) (folder_at it.before Current) said marks.seen has_seen);
          chain = trimmed_chain version id ns old d is last c leaves (record { last = at.last; ns = list at.last }) at.ends.chain;
          none = λ n r above h. at.ends.none n r above (held_before id old d is c leaves version.layout n r h);
        };
      }

  pub trimmed_rests : (end : ℕ) → Rests version list end old → Rests version list end d
  trimmed_rests end rests = record {
    has = is.subs Current ∙ rests.has;
    logs = record { left = left_rests end rests };
    none = λ n first ranged begins above. trimmed_none id old d is n (rests.none n first ranged begins above);
  }

-- the last image stands without a file that is none of its own
pub last_without : (version : Version) (id : ℕ) (ns : Namespace) (m : FileName) (d : Disk) → ((other : ℕ) → name.Image other ≢ m) → name.Md5 id ≢ m → IsLast version id ns d → IsLast version id ns (without m d)
last_without version id ns m d images digest last = record {
  whole = record {
    bytes = last.whole.bytes;
    image = last.whole.image;
    stands = record { image = beside d Current m (name.Image id) None (images id) ∙ last.whole.stands.image; digest = beside d Current m (name.Md5 id) None digest ∙ last.whole.stands.digest };
  };
  later = λ other above. beside d Current m (name.Image other) None (images other) ∙ last.later other above;
}

pub trimmed_stands : (version : Version) (list : Shared) (stage : Stage) (id : ℕ) (ns : Namespace) (old d : Disk) → IsTrimmed id old d → IsLast version id ns old → StandsAt version list stage old → StandsAt version list stage d
trimmed_stands version list (Ended end) id ns old d is last stands = trimmed_rests version list id ns old d is last end stands
trimmed_stands version list (Going base kept) id ns old d is last stands = record {
  writes = record {
    rests = trimmed_rests version list id ns (without (name.InProgress (base + 1)) old) (without (name.InProgress (base + 1)) d) (trimmed_without id old d is (name.InProgress (base + 1)))
        (last_without version id ns (name.InProgress (base + 1)) old (λ other e. cc) (λ e. cc) last) base stands.writes.rests;
    ranged = stands.writes.ranged;
    begins = stands.writes.begins;
    within = stands.writes.within;
    file = stands.writes.file;
    stands = trimmed_stays id old d is (name.InProgress (base + 1)) (λ e. e) ∙ stands.writes.stands;
    segment = stands.writes.segment;
    small = stands.writes.small;
    ids = stands.writes.ids;
    follows = stands.writes.follows;
  };
  seen = trimmed_stays id old d is name.Seen (λ e. e) ∙ stands.seen;
  tmp = trimmed_stays id old d is name.SeenTmp (λ e. e) ∙ stands.tmp;
}

pub purging_stands : PurgingStands
purging_stands version list stage last r old d leaves had stands p =
    let was = last_of_has version list last old had in
    trimmed_stands version list stage had.id (list had.id) old d (last_trimmed version had.id (list had.id) r old d leaves was p) was stands
