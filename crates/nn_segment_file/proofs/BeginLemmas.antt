-- Where a log begins: a directory whose every leaving has its last image intact and no segment.
use Rattle.std.proofs.Common.{◌≡◌, ℕ, ◌+◌, ◌≤◌, true, sym, ◌∙◌, arith}
use Rattle.nn_base.specs.declared.sub.Sub.TheVariants.{Current}
use Rattle.nn_host.specs.Disk.{Disk, Reads, Leaves}
use Rattle.nn_marks.specs.declared.version.Version.{Version}
use Rattle.nn_tree.specs.Namespace.{Namespace}
use Rattle.nn_chain.specs.Folder.{Folder, folder_at, HasVersion, HasSeen}
use Rattle.nn_chain.specs.Images.{IsIntact}
use Rattle.nn_chain.specs.Chain.{HasNoLater, HasNoSegment}
use Rattle.nn_chain.proofs.BareLemmas.{bare_chain}
use Rattle.nn_segment_file.specs.Log.{Shared, NoneBeginsAfter, EndsAt, Rests}

-- a folder with just an image
pub record IsBareAt (version : Version) (last : ℕ) (ns : Namespace) (folder : Folder) : Type 0 where
  pub says : HasVersion folder version
  pub seen : (id : ℕ) → HasSeen folder id → id ≤ last + 1
  pub intact : IsIntact folder version last ns
  pub later : HasNoLater folder last
  pub none : HasNoSegment folder

bare_ends : (version : Version) (list : Shared) (last : ℕ) (folder : Folder) → IsBareAt version last (list last) folder → EndsAt version list last folder
bare_ends version list last folder p = record {
  says = p.says;
  seen = p.seen;
  chain = (bare_chain folder version last (list last) p.intact p.later p.none).0;
  none = λ name r above holds. let gone = sym holds.there ∙ p.none name holds.first holds.ranged holds.begins in cc;
}

pub bare_rests : (version : Version) (list : Shared) (last : ℕ) (d : Disk) → d.has Current ≡ true → NoneBeginsAfter last d → ((c : Reads) → Leaves d c → IsBareAt version last (list last) (folder_at c Current)) → Rests version list last d
bare_rests version list last d has none left = record {
  has = has;
  logs = record { left = λ c leaves fair. record { last = last; least = omega arith; most = omega arith; ends = bare_ends version list last (folder_at c Current) (left c leaves) } };
  none = none;
}
