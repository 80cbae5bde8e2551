-- The shared list is extended: what it says up to an id stays.
use Rattle.std.proofs.Common.{◌≡◌, ℕ, ◌+◌, List, [], ◌∷◌, ◌++◌, length, sym, ◌∙◌, ap, subst, arith, append-nil}
use Rattle.nn_base.specs.declared.file_name.FileName.{FileName}
use Rattle.nn_host.specs.Disk.{Disk}
use Rattle.nn_marks.specs.declared.version.Version.{Version}
use Rattle.nn_tree.specs.Namespace.{Namespace}
use Rattle.nn_record.specs.declared.transaction.Record.{Record}
use Rattle.nn_ops.specs.Step.{Fits}
use Rattle.nn_ops.specs.Effects.{effect}
use Rattle.nn_chain.specs.Folder.{Folder}
use Rattle.nn_chain.specs.Chain.{IsChain}
use Rattle.nn_segment_file.specs.Log.{Shared, AgreeTo, Follows, EndsAt, Logs, Rests, Writes}
use Rattle.nn_segment_file.specs.Stages.{Stage, Ended, Going, StandsAt, last_of}

ends_relist : (version : Version) (list other : Shared) (last : ℕ) (folder : Folder) → other last ≡ list last → EndsAt version list last folder → EndsAt version other last folder
ends_relist version list other last folder same p = record {
  says = p.says;
  seen = p.seen;
  chain = subst (λ (ns : Namespace). IsChain folder version (record { last = last; ns = ns })) (sym same) p.chain;
  none = p.none;
}

pub logs_relist : (version : Version) (list other : Shared) (lo hi : ℕ) (d : Disk) → AgreeTo list other hi → Logs version list lo hi d → Logs version other lo hi d
logs_relist version list other lo hi d agree logs = record {
  left = λ c leaves fair.
      let at = logs.left c leaves fair in
      record { last = at.last; least = at.least; most = at.most; ends = ends_relist version list other at.last _ (agree at.last at.most) at.ends };
}

pub follows_relist : (list other : Shared) (last : ℕ) (rs : List Record) → AgreeTo list other (last + length rs) → Follows list last rs → Follows other last rs
follows_relist list other last [] agree follows = tt
follows_relist list other last (r ∷ rs) agree follows =
    let here : other last ≡ list last = agree last (omega arith) in
    let next : other (last + 1) ≡ list (last + 1) = agree (last + 1) (omega arith) in (
      subst (λ (ns : Namespace). Fits ns r.op) (sym here) follows.0,
      next ∙ follows.1 ∙ ap (effect r.op) (sym here),
      follows_relist list other (last + 1) rs (λ n le. agree n (omega (arith, le))) follows.2,
    )

pub rests_relist : (version : Version) (list other : Shared) (last : ℕ) (d : Disk) → AgreeTo list other last → Rests version list last d → Rests version other last d
rests_relist version list other last d agree rests = record { has = rests.has; logs = logs_relist version list other last last d agree rests.logs; none = rests.none }

pub writes_relist : (version : Version) (list other : Shared) (base : ℕ) (kept more : List Record) (name : FileName) (d : Disk) → AgreeTo list other (base + length (kept ++ more)) → Writes version list base kept more name d → Writes version other base kept more name d
writes_relist version list other base kept more name d agree w = record {
  rests = rests_relist version list other base _ (λ n le. agree n (omega (arith, le))) w.rests;
  ranged = w.ranged;
  begins = w.begins;
  within = w.within;
  file = w.file;
  stands = w.stands;
  segment = w.segment;
  small = w.small;
  ids = w.ids;
  follows = follows_relist list other base (kept ++ more) agree w.follows;
}

pub stands_relist : (version : Version) (list other : Shared) (stage : Stage) (d : Disk) → AgreeTo list other (last_of stage) → StandsAt version list stage d → StandsAt version other stage d
stands_relist version list other (Ended last) d agree at = rests_relist version list other last d agree at
stands_relist version list other (Going base kept) d agree at = record {
  writes = writes_relist version list other base kept [] _ d (λ n le. agree n (omega (arith, le, ap length (append-nil kept)))) at.writes;
  seen = at.seen;
  tmp = at.tmp;
}
