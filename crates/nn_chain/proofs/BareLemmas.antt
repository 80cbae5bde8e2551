-- A folder without segments has the chain that is its last image alone.
use Rattle.std.proofs.Common.{ℤ, [], refl, sym, ◌∙◌}
use Rattle.nn_base.specs.declared.file_name.FileName.{FileName}
use Rattle.nn_record.specs.declared.transaction.Record.{Record}
use Rattle.nn_chain.specs.Folder.{Folder}
use Rattle.nn_chain.specs.Records.{HoldsRecord}
use Rattle.nn_chain.specs.Chain.{BareChain, HasNoSegment}

-- no file of it holds a record
holds_none : (folder : Folder) → HasNoSegment folder → (layout : ℤ) (name : FileName) (r : Record) → ¬ HoldsRecord folder layout name r
holds_none folder none layout name r holds = let gone = sym holds.there ∙ none name holds.first holds.ranged holds.begins in cc

pub bare_chain : BareChain
bare_chain folder version id ns intact later none = (
  record {
    image = id;
    newest = record { intact = (ns, intact); last = λ other above has. let gone = sym has.1.there ∙ later other has.1.image.long above in cc };
    from = record {
      base = ns;
      intact = intact;
      records = [];
      leads = refl;
      ends = λ r next. holds_none folder none version.layout next.its.name r next.its.holds;
    };
  },
  λ name r is. holds_none folder none version.layout name r,
)
