-- What a folder has under one VERSION it has under each that says the same: its VERSION, its images, its chain, and why no image is intact.
use Rattle.std.proofs.Common.{◌≡◌, ℕ, ℤ, List, inl, inr, subst, sym, ◌∙◌}
use Rattle.std.specs.Prelude.{unsigned_abs, drop, pos, neg_ℤ, Some, IsSomeAnd}
use Rattle.std.specs.Str.Lines.{lines}
use Rattle.std.specs.Str.Parse.{digits_value}
use Rattle.nn_marks.specs.declared.key.Key.TheVariants.{NamespaceId, ClusterId, CTime, BlockpoolId, LayoutVersion}
use Rattle.nn_marks.specs.declared.version.Version.{Version}
use Rattle.nn_marks.specs.Version.{Line, value_of}
use Rattle.nn_marks.specs.VersionText.{Says}
use Rattle.nn_tree.specs.Namespace.{Namespace}
use Rattle.nn_image.specs.Imaged.{IsImage}
use Rattle.nn_image.specs.Faults.{IsFault}
use Rattle.nn_chain.specs.declared.why.ImageWhy.{ImageWhy}
use Rattle.nn_chain.specs.declared.why.ImageWhy.TheVariants.{Absent, Digest, Named, Fault}
use Rattle.nn_chain.specs.Folder.{Folder, HasVersion}
use Rattle.nn_chain.specs.Images.{IsIntact, IsNewest, IsAnother, IsUnsound, HasNoImage}
use Rattle.nn_chain.specs.Chain.{Reached, Leads, IsEnd, IsChain}
use Rattle.nn_chain.proofs.ChainLemmas.{one_chain}
use Rattle.nn_chain.proofs.LawLemmas.{one_reason}
use Rattle.nn_pick.proofs.VersionLemmas.{SaysTheSame, same_turned}

-- ---- VERSION

says_under : (text : List Line) (v w : Version) → SaysTheSame v w → Says text w → Says text v
says_under text v w same is = record {
  namespace = subst (λ (n : ℕ). IsSomeAnd (value_of NamespaceId text) (λ digits. n ≡ digits_value 10 digits)) (sym same.namespace) is.namespace;
  cluster = subst (λ (word : List ℕ). value_of ClusterId text ≡ Some word) (sym same.cluster) is.cluster;
  ctime = subst (λ (n : ℕ). IsSomeAnd (value_of CTime text) (λ digits. n ≡ digits_value 10 digits)) (sym same.ctime) is.ctime;
  blockpool = subst (λ (word : List ℕ). value_of BlockpoolId text ≡ Some word) (sym same.blockpool) is.blockpool;
  layout = subst (λ (l : ℤ). IsSomeAnd (value_of LayoutVersion text) (λ digits. l ≡ neg_ℤ (pos (digits_value 10 (drop 1 digits))))) (sym same.layout) is.layout;
}

pub version_under : (folder : Folder) (v w : Version) → SaysTheSame v w → HasVersion folder w → HasVersion folder v
version_under folder v w same is = (is.0, is.1, record { sound = is.2.sound; says = says_under (lines is.0) v w same is.2.says })

-- ---- images

pub intact_under : (folder : Folder) (v w : Version) (id : ℕ) (ns : Namespace) → SaysTheSame v w → IsIntact folder w id ns → IsIntact folder v id ns
intact_under folder v w id ns same is = record {
  bytes = is.bytes;
  there = is.there;
  digest = is.digest;
  image = subst (λ (n : ℕ). IsImage is.bytes ns id n (unsigned_abs v.layout)) (sym same.namespace) (subst (λ (l : ℤ). IsImage is.bytes ns id w.namespace (unsigned_abs l)) (sym same.layout) is.image);
}

newest_under : (folder : Folder) (v w : Version) (id : ℕ) → SaysTheSame v w → IsNewest folder w id → IsNewest folder v id
newest_under folder v w id same is = record {
  intact = (is.intact.0, intact_under folder v w id is.intact.0 same is.intact.1);
  last = λ later lt has. is.last later lt (has.0, intact_under folder w v later has.0 (same_turned v w same) has.1);
}

-- ---- the chain

chain_under : (folder : Folder) (v w : Version) (end : Reached) → SaysTheSame v w → IsChain folder w end → IsChain folder v end
chain_under folder v w end same is = record {
  image = is.image;
  newest = newest_under folder v w is.image same is.newest;
  from = record {
    base = is.from.base;
    intact = intact_under folder v w is.image is.from.base same is.from.intact;
    records = is.from.records;
    leads = subst (λ (l : ℤ). Leads folder l (record { last = is.image; ns = is.from.base }) is.from.records end) (sym same.layout) is.from.leads;
    ends = subst (λ (l : ℤ). IsEnd folder l end) (sym same.layout) is.from.ends;
  };
}

pub one_end : (folder its : Folder) (v w : Version) (end other : Reached) → folder ≡ its → SaysTheSame v w → IsChain folder v end → IsChain its w other → end ≡ other
one_end folder its v w end other at same p q = (one_chain folder v end other p (chain_under folder v w other same (subst (λ (f : Folder). IsChain f w other) (sym at) q))).ends

-- ---- why no image is intact

another_under : (v w : Version) (id : ℕ) (bytes : List ℕ) → SaysTheSame v w → IsAnother w id bytes → IsAnother v id bytes
another_under v w id bytes same is = record {
  ns = is.ns;
  inner = is.inner;
  namespace = is.namespace;
  image = subst (λ (l : ℤ). IsImage bytes is.ns is.inner is.namespace (unsigned_abs l)) (sym same.layout) is.image;
  other = elim is.other [ inl id_apart ↦ inl id_apart | inr apart ↦ inr (λ e. apart (e ∙ same.namespace)) ];
}

unsound_under : (folder : Folder) (v w : Version) (id : ℕ) (why : ImageWhy) → SaysTheSame v w → IsUnsound folder w id why → IsUnsound folder v id why
unsound_under folder v w id Absent same is = is
unsound_under folder v w id Digest same is = is
unsound_under folder v w id (Fault found) same is = (is.0, is.1, (is.2.0, is.2.1, subst (λ (l : ℤ). IsFault found is.0 (unsigned_abs l)) (sym same.layout) is.2.2))
unsound_under folder v w id Named same is = (is.0, is.1, (is.2.0, another_under v w id is.0 same is.2.1))

no_image_under : (folder : Folder) (v w : Version) (why : ImageWhy) → SaysTheSame v w → HasNoImage folder w why → HasNoImage folder v why
no_image_under folder v w why same is = record {
  none = λ id has. is.none id (has.0, intact_under folder w v id has.0 (same_turned v w same) has.1);
  why_is = elim is.why_is [
    | inl absent ↦ inl absent
    | inr wrong ↦ inr (record { id = wrong.id; last = wrong.last; unsound = unsound_under folder v w wrong.id why same wrong.unsound })
  ];
}

pub one_image_why : (folder its : Folder) (v w : Version) (a b : ImageWhy) → folder ≡ its → SaysTheSame v w → HasNoImage folder v a → HasNoImage its w b → a ≡ b
one_image_why folder its v w a b at same p q = one_reason folder v a b p (no_image_under folder v w b same (subst (λ (f : Folder). HasNoImage f w b) (sym at) q))
