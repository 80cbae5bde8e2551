-- One kept directory: it is the same under each reading of its VERSION, and it ranks at most where it stands or below the floor.
use Rattle.std.proofs.Common.{◌≡◌, inl, inr, ◌<◌, ◌≤◌, ◌^◌, ◌<ℤ◌, ◌≤ℤ◌, pos, negsuc, IsTrue, refl, sym, ◌∙◌, ap, subst, arith}
use std.HLevel.{prop→path_p}
use denote.Struct.Props.{props}
use Rattle.nn_base.specs.Words.{is_word}
use Rattle.nn_host.specs.Disk.{Reads}
use Rattle.nn_marks.specs.declared.version.Version.{Version}
use Rattle.nn_chain.specs.Folder.{Folder}
use Rattle.nn_chain.specs.Chain.{Reached, IsChain}
use Rattle.nn_chain.proofs.ChainLemmas.{one_chain}
use Rattle.nn_pick.specs.Dirs.{ServesUnder}
use Rattle.nn_kept.specs.Kept.{Rank, IsAtMost, Shared, Stands, IsBelowFloor}
use Rattle.nn_pick.proofs.VersionLemmas.{SaysTheSame, one_current, one_under}

-- ---- one reading

pub same_version : (v w : Version) → SaysTheSame v w → v ≡ w
same_version v w same = λ k. record {
  namespace = same.namespace k;
  cluster = same.cluster k;
  ctime = same.ctime k;
  blockpool = same.blockpool k;
  layout = same.layout k;
  some_namespace = prop→path_p (λ j. 1 ≤ same.namespace j) (hlevel props) v.some_namespace w.some_namespace k;
  namespace_fits = prop→path_p (λ j. same.namespace j ≤ 2147483647) (hlevel props) v.namespace_fits w.namespace_fits k;
  cluster_is_word = prop→path_p (λ j. IsTrue (is_word (same.cluster j))) (hlevel props) v.cluster_is_word w.cluster_is_word k;
  ctime_fits = prop→path_p (λ j. same.ctime j < 2 ^ 63) (hlevel props) v.ctime_fits w.ctime_fits k;
  blockpool_is_word = prop→path_p (λ j. IsTrue (is_word (same.blockpool j))) (hlevel props) v.blockpool_is_word w.blockpool_is_word k;
  layout_is_negative = prop→path_p (λ j. same.layout j <ℤ pos 0) (hlevel props) v.layout_is_negative w.layout_is_negative k;
  layout_fits = prop→path_p (λ j. negsuc 2147483646 ≤ℤ same.layout j) (hlevel props) v.layout_fits w.layout_fits k;
}

-- what is said of a directory under one reading of what serves in it holds under each
pub under_each : (c : Reads) (P : Version → Folder → Type 0) (v w : Version) (a b : Folder) → ServesUnder c v a → ServesUnder c w b → P v a → P w b
under_each c P v w a b p q is = subst (P w) (one_current c a b p.serves q.serves) (subst (λ (x : Version). P x a) (same_version v w (one_under c v w a b p q)) is)

-- ---- what bounds the rank of a directory

-- whatever chain it has under whatever reading, its rank is at most this
pub record IsWithin (c : Reads) (rank : Rank) : Type 0 where
  pub ctime : (v : Version) (a : Folder) → ServesUnder c v a → v.ctime ≤ rank.ctime
  pub last : (v : Version) (a : Folder) (end : Reached) → ServesUnder c v a → v.ctime ≡ rank.ctime → IsChain a v end → end.last ≤ rank.last

pub at_most_both : (a b d : Rank) → IsAtMost a b → IsAtMost b d → IsAtMost a d
at_most_both a b d p q = grind arith

pub within_more : (c : Reads) (a b : Rank) → IsAtMost a b → IsWithin c a → IsWithin c b
within_more c a b (inl less) is = record {
  ctime = λ v f under. (let low = is.ctime v f under in omega (arith, low, less));
  last = λ v f end under same chain. (let low = is.ctime v f under in absurd (omega (arith, low, less, same)));
}
within_more c a b (inr same) is = record {
  ctime = λ v f under. (let low = is.ctime v f under in omega (arith, low, same.0));
  last = λ v f end under e chain. (let low = is.last v f end under (e ∙ sym same.0) chain in omega (arith, low, same.1));
}

module _ (shared : Shared) (c : Reads) (v : Version) (a : Folder) (under : ServesUnder c v a) where
  pub stands_within : (rank : Rank) → Stands shared c v a rank → IsWithin c rank
  stands_within rank is = record {
    ctime = λ w b it. (let e : w.ctime ≡ v.ctime = under_each c (λ x f. x.ctime ≡ v.ctime) v w a b under it refl in omega (arith, e, is.ctime));
    last = λ w b end it same chain. (
        let here = under_each c (λ x f. IsChain f x end) w v b a it under chain in
        let e = ap (λ (r : Reached). r.last) (one_chain a v end (record { last = rank.last; ns = shared.ns rank.ctime rank.last }) here is.chain).ends in
        omega (arith, e)
        );
  }

  pub below_within : IsBelowFloor shared v a → IsWithin c shared.floor
  below_within is = record {
    ctime = λ w b it. under_each c (λ x f. x.ctime ≤ shared.floor.ctime) v w a b under it (elim is [ inl less ↦ omega (arith, less) | inr same ↦ omega (arith, same.0) ]);
    last = λ w b end it same chain. (
        let there = under_each c (IsBelowFloor shared) v w a b under it is in
        elim there [ inl less ↦ absurd (omega (arith, less, same)) | inr here ↦ (let less = here.1 end chain in omega (arith, less)) ]
        );
  }
