-- Two readings of one VERSION say the same.
use Rattle.std.proofs.Common.{◌≡◌, ℕ, true, List, Option, Some, None, refl, sym, ◌∙◌, ap, subst}
use Rattle.std.specs.Prelude.{◌==◌, pos, neg_ℤ, drop}
use Rattle.std.specs.Option.{IsSomeAnd}
use Rattle.std.specs.Str.{bytes_eq}
use Rattle.std.specs.Str.Lines.{lines}
use Rattle.std.specs.Str.Parse.{digits_value}
use Rattle.std.proofs.lemmas.Bool.Decides.{Decides-eqb}
use Rattle.std.proofs.lemmas.Slice.Eq.{bytes_eq-Decides}
use Rattle.std.proofs.lemmas.Option.{same_Some}
use Rattle.nn_host.specs.Disk.{Reads}
use Rattle.nn_marks.specs.declared.key.Key.TheVariants.{NamespaceId, CTime, LayoutVersion}
use Rattle.nn_marks.specs.declared.version.Version.{Version}
use Rattle.nn_marks.specs.Version.{Line, value_of}
use Rattle.nn_marks.specs.VersionText.{Says}
use Rattle.nn_chain.specs.Folder.{Folder, HasVersion}
use Rattle.nn_pick.specs.Dirs.{ServesCurrent, ServesPrevious, ServesUnder}
use Rattle.nn_pick.specs.Refusing.{first_difference}

-- all that a VERSION says
pub record SaysTheSame (a b : Version) : Type 0 where
  pub namespace : a.namespace ≡ b.namespace
  pub cluster : a.cluster ≡ b.cluster
  pub ctime : a.ctime ≡ b.ctime
  pub blockpool : a.blockpool ≡ b.blockpool
  pub layout : a.layout ≡ b.layout

pub says_itself : (v : Version) → SaysTheSame v v
says_itself v = record { namespace = refl; cluster = refl; ctime = refl; blockpool = refl; layout = refl }

pub same_turned : (v w : Version) → SaysTheSame v w → SaysTheSame w v
same_turned v w same = record { namespace = sym same.namespace; cluster = sym same.cluster; ctime = sym same.ctime; blockpool = sym same.blockpool; layout = sym same.layout }

pub same_as_well : (v w x : Version) → SaysTheSame v w → SaysTheSame w x → SaysTheSame v x
same_as_well v w x p q = record { namespace = p.namespace ∙ q.namespace; cluster = p.cluster ∙ q.cluster; ctime = p.ctime ∙ q.ctime; blockpool = p.blockpool ∙ q.blockpool; layout = p.layout ∙ q.layout }

one_value : {A B : Type 0} (o : Option A) (f : A → B) (a b : B) → IsSomeAnd o (λ x. a ≡ f x) → IsSomeAnd o (λ x. b ≡ f x) → a ≡ b
one_value None f a b p q = absurd p
one_value (Some x) f a b p q = p ∙ sym q

says_one : (lines : List Line) (a b : Version) → Says lines a → Says lines b → SaysTheSame a b
says_one lines a b p q = record {
  namespace = one_value (value_of NamespaceId lines) (λ digits. digits_value 10 digits) a.namespace b.namespace p.namespace q.namespace;
  cluster = same_Some a.cluster b.cluster (sym p.cluster ∙ q.cluster);
  ctime = one_value (value_of CTime lines) (λ digits. digits_value 10 digits) a.ctime b.ctime p.ctime q.ctime;
  blockpool = same_Some a.blockpool b.blockpool (sym p.blockpool ∙ q.blockpool);
  layout = one_value (value_of LayoutVersion lines) (λ text. neg_ℤ (pos (digits_value 10 (drop 1 text)))) a.layout b.layout p.layout q.layout;
}

pub one_version : (folder : Folder) (a b : Version) → HasVersion folder a → HasVersion folder b → SaysTheSame a b
one_version folder a b p q = says_one (lines q.0) a b (subst (λ (text : List ℕ). Says (lines text) a) (same_Some p.0 q.0 (sym p.1 ∙ q.1)) p.2.says) q.2.says

-- ---- the folders that serve

pub one_current : (c : Reads) (a b : Folder) → ServesCurrent c a → ServesCurrent c b → a ≡ b
one_current c a b p q = p.is ∙ ap (λ sub. c.file sub) (same_Some p.sub q.sub (sym p.serves ∙ q.serves)) ∙ sym q.is

pub one_previous : (c : Reads) (a b : Folder) → ServesPrevious c a → ServesPrevious c b → a ≡ b
one_previous c a b p q = p.is ∙ ap (λ sub. c.file sub) (same_Some p.sub q.sub (sym p.serves ∙ q.serves)) ∙ sym q.is

pub one_under : (c : Reads) (v w : Version) (a b : Folder) → ServesUnder c v a → ServesUnder c w b → SaysTheSame v w
one_under c v w a b p q = one_version b v w (subst (λ (f : Folder). HasVersion f v) (one_current c a b p.serves q.serves) p.says) q.says

-- ---- what says the same differs by no key

pub same_namespace : (m n : ℕ) → m ≡ n → (m == n) ≡ true
same_namespace m n e = (Decides-eqb m n).1 e

pub same_word : (a b : List ℕ) → a ≡ b → bytes_eq a b ≡ true
same_word a b e = (bytes_eq-Decides a b).1 e

pub no_difference : (a b : Version) → SaysTheSame a b → first_difference a b ≡ None
no_difference a b same = rw (same_namespace a.namespace b.namespace same.namespace, same_word a.cluster b.cluster same.cluster, same_word a.blockpool b.blockpool same.blockpool)
