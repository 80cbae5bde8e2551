-- The quotas of the directories above a path, one directory after the other.
use Rattle.std.proofs.Common.{◌≡◌, Bool, true, false, [], ◌∷◌, ◌++◌, ◌&&◌, Option, Some, refl, sym, ap, ◌∙◌, append-nil}
use Rattle.std.specs.List.{list_all}
use Rattle.std.specs.Option.{option_map_or}
use Rattle.std.specs.FinMap.{get}
use Rattle.std.proofs.Math.Seq.{append_snoc}
use Rattle.std.proofs.lemmas.List.Folds.{list_all-append}
use Rattle.nn_base.specs.Paths.{Names, Bytes}
use Rattle.nn_quota.specs.declared.quota.Usage.{Usage}
use Rattle.nn_quota.specs.Quotas.{is_fit}
use Rattle.nn_tree.specs.declared.node.Node.{Node}
use Rattle.nn_tree.specs.Nodes.{quota_of}
use Rattle.nn_tree.specs.Namespace.{Nodes, usage_of}
use Rattle.nn_ops.specs.Above.{prefixes, prefixes_from, has_room_at, has_room}

prefixes_from_push : (front rest : Names) (name : Bytes) → prefixes_from front (rest ++ name ∷ []) ≡ prefixes_from front rest ++ (front ++ rest) ∷ []
prefixes_from_push front [] name = ap (λ q. q ∷ []) (sym (append-nil front))
prefixes_from_push front (y ∷ rest) name =
    ap (λ ps. front ∷ ps) (prefixes_from_push (front ++ y ∷ []) rest name ∙ ap (λ q. prefixes_from (front ++ y ∷ []) rest ++ q ∷ []) (append_snoc front y rest))

-- above a name in p stand p and what is above p
pub prefixes_push : (p : Names) (name : Bytes) → prefixes (p ++ name ∷ []) ≡ prefixes p ++ p ∷ []
prefixes_push p name = prefixes_from_push [] p name

pub and_true : (a : Bool) → (a && true) ≡ a
and_true true = refl
and_true false = refl

pub has_room_push : (m : Nodes) (more : Usage) (p : Names) (name : Bytes) → has_room m more (p ++ name ∷ []) ≡ (has_room m more p && has_room_at m more p)
has_room_push m more p name =
    ap (list_all (has_room_at m more)) (prefixes_push p name) ∙ list_all-append (has_room_at m more) (prefixes p) (p ∷ [])
    ∙ ap (λ b. has_room m more p && b) (and_true (has_room_at m more p))

-- the directory at p, told by its node
pub has_room_node : (m : Nodes) (more : Usage) (p : Names) (node : Node) → get m p ≡ Some node → has_room_at m more p ≡ is_fit (usage_of m p) more (quota_of node.kind)
has_room_node m more p node is = ap (λ (o : Option Node). option_map_or (λ node. is_fit (usage_of m p) more (quota_of node.kind)) o true) is

pub and_false : (a : Bool) → (a && false) ≡ false
and_false true = refl
and_false false = refl

-- ---- one step of a climb from a path to the directory above it

pub room_fails : (m : Nodes) (more : Usage) (p q : Names) (name : Bytes) → p ≡ q ++ name ∷ [] → has_room_at m more q ≡ false → has_room m more p ≡ false
room_fails m more p q name is fails = ap (has_room m more) is ∙ has_room_push m more q name ∙ ap (λ b. has_room m more q && b) fails ∙ and_false (has_room m more q)

pub room_goes_on : (m : Nodes) (more : Usage) (p q : Names) (name : Bytes) → p ≡ q ++ name ∷ [] → has_room_at m more q ≡ true → has_room m more p ≡ has_room m more q
room_goes_on m more p q name is fits = ap (has_room m more) is ∙ has_room_push m more q name ∙ ap (λ b. has_room m more q && b) fits ∙ and_true (has_room m more q)
