-- The string table of a namespace: each name stands once, and the names of each part of it stand in front.
use Rattle.std.proofs.Common.{◌≡◌, Bool, true, false, List, [], ◌∷◌, ◌++◌, refl, sym, ap, ◌∙◌, append_assoc, append-nil, if◌then◌else◌}
use Rattle.std.specs.Prelude.{fold}
use Rattle.std.specs.List.{list_any, flat_map, IsDistinct, AllByRecursion}
use Rattle.std.specs.Str.{bytes_eq}
use Rattle.std.proofs.lemmas.Bool.{or_parts}
use Rattle.std.proofs.lemmas.List.Concat.{flat_map-append}
use Rattle.std.proofs.lemmas.List.Sums.{fold-append}
use Rattle.std.specs.FinMap.{entries}
use Rattle.nn_base.specs.Paths.{Bytes, Names}
use Rattle.nn_strtab.specs.Numbers.{with_use, first_uses}
use Rattle.nn_tree.specs.declared.node.Node.{Node}
use Rattle.nn_tree.specs.Namespace.{Nodes}
use Rattle.nn_image.specs.Image.{labels, string_table}
use Rattle.nn_image.proofs.UsedLemmas.{turned}
use Rattle.nn_image.proofs.OwnedLemmas.{names_more}

-- ---- each name stands once

apart_push : (y : Bytes) (names : List Bytes) (x : Bytes) → AllByRecursion (λ z. bytes_eq y z ≡ false) names → bytes_eq y x ≡ false → AllByRecursion (λ z. bytes_eq y z ≡ false) (names ++ x ∷ [])
apart_push y [] x all other = (other, tt)
apart_push y (z ∷ names) x all other = (all.0, apart_push y names x all.1 other)

once_push : (names : List Bytes) (x : Bytes) → IsDistinct bytes_eq names → list_any (bytes_eq x) names ≡ false → IsDistinct bytes_eq (names ++ x ∷ [])
unfolding IsDistinct
once_push [] x once new = (tt, tt)
once_push (y ∷ names) x once new =
    let parts = or_parts (bytes_eq x y) (list_any (bytes_eq x) names) new in
    (apart_push y names x once.0 (turned x y parts.0), once_push names x once.1 parts.1)

once_more : (names : List Bytes) (x : Bytes) → IsDistinct bytes_eq names → IsDistinct bytes_eq (with_use names x)
once_more names x once = by (list_any (bytes_eq x) names) refl
  where
    by : (b : Bool) → list_any (bytes_eq x) names ≡ b → IsDistinct bytes_eq (if b then names else names ++ x ∷ [])
    by true is = once
    by false is = once_push names x once is

once_all : (uses names : List Bytes) → IsDistinct bytes_eq names → IsDistinct bytes_eq (fold with_use names uses)
once_all [] names once = once
once_all (x ∷ uses) names once = once_all uses (with_use names x) (once_more names x once)

no_names : IsDistinct bytes_eq []
unfolding IsDistinct
no_names = tt

pub table_once : (m : Nodes) → IsDistinct bytes_eq (string_table m)
unfolding string_table
table_once m = once_all (flat_map labels (entries m)) [] no_names

-- ---- further uses leave the names in front

one_more : (names : List Bytes) (x : Bytes) → (more : List Bytes) × (with_use names x ≡ names ++ more)
one_more names x = by (list_any (bytes_eq x) names)
  where
    by : (b : Bool) → (more : List Bytes) × ((if b then names else names ++ x ∷ []) ≡ names ++ more)
    by true = ([], sym (append-nil names))
    by false = (x ∷ [], refl)

all_more : (uses names : List Bytes) → (more : List Bytes) × (fold with_use names uses ≡ names ++ more)
all_more [] names = ([], sym (append-nil names))
all_more (x ∷ uses) names =
    let a = one_more names x in
    let b = all_more uses (with_use names x) in
    (a.0 ++ b.0, b.1 ∙ ap (λ t. t ++ b.0) a.1 ∙ append_assoc names a.0 b.0)

-- so the table goes on from the names used so far with the owner and the group of the next node
pub record GoesOn (table names : List Bytes) (node : Node) : Type 0 where
  pub more : List Bytes
  pub both : table ≡ with_use (with_use names node.owner) node.group ++ more
  pub rest : List Bytes
  pub first : table ≡ with_use names node.owner ++ rest

pub goes_on_with : (table : List Bytes) (es : List (Names × Node)) (e : Names × Node) (rest : List (Names × Node)) → table ≡ first_uses (flat_map labels (es ++ e ∷ rest)) → GoesOn table (first_uses (flat_map labels es)) e.1
goes_on_with table es e rest is =
    let front = first_uses (flat_map labels (es ++ e ∷ [])) in
    let names = first_uses (flat_map labels es) in
    let later = all_more (flat_map labels rest) front in
    let whole : table ≡ with_use (with_use names e.1.owner) e.1.group ++ later.0 =
    is ∙ ap (λ es. first_uses (flat_map labels es)) (sym (append_assoc es (e ∷ []) rest))
    ∙ ap first_uses (flat_map-append labels (es ++ e ∷ []) rest)
    ∙ fold-append with_use [] (flat_map labels (es ++ e ∷ [])) (flat_map labels rest)
    ∙ later.1 ∙ ap (λ names. names ++ later.0) (names_more es e) in
    let second = one_more (with_use names e.1.owner) e.1.group in
    record {
      more = later.0;
      both = whole;
      rest = second.0 ++ later.0;
      first = whole ∙ ap (λ t. t ++ later.0) second.1 ∙ append_assoc (with_use names e.1.owner) second.0 later.0;
    }
