-- The texts of paths, and how a listing grows from node to node.
use Rattle.std.proofs.Common.{◌≡◌, ◌≢◌, ℕ, ◌≤◌, Bool, true, false, List, [], ◌∷◌, ◌++◌, length, take, drop, Option, Some, None, is_some, is_none, append_assoc, sym, ap, ◌∙◌, refl, arith}
use Rattle.std.specs.Prelude.{sum_by, codes}
use Rattle.std.specs.List.{flat_map}
use Rattle.std.specs.FinMap.{get, entries}
use Rattle.std.proofs.lemmas.List.{append-nil, take-append-drop}
use Rattle.std.proofs.lemmas.List.Sums.{length-filter, count_by-le-length, sum_by-cons}
use Rattle.std.proofs.lemmas.Grind.{flat_map-append}
use Rattle.std.specs.Ordering.{is_lt}
use Rattle.nn_base.specs.Paths.{Bytes, Names, joined, text_of, is_under, path_cmp}
use Rattle.nn_base.proofs.PathsLemmas.{name_is_short}
use Rattle.nn_quota.specs.declared.quota.Usage.{Usage}
use Rattle.nn_tree.specs.declared.node.Node.{Node}
use Rattle.nn_tree.specs.declared.spot.Spot.{Spot}
use Rattle.nn_tree.specs.Nodes.{blocks_of}
use Rattle.nn_tree.specs.Namespace.{Namespace, Nodes, node_count, usage_of}
use Rattle.nn_tree.specs.Walks.{Obstacle, Absent, AFile, obstacle}
use Rattle.nn_tree.specs.Spots.{last_name, IsSound}
use Rattle.nn_tree.specs.Below.{entries_below, visited}
use Rattle.nn_tree.proofs.SoundLemmas.{last_name_push}
use Rattle.nn_ops.specs.declared.refusal.OpRefusal.{OpRefusal}
use Rattle.nn_ops.specs.declared.refusal.OpRefusal.TheVariants.{NotFound, NotDir}
use Rattle.nn_base.specs.First.{when, first_of}
use Rattle.nn_ops.specs.Refusals.{refusal_by}
use Rattle.nn_script.specs.Answers.{lines_at, list_refusal, list_text}
use Rattle.nn_script.specs.Listing.{node_words, node_line, block_line}
use Rattle.nn_script.specs.Spelling.{answer_text, escaped, escaped_byte}
use Rattle.nn_script.specs.declared.answer.Answer.TheVariants.{Refused}
use Rattle.nn_script.proofs.SpacedLemmas.{node_line_is}
use Rattle.nn_say.specs.Listed.{listing_of}

-- ---- the texts of paths

pub joined_child : (p : Names) (name : Bytes) → joined (p ++ name ∷ []) ≡ joined p ++ 47 ∷ name
joined_child [] name = ap (λ x. 47 ∷ x) (append-nil name)
joined_child (first ∷ p) name = ap (λ x. 47 ∷ first ++ x) (joined_child p name) ∙ sym (append_assoc (47 ∷ first) (joined p) (47 ∷ name))

pub text_child : (p : Names) (name : Bytes) → text_of (p ++ name ∷ []) ≡ joined (p ++ name ∷ [])
text_child [] name = refl
text_child (first ∷ p) name = refl

pub text_below : (at p : Names) (name : Bytes) → at ≡ p ++ name ∷ [] → text_of at ≡ joined at
text_below at p name is = ap text_of is ∙ text_child p name ∙ ap joined (sym is)

escaped-append : (text more : Bytes) → escaped (text ++ more) ≡ escaped text ++ escaped more
escaped-append text more = flat_map-append escaped_byte text more

-- one name more
pub names_more : (at p : Names) (name last : Bytes) → at ≡ p ++ name ∷ [] → last ≡ last_name at → escaped (joined at) ≡ escaped (joined p) ++ 47 ∷ escaped last
names_more at p name last is same =
    ap (λ x. escaped (joined x)) is ∙ ap escaped (joined_child p name) ∙ escaped-append (joined p) (47 ∷ name)
    ∙ ap (λ x. escaped (joined p) ++ 47 ∷ escaped x) (sym (same ∙ ap last_name is ∙ last_name_push p name))

-- the name of a node that is there
pub name_fits : {ns : Namespace} {has : Spot → Bool} {place : Spot → Names} (at : Spot) (p : Names) (name last : Bytes) → IsSound ns has place → has at ≡ true → place at ≡ p ++ name ∷ [] → last ≡ last_name (place at) → length last ≤ 255
name_fits {ns} at p name last sound there is same =
    let named = sound.formed.names p name (ap (λ x. is_some (get ns.nodes x)) (sym is) ∙ sound.named at there) in
    let same_name : last ≡ name = same ∙ ap last_name is ∙ last_name_push p name in
    omega (arith, name_is_short name named, ap length same_name)

-- ---- one piece more

pub piece_more : {X : Type 0} (f : X → Bytes) (xs : List X) (i k : ℕ) (x : X) → take k xs ≡ take i xs ++ x ∷ [] → flat_map f (take k xs) ≡ flat_map f (take i xs) ++ f x
piece_more f xs i k x more = ap (flat_map f) more ∙ flat_map-append f (take i xs) (x ∷ []) ∙ ap (λ y. flat_map f (take i xs) ++ y) (append-nil (f x))

-- with what stands behind it
pub piece_within : {X : Type 0} (f : X → Bytes) (xs : List X) (i k : ℕ) (x : X) → take k xs ≡ take i xs ++ x ∷ [] → flat_map f xs ≡ (flat_map f (take i xs) ++ f x) ++ flat_map f (drop k xs)
piece_within f xs i k x more =
    ap (flat_map f) (sym (take-append-drop k xs)) ∙ flat_map-append f (take k xs) (drop k xs)
    ∙ ap (λ y. y ++ flat_map f (drop k xs)) (piece_more f xs i k x more)

-- what is said of a node, part by part
pub node_parts : (m : Nodes) (place : Names) (node : Node) (usage : Usage) → usage ≡ usage_of m place
    → lines_at m (place, node) ≡ node_words node usage ++ (escaped (text_of place) ++ (codes "\n" ++ flat_map block_line (blocks_of node.kind)))
node_parts m place node usage same =
    let blocks = flat_map block_line (blocks_of node.kind) in
    ap (λ u. node_line (text_of place) node u ++ blocks) (sym same) ∙ ap (λ x. x ++ blocks) (node_line_is (text_of place) node usage)
    ∙ append_assoc (node_words node usage) (escaped (text_of place) ++ codes "\n") blocks ∙ ap (λ x. node_words node usage ++ x) (append_assoc (escaped (text_of place)) (codes "\n") blocks)

-- ---- there are few nodes

count_ones : {X : Type 0} (xs : List X) → length xs ≡ sum_by (λ x. 1) xs
count_ones [] = refl
count_ones {X} (x ∷ xs) = omega (arith, count_ones xs, sum_by-cons (λ (x : X). 1) x xs)

pub few_nodes : (m : Nodes) (top : Names) → node_count m ≤ 1048576 → length (entries_below m top) ≤ 1048576
few_nodes m top few = omega (arith, few, count_ones (entries m), length-filter (λ e. is_under top e.0) (entries m), count_by-le-length (λ e. is_under top e.0) (entries m))

pub few_visited : (m : Nodes) (top : Names) (place : Spot → Names) (at : Option Spot) → visited m top place at ≤ length (entries_below m top)
few_visited m top place None = omega arith
few_visited m top place (Some s) = count_by-le-length (λ e. is_lt (path_cmp e.0 (place s))) (entries_below m top)

-- ---- the node is there

not_none : {A : Type 0} (o : Option A) → is_some o ≡ true → is_none o ≡ false
not_none None is = cc is
not_none (Some a) is = refl

pub listed : (m : Nodes) (path : Names) → obstacle m path ≡ None → is_some (get m path) ≡ true → list_text m path ≡ listing_of m path
listed m path clear there = ap by none
  where
    by : Option OpRefusal → Bytes
    by None = listing_of m path
    by (Some refusal) = answer_text (Refused refusal)

    none : list_refusal m path ≡ None
    none = λ i. first_of (refusal_by (clear i) ∷ when (not_none (get m path) there i) NotFound ∷ [])

-- ---- or nothing is there

refused_as : (m : Nodes) (path : Names) (refusal : OpRefusal) → list_refusal m path ≡ Some refusal → list_text m path ≡ answer_text (Refused refusal)
refused_as m path refusal is = ap by is
  where
    by : Option OpRefusal → Bytes
    by None = listing_of m path
    by (Some refusal) = answer_text (Refused refusal)

pub missing : (m : Nodes) (path : Names) → get m path ≡ None → obstacle m path ≢ Some AFile → list_text m path ≡ answer_text (Refused NotFound)
missing m path none clear = refused_as m path NotFound (by (obstacle m path) clear)
  where
    by : (o : Option Obstacle) → o ≢ Some AFile → first_of (refusal_by o ∷ when (is_none (get m path)) NotFound ∷ []) ≡ Some NotFound
    by None clear = λ i. first_of (when (is_none (none i)) NotFound ∷ [])
    by (Some Absent) clear = refl
    by (Some AFile) clear = absurd (clear refl)

pub through_file : (m : Nodes) (path : Names) → obstacle m path ≡ Some AFile → list_text m path ≡ answer_text (Refused NotDir)
through_file m path file = refused_as m path NotDir (λ i. first_of (refusal_by (file i) ∷ when (is_none (get m path)) NotFound ∷ []))
