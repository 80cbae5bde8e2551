-- The walk to a path, by the walk to the directory above it.
use Rattle.std.proofs.Common.{◌≡◌, ◌≢◌, ℕ, ◌+◌, ◌-◌, ◌<◌, Bool, true, false, cond, [], ◌∷◌, ◌++◌, length, take, Option, Some, None, refl, sym, ap, ◌∙◌, arith, is_some, append-nil, length-append}
use Rattle.std.specs.Option.{option_map_or}
use Rattle.std.specs.FinMap.{get}
use Rattle.std.proofs.Math.ListN.{get_or}
use Rattle.std.proofs.Math.Seq.{append_snoc, take-length}
use Rattle.std.specs.Prelude.{slice_get}
use Rattle.std.proofs.lemmas.List.{take_more, take-append-le}
use Rattle.std.proofs.lemmas.Option.{slice_get_within, get_or_from_slice_get}
use Rattle.nn_base.specs.Paths.{Names, Bytes}
use Rattle.nn_tree.specs.declared.node.Node.{Node}
use Rattle.nn_tree.specs.Nodes.{is_dir}
use Rattle.nn_tree.specs.Namespace.{Nodes, is_dir_at, IsNamespace}
use Rattle.nn_tree.specs.Walks.{Obstacle, Absent, AFile, obstacle, obstacle_from}
use Rattle.nn_ops.specs.declared.refusal.OpRefusal.TheVariants.{Exists, NotFound}
use Rattle.nn_ops.specs.Above.{parent_of}
use Rattle.nn_base.specs.First.{when, first_of}
use Rattle.nn_ops.specs.Refusals.{refusal_by}
use Rattle.nn_ops.specs.Commands.{free_tests}

-- ---- a path is the one above it, and a name

pub last_of : (p : Names) → 0 < length p → (name : Bytes) × (p ≡ parent_of p ++ name ∷ [])
last_of p deep =
    let within : length p - 1 < length p = omega arith in
    let whole : length p - 1 + 1 ≡ length p = omega arith in
    (get_or p (length p - 1) [], sym (take-length p) ∙ ap (λ n. take n p) (sym whole) ∙ take_more p (length p - 1) [] within)

pub parent_of_push : (q : Names) (name : Bytes) → parent_of (q ++ name ∷ []) ≡ q
parent_of_push q name =
    let one : length (q ++ name ∷ []) - 1 ≡ length q = omega (arith, length-append q (name ∷ [])) in
    ap (λ n. take n (q ++ name ∷ [])) one ∙ take-append-le (length q) q (name ∷ []) (omega arith) ∙ take-length q

pub take_next : (p : Names) (k : ℕ) (name : Bytes) → slice_get p k ≡ Some name → take (k + 1) p ≡ take k p ++ name ∷ []
take_next p k name is = take_more p k name (slice_get_within p k name is) ∙ ap (λ x. take k p ++ x ∷ []) (get_or_from_slice_get p k name name is)

-- ---- one step of a walk

-- what the node at q says to a walk through it
abbrev pub through : Nodes → Names → Option Obstacle
through m q = elim (get m q) [ None ↦ Some Absent | Some node ↦ cond (is_dir node.kind) None (Some AFile) ]

abbrev pub or_else : Option Obstacle → Option Obstacle → Option Obstacle
or_else None b = b
or_else (Some o) b = Some o

pub obstacle_push : (m : Nodes) (front rest : Names) (x : Bytes) → obstacle_from m front (rest ++ x ∷ []) ≡ or_else (obstacle_from m front rest) (through m (front ++ rest))
obstacle_push m front [] x = ap (through m) (sym (append-nil front))
obstacle_push m front (y ∷ rest) x =
    elim (get m front) as (λ o. elim o as (λ _. Option Obstacle) [ None ↦ Some Absent | Some node ↦ cond (is_dir node.kind) (obstacle_from m (front ++ y ∷ []) (rest ++ x ∷ [])) (Some AFile) ]
    ≡ or_else (elim o as (λ _. Option Obstacle) [ None ↦ Some Absent | Some node ↦ cond (is_dir node.kind) (obstacle_from m (front ++ y ∷ []) rest) (Some AFile) ]) (through m (front ++ y ∷ rest))) [
      | None ↦ refl
      | Some node ↦ elim (is_dir node.kind) as (λ b. cond b (obstacle_from m (front ++ y ∷ []) (rest ++ x ∷ [])) (Some AFile) ≡ or_else (cond b (obstacle_from m (front ++ y ∷ []) rest) (Some AFile)) (through m (front ++ y ∷ rest))) [
        | true ↦ obstacle_push m (front ++ y ∷ []) rest x ∙ ap (λ q. or_else (obstacle_from m (front ++ y ∷ []) rest) (through m q)) (append_snoc front y rest)
        | false ↦ refl
      ]
    ]

-- the walk to a path, by its directory
pub obstacle_by : (m : Nodes) (p : Names) → 0 < length p → obstacle m p ≡ or_else (obstacle m (parent_of p)) (through m (parent_of p))
obstacle_by m p deep = let l = last_of p deep in ap (obstacle m) l.1 ∙ obstacle_push m [] (parent_of p) l.0

-- a directory lets a walk through, and what lets it through is a directory
pub through_dir : (m : Nodes) (q : Names) → is_dir_at m q ≡ true → through m q ≡ None
through_dir m q h = elim (get m q) as (λ o. option_map_or (λ (node : Node). is_dir node.kind) o false ≡ true → elim o as (λ _. Option Obstacle) [ None ↦ Some Absent | Some node ↦ cond (is_dir node.kind) None (Some AFile) ] ≡ None) [
  | None ↦ λ h. cc
  | Some node ↦ λ h. ap (λ b. cond b None (Some AFile)) h
] h

pub dir_let_through : (m : Nodes) (q : Names) → through m q ≡ None → is_dir_at m q ≡ true
dir_let_through m q h = elim (get m q) as (λ o. elim o as (λ _. Option Obstacle) [ None ↦ Some Absent | Some node ↦ cond (is_dir node.kind) None (Some AFile) ] ≡ None → option_map_or (λ (node : Node). is_dir node.kind) o false ≡ true) [
  | None ↦ λ h. cc
  | Some node ↦ λ h. by (is_dir node.kind) h
] h
  where
    by : (b : Bool) → cond b None (Some AFile) ≡ None → b ≡ true
    by true h = refl
    by false h = cc

none_before : (a b : Option Obstacle) → or_else a b ≡ None → a ≡ None
none_before None b h = refl
none_before (Some o) b h = cc

-- where nothing is in the way of a path, a directory stands above it
pub dir_above : (m : Nodes) (p : Names) → 0 < length p → obstacle m p ≡ None → is_dir_at m (parent_of p) ≡ true
dir_above m p deep clear =
    let e = sym (obstacle_by m p deep) ∙ clear in
    dir_let_through m (parent_of p) (sym (ap (λ o. or_else o (through m (parent_of p))) (none_before _ _ e)) ∙ e)

-- ---- in a namespace

module _ (m : Nodes) (sound : IsNamespace m) where
  dir_is_there : (q : Names) → is_dir_at m q ≡ true → is_some (get m q) ≡ true
  dir_is_there q h = elim (get m q) as (λ o. option_map_or (λ (node : Node). is_dir node.kind) o false ≡ true → is_some o ≡ true) [ None ↦ λ h. cc | Some node ↦ λ h. refl ] h

  clear_along : (front rest : Names) → is_some (get m (front ++ rest)) ≡ true → (obstacle_from m front rest ≡ None) × (is_some (get m front) ≡ true)
  clear_along front [] h = (refl, ap (λ q. is_some (get m q)) (sym (append-nil front)) ∙ h)
  clear_along front (y ∷ rest) h =
      let next = clear_along (front ++ y ∷ []) rest (ap (λ q. is_some (get m q)) (append_snoc front y rest) ∙ h) in
      let dir = sound.parents front y next.1 in
      (by (get m front) dir next.0, dir_is_there front dir)
    where
      by : (o : Option Node) → option_map_or (λ (node : Node). is_dir node.kind) o false ≡ true → obstacle_from m (front ++ y ∷ []) rest ≡ None
          → elim o as (λ _. Option Obstacle) [ None ↦ Some Absent | Some node ↦ cond (is_dir node.kind) (obstacle_from m (front ++ y ∷ []) rest) (Some AFile) ] ≡ None
      by None dir next = cc
      by (Some node) dir next = ap (λ b. cond b (obstacle_from m (front ++ y ∷ []) rest) (Some AFile)) dir ∙ next

  -- nothing is in the way of a node that is there
  pub clear_to : (p : Names) → is_some (get m p) ≡ true → obstacle m p ≡ None
  clear_to p h = (clear_along [] p h).0

  -- the root is there
  pub below_root : (p : Names) → get m p ≡ None → 0 < length p
  below_root [] none = let there = sound.there in cc
  below_root (x ∷ p) none = omega arith

  -- a path at which nothing stands, and no file is in the way, where its directory is there
  pub clear_by_dir : (p : Names) → get m p ≡ None → obstacle m p ≢ Some AFile → is_some (get m (parent_of p)) ≡ true → obstacle m p ≡ None
  clear_by_dir p free no_file there =
      let deep = below_root p free in
      let e = obstacle_by m p deep ∙ ap (λ o. or_else o (through m (parent_of p))) (clear_to (parent_of p) there) in
      e ∙ by (get m (parent_of p)) there (λ f. no_file (e ∙ f))
    where
      by : (o : Option Node) → is_some o ≡ true → (elim o as (λ _. Option Obstacle) [ None ↦ Some Absent | Some node ↦ cond (is_dir node.kind) None (Some AFile) ] ≢ Some AFile)
          → elim o as (λ _. Option Obstacle) [ None ↦ Some Absent | Some node ↦ cond (is_dir node.kind) None (Some AFile) ] ≡ None
      by None h bar = cc
      by (Some node) h bar = other (is_dir node.kind) bar
        where
          other : (b : Bool) → cond b None (Some AFile) ≢ Some AFile → cond b None (Some AFile) ≡ None
          other true bar = refl
          other false bar = absurd (bar refl)

  -- where it isn't
  pub absent_by_dir : (p : Names) → get m p ≡ None → get m (parent_of p) ≡ None → obstacle m (parent_of p) ≢ Some AFile → obstacle m p ≡ Some Absent
  absent_by_dir p free none no_file =
      obstacle_by m p (below_root p free)
      ∙ ap (λ (o : Option Node). or_else (obstacle m (parent_of p)) (elim o as (λ _. Option Obstacle) [ None ↦ Some Absent | Some node ↦ cond (is_dir node.kind) None (Some AFile) ])) none
      ∙ by (obstacle m (parent_of p)) no_file
    where
      by : (o : Option Obstacle) → o ≢ Some AFile → or_else o (Some Absent) ≡ Some Absent
      by None bar = refl
      by (Some Absent) bar = refl
      by (Some AFile) bar = absurd (bar refl)

  -- a file above the directory is above the path
  pub file_by_dir : (p : Names) → get m p ≡ None → obstacle m (parent_of p) ≡ Some AFile → obstacle m p ≡ Some AFile
  file_by_dir p free file = obstacle_by m p (below_root p free) ∙ ap (λ o. or_else o (through m (parent_of p))) file

  -- ---- a free place, by the walk to its directory

  pub free_by_dir : (p above : Names) → above ≡ parent_of p → get m p ≡ None → obstacle m p ≢ Some AFile → is_some (get m above) ≡ true → first_of (free_tests m p) ≡ None
  free_by_dir p above is free no_file there =
      let clear = clear_by_dir p free no_file (ap (λ (q : Names). is_some (get m q)) (sym is) ∙ there) in
      ap (λ o. first_of (refusal_by o ∷ when (is_some (get m p)) Exists ∷ [])) clear ∙ ap (λ (o : Option Node). first_of (when (is_some o) Exists ∷ [])) free

  pub absent_tests : (p above : Names) → above ≡ parent_of p → get m p ≡ None → obstacle m p ≢ Some AFile → get m above ≡ None → obstacle m above ≢ Some AFile → first_of (free_tests m p) ≡ Some NotFound
  absent_tests p above is free no_file none clear =
      let absent = absent_by_dir p free (ap (get m) (sym is) ∙ none) (λ e. clear (ap (obstacle m) is ∙ e)) in
      ap (λ o. first_of (refusal_by o ∷ when (is_some (get m p)) Exists ∷ [])) absent
