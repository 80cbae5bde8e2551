-- What a step of the assembly did, and what it takes to do it.
use Rattle.std.proofs.Common.{◌≡◌, ℕ, ◌+◌, ◌<◌, ◌≤◌, Bool, true, false, cond, List, [], ◌∷◌, ◌++◌, length, Option, Some, None, refl, sym, ap, ◌∙◌, arith, ◌&&◌, ◌==◌, if◌then◌else◌}
use Rattle.std.specs.Prelude.{option_and_then}
use Rattle.std.specs.Ordering.{is_lt}
use Rattle.std.specs.declared.cmp.Ordering.TheVariants.{Less}
use Rattle.std.proofs.lemmas.Bool.{and_parts, and_from, eqb-true, eq-eqb, leb-true, ltb-true, le-leb, lt-ltb}
use Rattle.std.proofs.lemmas.Option.{none-some, cond_some, option_and_then_some}
use Rattle.nn_base.specs.Limits.{most_levels, most_path, most_nodes, most_blocks}
use Rattle.nn_base.specs.Paths.{Bytes, Names, is_name, name_cmp, joined}
use Rattle.nn_base.proofs.PlainLemmas.{is_less}
use Rattle.nn_tree.specs.declared.node.Kind.{Kind}
use Rattle.nn_tree.specs.Nodes.{is_dir, blocks_of}
use Rattle.nn_tree.specs.Namespace.{Nodes, node_count, block_count}
use Rattle.nn_message.specs.Messages.{Inode, DirEntry}
use Rattle.nn_image.specs.Assembly.{Owned, use_names, Level, Partial, nothing_put, Place, waiting, is_next, placed, has_room, with_node, put_node, add_inode, is_root, add_root}

-- ---- the place of the next node

abbrev pub child_place : Level → List ℕ → List Level → Bytes → Place
child_place level rest outer name = record { path = level.path ++ name ∷ []; levels = record { path = level.path; newest = name; children = rest } ∷ outer }

pub record IsPlaced (levels : List Level) (inode : Inode) (place : Place) : Type 0 where
  pub level : Level
  pub outer : List Level
  pub left : levels ≡ level ∷ outer
  pub rest : List ℕ
  pub children : level.children ≡ inode.id ∷ rest
  pub named : is_name inode.name ≡ true
  pub behind : name_cmp level.newest inode.name ≡ Less
  pub is : place ≡ child_place level rest outer inode.name

pub placed_so : (levels : List Level) (inode : Inode) (place : Place) → placed levels inode ≡ Some place → IsPlaced levels inode place
unfolding placed is_next
placed_so [] inode place h = absurd (none-some place h)
placed_so (level ∷ outer) inode place h =
    elim level.children as (λ (ids : List ℕ). level.children ≡ ids → elim ids as (λ _. Option Place) [
      | [] ↦ None
      | child ∷ rest ↦ if is_next level child inode then Some (child_place level rest outer inode.name) else None
    ] ≡ Some place → IsPlaced (level ∷ outer) inode place) [
      | [] ↦ λ is h. absurd (none-some place h)
      | child ∷ rest ↦ λ is h.
          let found = cond_some (is_next level child inode) (child_place level rest outer inode.name) place h in
          let tests = and_parts ((child == inode.id) && is_name inode.name) (is_lt (name_cmp level.newest inode.name)) found.0 in
          let named = and_parts (child == inode.id) (is_name inode.name) tests.0 in
          record {
            level = level;
            outer = outer;
            left = refl;
            rest = rest;
            children = is ∙ ap (λ id. id ∷ rest) (eqb-true child inode.id named.0);
            named = named.1;
            behind = is_less _ tests.1;
            is = sym found.1;
          }
    ] refl h

pub placed_back : (level : Level) (outer : List Level) (inode : Inode) (rest : List ℕ) → level.children ≡ inode.id ∷ rest → is_name inode.name ≡ true → name_cmp level.newest inode.name ≡ Less
    → placed (level ∷ outer) inode ≡ Some (child_place level rest outer inode.name)
unfolding placed is_next
placed_back level outer inode rest children named behind =
    ap (λ (ids : List ℕ). elim ids as (λ _. Option Place) [
      | [] ↦ None
      | child ∷ rest ↦ if is_next level child inode then Some (child_place level rest outer inode.name) else None
    ]) children
    ∙ ap (λ b. cond b (Some (child_place level rest outer inode.name)) None) (and_from _ _ (and_from _ _ (eq-eqb inode.id inode.id refl) named) (ap is_lt behind))

-- ---- room

pub record HasRoom (m : Nodes) (path : Names) (kind : Kind) : Type 0 where
  pub levels : length path ≤ most_levels
  pub size : length (joined path) ≤ most_path
  pub nodes : node_count m < most_nodes
  pub blocks : block_count m + length (blocks_of kind) ≤ most_blocks

pub room_so : (m : Nodes) (path : Names) (kind : Kind) → has_room m path kind ≡ true → HasRoom m path kind
unfolding has_room
room_so m path kind h =
    let a = and_parts _ _ h in
    let b = and_parts _ _ a.0 in
    let c = and_parts _ _ b.0 in
    record { levels = leb-true _ _ c.0; size = leb-true _ _ c.1; nodes = ltb-true _ _ b.1; blocks = leb-true _ _ a.1 }

pub room_back : (m : Nodes) (path : Names) (kind : Kind) → HasRoom m path kind → has_room m path kind ≡ true
unfolding has_room
room_back m path kind h = and_from _ _ (and_from _ _ (and_from _ _ (le-leb _ _ h.levels) (le-leb _ _ h.size)) (lt-ltb _ _ h.nodes)) (le-leb _ _ h.blocks)

-- ---- steps

pub record Adds (table : List Bytes) (h g : Partial) (inode : Inode) : Type 0 where
  pub owned : Owned
  pub uses : use_names table h.used inode.attributes ≡ Some owned
  pub place : Place
  pub at : IsPlaced (waiting h.levels) inode place
  pub room : HasRoom h.nodes place.path inode.kind
  pub is : g ≡ with_node h owned place inode

pub adds : (table : List Bytes) (h g : Partial) (inode : Inode) → add_inode table h inode ≡ Some g → Adds table h g inode
unfolding add_inode put_node
adds table h g inode is =
    option_and_then_some (λ owned. option_and_then (λ place. put_node h owned place inode) (placed (waiting h.levels) inode)) (use_names table h.used inode.attributes) g is (λ owned uses is.
    option_and_then_some (λ place. put_node h owned place inode) (placed (waiting h.levels) inode) g is (λ place at is.
    let put = cond_some (has_room h.nodes place.path inode.kind) (with_node h owned place inode) g is in
    record { owned = owned; uses = uses; place = place; at = placed_so (waiting h.levels) inode place at; room = room_so h.nodes place.path inode.kind put.0; is = sym put.1 }))

pub adds_back : (table : List Bytes) (h : Partial) (inode : Inode) (owned : Owned) (place : Place) → use_names table h.used inode.attributes ≡ Some owned → placed (waiting h.levels) inode ≡ Some place
    → HasRoom h.nodes place.path inode.kind → add_inode table h inode ≡ Some (with_node h owned place inode)
unfolding add_inode put_node
adds_back table h inode owned place uses at room =
    ap (option_and_then (λ owned. option_and_then (λ place. put_node h owned place inode) (placed (waiting h.levels) inode))) uses
    ∙ ap (option_and_then (λ place. put_node h owned place inode)) at
    ∙ ap (λ b. cond b (Some (with_node h owned place inode)) None) (room_back h.nodes place.path inode.kind room)

abbrev pub top_place : Place
top_place = record { path = []; levels = [] }

pub record Starts (table : List Bytes) (dir_entries : List DirEntry) (g : Partial) (inode : Inode) : Type 0 where
  pub unnamed : inode.name ≡ []
  pub id : inode.id ≡ 16385
  pub dir : is_dir inode.kind ≡ true
  pub owned : Owned
  pub uses : use_names table 0 inode.attributes ≡ Some owned
  pub room : HasRoom (nothing_put dir_entries).nodes [] inode.kind
  pub is : g ≡ with_node (nothing_put dir_entries) owned top_place inode

no_bytes : (name : Bytes) → length name ≡ 0 → name ≡ []
no_bytes [] h = refl
no_bytes (b ∷ name) h = absurd (omega arith)

pub starts : (table : List Bytes) (dir_entries : List DirEntry) (g : Partial) (inode : Inode) → add_root table dir_entries inode ≡ Some g → Starts table dir_entries g inode
unfolding add_root put_node is_root
starts table dir_entries g inode is = by (is_root inode) refl is
  where
    by : (b : Bool) → is_root inode ≡ b → cond b (option_and_then (λ owned. put_node (nothing_put dir_entries) owned top_place inode) (use_names table 0 inode.attributes)) None ≡ Some g → Starts table dir_entries g inode
    by false root is = absurd (none-some g is)
    by true root is =
        let tests = and_parts _ _ root in
        let dirs = and_parts _ _ tests.0 in
        option_and_then_some (λ owned. put_node (nothing_put dir_entries) owned top_place inode) (use_names table 0 inode.attributes) g is (λ owned uses is.
        let put = cond_some (has_room (nothing_put dir_entries).nodes [] inode.kind) (with_node (nothing_put dir_entries) owned top_place inode) g is in
        record {
          unnamed = no_bytes inode.name (eqb-true _ _ dirs.0);
          id = eqb-true _ _ dirs.1;
          dir = tests.1;
          owned = owned;
          uses = uses;
          room = room_so (nothing_put dir_entries).nodes [] inode.kind put.0;
          is = sym put.1;
        })

pub starts_back : (table : List Bytes) (dir_entries : List DirEntry) (inode : Inode) (owned : Owned) → inode.name ≡ [] → inode.id ≡ 16385 → is_dir inode.kind ≡ true → use_names table 0 inode.attributes ≡ Some owned
    → HasRoom (nothing_put dir_entries).nodes [] inode.kind → add_root table dir_entries inode ≡ Some (with_node (nothing_put dir_entries) owned top_place inode)
unfolding add_root put_node is_root
starts_back table dir_entries inode owned unnamed id dir uses room =
    ap (λ b. cond b (option_and_then (λ owned. put_node (nothing_put dir_entries) owned top_place inode) (use_names table 0 inode.attributes)) None)
    (and_from _ _ (and_from _ _ (eq-eqb (length inode.name) 0 (ap length unnamed)) (eq-eqb inode.id 16385 id)) dir)
    ∙ ap (option_and_then (λ owned. put_node (nothing_put dir_entries) owned top_place inode)) uses
    ∙ ap (λ b. cond b (Some (with_node (nothing_put dir_entries) owned top_place inode)) None) (room_back (nothing_put dir_entries).nodes [] inode.kind room)
