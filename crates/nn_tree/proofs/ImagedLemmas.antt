-- For callers: a namespace that can be saved stays one under each change.
use Rattle.std.proofs.Common.{◌≡◌, ◌≢◌, ℕ, ◌+◌, ◌<◌, ◌≤◌, Bool, true, false, eqb, List, [], ◌∷◌, ◌++◌, ◌⊎◌, inl, inr, map, length, Some, None, is_some, refl, sym, ap, subst, ◌∙◌, arith}
use Rattle.std.specs.FinMap.{get, insert}
use Rattle.std.proofs.lemmas.Bool.{cases_eq}
use Rattle.std.proofs.lemmas.List.{map-append}
use Rattle.std.proofs.lemmas.List.Elements.{All-contains, Contains-push}
use Rattle.nn_base.specs.Paths.{Names, Bytes, IsPath, is_name, is_under, joined}
use Rattle.nn_base.specs.Limits.{most_levels, most_path, IsLong}
use Rattle.nn_base.proofs.PlainLemmas.{some_of}
use Rattle.nn_tree.specs.declared.node.Block.{Block}
use Rattle.nn_tree.specs.declared.node.Kind.{Kind}
use Rattle.nn_tree.specs.declared.node.Kind.TheVariants.{File, Dir}
use Rattle.nn_tree.specs.declared.node.Node.{Node}
use Rattle.nn_tree.specs.Nodes.{is_dir, blocks_of, quota_of}
use Rattle.nn_tree.specs.Namespace.{Namespace, Nodes, IsNamespace, is_dir_at}
use Rattle.nn_tree.specs.Limits.{IsWithinLimits}
use Rattle.nn_tree.specs.Imaged.{IsImaged}
use Rattle.nn_tree.specs.Changes.{with_nodes, change_at, cut, move, moved, add_block, with_block}
use Rattle.nn_tree.proofs.LimitsLemmas.{limits_cut}
use Rattle.nn_tree.proofs.PrefixLemmas.{moved_out}
use Rattle.nn_tree.proofs.CountedLemmas.{times, one_if, times-cons, times-append, times_here, times_elsewhere}
use Rattle.nn_tree.proofs.NumbersLemmas.{uses, AreNumbered, numbered, id_in, block_ids_in, stamps_in, inodes_given, blocks_given, stamps_given, uses_insert, uses_change, uses_same, uses_cut}
use Rattle.nn_tree.proofs.FormedLemmas.{get_new, get_changed, get_left, get_came, formed_insert, formed_change, formed_cut, formed_move, total_moved, named_there, CanGo}

-- a quota of names counts the directory itself
abbrev pub HasQuota : Kind → Type 0
HasQuota kind = (quota_of kind).names ≢ Some 0

-- one number is once in itself, and no other is
times_one : (id x : ℕ) → times id (x ∷ []) ≡ one_if (eqb id x)
times_one id x = let a = times-cons id x [] in omega arith

-- a number beside others, that was given last
one_more : (used last new id : ℕ) → new ≡ last + 1 → used ≤ 1 → (last < id → used ≡ 0) → one_if (eqb id new) + used ≤ 1
one_more used last new id next once within = elim (cases_eq id new) as (λ _. one_if (eqb id new) + used ≤ 1) [
  | inl is ↦ let a = times_here id new is in let b = within (omega arith) in omega arith
  | inr other ↦ let a = times_elsewhere id new other in omega arith
]

none_more : (used last new id : ℕ) → new ≡ last + 1 → new < id → (last < id → used ≡ 0) → one_if (eqb id new) + used ≡ 0
none_more used last new id next above within = let a = times_elsewhere id new (λ is. absurd (omega arith)) in let b = within (omega arith) in omega arith

-- ---- one node more

module _ (ns : Namespace) (p : Names) (name : Bytes) (x : Node) where
  abbrev with_new : Namespace
  with_new = record { nodes = insert ns.nodes (p ++ name ∷ []) x; counters = record ns.counters { inode = x.id } }

  pub imaged_insert : IsImaged ns → get ns.nodes (p ++ name ∷ []) ≡ None → is_dir_at ns.nodes p ≡ true → IsPath (p ++ name ∷ []) → IsWithinLimits (insert ns.nodes (p ++ name ∷ []) x)
      → x.id ≡ ns.counters.inode + 1 → IsLong x.id → blocks_of x.kind ≡ [] → HasQuota x.kind
      → IsImaged (record { nodes = insert ns.nodes (p ++ name ∷ []) x; counters = record ns.counters { inode = x.id } })
  imaged_insert h free dir path limits next fits empty quota = record {
    formed = formed_insert ns.nodes p name x h.formed free dir named;
    limits = limits;
    counters = record { inode = fits; block = h.counters.block; stamp = h.counters.stamp };
    paths = λ q there. (let y = some_of (get with_new.nodes q) there in path_of q y.0 (get_new ns.nodes (p ++ name ∷ []) q x y.0 y.1));
    quotas = λ q y is. quota_at q y (get_new ns.nodes (p ++ name ∷ []) q x y is);
    inodes = inodes_given with_new numbers;
    blocks = blocks_given with_new numbers;
    stamps = stamps_given with_new numbers;
  }
    where
      named : is_name name ≡ true
      named = All-contains (λ name. is_name name ≡ true) (p ++ name ∷ []) name path.named (Contains-push p name)

      path_of : (q : Names) (y : Node) → ((q ≡ p ++ name ∷ []) × (x ≡ y)) ⊎ (get ns.nodes q ≡ Some y) → IsPath q
      path_of q y (inl is) = subst IsPath (sym is.0) path
      path_of q y (inr is) = h.paths q (ap is_some is)

      quota_at : (q : Names) (y : Node) → ((q ≡ p ++ name ∷ []) × (x ≡ y)) ⊎ (get ns.nodes q ≡ Some y) → HasQuota y.kind
      quota_at q y (inl is) = subst (λ (y : Node). HasQuota y.kind) is.1 quota
      quota_at q y (inr is) = h.quotas q y is

      old : AreNumbered ns
      old = numbered ns h

      none : (f : Block → ℕ) (id : ℕ) → times id (map f (blocks_of x.kind)) ≡ 0
      none f id = ap (λ bs. times id (map f bs)) empty

      same : (f : Block → ℕ) (id : ℕ) → uses (λ y. map f (blocks_of y.kind)) id with_new.nodes ≡ uses (λ y. map f (blocks_of y.kind)) id ns.nodes
      same f id = let a = uses_insert (λ y. map f (blocks_of y.kind)) id ns.nodes (p ++ name ∷ []) x free in let b = none f id in omega arith

      ids : (id : ℕ) → uses id_in id with_new.nodes ≡ one_if (eqb id x.id) + uses id_in id ns.nodes
      ids id = let a = uses_insert id_in id ns.nodes (p ++ name ∷ []) x free in let b = times_one id x.id in omega arith

      numbers : AreNumbered with_new
      numbers = record {
        inodes = record {
          once = λ id. let a = ids id in let b = one_more (uses id_in id ns.nodes) ns.counters.inode x.id id next (old.inodes.once id) (old.inodes.within id) in omega arith;
          within = λ id above. ids id ∙ none_more (uses id_in id ns.nodes) ns.counters.inode x.id id next above (old.inodes.within id);
        };
        blocks = record {
          once = λ id. let a = same (λ b. b.id) id in let b = old.blocks.once id in omega arith;
          within = λ id above. same (λ b. b.id) id ∙ old.blocks.within id above;
        };
        stamps = λ s above. same (λ b. b.stamp) s ∙ old.stamps s above;
      }

-- ---- another node at a path

-- a change that keeps ids and blocks
pub record KeepsNumbers (g : Node → Node) : Type 0 where
  pub id : (x : Node) → (g x).id ≡ x.id
  pub dir : (x : Node) → is_dir (g x).kind ≡ is_dir x.kind
  pub blocks : (x : Node) → blocks_of (g x).kind ≡ blocks_of x.kind

module _ (ns : Namespace) (p : Names) (g : Node → Node) (h : IsImaged ns) where
  abbrev changed_nodes : Nodes
  changed_nodes = change_at p g ns.nodes

  abbrev after : Namespace
  after = with_nodes ns (change_at p g ns.nodes)

  paths_changed : (q : Names) → is_some (get changed_nodes q) ≡ true → IsPath q
  paths_changed q there = let y = some_of (get changed_nodes q) there in let x = get_changed ns.nodes p q g y.0 y.1 in h.paths q (ap is_some x.1)

  quotas_changed : ((x : Node) → HasQuota x.kind → HasQuota (g x).kind) → (q : Names) (y : Node) → get changed_nodes q ≡ Some y → HasQuota y.kind
  quotas_changed keeps q y is = let x = get_changed ns.nodes p q g y is in by x.0 (h.quotas q x.0 x.1) x.2
    where
      by : (x : Node) → HasQuota x.kind → (y ≡ x) ⊎ (y ≡ g x) → HasQuota y.kind
      by x old (inl e) = subst (λ (y : Node). HasQuota y.kind) (sym e) old
      by x old (inr e) = subst (λ (y : Node). HasQuota y.kind) (sym e) (keeps x old)

  pub imaged_change : KeepsNumbers g → ((x : Node) → HasQuota x.kind → HasQuota (g x).kind) → IsWithinLimits (change_at p g ns.nodes) → IsImaged (with_nodes ns (change_at p g ns.nodes))
  imaged_change keeps quota limits = record {
    formed = formed_change ns.nodes p g keeps.id keeps.dir h.formed;
    limits = limits;
    counters = h.counters;
    paths = paths_changed;
    quotas = quotas_changed quota;
    inodes = inodes_given after numbers;
    blocks = blocks_given after numbers;
    stamps = stamps_given after numbers;
  }
    where
      old : AreNumbered ns
      old = numbered ns h

      same : (f : Node → List ℕ) (id : ℕ) → ((x : Node) → f (g x) ≡ f x) → uses f id (change_at p g ns.nodes) ≡ uses f id ns.nodes
      same f id is = uses_same f id ns.nodes p g is

      numbers : AreNumbered after
      numbers = record {
        inodes = record {
          once = λ id. let a = same id_in id (λ x. ap (λ n. n ∷ []) (keeps.id x)) in let b = old.inodes.once id in omega arith;
          within = λ id above. same id_in id (λ x. ap (λ n. n ∷ []) (keeps.id x)) ∙ old.inodes.within id above;
        };
        blocks = record {
          once = λ id. let a = same block_ids_in id (λ x. ap (map (λ b. b.id)) (keeps.blocks x)) in let b = old.blocks.once id in omega arith;
          within = λ id above. same block_ids_in id (λ x. ap (map (λ b. b.id)) (keeps.blocks x)) ∙ old.blocks.within id above;
        };
        stamps = λ s above. same stamps_in s (λ x. ap (map (λ b. b.stamp)) (keeps.blocks x)) ∙ old.stamps s above;
      }

-- ---- one block more

dir_added : (block : Block) (kind : Kind) → is_dir (add_block block kind) ≡ is_dir kind
dir_added block (File replication is_open blocks) = refl
dir_added block (Dir quota) = refl

quota_added : (block : Block) (kind : Kind) → HasQuota kind → HasQuota (add_block block kind)
quota_added block (File replication is_open blocks) h = h
quota_added block (Dir quota) h = h

few_added : (f : Block → ℕ) (id : ℕ) (block : Block) (kind : Kind) → times id (map f (blocks_of (add_block block kind))) ≤ one_if (eqb id (f block)) + times id (map f (blocks_of kind))
few_added f id block (File replication is_open blocks) =
    let a = ap (times id) (map-append f blocks (block ∷ [])) ∙ times-append id (map f blocks) (f block ∷ []) in
    let b = times_one id (f block) in
    omega arith
few_added f id block (Dir quota) = omega arith

module _ (ns : Namespace) (p : Names) (block : Block) (x : Node) (h : IsImaged ns) where
  abbrev with_block_more : Namespace
  with_block_more = record { nodes = change_at p (with_block block) ns.nodes; counters = record ns.counters { block = block.id; stamp = block.stamp } }

  pub imaged_block : get ns.nodes p ≡ Some x → IsWithinLimits (change_at p (with_block block) ns.nodes) → block.id ≡ ns.counters.block + 1 → block.stamp ≡ ns.counters.stamp + 1 → IsLong block.id → IsLong block.stamp
      → IsImaged (record { nodes = change_at p (with_block block) ns.nodes; counters = record ns.counters { block = block.id; stamp = block.stamp } })
  imaged_block there limits next next_stamp fits fits_stamp = record {
    formed = formed_change ns.nodes p (with_block block) (λ y. refl) (λ y. dir_added block y.kind) h.formed;
    limits = limits;
    counters = record { inode = h.counters.inode; block = fits; stamp = fits_stamp };
    paths = paths_changed ns p (with_block block) h;
    quotas = quotas_changed ns p (with_block block) h (λ y. quota_added block y.kind);
    inodes = inodes_given with_block_more numbers;
    blocks = blocks_given with_block_more numbers;
    stamps = stamps_given with_block_more numbers;
  }
    where
      old : AreNumbered ns
      old = numbered ns h

      same : (id : ℕ) → uses id_in id with_block_more.nodes ≡ uses id_in id ns.nodes
      same id = uses_same id_in id ns.nodes p (with_block block) (λ y. refl)

      few : (f : Block → ℕ) (id : ℕ) → uses (λ y. map f (blocks_of y.kind)) id with_block_more.nodes ≤ one_if (eqb id (f block)) + uses (λ y. map f (blocks_of y.kind)) id ns.nodes
      few f id = let a = uses_change (λ y. map f (blocks_of y.kind)) id ns.nodes p (with_block block) x there in let b = few_added f id block x.kind in omega arith

      numbers : AreNumbered with_block_more
      numbers = record {
        inodes = record {
          once = λ id. let a = same id in let b = old.inodes.once id in omega arith;
          within = λ id above. same id ∙ old.inodes.within id above;
        };
        blocks = record {
          once = λ id. let a = few (λ b. b.id) id in let b = one_more (uses block_ids_in id ns.nodes) ns.counters.block block.id id next (old.blocks.once id) (old.blocks.within id) in omega arith;
          within = λ id above. (let a = few (λ b. b.id) id in let b = none_more (uses block_ids_in id ns.nodes) ns.counters.block block.id id next above (old.blocks.within id) in omega arith);
        };
        stamps = λ s above. (let a = few (λ b. b.stamp) s in let b = none_more (uses stamps_in s ns.nodes) ns.counters.stamp block.stamp s next_stamp above (old.stamps s) in omega arith);
      }

-- ---- a path is cut

module _ (ns : Namespace) (p : Names) where
  abbrev without : Namespace
  without = with_nodes ns (cut p ns.nodes)

  pub imaged_cut : p ≢ [] → IsImaged ns → IsImaged (with_nodes ns (cut p ns.nodes))
  imaged_cut below_root h = record {
    formed = formed_cut ns.nodes p below_root h.formed;
    limits = limits_cut ns.nodes p h.limits;
    counters = h.counters;
    paths = λ q there. (let y = some_of (get without.nodes q) there in h.paths q (ap is_some (get_left ns.nodes p q y.0 y.1).0));
    quotas = λ q y is. h.quotas q y (get_left ns.nodes p q y is).0;
    inodes = inodes_given without numbers;
    blocks = blocks_given without numbers;
    stamps = stamps_given without numbers;
  }
    where
      old : AreNumbered ns
      old = numbered ns h

      none : (f : Node → List ℕ) (id : ℕ) → uses f id ns.nodes ≡ 0 → uses f id without.nodes ≡ 0
      none f id is = let a = uses_cut f id ns.nodes p in omega arith

      numbers : AreNumbered without
      numbers = record {
        inodes = record {
          once = λ id. let a = uses_cut id_in id ns.nodes p in let b = old.inodes.once id in omega arith;
          within = λ id above. none id_in id (old.inodes.within id above);
        };
        blocks = record {
          once = λ id. let a = uses_cut block_ids_in id ns.nodes p in let b = old.blocks.once id in omega arith;
          within = λ id above. none block_ids_in id (old.blocks.within id above);
        };
        stamps = λ s above. none stamps_in s (old.stamps s above);
      }

-- ---- a node moves

-- a path that is neither too deep nor too long
pub record IsShort (p : Names) : Type 0 where
  pub levels : length p ≤ most_levels
  pub size : length (joined p) ≤ most_path

module _ (ns : Namespace) (p q : Names) (name : Bytes) (can : CanGo ns.nodes p (q ++ name ∷ [])) where
  abbrev d : Names
  d = q ++ name ∷ []

  abbrev with_moved : Namespace
  with_moved = with_nodes ns (move p (q ++ name ∷ []) ns.nodes)

  limits_move : IsWithinLimits ns.nodes → IsWithinLimits (move p (q ++ name ∷ []) ns.nodes)
  limits_move h = record {
    nodes = let a = total_moved ns.nodes p d can (λ x. 1) in let b = h.nodes in omega arith;
    blocks = let a = total_moved ns.nodes p d can (λ x. length (blocks_of x.kind)) in let b = h.blocks in omega arith;
    each = λ r x is. (let c = get_came ns.nodes p d can r x is in h.each c.0 x c.1);
  }

  pub imaged_move : IsImaged ns → is_dir_at ns.nodes q ≡ true → is_under p q ≡ false → is_name name ≡ true → ((r : Names) (x : Node) → get ns.nodes r ≡ Some x → is_under p r ≡ true → IsShort (moved p (q ++ name ∷ []) r))
      → IsImaged (with_nodes ns (move p (q ++ name ∷ []) ns.nodes))
  imaged_move h dir outside named short = record {
    formed = formed;
    limits = limits_move h.limits;
    counters = h.counters;
    paths = λ r there. (let y = some_of (get with_moved.nodes r) there in let c = get_came ns.nodes p d can r y.0 y.1 in
        let s = short_of c.0 y.0 c.1 (is_under p c.0) refl in
        let named = named_there with_moved.nodes formed r there in
        record { named = named; levels = subst (λ r. length r ≤ most_levels) c.2 s.levels; size = subst (λ r. length (joined r) ≤ most_path) c.2 s.size });
    quotas = λ r y is. (let c = get_came ns.nodes p d can r y is in h.quotas c.0 y c.1);
    inodes = inodes_given with_moved numbers;
    blocks = blocks_given with_moved numbers;
    stamps = stamps_given with_moved numbers;
  }
    where
      formed : IsNamespace (move p (q ++ name ∷ []) ns.nodes)
      formed = formed_move ns.nodes p q name can dir outside named

      short_of : (r : Names) (x : Node) → get ns.nodes r ≡ Some x → (b : Bool) → is_under p r ≡ b → IsShort (moved p (q ++ name ∷ []) r)
      short_of r x is true under = short r x is under
      short_of r x is false out =
          let path = h.paths r (ap is_some is) in
          subst IsShort (sym (moved_out p d r out)) (record { levels = path.levels; size = path.size })

      old : AreNumbered ns
      old = numbered ns h

      same : (f : Node → List ℕ) (id : ℕ) → uses f id with_moved.nodes ≡ uses f id ns.nodes
      same f id = total_moved ns.nodes p d can (λ x. times id (f x))

      numbers : AreNumbered with_moved
      numbers = record {
        inodes = record {
          once = λ id. let a = same id_in id in let b = old.inodes.once id in omega arith;
          within = λ id above. same id_in id ∙ old.inodes.within id above;
        };
        blocks = record {
          once = λ id. let a = same block_ids_in id in let b = old.blocks.once id in omega arith;
          within = λ id above. same block_ids_in id ∙ old.blocks.within id above;
        };
        stamps = λ s above. same stamps_in s ∙ old.stamps s above;
      }
