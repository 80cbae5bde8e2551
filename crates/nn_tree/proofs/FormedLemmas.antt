-- A namespace stays well formed under each change.
use Rattle.std.proofs.Common.{◌≡◌, ◌≢◌, ℕ, Bool, true, false, not, cond, List, [], ◌∷◌, ◌++◌, ◌⊎◌, inl, inr, length, drop, map, Option, Some, None, is_some, refl, sym, ap, ◌∙◌, arith, length-append}
use Rattle.std.specs.Prelude.{All}
use Rattle.std.specs.Option.{option_map_or}
use Rattle.std.specs.Ordering.{eq_by_cmp}
use Rattle.std.specs.FinMap.{get, insert, entries, from_entries, get-insert, get-retain_keys}
use Rattle.std.proofs.lemmas.List.{same_from_push}
use Rattle.std.proofs.lemmas.List.Elements.{All-nil, All-cons}
use Rattle.std.proofs.Math.Seq.{append_snoc}
use Rattle.nn_base.specs.Paths.{Names, Bytes, path_cmp, is_under, is_name}
use Rattle.nn_base.proofs.PlainLemmas.{some_is, some_of}
use Rattle.nn_tree.specs.declared.node.Node.{Node}
use Rattle.nn_tree.specs.Nodes.{is_dir}
use Rattle.nn_tree.specs.Namespace.{Nodes, IsNamespace, is_dir_at}
use Rattle.nn_tree.specs.Changes.{change_at, cut, move, moved}
use Rattle.nn_tree.specs.Slots.{of_slots, rekey_slot, slot_at, Differ}
use Rattle.nn_tree.specs.Totals.{total}
use Rattle.nn_tree.proofs.LinksLemmas.{paths_total, paths_exact}
use Rattle.nn_tree.proofs.SlotsLemmas.{hit, found, ties, itself}
use Rattle.nn_tree.proofs.RekeyLemmas.{rekeyed, rekeyed_from, sorted_differ, of_entries, made_again, slot_map}
use Rattle.nn_tree.proofs.KeptLemmas.{total-rekeyed}
use Rattle.nn_tree.proofs.OrderLemmas.{front_there}
use Rattle.nn_tree.proofs.PrefixLemmas.{under_itself, under_none, under_push, under_split, cancel_front, moved_push, moved_self, moved_out, moved_in}
use Rattle.std.specs.FinMap.{entries_sorted}

-- ---- what stands above and below

dir_there : (m : Nodes) (p : Names) → is_dir_at m p ≡ true → is_some (get m p) ≡ true
dir_there m p dir = by (get m p) dir
  where
    by : (o : Option Node) → option_map_or (λ (x : Node). is_dir x.kind) o false ≡ true → is_some o ≡ true
    by None h = cc
    by (Some x) h = refl

-- all names of what is there are names
named_from : (m : Nodes) → IsNamespace m → (front rest : Names) → is_some (get m (front ++ rest)) ≡ true → All (λ name. is_name name ≡ true) rest
named_from m sound front [] there = All-nil (λ name. is_name name ≡ true)
named_from m sound front (name ∷ rest) there =
    let further = ap (λ q. is_some (get m q)) (append_snoc front name rest) ∙ there in
    All-cons (λ name. is_name name ≡ true) name rest (sound.names front name (front_there m sound rest (front ++ name ∷ []) further)) (named_from m sound (front ++ name ∷ []) rest further)

pub named_there : (m : Nodes) → IsNamespace m → (p : Names) → is_some (get m p) ≡ true → All (λ name. is_name name ≡ true) p
named_there m sound p there = named_from m sound [] p there

-- below what isn't there is nothing
pub none_below : (m : Nodes) → IsNamespace m → (p rest : Names) (x : Node) → get m p ≡ None → get m (p ++ rest) ≡ Some x → ⊥
none_below m sound p rest x none there = let a = front_there m sound rest p (ap is_some there) in let b = ap is_some none in cc

dir_is : (m : Nodes) (p : Names) → is_dir_at m p ≡ true → (x : Node) × (get m p ≡ Some x) × (is_dir x.kind ≡ true)
dir_is m p dir =
    let x = some_of (get m p) (dir_there m p dir) in
    (x.0, x.1, sym (ap (λ (o : Option Node). option_map_or (λ (x : Node). is_dir x.kind) o false) x.1) ∙ dir)

dir_by : (m : Nodes) (p : Names) (x : Node) → get m p ≡ Some x → is_dir x.kind ≡ true → is_dir_at m p ≡ true
dir_by m p x is dir = ap (λ (o : Option Node). option_map_or (λ (x : Node). is_dir x.kind) o false) is ∙ dir

-- ---- one node more

pub get_new : (m : Nodes) (p q : Names) (x y : Node) → get (insert m p x) q ≡ Some y → ((q ≡ p) × (x ≡ y)) ⊎ (get m q ≡ Some y)
get_new m p q x y is = by (eq_by_cmp path_cmp q p) refl (sym (get-insert paths_total m p x q) ∙ is)
  where
    by : (b : Bool) → eq_by_cmp path_cmp q p ≡ b → cond b (Some x) (get m q) ≡ Some y → ((q ≡ p) × (x ≡ y)) ⊎ (get m q ≡ Some y)
    by true e h = inl (ties paths_total paths_exact q p e, some_is _ _ h)
    by false e h = inr h

pub get_other : (m : Nodes) (p q : Names) (x y : Node) → get m p ≡ None → get m q ≡ Some y → get (insert m p x) q ≡ Some y
get_other m p q x y free is = by (eq_by_cmp path_cmp q p) refl
  where
    by : (b : Bool) → eq_by_cmp path_cmp q p ≡ b → get (insert m p x) q ≡ Some y
    by true e = let same : q ≡ p = ties paths_total paths_exact q p e in let z : None ≡ Some y = sym free ∙ ap (get m) (sym same) ∙ is in cc
    by false e = get-insert paths_total m p x q ∙ ap (λ b. cond b (Some x) (get m q)) e ∙ is

pub get_here : (m : Nodes) (p : Names) (x : Node) → get (insert m p x) p ≡ Some x
get_here m p x = get-insert paths_total m p x p ∙ ap (λ b. cond b (Some x) (get m p)) (itself paths_total p)

some_at : (m : Nodes) (p : Names) → is_some (get m p) ≡ true → (x : Node) × (get m p ≡ Some x)
some_at m p there = some_of (get m p) there

pub formed_insert : (m : Nodes) (p : Names) (name : Bytes) (x : Node) → IsNamespace m → get m (p ++ name ∷ []) ≡ None → is_dir_at m p ≡ true → is_name name ≡ true → IsNamespace (insert m (p ++ name ∷ []) x)
formed_insert m p name x sound free dir named = record {
  top = sound.top;
  there = get_other m (p ++ name ∷ []) [] x sound.top free sound.there;
  root = sound.root;
  parents = λ q n there. (let y = some_at (insert m (p ++ name ∷ []) x) (q ++ n ∷ []) there in above q n y.0 (get_new m (p ++ name ∷ []) (q ++ n ∷ []) x y.0 y.1));
  names = λ q n there. (let y = some_at (insert m (p ++ name ∷ []) x) (q ++ n ∷ []) there in last q n y.0 (get_new m (p ++ name ∷ []) (q ++ n ∷ []) x y.0 y.1));
}
  where
    kept : (q : Names) → is_dir_at m q ≡ true → is_dir_at (insert m (p ++ name ∷ []) x) q ≡ true
    kept q is = let y = dir_is m q is in dir_by (insert m (p ++ name ∷ []) x) q y.0 (get_other m (p ++ name ∷ []) q x y.0 free y.1) y.2

    above : (q : Names) (n : Bytes) (y : Node) → ((q ++ n ∷ [] ≡ p ++ name ∷ []) × (x ≡ y)) ⊎ (get m (q ++ n ∷ []) ≡ Some y) → is_dir_at (insert m (p ++ name ∷ []) x) q ≡ true
    above q n y (inl is) = kept q (ap (is_dir_at m) (same_from_push q p n name is.0).0 ∙ dir)
    above q n y (inr is) = kept q (sound.parents q n (ap is_some is))

    last : (q : Names) (n : Bytes) (y : Node) → ((q ++ n ∷ [] ≡ p ++ name ∷ []) × (x ≡ y)) ⊎ (get m (q ++ n ∷ []) ≡ Some y) → is_name n ≡ true
    last q n y (inl is) = ap is_name (same_from_push q p n name is.0).1 ∙ named
    last q n y (inr is) = sound.names q n (ap is_some is)

-- ---- another node at a path

-- what stands there afterwards stood there before, changed or as it is
pub get_changed : (m : Nodes) (p q : Names) (g : Node → Node) (y : Node) → get (change_at p g m) q ≡ Some y → (x : Node) × (get m q ≡ Some x) × ((y ≡ x) ⊎ (y ≡ g x))
get_changed m p q g y is = by (get m p) refl
  where
    by : (o : Option Node) → get m p ≡ o → (x : Node) × (get m q ≡ Some x) × ((y ≡ x) ⊎ (y ≡ g x))
    by None e = (y, sym (ap (λ (o : Option Node). get (elim o as (λ _. Nodes) [ None ↦ m | Some x ↦ insert m p (g x) ]) q) e) ∙ is, inl refl)
    by (Some x) e = at (get_new m p q (g x) y (sym (ap (λ (o : Option Node). get (elim o as (λ _. Nodes) [ None ↦ m | Some x ↦ insert m p (g x) ]) q) e) ∙ is))
      where
        at : ((q ≡ p) × (g x ≡ y)) ⊎ (get m q ≡ Some y) → (x : Node) × (get m q ≡ Some x) × ((y ≡ x) ⊎ (y ≡ g x))
        at (inl h) = (x, ap (get m) h.0 ∙ e, inr (sym h.1))
        at (inr h) = (y, h, inl refl)

-- and what stood there stands there
get_kept : (m : Nodes) (p q : Names) (g : Node → Node) (x : Node) → get m q ≡ Some x → (y : Node) × (get (change_at p g m) q ≡ Some y) × ((y ≡ x) ⊎ (y ≡ g x))
get_kept m p q g x is = by (get m p) refl
  where
    by : (o : Option Node) → get m p ≡ o → (y : Node) × (get (change_at p g m) q ≡ Some y) × ((y ≡ x) ⊎ (y ≡ g x))
    by None e = (x, ap (λ (o : Option Node). get (elim o as (λ _. Nodes) [ None ↦ m | Some x ↦ insert m p (g x) ]) q) e ∙ is, inl refl)
    by (Some z) e = at (eq_by_cmp path_cmp q p) refl
      where
        there : (b : Bool) → eq_by_cmp path_cmp q p ≡ b → get (change_at p g m) q ≡ cond b (Some (g z)) (get m q)
        there b h = ap (λ (o : Option Node). get (elim o as (λ _. Nodes) [ None ↦ m | Some x ↦ insert m p (g x) ]) q) e ∙ get-insert paths_total m p (g z) q ∙ ap (λ b. cond b (Some (g z)) (get m q)) h

        at : (b : Bool) → eq_by_cmp path_cmp q p ≡ b → (y : Node) × (get (change_at p g m) q ≡ Some y) × ((y ≡ x) ⊎ (y ≡ g x))
        at true h = (g z, there true h, inr (ap g (some_is _ _ (sym e ∙ ap (get m) (sym (ties paths_total paths_exact q p h)) ∙ is))))
        at false h = (x, there false h ∙ is, inl refl)

pub formed_change : (m : Nodes) (p : Names) (g : Node → Node) → ((x : Node) → (g x).id ≡ x.id) → ((x : Node) → is_dir (g x).kind ≡ is_dir x.kind) → IsNamespace m → IsNamespace (change_at p g m)
formed_change m p g ids kinds sound = record {
  top = (get_kept m p [] g sound.top sound.there).0;
  there = (get_kept m p [] g sound.top sound.there).1;
  root = let y = get_kept m p [] g sound.top sound.there in (same_id sound.top y.0 y.2 ∙ sound.root.0, same_kind sound.top y.0 y.2 ∙ sound.root.1);
  parents = λ q name there. kept q (sound.parents q name (before (q ++ name ∷ []) there));
  names = λ q name there. sound.names q name (before (q ++ name ∷ []) there);
}
  where
    same_id : (x y : Node) → (y ≡ x) ⊎ (y ≡ g x) → y.id ≡ x.id
    same_id x y (inl e) = ap (λ (x : Node). x.id) e
    same_id x y (inr e) = ap (λ (x : Node). x.id) e ∙ ids x

    same_kind : (x y : Node) → (y ≡ x) ⊎ (y ≡ g x) → is_dir y.kind ≡ is_dir x.kind
    same_kind x y (inl e) = ap (λ (x : Node). is_dir x.kind) e
    same_kind x y (inr e) = ap (λ (x : Node). is_dir x.kind) e ∙ kinds x

    kept : (q : Names) → is_dir_at m q ≡ true → is_dir_at (change_at p g m) q ≡ true
    kept q is = (let x = dir_is m q is in let y = get_kept m p q g x.0 x.1 in dir_by (change_at p g m) q y.0 y.1 (same_kind x.0 y.0 y.2 ∙ x.2))

    before : (q : Names) → is_some (get (change_at p g m) q) ≡ true → is_some (get m q) ≡ true
    before q there = (let y = some_at (change_at p g m) q there in let x = get_changed m p q g y.0 y.1 in ap is_some x.1)

-- ---- a path is cut

pub get_cut : (m : Nodes) (p q : Names) → get (cut p m) q ≡ cond (not (is_under p q)) (get m q) None
get_cut m p q = get-retain_keys m (λ q. not (is_under p q)) q (λ x tied. ap (λ q. not (is_under p q)) (sym (paths_exact q x tied)))

-- what is left was there, outside
pub get_left : (m : Nodes) (p q : Names) (x : Node) → get (cut p m) q ≡ Some x → (get m q ≡ Some x) × (is_under p q ≡ false)
get_left m p q x is = by (is_under p q) refl
  where
    by : (b : Bool) → is_under p q ≡ b → (get m q ≡ Some x) × (is_under p q ≡ false)
    by true e = let z : None ≡ Some x = sym (get_cut m p q ∙ ap (λ b. cond (not b) (get m q) None) e) ∙ is in cc
    by false e = (sym (get_cut m p q ∙ ap (λ b. cond (not b) (get m q) None) e) ∙ is, e)

get_stays : (m : Nodes) (p q : Names) (x : Node) → get m q ≡ Some x → is_under p q ≡ false → get (cut p m) q ≡ Some x
get_stays m p q x is out = get_cut m p q ∙ ap (λ b. cond (not b) (get m q) None) out ∙ is

-- outside of p is all above what is outside
out_above : (p q : Names) (name : Bytes) → is_under p (q ++ name ∷ []) ≡ false → is_under p q ≡ false
out_above p q name out =
    let other : p ≢ q ++ name ∷ [] = λ e. (let x = under_itself p in let y = ap (is_under p) e in cc) in
    sym (under_push p q name other) ∙ out

pub formed_cut : (m : Nodes) (p : Names) → p ≢ [] → IsNamespace m → IsNamespace (cut p m)
formed_cut m p below_root sound = record {
  top = sound.top;
  there = get_stays m p [] sound.top sound.there (under_none p below_root);
  root = sound.root;
  parents = λ q name there.
      (let x = some_at (cut p m) (q ++ name ∷ []) there in
      let l = get_left m p (q ++ name ∷ []) x.0 x.1 in
      let d = dir_is m q (sound.parents q name (ap is_some l.0)) in
      dir_by (cut p m) q d.0 (get_stays m p q d.0 d.1 (out_above p q name l.1)) d.2);
  names = λ q name there. (let x = some_at (cut p m) (q ++ name ∷ []) there in sound.names q name (ap is_some (get_left m p (q ++ name ∷ []) x.0 x.1).0));
}

-- ---- a node moves, with all below it

-- p may go to d: d is free, and p isn't the root
pub record CanGo (m : Nodes) (p d : Names) : Type 0 where
  pub formed : IsNamespace m
  pub below_root : p ≢ []
  pub free : get m d ≡ None

module _ (m : Nodes) (p d : Names) (can : CanGo m p d) where
  moved_apart : (q r : Names) (x y : Node) → get m q ≡ Some x → get m r ≡ Some y → moved p d q ≡ moved p d r → q ≡ r
  moved_apart q r x y a b same = by (is_under p q) (is_under p r) refl refl
    where
      by : (s t : Bool) → is_under p q ≡ s → is_under p r ≡ t → q ≡ r
      by true true s t = under_split p q s ∙ ap (λ z. p ++ z) (cancel_front d _ _ (sym (moved_in p d q s) ∙ same ∙ moved_in p d r t)) ∙ sym (under_split p r t)
      by false false s t = sym (moved_out p d q s) ∙ same ∙ moved_out p d r t
      by true false s t = absurd (none_below m can.formed d (drop (length p) q) y can.free (ap (get m) (sym (moved_in p d q s) ∙ same ∙ moved_out p d r t) ∙ b))
      by false true s t = absurd (none_below m can.formed d (drop (length p) r) x can.free (ap (get m) (sym (moved_in p d r t) ∙ sym same ∙ moved_out p d q s) ∙ a))

  abbrev here : List (Option (Names × Node))
  here = map Some (entries m)

  as_slots : of_slots {R = path_cmp} here ≡ m
  as_slots = sym (of_entries paths_total paths_exact (entries m)) ∙ made_again paths_total paths_exact m

  apart : Differ here
  apart = sorted_differ paths_total paths_exact (entries m) (entries_sorted m)

  -- what a slot holds stands in the map
  held : (i : ℕ) (q : Names) (x : Node) → slot_at here i ≡ Some (q, x) → get m q ≡ Some x
  held i q x is = ap (λ (n : Nodes). get n q) (sym as_slots) ∙ hit paths_total paths_exact here i q x apart is

  moved_differ : Differ (map (rekey_slot (moved p d)) here)
  moved_differ i j a b x y same =
      let u = rekeyed_from (moved p d) (slot_at here i) a.0 a.1 (sym (slot_map (moved p d) here i) ∙ x) in
      let v = rekeyed_from (moved p d) (slot_at here j) b.0 b.1 (sym (slot_map (moved p d) here j) ∙ y) in
      let one = moved_apart u.0 v.0 a.1 b.1 (held i u.0 a.1 u.1) (held j v.0 b.1 v.1) (u.2 ∙ same ∙ sym v.2) in
      apart i j (u.0, a.1) (v.0, b.1) u.1 v.1 one

  move_is : of_slots {R = path_cmp} (map (rekey_slot (moved p d)) here) ≡ move p d m
  move_is = rekeyed paths_total paths_exact (moved p d) here apart moved_differ ∙ ap (λ (n : Nodes). from_entries (map (λ e. (moved p d e.0, e.1)) (entries n))) as_slots

  -- a sum that looks at no path stays
  pub total_moved : (f : Node → ℕ) → total (λ (q : Names) x. f x) (move p d m) ≡ total (λ (q : Names) x. f x) m
  total_moved f =
      ap (total (λ (q : Names) x. f x)) (sym move_is) ∙ total-rekeyed paths_total paths_exact (λ (q : Names) x. f x) (moved p d) here apart moved_differ
      ∙ ap (total (λ (q : Names) x. f x)) as_slots

  -- what stands at a path came from one
  pub get_came : (q : Names) (x : Node) → get (move p d m) q ≡ Some x → (r : Names) × (get m r ≡ Some x) × (moved p d r ≡ q)
  get_came q x is =
      let i = found paths_total paths_exact (map (rekey_slot (moved p d)) here) q x (ap (λ (n : Nodes). get n q) move_is ∙ is) in
      let r = rekeyed_from (moved p d) (slot_at here i.0) q x (sym (slot_map (moved p d) here i.0) ∙ i.1) in
      (r.0, held i.0 r.0 x r.1, r.2)

  -- and what stood at one goes
  pub get_gone : (r : Names) (x : Node) → get m r ≡ Some x → get (move p d m) (moved p d r) ≡ Some x
  get_gone r x is =
      let i = found paths_total paths_exact here r x (ap (λ (n : Nodes). get n r) as_slots ∙ is) in
      ap (λ (n : Nodes). get n (moved p d r)) (sym move_is) ∙ hit paths_total paths_exact (map (rekey_slot (moved p d)) here) i.0 (moved p d r) x moved_differ (slot_map (moved p d) here i.0 ∙ ap (rekey_slot (moved p d)) i.1)

-- a last name, if there is one
snoc : (p : Names) → (p ≡ []) ⊎ ((q : Names) × ((name : Bytes) × (p ≡ q ++ name ∷ [])))
snoc [] = inl refl
snoc (x ∷ p) = by (snoc p)
  where
    by : (p ≡ []) ⊎ ((q : Names) × ((name : Bytes) × (p ≡ q ++ name ∷ []))) → (x ∷ p ≡ []) ⊎ ((q : Names) × ((name : Bytes) × (x ∷ p ≡ q ++ name ∷ [])))
    by (inl e) = inr ([], (x, ap (λ p. x ∷ p) e))
    by (inr h) = inr (x ∷ h.0, (h.1.0, ap (λ p. x ∷ p) h.1.1))

module _ (m : Nodes) (p q : Names) (name : Bytes) (can : CanGo m p (q ++ name ∷ [])) (dir : is_dir_at m q ≡ true) (outside : is_under p q ≡ false) (named : is_name name ≡ true) where
  abbrev d : Names
  d = q ++ name ∷ []

  dir_gone : (r : Names) → is_dir_at m r ≡ true → is_dir_at (move p d m) (moved p d r) ≡ true
  dir_gone r is = let x = dir_is m r is in dir_by (move p d m) (moved p d r) x.0 (get_gone m p d can r x.0 x.1) x.2

  root_stays : moved p d [] ≡ []
  root_stays = moved_out p d [] (under_none p can.below_root)

  -- a name below a directory, by what came there
  abbrev Stands : Names → Bytes → Type 0
  Stands r n = (is_dir_at (move p d m) r ≡ true) × (is_name n ≡ true)

  stands_at : (r s : Names) (n k : Bytes) → is_some (get m (s ++ k ∷ [])) ≡ true → moved p d (s ++ k ∷ []) ≡ r ++ n ∷ [] → Stands r n
  stands_at r s n k there came = by (eq_by_cmp path_cmp p (s ++ k ∷ [])) refl
    where
      by : (b : Bool) → eq_by_cmp path_cmp p (s ++ k ∷ []) ≡ b → Stands r n
      by true e =
          let is : q ++ name ∷ [] ≡ r ++ n ∷ [] = sym (moved_self p d) ∙ ap (moved p d) (ties paths_total paths_exact p (s ++ k ∷ []) e) ∙ came in
          let same = same_from_push q r name n is in
          (ap (is_dir_at (move p d m)) (sym (moved_out p d q outside ∙ same.0)) ∙ dir_gone q dir, ap is_name (sym same.1) ∙ named)
      by false e =
          let other : p ≢ s ++ k ∷ [] = λ z. (let a = itself paths_total p in let b = ap (eq_by_cmp path_cmp p) (sym z) ∙ a in cc) in
          let same = same_from_push (moved p d s) r k n (sym (moved_push p d s k other) ∙ came) in
          (ap (is_dir_at (move p d m)) (sym same.0) ∙ dir_gone s (can.formed.parents s k there), ap is_name (sym same.1) ∙ can.formed.names s k there)

  stands_by : (r : Names) (n : Bytes) (t : Names) → is_some (get m t) ≡ true → moved p d t ≡ r ++ n ∷ [] → (t ≡ []) ⊎ ((s : Names) × ((k : Bytes) × (t ≡ s ++ k ∷ []))) → Stands r n
  stands_by r n t there came (inl e) =
      let none : length (r ++ n ∷ []) ≡ 0 = ap length (sym came ∙ ap (moved p d) e ∙ root_stays) in
      absurd (omega (arith, length-append r (n ∷ [])))
  stands_by r n t there came (inr h) = stands_at r h.0 n h.1.0 (ap (λ t. is_some (get m t)) (sym h.1.1) ∙ there) (ap (moved p d) (sym h.1.1) ∙ came)

  stands : (r : Names) (n : Bytes) → is_some (get (move p d m) (r ++ n ∷ [])) ≡ true → Stands r n
  stands r n there =
      let x = some_at (move p d m) (r ++ n ∷ []) there in
      let c = get_came m p d can (r ++ n ∷ []) x.0 x.1 in
      stands_by r n c.0 (ap is_some c.1) c.2 (snoc c.0)

  pub formed_move : IsNamespace (move p (q ++ name ∷ []) m)
  formed_move = record {
    top = can.formed.top;
    there = ap (get (move p d m)) (sym root_stays) ∙ get_gone m p d can [] can.formed.top can.formed.there;
    root = can.formed.root;
    parents = λ r n there. (stands r n there).0;
    names = λ r n there. (stands r n there).1;
  }
