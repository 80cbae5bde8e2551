-- What INODE_DIR lists for each directory: the ids of the children put so far, and of those to come.
use Rattle.std.proofs.Common.{◌≡◌, ℕ, ◌<◌, Bool, true, false, cond, List, [], ◌∷◌, ◌++◌, length, map, None, refl, sym, ap, ◌∙◌, arith, append_assoc, append-nil, ◌&&◌, ◌==◌}
use Rattle.std.specs.Prelude.{nat_lt}
use Rattle.std.specs.Option.{option_map_or}
use Rattle.std.specs.List.{filter}
use Rattle.std.specs.Ordering.{is_eq, eq_by_cmp}
use Rattle.std.specs.Cmp.{tied_itself}
use Rattle.std.specs.declared.cmp.Ordering.{Ordering}
use Rattle.std.specs.declared.cmp.Ordering.TheVariants.{Less, Equal, Greater}
use Rattle.std.specs.FinMap.{get, insert, empty, entries}
use Rattle.std.proofs.lemmas.Bool.{and_parts, eqb-true, ltb-true, false≢true}
use Rattle.std.proofs.lemmas.List.Elements.{filter-append}
use Rattle.nn_base.specs.Paths.{Bytes, Names, path_cmp}
use Rattle.nn_tree.specs.declared.node.Kind.{Kind}
use Rattle.nn_tree.specs.declared.node.Node.{Node}
use Rattle.nn_tree.specs.Nodes.{is_dir}
use Rattle.nn_tree.specs.Namespace.{Nodes, is_dir_at}
use Rattle.nn_tree.proofs.LinksLemmas.{paths_total, paths_exact}
use Rattle.nn_message.specs.Messages.{Inode, DirEntry}
use Rattle.nn_image.specs.Image.{is_child, child_ids, entry_of}
use Rattle.nn_image.specs.Assembly.{Level, Listing, waiting, is_entry_of, listing, opened}
use Rattle.nn_image.proofs.ChildLemmas.{child_name, is_its_child}
use Rattle.nn_image.proofs.LaterLemmas.{turned, above_front, AreBefore, no_child_before, entries_behind}
use Rattle.nn_image.proofs.LevelsLemmas.{stays_waiting, ArePlaces, first_place}
use Rattle.nn_image.proofs.NewNodeLemmas.{one_split}

abbrev pub same_path : Names → Names → Bool
same_path = eq_by_cmp path_cmp

apart_less : (p q : Names) → path_cmp p q ≡ Less → same_path p q ≡ false
apart_less p q l = ap is_eq l

apart_more : (p q : Names) → path_cmp p q ≡ Less → same_path q p ≡ false
apart_more p q l = ap is_eq (turned p q l)

-- ---- children to come

-- the ids of the children of p that are to come
unfoldable pub to_come : List Level → Names → List ℕ
to_come [] p = []
to_come (level ∷ outer) p = cond (same_path level.path p) level.children [] ++ to_come outer p

pub to_come_next : (level : Level) (outer : List Level) (p : Names) → to_come (level ∷ outer) p ≡ cond (same_path level.path p) level.children [] ++ to_come outer p
unfolding to_come
to_come_next level outer p = refl

pub nothing_to_come : (p : Names) → to_come [] p ≡ []
unfolding to_come
nothing_to_come p = refl

no_ids : (b : Bool) (ids : List ℕ) → ids ≡ [] → cond b ids [] ≡ []
no_ids true ids h = h
no_ids false ids h = refl

pub waiting_to_come : (levels : List Level) (p : Names) → to_come (waiting levels) p ≡ to_come levels p
unfolding to_come
waiting_to_come levels p = stays_waiting (λ some. to_come some p ≡ to_come levels p) (λ level outer empty h. ap (λ ids. ids ++ to_come outer p) (sym (no_ids (same_path level.path p) level.children empty)) ∙ h) levels refl

pub absent_to_come : (m : Nodes) (q : Names) → get m q ≡ None → (levels : List Level) → ArePlaces m levels → to_come levels q ≡ []
unfolding to_come
absent_to_come m q free [] h = refl
absent_to_come m q free (level ∷ outer) h =
    let place = first_place m level outer h in
    by (path_cmp level.path q) refl place.0 (absent_to_come m q free outer place.1)
  where
    by : (r : Ordering) → path_cmp level.path q ≡ r → is_dir_at m level.path ≡ true → to_come outer q ≡ [] → cond (is_eq (path_cmp level.path q)) level.children [] ++ to_come outer q ≡ []
    by Less is dir rest = ap (λ r. cond (is_eq r) level.children [] ++ to_come outer q) is ∙ rest
    by Greater is dir rest = ap (λ r. cond (is_eq r) level.children [] ++ to_come outer q) is ∙ rest
    by Equal is dir rest = absurd (false≢true (sym (ap (λ o. option_map_or (λ (node : Node). is_dir node.kind) o false) free) ∙ sym (ap (is_dir_at m) (paths_exact level.path q is)) ∙ dir))

opened_to_come : (kind : Kind) (q : Names) (ids : List ℕ) (levels : List Level) (p : Names) → same_path q p ≡ false → to_come (opened kind q ids levels) p ≡ to_come levels p
unfolding to_come opened
opened_to_come kind q ids levels p apart = by (is_dir kind)
  where
    by : (b : Bool) → to_come (cond b (record { path = q; newest = []; children = ids } ∷ levels) levels) p ≡ to_come levels p
    by true = ap (λ b. cond b ids [] ++ to_come levels p) apart
    by false = refl

opened_own : (kind : Kind) (q : Names) (ids : List ℕ) (levels : List Level) → (is_dir kind ≡ false → ids ≡ []) → to_come levels q ≡ [] → to_come (opened kind q ids levels) q ≡ ids
unfolding to_come opened
opened_own kind q ids levels file none = by (is_dir kind) refl
  where
    by : (b : Bool) → is_dir kind ≡ b → to_come (cond b (record { path = q; newest = []; children = ids } ∷ levels) levels) q ≡ ids
    by true is = ap (λ r. cond (is_eq r) ids [] ++ to_come levels q) (tied_itself paths_total q) ∙ ap (λ t. ids ++ t) none ∙ append-nil ids
    by false is = none ∙ sym (file is)

-- ---- children put so far

pub child_is : (p d : Names) (name : Bytes) → is_child p (d ++ name ∷ []) ≡ same_path d p
child_is p d name = by (path_cmp d p) refl
  where
    not_child : same_path d p ≡ false → is_child p (d ++ name ∷ []) ≡ false
    not_child apart = at (is_child p (d ++ name ∷ [])) refl
      where
        at : (b : Bool) → is_child p (d ++ name ∷ []) ≡ b → b ≡ false
        at false is = refl
        at true is =
            let split = child_name p (d ++ name ∷ []) is in
            let one = one_split d p name split.0 split.1 in
            absurd (false≢true (sym apart ∙ ap (same_path d) (sym one.0) ∙ ap is_eq (tied_itself paths_total d)))

    by : (r : Ordering) → path_cmp d p ≡ r → is_child p (d ++ name ∷ []) ≡ is_eq (path_cmp d p)
    by Less is = not_child (ap is_eq is) ∙ sym (ap is_eq is)
    by Greater is = not_child (ap is_eq is) ∙ sym (ap is_eq is)
    by Equal is = ap (λ d. is_child p (d ++ name ∷ [])) (paths_exact d p is) ∙ is_its_child p name ∙ sym (ap is_eq is)

-- the ids of the children of p among some entries
abbrev pub ids_in : Names → List (Names × Node) → List ℕ
ids_in p es = map (λ (e : Names × Node). e.1.id) (filter (λ e. is_child p e.0) es)

pub ids_in-append : (p : Names) (es fs : List (Names × Node)) → ids_in p (es ++ fs) ≡ ids_in p es ++ ids_in p fs
ids_in-append p es fs = ap (map (λ (e : Names × Node). e.1.id)) (filter-append (λ e. is_child p e.0) es fs) ∙ joined (filter (λ e. is_child p e.0) es)
  where
    joined : (xs : List (Names × Node)) → map (λ (e : Names × Node). e.1.id) (xs ++ filter (λ e. is_child p e.0) fs) ≡ map (λ (e : Names × Node). e.1.id) xs ++ map (λ (e : Names × Node). e.1.id) (filter (λ e. is_child p e.0) fs)
    joined [] = refl
    joined (x ∷ xs) = ap (λ ids. x.1.id ∷ ids) (joined xs)

one_id : (p q : Names) (node : Node) → ids_in p ((q, node) ∷ []) ≡ cond (is_child p q) (node.id ∷ []) []
one_id p q node = by (is_child p q)
  where
    by : (b : Bool) → map (λ (e : Names × Node). e.1.id) (cond b ((q, node) ∷ []) []) ≡ cond b (node.id ∷ []) []
    by true = refl
    by false = refl

pub child_ids-is : (m : Nodes) (p : Names) → child_ids m p ≡ ids_in p (entries m)
unfolding child_ids
child_ids-is m p = refl

pub child_ids_more : (m : Nodes) (q : Names) (node : Node) (p : Names) → AreBefore q (entries m) → child_ids (insert m q node) p ≡ child_ids m p ++ cond (is_child p q) (node.id ∷ []) []
unfolding child_ids
child_ids_more m q node p before =
    ap (ids_in p) (entries_behind m q before node) ∙ ids_in-append p (entries m) ((q, node) ∷ []) ∙ ap (λ ids. ids_in p (entries m) ++ ids) (one_id p q node)

no_child_ids : (m : Nodes) (q : Names) → AreBefore q (entries m) → child_ids m q ≡ []
unfolding child_ids
no_child_ids m q before = ap (map (λ (e : Names × Node). e.1.id)) (no_child_before q (entries m) before)

-- ---- all children that are listed

unfoldable pub listed : Nodes → List Level → Names → List ℕ
listed m levels p = child_ids m p ++ to_come levels p

-- all are put where no child is to come
pub all_listed : (m : Nodes) (levels : List Level) (p : Names) → waiting levels ≡ [] → listed m levels p ≡ child_ids m p
unfolding listed
all_listed m levels p none = ap (λ ids. child_ids m p ++ ids) (sym (waiting_to_come levels p) ∙ ap (λ levels. to_come levels p) none ∙ nothing_to_come p) ∙ append-nil (child_ids m p)

-- the next child of a level is put there, and is a level itself if it is a directory
module _ (m : Nodes) (levels : List Level) (level : Level) (outer : List Level) (name : Bytes) (node : Node) (rest ids : List ℕ)
    (left : waiting levels ≡ level ∷ outer) (next : level.children ≡ node.id ∷ rest) (before : AreBefore (level.path ++ name ∷ []) (entries m)) where
  abbrev pub new_levels : List Level
  new_levels = opened node.kind (level.path ++ name ∷ []) ids (record { path = level.path; newest = name; children = rest } ∷ outer)

  taken : (b : Bool) (t more : List ℕ) → (t ++ cond b (node.id ∷ []) []) ++ (cond b rest [] ++ more) ≡ t ++ (cond b (node.id ∷ rest) [] ++ more)
  taken true t more = append_assoc t (node.id ∷ []) (rest ++ more)
  taken false t more = ap (λ t. t ++ more) (append-nil t)

  -- what is listed for the other directories stays the same
  pub others_listed : (p : Names) → path_cmp p (level.path ++ name ∷ []) ≡ Less → listed (insert m (level.path ++ name ∷ []) node) new_levels p ≡ listed m levels p
  unfolding listed to_come
  others_listed p less =
      (λ i. child_ids_more m (level.path ++ name ∷ []) node p before i ++ opened_to_come node.kind (level.path ++ name ∷ []) ids (record { path = level.path; newest = name; children = rest } ∷ outer) p (apart_more p _ less) i)
      ∙ ap (λ b. (child_ids m p ++ cond b (node.id ∷ []) []) ++ (cond (same_path level.path p) rest [] ++ to_come outer p)) (child_is p level.path name)
      ∙ taken (same_path level.path p) (child_ids m p) (to_come outer p)
      ∙ ap (λ ids. child_ids m p ++ (cond (same_path level.path p) ids [] ++ to_come outer p)) (sym next)
      ∙ ap (λ levels. child_ids m p ++ to_come levels p) (sym left)
      ∙ ap (λ ids. child_ids m p ++ ids) (waiting_to_come levels p)

  pub own_listed : get m (level.path ++ name ∷ []) ≡ None → ArePlaces m (level ∷ outer) → (is_dir node.kind ≡ false → ids ≡ []) → listed (insert m (level.path ++ name ∷ []) node) new_levels (level.path ++ name ∷ []) ≡ ids
  unfolding listed to_come
  own_listed free places file =
      let q = level.path ++ name ∷ [] in
      let outside : same_path level.path q ≡ false = apart_less level.path q (above_front level.path name []) in
      let none : child_ids (insert m q node) q ≡ [] =
      child_ids_more m q node q before
      ∙ (λ i. no_child_ids m q before i ++ cond ((child_is q level.path name ∙ outside) i) (node.id ∷ []) []) in
      let behind : to_come (record { path = level.path; newest = name; children = rest } ∷ outer) q ≡ [] =
      ap (λ b. cond b rest [] ++ to_come outer q) outside ∙ absent_to_come m q free outer (first_place m level outer places).1 in
      (λ i. none i ++ opened_own node.kind q ids (record { path = level.path; newest = name; children = rest } ∷ outer) file behind i)

-- the root alone
pub root_listed : (node : Node) (ids : List ℕ) → AreBefore [] (entries (empty {K = Names} {X = Node} {R = path_cmp})) → (is_dir node.kind ≡ false → ids ≡ []) → listed (insert empty [] node) (opened node.kind [] ids []) [] ≡ ids
unfolding listed to_come
root_listed node ids before file = λ i. none i ++ opened_own node.kind [] ids [] file refl i
  where
    none : child_ids (insert empty [] node) [] ≡ []
    none = child_ids_more empty [] node [] before ∙ append-nil _ ∙ no_child_ids empty [] before

-- ---- the entry of a node

-- the next entry is taken, or left
abbrev pub taken_if : Bool → DirEntry → List DirEntry → Listing
taken_if b entry rest = cond b (record { children = entry.children; rest = rest }) (record { children = []; rest = entry ∷ rest })

pub file_none : (inode : Inode) (dir_entries : List DirEntry) → is_dir inode.kind ≡ false → (listing inode dir_entries).children ≡ []
unfolding listing is_entry_of
file_none inode [] file = refl
file_none inode (entry ∷ rest) file = ap (λ b. (taken_if ((b && (entry.parent == inode.id)) && nat_lt 0 (length entry.children)) entry rest).children) file

own_entry : (id : ℕ) (entry : DirEntry) → entry.parent ≡ id → 0 < length entry.children → entry_of id entry.children ≡ entry ∷ []
unfolding entry_of
own_entry id entry parent some = by entry.children refl
  where
    by : (ids : List ℕ) → entry.children ≡ ids → entry_of id ids ≡ entry ∷ []
    by [] is = absurd (let e = ap length is in omega (arith, e, some))
    by (child ∷ rest) is = λ i. record { parent = sym parent i; children = sym is i } ∷ []

-- the entries to come begin with the node's own, if it has one
pub listing_whole : (inode : Inode) (dir_entries : List DirEntry) → entry_of inode.id (listing inode dir_entries).children ++ (listing inode dir_entries).rest ≡ dir_entries
unfolding listing is_entry_of entry_of
listing_whole inode [] = refl
listing_whole inode (entry ∷ rest) = by (is_entry_of inode entry) refl
  where
    by : (b : Bool) → is_entry_of inode entry ≡ b → entry_of inode.id (taken_if b entry rest).children ++ (taken_if b entry rest).rest ≡ entry ∷ rest
    by true is =
        let a = and_parts _ _ is in
        let b = and_parts _ _ a.0 in
        ap (λ es. es ++ rest) (own_entry inode.id entry (eqb-true _ _ b.1) (ltb-true _ _ a.1))
    by false is = refl
