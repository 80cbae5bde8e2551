-- The steps in which an image is written: each puts a text and leaves the rest.
use Rattle.std.proofs.Common.{◌≡◌, ℕ, ◌+◌, true, Result, Ok, Err, OnOk, IfOk, subst, [], ◌++◌, length, Option, Some, None, refl, sym, ap, ◌∙◌, arith, length-append, append_assoc, append-nil}
use Rattle.std.specs.List.{flat_map}
use Rattle.std.specs.FinMap.{get, entries}
use Rattle.nn_base.specs.Paths.{Bytes, Names, is_under}
use Rattle.nn_strtab.specs.Numbers.{name_at}
use Rattle.nn_tree.specs.declared.node.Counters.{Counters}
use Rattle.nn_tree.specs.declared.node.Node.{Node}
use Rattle.nn_tree.specs.declared.spot.Spot.{Spot}
use Rattle.nn_tree.specs.Below.{IsNextBelow}
use Rattle.nn_tree.proofs.BelowLemmas.{stays_below}
use Rattle.nn_image.specs.declared.task.Stage.{Stage}
use Rattle.nn_image.specs.declared.task.Stage.TheVariants.{Front, Strings, Inodes, Directories, Done}
use Rattle.nn_image.specs.declared.task.Progress.{Progress}
use Rattle.nn_message.specs.declared.summary.Lengths.{Lengths}
use Rattle.nn_message.specs.Spelling.{ns_info, string, inodes, inode, dir_entry, delimited}
use Rattle.nn_message.specs.Frame.{magic, sections_of, body, lengths_of, summary_message, summary_with, end}
use Rattle.nn_image.specs.Image.{inode_of, child_ids, dir_entries_of, entry_of, content_with}
use Rattle.nn_image.specs.Saving.{Target, IsTarget, info_head, strings_head, inodes_head, whole, end_of, strings_from, inodes_from, entry_text, directories_from, rest, IsStage, AreCounted, Advances, steps}
use Rattle.nn_image.proofs.ListsLemmas.{flat_map-map, flat_map-flat_map, front_joined, head_joined, next_joined}
use Rattle.nn_image.proofs.StageLemmas.{string_next, strings_over, number_over, number_within, ahead_all, ahead_none, ahead_next}

under_root : (place : Spot → Names) (root : Spot) → place root ≡ [] → is_under [] (place root) ≡ true
under_root place root top = refl

module _ (t : Target) where
  pub front_step : IsTarget t → (l : Lengths) → l ≡ record { info = length (info_head t.task); strings = length (strings_head t.table); inodes = 0; directories = 0 }
      → Advances t Front (magic ++ info_head t.task ++ strings_head t.table) (record { stage = Strings 1; lengths = l })
  unfolding rest steps body whole sections_of content_with strings_from info_head strings_head
  front_step is l counts =
      let c = t.task.counters in
      let info : info_head t.task ≡ (whole t).info = ap (λ (c : Counters). delimited (ns_info (record { namespace = t.task.namespace; stamp = c.stamp; block = c.block; txid = t.task.id }))) is.counters in
      record {
        put = front_joined magic (whole t).info (strings_head t.table) (strings_from t.table 1) (whole t).inodes (whole t).directories (end_of t)
            ∙ ap (λ i. (magic ++ i ++ strings_head t.table) ++ (strings_from t.table 1 ++ (whole t).inodes ++ (whole t).directories ++ end_of t)) (sym info);
        stands = (omega arith, omega arith);
        counted = (
          ap (λ (l : Lengths). l.info) counts ∙ ap length info,
          (let s = ap (λ (l : Lengths). l.strings) counts in let e = length-append (strings_head t.table) (strings_from t.table 1) in omega (arith, s, e)),
          ap (λ (l : Lengths). l.inodes) counts,
          ap (λ (l : Lengths). l.directories) counts,
        );
        fewer = omega arith;
      }

  pub string_step : (number : ℕ) (text : Bytes) (l k : Lengths) → name_at t.table number ≡ Some text → AreCounted t (Strings number) l
      → k ≡ record l { strings = l.strings + length (delimited (string (record { number = number; text = text }))) }
      → Advances t (Strings number) (delimited (string (record { number = number; text = text }))) (record { stage = Strings (number + 1); lengths = k })
  unfolding rest steps
  string_step number text l k at counted counts =
      let put = delimited (string (record { number = number; text = text })) in
      let next = string_next t.table number text at in
      let within = number_within t.table number text at in
      record {
        put = ap (λ f. f ++ (whole t).inodes ++ (whole t).directories ++ end_of t) next ∙ next_joined put (strings_from t.table (number + 1)) (whole t).inodes (whole t).directories (end_of t);
        stands = (omega arith, omega (arith, within));
        counted = (
          ap (λ (l : Lengths). l.info) counts ∙ counted.0,
          (let s = ap (λ (l : Lengths). l.strings) counts in let e = length-append put (strings_from t.table (number + 1)) in let d = ap length next in let c = counted.1 in omega (arith, s, e, d, c)),
          ap (λ (l : Lengths). l.inodes) counts ∙ counted.2,
          ap (λ (l : Lengths). l.directories) counts ∙ counted.3,
        );
        fewer = omega (arith, within);
      }

  inodes_whole : IsTarget t → (whole t).inodes ≡ inodes_head t.task ++ inodes_from t (Some t.task.root)
  unfolding whole sections_of content_with inodes_head inodes_from
  inodes_whole is =
      (λ j. delimited (inodes (sym is.counters j).inode (sym is.nodes j)) ++ flat_map-map (λ i. delimited (inode i)) (inode_of t.table) (entries t.ns.nodes) j)
      ∙ ap (λ es. inodes_head t.task ++ flat_map (λ e. delimited (inode (inode_of t.table e))) es) (sym (ahead_all t is))

  pub head_step : IsTarget t → (number : ℕ) (l k : Lengths) → name_at t.table number ≡ None → IsStage t (Strings number) → AreCounted t (Strings number) l
      → k ≡ record l { inodes = length (inodes_head t.task) }
      → Advances t (Strings number) (inodes_head t.task) (record { stage = Inodes (Some t.task.root); lengths = k })
  unfolding rest steps
  head_step is number l k none stands counted counts =
      let over = strings_over t.table number (number_over t.table number stands.0 none) in
      let all = inodes_whole is in
      record {
        put = (λ j. over j ++ all j ++ (whole t).directories ++ end_of t) ∙ head_joined (inodes_head t.task) (inodes_from t (Some t.task.root)) (whole t).directories (end_of t);
        stands = (is.root, under_root t.place t.task.root is.top);
        counted = (
          ap (λ (l : Lengths). l.info) counts ∙ counted.0,
          (let s = ap (λ (l : Lengths). l.strings) counts in let e = ap length over in let c = counted.1 in omega (arith, s, e, c)),
          (let i = ap (λ (l : Lengths). l.inodes) counts in let e = length-append (inodes_head t.task) (inodes_from t (Some t.task.root)) in let d = ap length all in omega (arith, i, e, d)),
          ap (λ (l : Lengths). l.directories) counts ∙ counted.3,
        );
        fewer = (let a = ap length (ahead_all t is) in omega (arith, a));
      }

  pub inode_step : (s : Spot) (node : Node) (to : Option Spot) (l k : Lengths) → get t.ns.nodes (t.place s) ≡ Some node → t.has s ≡ true → IsNextBelow to t.has t.place t.ns.nodes [] (t.place s)
      → AreCounted t (Inodes (Some s)) l → k ≡ record l { inodes = l.inodes + length (delimited (inode (inode_of t.table (t.place s, node)))) }
      → Advances t (Inodes (Some s)) (delimited (inode (inode_of t.table (t.place s, node)))) (record { stage = Inodes to; lengths = k })
  unfolding rest steps inodes_from
  inode_step s node to l k there has next counted counts =
      let f : Names × Node → Bytes = λ e. delimited (inode (inode_of t.table e)) in
      let all = ap (flat_map f) (ahead_next t s node to there has next) in
      record {
        put = ap (λ i. i ++ (whole t).directories ++ end_of t) all ∙ head_joined (f (t.place s, node)) (inodes_from t to) (whole t).directories (end_of t);
        stands = stays_below t.ns.nodes [] t.has t.place (t.place s) to next;
        counted = (
          ap (λ (l : Lengths). l.info) counts ∙ counted.0,
          ap (λ (l : Lengths). l.strings) counts ∙ counted.1,
          (let i = ap (λ (l : Lengths). l.inodes) counts in let e = length-append (f (t.place s, node)) (inodes_from t to) in let d = ap length all in let c = counted.2 in omega (arith, i, e, d, c)),
          ap (λ (l : Lengths). l.directories) counts ∙ counted.3,
        );
        fewer = (let a = ap length (ahead_next t s node to there has next) in omega (arith, a));
      }

  directories_whole : IsTarget t → (whole t).directories ≡ directories_from t (Some t.task.root)
  unfolding whole sections_of content_with directories_from dir_entries_of entry_text
  directories_whole is =
      flat_map-flat_map (λ d. delimited (dir_entry d)) (λ (e : Names × Node). entry_of e.1.id (child_ids t.ns.nodes e.0)) (entries t.ns.nodes)
      ∙ ap (flat_map (entry_text t.ns.nodes)) (sym (ahead_all t is))

  -- nothing is put between the nodes and the directories
  pub turn_step : IsTarget t → (l : Lengths) → AreCounted t (Inodes None) l → Advances t (Inodes None) [] (record { stage = Directories (Some t.task.root); lengths = l })
  unfolding rest steps inodes_from
  turn_step is l counted =
      let none = ap (flat_map (λ e. delimited (inode (inode_of t.table e)))) (ahead_none t) in
      let all = directories_whole is in
      record {
        put = (λ j. none j ++ all j ++ end_of t);
        stands = (is.root, under_root t.place t.task.root is.top);
        counted = (counted.0, counted.1, (let e = ap length none in let c = counted.2 in omega (arith, e, c)), (let e = ap length all in let c = counted.3 in omega (arith, e, c)));
        fewer = (let a = ap length (ahead_all t is) in omega (arith, a));
      }

  pub directory_step : (s : Spot) (node : Node) (to : Option Spot) (l k : Lengths) → get t.ns.nodes (t.place s) ≡ Some node → t.has s ≡ true → IsNextBelow to t.has t.place t.ns.nodes [] (t.place s)
      → AreCounted t (Directories (Some s)) l → k ≡ record l { directories = l.directories + length (entry_text t.ns.nodes (t.place s, node)) }
      → Advances t (Directories (Some s)) (entry_text t.ns.nodes (t.place s, node)) (record { stage = Directories to; lengths = k })
  unfolding rest steps directories_from
  directory_step s node to l k there has next counted counts =
      let text = entry_text t.ns.nodes (t.place s, node) in
      let all = ap (flat_map (entry_text t.ns.nodes)) (ahead_next t s node to there has next) in
      record {
        put = ap (λ d. d ++ end_of t) all ∙ append_assoc text (directories_from t to) (end_of t);
        stands = stays_below t.ns.nodes [] t.has t.place (t.place s) to next;
        counted = (
          ap (λ (l : Lengths). l.info) counts ∙ counted.0,
          ap (λ (l : Lengths). l.strings) counts ∙ counted.1,
          ap (λ (l : Lengths). l.inodes) counts ∙ counted.2,
          (let i = ap (λ (l : Lengths). l.directories) counts in let e = length-append text (directories_from t to) in let d = ap length all in let c = counted.3 in omega (arith, i, e, d, c)),
        );
        fewer = (let a = ap length (ahead_next t s node to there has next) in omega (arith, a));
      }

  pub end_step : (l : Lengths) → AreCounted t (Directories None) l → Advances t (Directories None) (end (summary_message (summary_with t.task.layout l))) (record { stage = Done; lengths = l })
  unfolding rest steps directories_from end_of lengths_of
  end_step l counted =
      let none = ap (flat_map (entry_text t.ns.nodes)) (ahead_none t) in
      let d : l.directories ≡ length (whole t).directories = let e = ap length none in let c = counted.3 in omega (arith, e, c) in
      record {
        put = (λ j. none j ++ end (summary_message (summary_with t.task.layout (record { info = sym counted.0 j; strings = sym counted.1 j; inodes = sym counted.2 j; directories = sym d j })))) ∙ sym (append-nil _);
        stands = tt;
        counted = tt;
        fewer = omega arith;
      }

-- what a function says of what it returns, taken together
pub ok_all : {A B : Type 0} {P : Type 0} {Q R : A → Type 0} {D : A → Type 0} (r : Result A B) → OnOk r P → IfOk r Q → IfOk r R → ((x : A) → P → Q x → R x → D x) → IfOk r D
ok_all (Ok x) p q r f = f x p q r
ok_all (Err e) p q r f = tt

-- a step as it stands in the code
pub carried : (t : Target) (from stage to : Stage) (out text : Bytes) (p : Progress) → from ≡ stage → out ≡ text → p.stage ≡ to → Advances t stage text (record { stage = to; lengths = p.lengths }) → Advances t from out p
carried t from stage to out text p is put stands step =
    subst (λ s. Advances t s out p) (sym is) (subst (λ b. Advances t stage b p) (sym put) (
    let same : (let q : Progress = record { stage = to; lengths = p.lengths } in q) ≡ p = λ i. record { stage = sym stands i; lengths = p.lengths } in
    subst (Advances t stage text) same step))
