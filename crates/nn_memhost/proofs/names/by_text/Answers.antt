use Rattle.std.proofs.Common.{◌≡◌, ◌∙◌, ◌<◌, ◌+◌, ℕ, suc, List, length, get_or, map, take, ap, sym, subst, refl, arith}
use Rattle.std.specs.Prelude.{true, false}
use Rattle.std.specs.Global.{Vec}
use Rattle.std.proofs.Math.Seq.{take-length}
use Rattle.std.proofs.lemmas.List.{length-map}
use Rattle.std.specs.BTreeMap.{BTreeMap, IsOrdered}
use Rattle.nn_base.specs.declared.file_name.FileName.{FileName}
use Rattle.nn_base.specs.Names.{sub_eq}
use Rattle.nn_memhost.specs.Kept.{Placed, placed_of}
use Rattle.nn_memhost.specs.Names.{AreSpelled, AllThere, text_cmp}
use Rattle.nn_memhost.proofs.EditLemmas.{placed_at}
use Rattle.nn_memhost.proofs.NamesLemmas.{all_out, spelled_in, all_in}
use Rattle.nn_memhost.proofs.names.by_text.Goals as goal
use Rattle.nn_memhost.proofs.names.by_text.Goals.{then-same_sub+in_ok-add, else-same_sub}

pub files-init : goal.files-init
files-init c = record {
  spelled = subst (λ es. AreSpelled (map placed_of c.args.files.now) c.args.sub es) (sym c.new-names.ensures.empty) tt;
  all = record { all = λ n e. cc };
  ordered = c.new-names.ensures.ordered;
}

pub files-preserved : goal.files-preserved
files-preserved c =
    let ps : List Placed = map placed_of c.args.files.now in
    let p : Placed = placed_of c.file-item.result in
    let i = c.files.file-index in
    let below : i < length ps = omega (arith, c.files-test.true, length-map c.args.files.now placed_of) in
    let at : p ≡ get_or ps i p = placed_at c.args.files.now i c.file-item.result c.file-item.is in
    let next : suc i ≡ i + 1 = omega arith in
    let old : BTreeMap (Vec ℕ) FileName = c.files.names in
    let es : List (Vec ℕ × FileName) = c.files.names.entries in
    elim c.if-same_sub.branch [
      | then-same_sub+in_ok-add w ↦
          let inside : sub_eq c.args.sub p.sub ≡ true = sym c.same_sub.ensures ∙ w.if-same_sub.true in
          record {
            spelled = subst (λ (m : BTreeMap (Vec ℕ) FileName). AreSpelled ps c.args.sub m.entries) (sym w.names-is)
                (spelled_in ps c.args.sub i p below at es c.files.invariant.all c.files.invariant.spelled inside old w.add.new.names refl w.in_ok-add.ensures);
            all = subst (λ (m : BTreeMap (Vec ℕ) FileName). AllThere (take (i + 1) ps) c.args.sub m.entries) (sym w.names-is)
                (subst (λ (j : ℕ). AllThere (take j ps) c.args.sub w.add.new.names.entries) next
                (all_in ps c.args.sub i p below at es c.files.invariant.all c.files.invariant.spelled inside old w.add.new.names refl w.in_ok-add.ensures));
            ordered = subst (λ (m : BTreeMap (Vec ℕ) FileName). IsOrdered text_cmp m) (sym w.names-is) w.in_ok-add.ensures.ordered;
          }
      | else-same_sub w ↦
          let outside : sub_eq c.args.sub p.sub ≡ false = sym c.same_sub.ensures ∙ w.if-same_sub.false in
          record {
            spelled = subst (λ (m : BTreeMap (Vec ℕ) FileName). AreSpelled ps c.args.sub m.entries) (sym w.names-is) c.files.invariant.spelled;
            all = subst (λ (m : BTreeMap (Vec ℕ) FileName). AllThere (take (i + 1) ps) c.args.sub m.entries) (sym w.names-is)
                (subst (λ (j : ℕ). AllThere (take j ps) c.args.sub es) next (all_out ps c.args.sub i p below at es c.files.invariant.all outside));
            ordered = subst (λ (m : BTreeMap (Vec ℕ) FileName). IsOrdered text_cmp m) (sym w.names-is) c.files.invariant.ordered;
          }
    ]

pub returns-clause-all : goal.returns-clause-all
returns-clause-all c =
    let done : length (map placed_of c.args.files.now) ≡ c.files.file-index = omega (arith, c.files-test.false, c.files.auto.file-index-end, length-map c.args.files.now placed_of) in
    subst (λ (ps : List Placed). AllThere ps c.args.sub c.files.names.entries) (ap (λ k. take k (map placed_of c.args.files.now)) (sym done) ∙ take-length (map placed_of c.args.files.now)) c.files.invariant.all
