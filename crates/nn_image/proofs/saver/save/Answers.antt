use Rattle.std.proofs.Common.{◌++◌, List, drop, refl, sym, ap, subst, ◌∙◌, arith}
use Rattle.std.specs.Prelude.{unsigned_abs}
use Rattle.std.specs.Int.{w32}
use Rattle.std.proofs.lemmas.Int.{to_z-of_z}
use Rattle.nn_base.specs.Paths.{Bytes}
use Rattle.nn_image.specs.declared.task.Task.{Task}
use Rattle.nn_message.specs.Frame.{magic, body, sections_of, summary_message, summary_of, framed, end}
use Rattle.nn_image.specs.Faults.{IsSmall}
use Rattle.nn_image.specs.Image.{content_with, content_of, image_of}
use Rattle.nn_image.specs.Saving.{Target, left, rest, whole, end_of}
use Rattle.nn_image.proofs.ModestLemmas.{modest}
use Rattle.nn_image.proofs.SmallLemmas.{image_few}
use Rattle.nn_image.proofs.UsesLemmas.{labelled}
use Rattle.nn_image.proofs.saver.save.Goals as goal

pub returns-clause-saves : goal.returns-clause-saves
returns-clause-saves g c =
    let ns = g.T.Tree.meaning c.args.tree.now in
    let has = g.T.Tree.has c.args.tree.now in
    let place = g.T.Tree.place c.args.tree.now in
    let sound = c.root_of-root.ensures.sound in
    let collected = c.in_ok-names.ensures in
    let task : Task = record { namespace = c.args.namespace; id = c.args.id; layout = c.magnitude.result; counters = c.counters.result; nodes = c.in_ok-names.nodes; root = c.root_of-root.result } in
    let t : Target = record { ns = ns; has = has; place = place; table = c.in_ok-names.names; task = task } in
    record {
      target = record {
        imaged = c.requires;
        table = collected.names;
        few = collected.few;
        counters = c.counters.ensures.value;
        nodes = collected.nodes;
        named = sound.named;
        root = c.root_of-root.ensures.there;
        top = c.root_of-root.ensures.top;
        modest = modest t c.requires collected.short collected.few;
      };
      stands = tt;
      counted = (refl, refl, refl, refl);
      given = omega arith;
    }

pub returns-clause-whole : goal.returns-clause-whole
unfolding left rest whole end_of image_of content_of framed
returns-clause-whole g c =
    let ns = g.T.Tree.meaning c.args.tree.now in
    let has = g.T.Tree.has c.args.tree.now in
    let place = g.T.Tree.place c.args.tree.now in
    let sound = c.root_of-root.ensures.sound in
    let collected = c.in_ok-names.ensures in
    let layout = c.magnitude.ensures ∙ ap unsigned_abs (to_z-of_z w32 c.args.layout c.ranges.layout) in
    let sections = λ (table : List Bytes). sections_of (content_with table ns c.args.id c.args.namespace) in
    (λ j. drop 0 (c.new.ensures.items j) ++ (magic ++ body (sections (collected.names j)) ++ end (summary_message (summary_of (layout j) (sections (collected.names j))))))

pub returns-clause-labelled : goal.returns-clause-labelled
returns-clause-labelled g c = labelled (g.T.Tree.meaning c.args.tree.now).nodes c.in_ok-names.names c.in_ok-names.ensures.names c.in_ok-names.ensures.short

pub returns-clause-small : goal.returns-clause-small
returns-clause-small g c =
    let ns = g.T.Tree.meaning c.args.tree.now in
    let labelled = labelled ns.nodes c.in_ok-names.names c.in_ok-names.ensures.names c.in_ok-names.ensures.short in
    subst IsSmall (sym (returns-clause-whole g c)) (image_few ns c.args.id c.args.namespace (unsigned_abs c.args.layout) c.requires labelled)
