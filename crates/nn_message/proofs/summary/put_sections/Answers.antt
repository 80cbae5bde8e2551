use Rattle.std.proofs.lemmas.Result.{on_ok_weaker}
use Rattle.nn_message.specs.Frame.{places, sections_field}
use Rattle.nn_message.proofs.PutLemmas.{put_four}
use Rattle.nn_message.proofs.summary.put_sections.Goals as goal

pub returns : goal.returns
unfolding sections_field places
returns c = record {
  ok = on_ok_weaker c.put_section-4.result (put_four c.args.out.now.items c.put_section.new.out.items c.put_section-2.new.out.items c.put_section-3.new.out.items c.put_section-4.new.out.items _ _ _ _
      c.in_ok-put_section.ensures.ok c.in_ok-put_section-2.ensures.ok c.in_ok-put_section-3.ensures.ok) c.put_section-4.ensures.ok;
}
