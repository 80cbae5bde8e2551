use Rattle.std.proofs.Common.{◌≡◌, ℕ, suc, ◌+◌, Bool, ◌++◌, ◌∙◌, sym, ap, append_assoc, length, length-append, arith}
use Rattle.nn_base.specs.DirSets.{has}
use Rattle.nn_script.specs.Spelling.{dir_line, dir_lines}
use Rattle.nn_say.proofs.answering.put_dirs.Goals as goal

one_more : (live : ℕ → Bool) (i : ℕ) → dir_lines live (i + 1) ≡ dir_lines live i ++ dir_line i (live i)
one_more live i = let e : i + 1 ≡ suc i = omega arith in ap (dir_lines live) e

pub loop-i-preserved : goal.loop-i-preserved
loop-i-preserved c =
    let i = c.loop-i.i in
    let live = has c.args.live in
    let long = length-append (dir_lines live i) (dir_line i (live i)) in record {
      text = c.dir_line.ensures.text ∙ ap (λ b. c.loop-i.out.items ++ dir_line i b) c.has.ensures ∙ ap (λ x. x ++ dir_line i (live i)) c.loop-i.invariant.text
          ∙ append_assoc c.args.out.now.items (dir_lines live i) (dir_line i (live i)) ∙ ap (λ x. c.args.out.now.items ++ x) (sym (one_more live i));
      size = omega (arith, c.loop-i.invariant.size, c.dir_line.ensures.size);
      short = omega (arith, long, ap length (one_more live i), c.loop-i.invariant.short, c.dir_line.ensures.short, ap (λ b. length (dir_line i b)) c.has.ensures);
      room = omega (arith, c.loop-i.invariant.room, c.dir_line.ensures.room);
    }
