use Rattle.std.proofs.Common.{◌∙◌, ap, sym, length, ◌++◌, ◌∷◌, [], List, arith}
use Rattle.nn_memhost.specs.declared.past.Logged.{Logged}
use Rattle.nn_memhost.specs.declared.kept.KeptDir.{KeptDir}
use Rattle.nn_memhost.specs.Base.{base_of}
use Rattle.nn_memhost.proofs.Calls.{asking}
use Rattle.nn_memhost.proofs.Hosts.{based_on, base_there, more, more_said, more_tied, more_placed}
use Rattle.nn_memhost.proofs.mem.MemHost.perform.Goals as goal

pub invariant_of-self-2 : goal.invariant_of-self-2
invariant_of-self-2 c =
    let m = c.args.self.now in
    let based = based_on c.keep_base.new.base m.base c.carry_at.new.dirs.items m.dirs.items c.deref.result.now c.in_ok-keep_base.ensures.there c.deref.ensures.value c.keep_base.ensures.same in
    let noted = c.note.ensures ∙ ap (λ (l : List Logged). l ++ asking c.args.i c.args.asked c.args.failed m.counts ∷ []) c.reserve.ensures.items in
    record {
      few = omega (arith, m.few, c.carry_at.ensures.len);
      earlier = m.earlier;
      spoken = more_said m c.keep_base.new.base c.carry_at.new.dirs.items based c.args.i c.args.asked c.args.failed c.note.new.calls.items noted;
      based = ap length (base_there c.keep_base.new.base c.carry_at.new.dirs.items c.deref.result.now c.in_ok-keep_base.ensures.there)
          ∙ c.keep_base.ensures.len (ap (λ (ds : List KeptDir). length (base_of m.base ds)) c.deref.ensures.value ∙ m.based ∙ ap length (sym c.deref.ensures.value))
          ∙ ap length c.deref.ensures.value ∙ sym c.carry_at.ensures.len;
      placed = more_placed m c.carry_at.new.dirs.items c.args.i c.args.asked c.args.failed c.note.new.calls.items noted c.carry_at.ensures.len c.requires;
      tied = more_tied m c.keep_base.new.base c.carry_at.new.dirs.items based c.args.i c.args.asked c.args.failed c.note.new.calls.items noted c.in_ok-carry_at.ensures.ok;
    }

pub returns-clause-ok : goal.returns-clause-ok
returns-clause-ok c =
    let m = c.args.self.now in
    let based = based_on c.keep_base.new.base m.base c.carry_at.new.dirs.items m.dirs.items c.deref.result.now c.in_ok-keep_base.ensures.there c.deref.ensures.value c.keep_base.ensures.same in
    let noted = c.note.ensures ∙ ap (λ (l : List Logged). l ++ asking c.args.i c.args.asked c.args.failed m.counts ∷ []) c.reserve.ensures.items in
    more m c.keep_base.new.base c.carry_at.new.dirs.items based c.args.i c.args.asked c.args.failed c.note.new.calls.items noted
