use Rattle.std.proofs.Common.{rules, refl}
use Rattle.nn_record.specs.Spelling.{body_bytes}
use Rattle.nn_record.proofs.FrameLemmas.{then}
use Rattle.nn_record.proofs.bodies.take_add.Goals as goal

pub returns-clause-found : goal.returns-clause-found
unfolding body_bytes
returns-clause-found c = record {
  opcode = refl;
  op = search rules;
  held = search rules;
  text =
      let inode = c.in_ok-take_long.ensures.found.1 in
      let path = then _ _ _ _ _ inode c.in_ok-take_path.ensures.found.1 in
      let replication = then _ _ _ _ _ path c.in_ok-take_u16.ensures.found.1 in
      let time = then _ _ _ _ _ replication c.in_ok-take_long-2.ensures.found.1 in
      let owner = then _ _ _ _ _ time c.in_ok-take_name.ensures.found.1 in
      let group = then _ _ _ _ _ owner c.in_ok-take_name-2.ensures.found.1 in
      then _ _ _ _ _ group c.in_ok-take_mode.ensures.found.1;
}
