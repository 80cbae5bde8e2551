use Rattle.std.proofs.Common.{◌≡◌, ℕ, ◌++◌, map, take}
use Rattle.std.specs.Prelude.{nat_le, ◌&&◌}
use Rattle.std.specs.List.{list_all}
use Rattle.nn_image.proofs.noted.Noted.note_blocks.Given as goal

abbrev pub invariant-loop-block : goal.invariant-loop-block
invariant-loop-block l = record {
  ids : l.self.blocks.items ≡ l.initial.self.blocks.items ++ map (λ b. b.id) (take l.block-index l.blocks);
  stamp : (last : ℕ) → nat_le l.self.stamp last ≡ (nat_le l.initial.self.stamp last && list_all (λ b. nat_le b.stamp last) (take l.block-index l.blocks));
  inodes : l.self.inodes.items ≡ l.initial.self.inodes.items;
}
