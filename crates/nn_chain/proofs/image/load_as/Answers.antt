use Rattle.std.proofs.Common.{inl, inr, arith, rules}
use Rattle.std.proofs.lemmas.Grind.{common_steps}
use Rattle.nn_chain.proofs.image.load_as.Goals as goal

pub returns-then-ne-clause-err : goal.returns-then-ne-clause-err
returns-then-ne-clause-err g c = record {
  ns = g.T.Tree.meaning c.in_ok-tree.tree;
  inner = c.in_ok-tree.inner;
  namespace = c.in_ok-tree.namespace;
  image = search rules;
  other = inl (λ e. grind (arith, common_steps));
}

pub returns-then-namespace-version-clause-err : goal.returns-then-namespace-version-clause-err
returns-then-namespace-version-clause-err g c = record {
  ns = g.T.Tree.meaning c.in_ok-tree.tree;
  inner = c.in_ok-tree.inner;
  namespace = c.in_ok-tree.namespace;
  image = search rules;
  other = inr (λ e. c.if-namespace-version.true (search rules));
}
