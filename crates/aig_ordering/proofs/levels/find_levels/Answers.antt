use Rattle.std.proofs.Common.{◌≤◌, ℕ, sym, ◌∙◌, below_more, arith}
use Rattle.aig_ordering.specs.Gates.{nodes_in}
use Rattle.aig_ordering.proofs.NodesIn.{count-gates}
use Rattle.aig_ordering.proofs.Tables.{all_levels-tested}
use Rattle.aig_ordering.proofs.levels.find_levels.Goals as goal

pub loop-variable-init : goal.loop-variable-init
loop-variable-init c = record {
  rest = λ f are. c.in_ok-search.ensures.rest f (count-gates f c.args.gates.now are);
  opened = λ v h. absurd (omega arith);
}

pub loop-variable-preserved : goal.loop-variable-preserved
loop-variable-preserved c = record {
  rest = λ f are. c.in_ok-find.ensures.rest f are;
  opened = below_more _ _ (λ v h. c.in_ok-find.ensures.stays v (c.loop-variable.invariant.opened v h)) c.in_ok-find.ensures.started;
}

pub find-requires-clause-rest : goal.find-requires-clause-rest
find-requires-clause-rest c = c.loop-variable.invariant.rest

pub returns : goal.returns
returns c = λ f are.
    let rest = c.loop-variable.invariant.rest f are in
    let count = count-gates f c.args.gates.now are in
    let has = λ (v : ℕ) (h : v ≤ f.greatest). rest.opened v (c.loop-variable.invariant.opened v (omega (arith, count, c.loop-variable-test.false))) in (
      all_levels-tested f (nodes_in c.args.gates.now) are (λ v h. let k = has v h in (k.0, rest.search.right v k.0 k.1)),
      record {
        count = rest.search.levels;
        each = λ v h. (let k = has v h in k.1 ∙ sym (rest.search.right v k.0 k.1));
      },
    )
