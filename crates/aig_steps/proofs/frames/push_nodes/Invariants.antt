use Rattle.aig_base.proofs.Words.{◌≡◌, ◌++◌, take, flat_map}
use Rattle.aig_steps.specs.Stepwise.{node_clauses}
use Rattle.aig_steps.proofs.frames.push_nodes.Given as goal

abbrev pub invariant-loop-node : goal.invariant-loop-node
invariant-loop-node l =
    l.clauses ≡ l.initial.clauses ++ flat_map node_clauses (take l.node-index l.nodes)
