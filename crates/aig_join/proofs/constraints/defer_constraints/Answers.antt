use Rattle.aig_base.proofs.Words.{subst, sym}
use Rattle.aig_circuit.proofs.Words.{IsCircuit, lists_circuit}
use Rattle.aig_join.specs.Constraints.{DefersConstraints}
use Rattle.aig_join.proofs.constraints.defer_constraints.Goals as goal

pub defer-requires : goal.defer-requires
defer-requires c = subst IsCircuit (sym c.in_ok-lists.ensures.copy) c.nodes-nodes.ensures.circuit

pub returns-clause-defers : goal.returns-clause-defers
returns-clause-defers c =
    subst (λ old. DefersConstraints old (lists_circuit c.defer.new.lists))
    c.in_ok-lists.ensures.copy c.in_ok-defer.ensures.defers
