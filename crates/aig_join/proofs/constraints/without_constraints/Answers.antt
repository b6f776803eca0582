use Rattle.aig_base.proofs.Words.{List, ap, subst, sym, ◌∙◌}
use Rattle.aig_circuit.specs.declared.edge.AigEdge.{AigEdge}
use Rattle.aig_circuit.proofs.Words.{IsCircuit, lists_circuit}
use Rattle.aig_join.specs.Constraints.{unconstrained}
use Rattle.aig_join.proofs.Unconstrained.{IsCircuit-unconstrained}
use Rattle.aig_join.proofs.constraints.without_constraints.Goals as goal

pub returns-clause-rest : goal.returns-clause-rest
returns-clause-rest c =
    let lists = lists_circuit c.in_ok-lists.lists in
    ap (λ (es : List AigEdge). record lists {
      properties = record lists.properties { constraints = es };
    }) c.clear.ensures.items
    ∙ ap unconstrained c.in_ok-lists.ensures.copy

pub returns-clause-circuit : goal.returns-clause-circuit
returns-clause-circuit c = subst IsCircuit (sym (returns-clause-rest c))
    (IsCircuit-unconstrained c.args.circuit.now c.nodes-nodes.ensures.circuit)
