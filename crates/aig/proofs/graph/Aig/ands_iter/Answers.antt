use Rattle.std.proofs.Common.{All, arith, subst}
use Rattle.aig_base.proofs.Words.{length-filter, count_by-le-length}
use Rattle.aig_circuit.specs.declared.node.AigNode.{AigNode}
use Rattle.aig_circuit.proofs.Words.{gates_of, is_gate, Circuit}
use Rattle.aig.specs.Gates.{IsGateOf}
use Rattle.aig.proofs.Gates.{All-gates_of}
use Rattle.aig.proofs.graph.Aig.ands_iter.Goals as goal

pub returns-clause-bound : goal.returns-clause-bound
returns-clause-bound c =
    rw (c.gates_among.ensures, c.deref.ensures.value, length-filter) (omega (arith, count_by-le-length (λ (node : AigNode). is_gate node.typ) c.self.inside.lists.nodes.items, c.self.inside.lists.nodes.ok.0))

pub returns-clause-items : goal.returns-clause-items
returns-clause-items c =
    let nodes = c.self.inside.lists.nodes.items in
    rw (c.gates_among.ensures, c.deref.ensures.value)
    (subst (λ (v : Circuit). All (IsGateOf v.nodes) (gates_of nodes)) c.self.view_is (All-gates_of nodes c.self.invariant.nodes))
