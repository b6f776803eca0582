-- The items that the iterator gave are joined, and the circuit stays one.
use Rattle.aig_base.proofs.Words.{List, map, subst, ◌∙◌, IfOk-weaker}
use Rattle.aig_circuit.specs.declared.edge.AigEdge.{AigEdge}
use Rattle.aig_circuit.proofs.Words.{inverse, FoldsOrAddsAll, JoinsByOr, Circuit}
use Rattle.aig_circuit.proofs.Circuits.{IsCircuit-grown}
use Rattle.aig.proofs.Results.{IfOk_both}
use Rattle.aig.proofs.graph.Aig.new_ors_node.Goals as goal

pub invariant_of-self : goal.invariant_of-self
invariant_of-self g c = IsCircuit-grown _ c.new_ors_node.new.nodes.items c.self.invariant c.new_ors_node.ensures.gates.grows

pub returns-clause-joins : goal.returns-clause-joins
returns-clause-joins g c =
    let items = c.in_ok-edges.ensures in
    let run = items.2 in
    let new = c.new_ors_node.new.nodes.items in
    IfOk-weaker c.new_ors_node.result _ _ (λ e both.
    let all = subst (λ (es : List AigEdge). FoldsOrAddsAll c.self.inside.lists.nodes.items (map inverse es) new (inverse e) × JoinsByOr c.self.inside.lists.nodes.items new es e) (c.deref.ensures.value ∙ run.3) both in
    (items.0, items.1, (run.0, run.1, run.2, subst (λ (v : Circuit). FoldsOrAddsAll v.nodes (map inverse run.0.items) new (inverse e) × JoinsByOr v.nodes new run.0.items e) c.self.view_is all)))
    (IfOk_both c.new_ors_node.result _ _ c.new_ors_node.ensures.rule c.new_ors_node.ensures.joins)
