use Rattle.aig_base.proofs.Words.{List, Vec, Global, ◌∙◌, ap, sym, flat_map, flat_map-map, on_ok_weaker}
use Rattle.aig_circuit.specs.declared.edge.AigEdge.{AigEdge}
use Rattle.aig_cone.proofs.Keeping.{refining_roots-pushed}
use Rattle.aig_cone.proofs.refine.push_roots.Goals as goal

pub returns : goal.returns
returns c =
    let v = c.args.circuit.now in
    let items = λ (set : Vec AigEdge Global). set.items in
    let whole = λ (set : List AigEdge). set in
    let sets = c.justice.result.now in
    let justice = sym (flat_map-map whole items sets) ∙ ap (flat_map whole) c.justice.ensures.value in
    on_ok_weaker c.push_starts.result
    (λ pushed. (
      c.outputs.ensures.circuit,
      refining_roots-pushed v c.args.roots.now.items c.push_nodes.new.roots.items c.push_nodes-2.new.roots.items c.push_nodes-3.new.roots.items c.push_sets.new.roots.items c.push_nodes-4.new.roots.items c.push_leaves.new.roots.items c.push_starts.new.roots.items
          (rw c.outputs.ensures.value at c.in_ok-push_nodes.ensures)
          (rw c.bads.ensures.value at c.in_ok-push_nodes-2.ensures)
          (rw c.constraints.ensures.value at c.in_ok-push_nodes-3.ensures)
          (rw justice at c.in_ok-push_sets.ensures)
          (rw c.fairness.ensures.value at c.in_ok-push_nodes-4.ensures)
          (rw c.latchs.ensures.value at c.in_ok-push_leaves.ensures)
          (rw c.latchs-2.ensures.value at pushed),
    ))
    c.push_starts.ensures
