use Rattle.aig_base.proofs.Words.{List, Vec, Global, ◌++◌, subst, sym, ap, ◌∙◌, arith, All, flat_map, flat_map-map}
use Rattle.aig_circuit.specs.declared.edge.AigEdge.{AigEdge}
use Rattle.aig_circuit.specs.declared.node.AigLatch.{AigLatch}
use Rattle.aig_circuit.proofs.Words.{IsInRange, latch_edges, AddsEdgeMarks}
use Rattle.aig_circuit.proofs.Marking.{AddsEdgeMarks-then}
use Rattle.aig_cnf.proofs.Needing.{sets_in_range}
use Rattle.aig_cnf.proofs.marks.mark_roots.Goals as goal

pub mark_sets-requires : goal.mark_sets-requires
mark_sets-requires c k d h i e l =
    let nodes = c.args.circuit.now.nodes in
    let sets = c.justice.result.now in
    let there = subst (All (All (IsInRange nodes))) (sym c.justice.ensures.value) c.requires.circuit.properties.justice in
    omega (arith, sets_in_range nodes sets there k d h i e l)

pub returns : goal.returns
returns c =
    let v = c.args.circuit.now in
    let p = v.properties in
    let items = λ (set : Vec AigEdge Global). set.items in
    let whole = λ (set : List AigEdge). set in
    let sets = flat_map whole p.justice in
    let start = c.args.marks.now in
    let one = c.mark_edges.new.marks in
    let two = c.mark_edges-2.new.marks in
    let three = c.mark_edges-3.new.marks in
    let four = c.mark_sets.new.marks in
    let five = c.mark_edges-4.new.marks in
    let six = c.mark_latches.new.marks in
    let marks_outputs = subst (AddsEdgeMarks start one) c.outputs.ensures.value c.mark_edges.ensures in
    let marks_bads = subst (AddsEdgeMarks one two) c.bads.ensures.value c.mark_edges-2.ensures in
    let marks_constraints = subst (AddsEdgeMarks two three) c.constraints.ensures.value c.mark_edges-3.ensures in
    let marks_sets = subst (AddsEdgeMarks three four) (sym (flat_map-map whole items c.justice.result.now) ∙ ap (flat_map whole) c.justice.ensures.value) c.mark_sets.ensures in
    let marks_fairness = subst (AddsEdgeMarks four five) c.fairness.ensures.value c.mark_edges-4.ensures in
    let marks_latches = subst (λ (latchs : List AigLatch). AddsEdgeMarks five six (flat_map latch_edges latchs)) c.latchs.ensures.value c.mark_latches.ensures in
    let bads = p.outputs ++ p.bads in
    let constraints = bads ++ p.constraints in
    let justice = constraints ++ sets in
    let to_bads = AddsEdgeMarks-then start one two p.outputs p.bads marks_outputs marks_bads in
    let to_constraints = AddsEdgeMarks-then start two three bads p.constraints to_bads marks_constraints in
    let to_justice = AddsEdgeMarks-then start three four constraints sets to_constraints marks_sets in
    let to_fairness = AddsEdgeMarks-then start four five justice p.fairness to_justice marks_fairness in
    AddsEdgeMarks-then start five six (justice ++ p.fairness) (flat_map latch_edges v.latchs) to_fairness marks_latches
