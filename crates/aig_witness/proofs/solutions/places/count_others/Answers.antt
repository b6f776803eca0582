use Rattle.aig_base.proofs.Words.{◌≡◌, ◌<◌, ◌+◌, false, length, take, arith, sym, ap, ◌∙◌, false≢true, count_by, length-take-le, take_all, count_by-le-length}
use Rattle.aig_circuit.specs.declared.node.AigNode.{AigNode}
use Rattle.aig_circuit.specs.declared.node.AigNodeType.TheVariants.{False}
use Rattle.aig_unroll.specs.Places.{is_other_leaf}
use Rattle.aig_witness.proofs.Turning.{count_inner, count_latch, count_other, turn_length, turn_more}
use Rattle.aig_witness.proofs.solutions.places.count_others.Goals.{then-is_leaf+then-not-marks-i, else-is_leaf, else-is_leaf-via-then-is_leaf+else-not-marks-i, else-is_leaf-via-else-is_leaf}
use Rattle.aig_witness.proofs.solutions.places.count_others.Goals as goal

abbrev none : AigNode
none = record { node_id = 0; typ = False }

pub bounds-marks-i : goal.bounds-marks-i
bounds-marks-i g c = omega (arith, c.requires.count, ap length c.nodes-nodes.ensures.value, c.loop-i-test.true)

pub overflow_add-count : goal.overflow_add-count
overflow_add-count g c =
    let i = c.loop-i.i in
    let nodes = c.nodes-nodes.result.now in
    let few = count_by-le-length (is_other_leaf (g.C.HasLeaves.circuit c.args.circuit.now)) (take i nodes) in
    let long = length-take-le i nodes (omega (arith, c.loop-i-test.true)) in
    omega (arith, c.loop-i.invariant.so_far, few, long, c.loop-i-test.true, c.nodes-nodes.type_inv.0)

pub loop-i-preserved : goal.loop-i-preserved
loop-i-preserved g c =
    let circuit = g.C.HasLeaves.circuit c.args.circuit.now in
    let marks = c.args.marks.now in
    let nodes = c.nodes-nodes.ensures.value in
    let are = c.nodes-nodes.ensures.circuit.nodes in
    let h : c.loop-i.i < length circuit.nodes = rw nodes at c.loop-i-test.true in
    let before = rw nodes at c.loop-i.invariant.so_far in
    let kind = rw nodes at c.is_leaf.ensures in
    record {
      so_far = rw nodes (elim c.if-is_leaf.branch [
        | then-is_leaf+then-not-marks-i w ↦ w.count-is ∙ ap (λ n. n + 1) before ∙ sym (count_other circuit marks are c.requires c.loop-i.i none false h (kind.0 w.if-is_leaf.true) w.if-not-marks-i.true)
        | else-is_leaf w ↦ elim w.else-is_leaf.branch [
          | else-is_leaf-via-then-is_leaf+else-not-marks-i w' ↦ w.count-is ∙ before ∙ sym (count_latch circuit marks are c.requires c.loop-i.i none false h w'.if-not-marks-i.false)
          | else-is_leaf-via-else-is_leaf w' ↦ w.count-is ∙ before ∙ sym (count_inner circuit marks are c.requires c.loop-i.i none false h (λ leaf. false≢true (sym w'.if-is_leaf.false ∙ kind.1 leaf)))
        ]
      ]);
      count = turn_length _ c.loop-i.turns.items c.loop-i.i c.loop-i.count c.in_ok-push.ensures.items c.loop-i.invariant.count;
      each = turn_more (λ n. count_by (is_other_leaf circuit) (take n c.nodes-nodes.result.now)) _ c.loop-i.turns.items c.loop-i.i c.loop-i.count c.in_ok-push.ensures.items c.loop-i.invariant.count c.loop-i.invariant.each c.loop-i.invariant.so_far;
    }

pub returns-clause-turns : goal.returns-clause-turns
returns-clause-turns g c =
    let before = c.loop-i.invariant in
    let nodes = c.nodes-nodes.ensures.value in
    let long = ap length nodes in
    let end : c.loop-i.i ≡ length (g.C.HasLeaves.circuit c.args.circuit.now).nodes = omega (arith, long, c.loop-i-test.false) in
    record {
      count = before.count ∙ end;
      each = λ n low. before.each n (omega (arith, end, low)) ∙ ap (λ ns. count_by (is_other_leaf (g.C.HasLeaves.circuit c.args.circuit.now)) (take n ns)) nodes;
    }

pub returns-clause-all : goal.returns-clause-all
returns-clause-all g c =
    let nodes = c.nodes-nodes.result.now in
    c.loop-i.invariant.so_far
    ∙ ap (count_by (is_other_leaf (g.C.HasLeaves.circuit c.args.circuit.now))) (take_all c.loop-i.i nodes (omega (arith, c.loop-i-test.false)) ∙ c.nodes-nodes.ensures.value)
