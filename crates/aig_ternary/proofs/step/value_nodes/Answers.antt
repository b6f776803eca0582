use Rattle.std.proofs.Common.{◌<◌, length, sym, ◌∙◌, arith}
use Rattle.aig_circuit.specs.declared.node.AigNodeType.TheVariants.{False, Leaf, And}
use Rattle.aig_circuit.proofs.Trees.{kind_at-read}
use Rattle.aig_ternary.proofs.Stepping.{ValuedBelow-and, ValuedBelow-false, ValuedBelow-leaf}
use Rattle.aig_ternary.proofs.step.value_nodes.Goals as goal
use Rattle.aig_ternary.proofs.step.value_nodes.Goals.{in-False, in-Leaf, in-And}

pub loop-id-preserved : goal.loop-id-preserved
loop-id-preserved c =
    let nodes = c.args.nodes.now in
    let i = c.loop-id.id in
    let before = c.args.values.now in
    let so_far = c.loop-id.invariant in
    let there : i < length c.loop-id.values = omega arith in
    elim c.match-typ.branch [
      | in-False w ↦
          (let is = kind_at-read nodes i _ False c.loop-id-test.true (sym w.in-False.is ∙ c.typ.ensures) in
          rw w.values-is (ValuedBelow-false nodes before _ i so_far there is))
      | in-Leaf w ↦
          (let is = kind_at-read nodes i _ Leaf c.loop-id-test.true (sym w.in-Leaf.is ∙ c.typ.ensures) in
          rw w.values-is (ValuedBelow-leaf nodes before _ i so_far there is))
      | in-And w ↦
          (let a = w.in-And.fanin0 in
          let b = w.in-And.fanin1 in
          let is = kind_at-read nodes i _ (And a b) c.loop-id-test.true (sym w.in-And.is ∙ c.typ.ensures) in
          let joined = ValuedBelow-and nodes c.requires.sound.ordered before c.loop-id.values i a b so_far there is in
          rw (w.values-is, w.bitand.ensures, w.edge_value.ensures, w.edge_value-in-And.ensures) joined)
    ]
