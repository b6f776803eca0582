use Rattle.std.proofs.Common.{arith}
use Rattle.aig_writer.proofs.Counts.{gates-turn}
use Rattle.aig_writer.proofs.header.gate_count.Goals as goal
use Rattle.aig_writer.proofs.header.gate_count.Goals.{then-is_and, else-is_and}

pub loop-node-preserved : goal.loop-node-preserved
loop-node-preserved c =
    let turn = gates-turn c.args.nodes.now c.loop-node.node-index _ c.is_and.result c.loop-node-test.true c.is_and.ensures in
    elim c.if-is_and.branch [
      | then-is_and w ↦ (let one = rw w.if-is_and.true at turn in record { few = omega arith; gates = omega arith })
      | else-is_and w ↦ (let none = rw w.if-is_and.false at turn in record { few = omega arith; gates = omega arith })
    ]
