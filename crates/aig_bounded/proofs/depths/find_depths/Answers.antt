use Rattle.std.proofs.Common.{arith}
use Rattle.aig_bounded.proofs.Attained.{bads_read, constraints_read}
use Rattle.aig_bounded.proofs.Lowered.{AreNoDeeper-then, HaveNoDepth-lower}
use Rattle.aig_bounded.proofs.depths.find_depths.Goals as goal

pub returns : goal.returns
returns c =
    let circuit = c.args.circuit.now in
    let one = c.clear_depths.new.depths in
    let two = c.clear_depths-2.new.depths in
    let three = c.settle.new.depths in
    record {
      count = omega (arith, c.requires.table, c.clear_depths.auto.depths, c.clear_depths-2.auto.depths, c.settle.auto.depths);
      bads = HaveNoDepth-lower circuit.properties.bads one three (AreNoDeeper-then one two three c.clear_depths-2.ensures.lower c.settle.ensures.lower) (rw c.bads.ensures.value at c.clear_depths.ensures.none);
      constraints = HaveNoDepth-lower circuit.properties.constraints two three c.settle.ensures.lower (rw c.constraints.ensures.value at c.clear_depths-2.ensures.none);
      settled = c.settle.ensures.settled;
      read = c.settle.ensures.read
          (c.clear_depths-2.ensures.read circuit c.args.last (rw c.constraints.ensures.value (constraints_read circuit))
          (c.clear_depths.ensures.read circuit c.args.last (rw c.bads.ensures.value (bads_read circuit)) c.requires.unread));
    }
