use Rattle.std.proofs.Common.{take}
use Rattle.aig_circuit.specs.Build.{FoldsOrAddsAll}
use Rattle.aig_circuit.proofs.Joining.{AndSoFar}
use Rattle.aig_build.proofs.build.new_ands_node.Given as goal

abbrev pub invariant-loop-fanin : goal.invariant-loop-fanin
invariant-loop-fanin l = record {
  joined : AndSoFar l.fn.nodes.items l.nodes.items (take l.fanin-index l.fanins) l.all;
  rule : FoldsOrAddsAll l.fn.nodes.items (take l.fanin-index l.fanins) l.nodes.items l.all;
}
