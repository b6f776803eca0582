use Rattle.std.proofs.Common.{◌≡◌, ◌+◌, ◌∷◌, length, take}
use Rattle.aig_circuit.specs.Build.{AddsGate, JoinsFromLeft}
use Rattle.aig_circuit.proofs.Joining.{AndSoFar}
use Rattle.aig_build.proofs.build.trivial_new_ands_node.Given as goal

abbrev pub invariant-loop-fanin : goal.invariant-loop-fanin
invariant-loop-fanin l = record {
  joined : AndSoFar l.fn.nodes.items l.nodes.items (l.initial.all ∷ take l.fanin-index l.rest) l.all;
  rule : JoinsFromLeft AddsGate l.fn.nodes.items l.initial.all (take l.fanin-index l.rest) l.nodes.items l.all;
  count : length l.nodes.items ≡ length l.fn.nodes.items + l.fanin-index;
}
