use Rattle.std.proofs.Common.{take}
use Rattle.aig_cone.proofs.Searching.{HoldNext}
use Rattle.aig_cone.proofs.search.next_states.Given as goal

abbrev pub invariant-loop-latch : goal.invariant-loop-latch
invariant-loop-latch l = HoldNext l.circuit.nodes (take l.latch-index l.latch-items) l.table.items
