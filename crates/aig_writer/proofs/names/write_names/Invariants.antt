use Rattle.aig_base.proofs.Words.{take, WritesInCalls, enumerate_from, flat_map, get}
use Rattle.aig_circuit.specs.Circuit.{latch_leaves}
use Rattle.aig_writer.proofs.Entries.{name_entry}
use Rattle.aig_writer.proofs.names.write_names.Given as goal

abbrev pub invariant-loop-i : goal.invariant-loop-i
invariant-loop-i g l = WritesInCalls g.O.TextOut.wrote l.fn.out (flat_map (name_entry 105 (get l.circuit.names)) (take l.i (enumerate_from 0 l.circuit.inputs))) l.out

abbrev pub invariant-loop-i-2 : goal.invariant-loop-i-2
invariant-loop-i-2 g l = WritesInCalls g.O.TextOut.wrote l.initial.out (flat_map (name_entry 108 (get l.circuit.names)) (take l.i (enumerate_from 0 (latch_leaves l.circuit.latchs)))) l.out
