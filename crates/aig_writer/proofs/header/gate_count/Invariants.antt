use Rattle.aig_base.proofs.Words.{◌≡◌, ◌≤◌, length, take, filter_map}
use Rattle.aig_format.specs.Circuit.{gate_line}
use Rattle.aig_writer.proofs.header.gate_count.Given as goal

abbrev pub invariant-loop-node : goal.invariant-loop-node
invariant-loop-node l = record { few : l.count ≤ l.node-index; gates : l.count ≡ length (filter_map gate_line (take l.node-index l.nodes)) }
