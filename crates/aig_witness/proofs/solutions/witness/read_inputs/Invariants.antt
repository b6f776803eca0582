use Rattle.std.proofs.Common.{◌≡◌, map, take}
use Rattle.aig_unroll.specs.Places.{place_at}
use Rattle.aig_witness.specs.Solutions.{value_at}
use Rattle.aig_witness.proofs.solutions.witness.read_inputs.Given as goal

abbrev pub invariant-loop-n : goal.invariant-loop-n
invariant-loop-n l = l.row.items ≡ map (λ n. value_at l.values (place_at l.circuit l.unrolled l.t n)) (take l.n-index l.inputs)
