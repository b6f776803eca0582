use Rattle.std.proofs.Common.{◌≡◌, ◌++◌, map, take, drop, Option, ℕ}
use Rattle.std.specs.Prelude.{zip}
use Rattle.aig_circuit.specs.declared.node.AigLatch.{AigLatch}
use Rattle.aig_join.specs.Alike.{started}
use Rattle.aig_join.proofs.alike.start_with.Given as goal

abbrev pub invariant-loop-i : goal.invariant-loop-i
invariant-loop-i l = l.latchs
    ≡ map (λ (pair : Option ℕ × AigLatch). started pair.0 pair.1)
    (take l.i (zip l.places l.fn.latchs)) ++ drop l.i l.fn.latchs
