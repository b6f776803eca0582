use Rattle.std.proofs.Common.{◌≡◌, ◌++◌, map, take}
use Rattle.aig_circuit.specs.Edge.{inverse}
use Rattle.aig_unroll.specs.Frame.{image_in}
use Rattle.aig_witness_circuits.specs.declared.claims.Claim.TheVariants.{Edge}
use Rattle.aig_witness_circuits.proofs.claims.push_good.Given as goal

abbrev pub invariant-loop-edge : goal.invariant-loop-edge
invariant-loop-edge l =
    l.claims.items
    ≡ l.fn.claims.items
    ++ map (λ e. Edge (inverse (image_in l.images e))) (take l.edge-index l.edge-items)
