-- Part of what is promised.
-- What a question claims of copies of circuits.
use Rattle.std.specs.Prelude.{Option, Some, None, List, map}
use Rattle.aig_circuit.specs.declared.edge.AigEdge.{AigEdge}
use Rattle.aig_circuit.specs.declared.node.AigLatch.{AigLatch}
use Rattle.aig_circuit.specs.Circuit.{Circuit}
use Rattle.aig_circuit.specs.Edge.{inverse}
use Rattle.aig_unroll.specs.Frame.{image_at, image_in}
use Rattle.aig_witness_circuits.specs.declared.claims.Claim.{Claim}
use Rattle.aig_witness_circuits.specs.declared.claims.Claim.TheVariants.{Edge, Equal}

-- the image of the latch's initial edge, and where it has none, that of its leaf
abbrev pub start_image : List AigEdge → AigEdge → Option AigEdge → AigEdge
start_image images leaf (Some e) = image_in images e
start_image images leaf None = leaf

-- where a latch starts, these are equal
abbrev pub start_claim : List AigEdge → AigLatch → Claim
start_claim images latch =
    Equal (start_image images (image_at images latch.input) latch.init)
    (image_at images latch.input)

-- where a latch moves, these are
abbrev pub move_claim : List AigEdge → List AigEdge → AigLatch → Claim
move_claim before after latch = Equal (image_at after latch.input) (image_in before latch.next)

-- the latches start
abbrev pub start_claims : List AigLatch → List AigEdge → List Claim
start_claims latchs images = map (start_claim images) latchs

-- the latches move
abbrev pub move_claims : Circuit → List AigEdge → List AigEdge → List Claim
move_claims c before after = map (move_claim before after) c.latchs

-- the constraints hold
abbrev pub constraint_claims : Circuit → List AigEdge → List Claim
constraint_claims c images = map (λ e. Edge (image_in images e)) c.properties.constraints

-- no bad edge holds
abbrev pub good_claims : Circuit → List AigEdge → List Claim
good_claims c images = map (λ e. Edge (inverse (image_in images e))) c.properties.bads
