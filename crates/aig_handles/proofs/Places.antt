-- Justice properties by their places.
use Rattle.aig_base.proofs.Words.{◌≡◌, ℕ, Some, List, slice_get}
use Rattle.std.specs.Prelude.{All}
use Rattle.std.proofs.lemmas.Option.{slice_get_within}
use Rattle.aig_circuit.specs.declared.edge.AigEdge.{AigEdge}
use Rattle.aig_circuit.proofs.Words.{Circuit, IsCircuit, IsInRange}
use Rattle.aig_giving.proofs.Listing.{at_place}

-- the edges of a justice property are there
pub justice_there : (c : Circuit) → IsCircuit c → (i : ℕ) (es : List AigEdge)
    → slice_get c.properties.justice i ≡ Some es → All (IsInRange c.nodes) es
justice_there c is i es here =
    at_place (All (IsInRange c.nodes)) c.properties.justice i es
    (slice_get_within c.properties.justice i es here) here is.properties.justice
