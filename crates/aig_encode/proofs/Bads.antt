-- The bad edges of a circuit with further steps.
use Rattle.std.proofs.Common.{◌≡◌, ℕ, ◌+◌, ◌*◌, List, length, sym, ap, ◌∙◌}
use Rattle.aig_circuit.specs.declared.edge.AigEdge.{AigEdge}
use Rattle.aig_circuit.specs.Circuit.{Circuit}
use Rattle.aig_unroll.specs.Unroll.{UnrollsTo}
use Rattle.aig_runs.proofs.Below.{bads_count}

-- the program's lists have those of k + 1 steps
pub bads_room : (c u : Circuit) (k : ℕ) (bads all : List AigEdge) → UnrollsTo c k u
    → bads ≡ c.properties.bads → all ≡ u.properties.bads → (k + 1) * length bads ≡ length all
bads_room c u k bads all unrolls is also =
    ap (λ (es : List AigEdge). (k + 1) * length es) is ∙ sym (bads_count c u k unrolls)
    ∙ ap length (sym also)
