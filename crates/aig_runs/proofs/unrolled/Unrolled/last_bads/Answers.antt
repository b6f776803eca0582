use Rattle.std.proofs.Common.{◌≡◌, ℕ, ◌+◌, ◌*◌, List, length, sym, ap, ◌∙◌, arith}
use Rattle.aig_circuit.specs.Circuit.{Circuit}
use Rattle.aig_circuit.specs.declared.edge.AigEdge.{AigEdge}
use Rattle.aig_runs.proofs.Below.{bads_count}
use Rattle.aig_runs.specs.Unrolled.{IsUnrolled, UnrolledCircuit}
use Rattle.aig_runs.proofs.unrolled.Unrolled.last_bads.Goals as goal

-- the bad edges are those of all steps
room_for : (u : UnrolledCircuit) → IsUnrolled u → (k : ℕ) (c d : Circuit) (bads all : List AigEdge)
    → k ≡ u.steps → c ≡ u.circuit → d ≡ u.unrolled → bads ≡ c.properties.bads
    → all ≡ d.properties.bads → (k + 1) * length bads ≡ length all
room_for u is k c d bads all so_many first second few many =
    let entries = λ (x : Circuit). length x.properties.bads in
    ap (λ (es : List AigEdge). (k + 1) * length es) few
    ∙ ap (λ (x : Circuit). (k + 1) * length x.properties.bads) first
    ∙ ap (λ n. (n + 1) * length u.circuit.properties.bads) so_many
    ∙ sym (bads_count u.circuit u.unrolled u.steps is.steps) ∙ sym (ap entries second)
    ∙ sym (ap length many)

pub overflow_mul-first : goal.overflow_mul-first
overflow_mul-first c =
    let room = room_for c.args.self.now c.circuit.ensures.unrolled c.steps.result c.circuit.result c.unrolled.result c.bads.result.now c.bads-bads.result.now c.steps.ensures.value c.circuit.ensures.value c.unrolled.ensures.value c.bads.ensures.value c.bads-bads.ensures.value in
    omega (arith, room, c.bads-bads.type_inv.0)

pub offset_bounds-bads-first : goal.offset_bounds-bads-first
offset_bounds-bads-first c =
    let room = room_for c.args.self.now c.circuit.ensures.unrolled c.steps.result c.circuit.result c.unrolled.result c.bads.result.now c.bads-bads.result.now c.steps.ensures.value c.circuit.ensures.value c.unrolled.ensures.value c.bads.ensures.value c.bads-bads.ensures.value in
    omega (arith, room, c.bads-bads.type_inv.1)

pub slice_bounds-result-count : goal.slice_bounds-result-count
slice_bounds-result-count c =
    let room = room_for c.args.self.now c.circuit.ensures.unrolled c.steps.result c.circuit.result c.unrolled.result c.bads.result.now c.bads-bads.result.now c.steps.ensures.value c.circuit.ensures.value c.unrolled.ensures.value c.bads.ensures.value c.bads-bads.ensures.value in
    omega (arith, room)

pub slice_bounds-result-start : goal.slice_bounds-result-start
slice_bounds-result-start c =
    let room = room_for c.args.self.now c.circuit.ensures.unrolled c.steps.result c.circuit.result c.unrolled.result c.bads.result.now c.bads-bads.result.now c.steps.ensures.value c.circuit.ensures.value c.unrolled.ensures.value c.bads.ensures.value c.bads-bads.ensures.value in
    omega (arith, room)
