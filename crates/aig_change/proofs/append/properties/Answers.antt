use Rattle.std.proofs.Common.{refl}
use Rattle.aig_change.proofs.append.properties.Goals as goal

pub edges-requires : goal.edges-requires
edges-requires c = rw (c.outputs.ensures.value, c.requires.size) (record { below = c.outputs.ensures.circuit.properties.outputs; room = c.requires.room.outputs })

pub edges-requires-2 : goal.edges-requires-2
edges-requires-2 c = rw (c.bads.ensures.value, c.requires.size) (record { below = c.bads.ensures.circuit.properties.bads; room = c.requires.room.bads })

pub edges-requires-3 : goal.edges-requires-3
edges-requires-3 c = rw (c.constraints.ensures.value, c.requires.size) (record { below = c.constraints.ensures.circuit.properties.constraints; room = c.requires.room.constraints })

pub edges-requires-4 : goal.edges-requires-4
edges-requires-4 c = rw (c.fairness.ensures.value, c.requires.size) (record { below = c.fairness.ensures.circuit.properties.fairness; room = c.requires.room.fairness })

pub returns : goal.returns
returns c =
    let outputs = rw c.outputs.ensures.value at c.edges.ensures in
    let bads = rw c.bads.ensures.value at c.edges-2.ensures in
    let constraints = rw c.constraints.ensures.value at c.edges-3.ensures in
    let fairness = rw c.fairness.ensures.value at c.edges-4.ensures in
    rw (outputs, bads, constraints, fairness) refl
