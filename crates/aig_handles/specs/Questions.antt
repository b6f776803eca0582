-- Part of what is promised.
-- What is asked of a circuit.
use Rattle.std.specs.Prelude.{◌≡◌, ◌↔◌, ◌<◌, ◌≤◌, ◌^◌, ℕ, Bool, IsTrue, length}
use Rattle.aig_circuit.specs.declared.edge.AigEdge.{AigEdge}
use Rattle.aig_circuit.specs.declared.node.AigNode.{AigNode}
use Rattle.aig_circuit.specs.Circuit.{Circuit, IsClosed, IsFree, IsInRange, IsLeaf}
use Rattle.aig_circuit.specs.Node.{Admits, and_of}
use Rattle.aig_giving.specs.declared.status.TheConstants.{DONE}
use Rattle.aig_handles.specs.declared.questions.Question.{Question}
use Rattle.aig_handles.specs.declared.questions.Question.TheVariants.{HasNode, HasEdge, IsFreeLeaf, IsClosedNow, FitsLits, AdmitsGate}

-- the gate of this number and these operands, in order
abbrev pub gate_of : ℕ → AigEdge → AigEdge → AigNode
gate_of n a b = record { node_id = n; typ = and_of a b }

-- it is so of the circuit
abbrev pub Holds : Question → Circuit → Type 0
Holds (HasNode n) c = n < length c.nodes
Holds (HasEdge e) c = IsInRange c.nodes e
Holds (IsFreeLeaf n) c = IsLeaf c.nodes n × IsFree c.inputs c.latchs n
Holds IsClosedNow c = IsClosed c
Holds FitsLits c = length c.nodes ≤ 2 ^ 31
Holds (AdmitsGate n a b) c = Admits c.nodes n (gate_of n a b)

-- whether it is so is told, and the circuit stays
abbrev pub Answers : Question → ℕ → Bool → Circuit → Circuit → Type 0
Answers question status answer old new =
    (status ≡ DONE) × (new ≡ old) × (IsTrue answer ↔ Holds question old)
