-- Part of what is promised.
-- The conditions of a certificate, each asked of a solver: a circuit of gates over inputs whose one
-- bad edge some values of the inputs make true, or none. (Certificates of the hardware model
-- checking competition, which a checker judges by one question for each condition.)
use Rattle.std.specs.Prelude.{◌≡◌, ℕ, ◌↔◌, Bool, false, [], ◌∷◌, All}
use Rattle.std.specs.FinMap.{empty}
use Rattle.aig_circuit.specs.declared.edge.AigEdge.{AigEdge}
use Rattle.aig_circuit.specs.Circuit.{Circuit, IsCircuit, IsClosed, IsLeaf}
use Rattle.aig_circuit.specs.Properties.{no_properties}
use Rattle.aig_circuit.specs.Tree.{edge_value}
use Rattle.aig_witness_circuits.specs.Simulation.{BaseHolds, IsSharing, PropertyHolds, ResetHolds, Sharing, StepHolds, TransitionHolds}
use Rattle.aig_witness_circuits.specs.declared.condition.Condition.{Condition}
use Rattle.aig_witness_circuits.specs.declared.condition.Condition.TheVariants.{Reset, Transition, Property, Base, Step}

-- leaves of the model for leaves of the witness circuit, none of which stands for two
pub record CanShareLeaves (shared : Sharing) (model witness : Circuit) : Type 0 where
  pub sharing : IsSharing shared
  pub model_leaves : All (λ p. IsLeaf model.nodes p.0) shared
  pub witness_leaves : All (λ p. IsLeaf witness.nodes p.1) shared

-- what the condition says
abbrev pub Holds : Condition → Sharing → Circuit → Circuit → Type 0
Holds Reset shared model witness = ResetHolds shared model witness
Holds Transition shared model witness = TransitionHolds shared model witness
Holds Property shared model witness = PropertyHolds shared model witness
Holds Base shared model witness = BaseHolds witness
Holds Step shared model witness = StepHolds witness

-- no values of the leaves make the edge true
abbrev pub IsNeverTrue : Circuit → AigEdge → Type 0
IsNeverTrue c e = (z : ℕ → Bool) → edge_value c.nodes z e ≡ false

-- The circuit asks whether the claim holds: all its leaves are inputs, and it has no latches and no
-- names, and of properties one bad edge, which is never true exactly where the claim holds.
pub record AsksIf (claim : Type 0) (question : Circuit) : Type 0 where
  pub circuit : IsCircuit question
  pub closed : IsClosed question
  pub edge : AigEdge
  pub rest : question
      ≡ record {
        nodes = question.nodes;
        inputs = question.inputs;
        latchs = [];
        properties = record no_properties { bads = edge ∷ [] };
        names = empty;
      }
  pub asks : claim ↔ IsNeverTrue question edge
