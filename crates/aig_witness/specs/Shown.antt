-- Part of what is promised.
-- Witnesses of a circuit, by simulation in three values. (AIGER 1.9, "Witness format"; three-valued
-- simulation.)
use Rattle.std.specs.Prelude.{◌≡◌, ℕ, ◌+◌, ◌-◌, ◌<◌, Bool, true, false, IfSome, List, [], length, take, slice_index_or, All}
use Rattle.aig_base.specs.declared.logic.three.Lbool.{Lbool}
use Rattle.aig_base.specs.declared.logic.three.Lbool.TheVariants.{FALSE, TRUE, NONE}
use Rattle.aig_circuit.specs.declared.edge.AigEdge.{AigEdge}
use Rattle.aig_circuit.specs.declared.node.AigLatch.{AigLatch}
use Rattle.aig_circuit.specs.Edge.{edge_to}
use Rattle.aig_circuit.specs.Circuit.{Circuit}
use Rattle.aig_ternary.specs.Ternary.{Simulation, simulation_of, stepped_all, value_in}
use Rattle.aig_witness.specs.Witness.{Witness}

-- the known value of a truth value
abbrev pub known_of : Bool → Lbool
known_of true = TRUE
known_of false = FALSE

-- the latch has a known value that is its constant initial edge's, if it has an initial edge
abbrev pub HasStart : AigLatch → Lbool → Type 0
HasStart latch known = IfSome latch.init (λ e. (e.node_id ≡ 0) × (known ≡ known_of e.compl))

-- each latch has its start in the state
abbrev pub AreStarts : List AigLatch → List Lbool → Type 0
AreStarts latchs state =
    (i : ℕ) (d : AigLatch) → i < length latchs
    → HasStart (slice_index_or latchs i d) (slice_index_or state i NONE)

-- the simulation after step t
abbrev pub simulated : Circuit → Witness → ℕ → Simulation
simulated c w t = stepped_all (simulation_of c w.state) (take (t + 1) w.steps)

-- the edges are known to be true in the last step of a simulation
abbrev pub AreTrueIn : Simulation → List AigEdge → Type 0
AreTrueIn s edges = All (λ e. value_in s e ≡ TRUE) edges

-- the bad edge that a witness names
abbrev pub named_bad : Circuit → Witness → AigEdge
named_bad c w = slice_index_or c.properties.bads w.bad (edge_to 0 false)

-- each step before step n has a value for each input, and each constraint is known to hold at it
pub record HoldsBefore (c : Circuit) (w : Witness) (n : ℕ) : Type 0 where
  pub inputs : (t : ℕ) → t < n → length (slice_index_or w.steps t []) ≡ length c.inputs
  pub constraints : (t : ℕ) → t < n → AreTrueIn (simulated c w t) c.properties.constraints

-- and so each step
abbrev pub HoldsSteps : Circuit → Witness → Type 0
HoldsSteps c w = HoldsBefore c w (length w.steps)

-- There is a value for each latch, and at each step for each input. By these each latch has its
-- start, each constraint is known to hold at each step, and the named bad edge at the last one.
pub record IsKnownWitness (c : Circuit) (w : Witness) : Type 0 where
  pub latches : length w.state ≡ length c.latchs
  pub some : 0 < length w.steps
  pub named : w.bad < length c.properties.bads
  pub start : AreStarts c.latchs w.state
  pub steps : HoldsSteps c w
  pub bad : value_in (simulated c w (length w.steps - 1)) (named_bad c w) ≡ TRUE
