-- The states of a simulation, by the values of next edges.
use Rattle.aig_base.proofs.Words.{◌≡◌, ℕ, zero, suc, ◌+◌, ◌-◌, ◌<◌, List, [], length, map, get_or, take, refl, sym, ap, subst, ◌∙◌, arith, All, All-map, length-map, take_all}
use Rattle.aig_base.specs.declared.logic.three.Lbool.{Lbool}
use Rattle.aig_circuit.specs.declared.edge.AigEdge.{AigEdge}
use Rattle.aig_circuit.specs.declared.node.AigLatch.{AigLatch}
use Rattle.aig_circuit.specs.declared.node.AigNode.{AigNode}
use Rattle.aig_circuit.proofs.Words.{Circuit, IsCircuit, IsInRange}
use Rattle.aig_circuit.proofs.Lists.{All-from_map, map-agrees}
use Rattle.aig_ternary.specs.Ternary.{HasValue, Simulation, given_values, simulation_of, stepped, stepped_all, three_edge_value, value_in}
use Rattle.aig_witness.specs.Shown.{simulated}
use Rattle.aig_witness.specs.Witness.{Witness}
use Rattle.aig_witness.proofs.Given.{value_is}
use Rattle.aig_witness.proofs.Simulated.{stepped_all-circuit, stepped_all-more, values-all, values-there}
use Rattle.aig_witness.specs.Lassos.{state_before}

-- the state that follows a step has the values of the next edges
stepped-state : (s : Simulation) (row : List Lbool) → IsCircuit s.circuit
    → (stepped s row).state ≡ map (λ (latch : AigLatch). value_in (stepped s row) latch.next)
    s.circuit.latchs
stepped-state s row is =
    let y = given_values s.circuit row s.state in
    map-agrees (λ (latch : AigLatch). three_edge_value s.circuit.nodes y latch.next)
    (λ (latch : AigLatch). value_in (stepped s row) latch.next) s.circuit.latchs
    (λ i d h. sym (value_is s row is (get_or s.circuit.latchs i d).next (is.latchs i d h).next))

abbrev next_of : AigLatch → AigEdge
next_of latch = latch.next

module _ (c : Circuit) (is : IsCircuit c) (w : Witness) where
  nexts_in_range : All (IsInRange c.nodes) (map next_of c.latchs)
  nexts_in_range = All-map (IsInRange c.nodes) next_of c.latchs (λ i d h. (is.latchs i d h).next)

  abbrev before : ℕ → Simulation
  before t = stepped_all (simulation_of c w.state) (take t w.steps)

  before-circuit : (t : ℕ) → (before t).circuit ≡ c
  before-circuit t = stepped_all-circuit (simulation_of c w.state) (take t w.steps)

  pub state_is : (t : ℕ) → t < length w.steps → state_before c w (t + 1)
      ≡ map (λ (latch : AigLatch). value_in (simulated c w t) latch.next) c.latchs
  state_is t h =
      let row = get_or w.steps t [] in
      let s = before t in
      let same : s.circuit ≡ c = before-circuit t in
      let more : simulated c w t ≡ stepped s row = stepped_all-more (simulation_of c w.state)
      w.steps t h in
      ap (λ (r : Simulation). r.state) more
      ∙ stepped-state s row (subst IsCircuit (sym same) is)
      ∙ ap (λ (d : Circuit). map (λ (latch : AigLatch). value_in (stepped s row) latch.next)
      d.latchs) same
      ∙ ap (λ (r : Simulation). map (λ (latch : AigLatch). value_in r latch.next) c.latchs)
      (sym more)

  pub state_long : length w.state ≡ length c.latchs → (t : ℕ) → t < length w.steps + 1
      → length (state_before c w t) ≡ length c.latchs
  state_long first zero h = first
  state_long first (suc t) h =
      let next : t + 1 ≡ suc t = omega arith in
      ap (λ n. length (state_before c w n)) (sym next) ∙ ap length (state_is t (omega arith))
      ∙ length-map c.latchs (λ (latch : AigLatch). value_in (simulated c w t) latch.next)

  -- next edges have values after a step
  pub nexts_there : (t : ℕ) (row : List Lbool) (now after : Simulation)
      → now ≡ before t → after ≡ stepped now row
      → All (λ (latch : AigLatch). HasValue after latch.next) c.latchs
  nexts_there t row now after so_far moved =
      All-from_map next_of (HasValue after) c.latchs
      (values-there c w.state (take t w.steps) row now after (map next_of c.latchs) nexts_in_range
      so_far moved)

  -- a state that is computed after a step of so many
  pub state_more : (t : ℕ) → t < length w.steps → (after : Simulation) → after ≡ simulated c w t
      → (state : List Lbool) → state ≡ map (λ (latch : AigLatch). value_in after latch.next)
      c.latchs
      → state ≡ state_before c w (t + 1)
  state_more t h after so_far state is = is
      ∙ ap (λ (r : Simulation). map (λ (latch : AigLatch). value_in r latch.next) c.latchs) so_far
      ∙ sym (state_is t h)

  -- ---- after the last step

  module _ (some : 0 < length w.steps) (after : Simulation)
      (all : after ≡ stepped_all (simulation_of c w.state) w.steps) where
    last_is : after ≡ simulated c w (length w.steps - 1)
    last_is =
        let whole : take (length w.steps - 1 + 1) w.steps ≡ w.steps =
        take_all (length w.steps - 1 + 1) w.steps (omega arith) in
        all ∙ ap (stepped_all (simulation_of c w.state)) (sym whole)

    pub nexts_last : All (λ (latch : AigLatch). HasValue after latch.next) c.latchs
    nexts_last i d h =
        let long : length after.values ≡ length c.nodes =
        ap (λ (r : Simulation). length r.values) all
        ∙ values-all (simulation_of c w.state) w.steps some in
        let there : (get_or c.latchs i d).next.node_id < length c.nodes = (is.latchs i d h).next in
        omega arith

    pub state_last : (state : List Lbool)
        → state ≡ map (λ (latch : AigLatch). value_in after latch.next) c.latchs
        → state ≡ state_before c w (length w.steps)
    state_last state made =
        let at : length w.steps - 1 + 1 ≡ length w.steps = omega arith in
        state_more (length w.steps - 1) (omega arith) after last_is state made
        ∙ ap (state_before c w) at
