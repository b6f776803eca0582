use Rattle.aig_base.proofs.Words.{◌≡◌, ◌∙◌, List, length, length-map, map, ap}
use Rattle.std.specs.Prelude.{Vec}
use Rattle.std.specs.declared.alloc.Global.{Global}
use Rattle.aig_base.specs.declared.logic.three.Lbool.{Lbool}
use Rattle.aig_circuit.specs.declared.node.AigLatch.{AigLatch}
use Rattle.aig_ternary.specs.Ternary.{Simulation, simulation_of, stepped_all, value_in}
use Rattle.aig_witness.specs.Witness.{rows_of, said_by}
use Rattle.aig_witness.specs.Lassos.{state_before}
use Rattle.aig_witness.proofs.States.{nexts_last, state_last}
use Rattle.aig_witness.proofs.fair.circuit.last_state.Goals as goal

pub state_after-requires : goal.state_after-requires
state_after-requires c =
    let circuit = c.args.circuit.now in
    let w = said_by c.args.witness.now in
    let all = c.in_ok-check_steps.ensures.moved
    ∙ ap (λ (s : Simulation). stepped_all s w.steps) (c.new-simulation.ensures
    ∙ ap (simulation_of circuit) (c.in_ok-state.ensures ∙ c.deref.ensures.value)) in
    rw c.latchs.ensures.value (nexts_last circuit c.latchs.ensures.circuit w c.requires.some
    c.check_steps.new.simulation all)

pub returns-clause-end : goal.returns-clause-end
returns-clause-end c =
    let circuit = c.args.circuit.now in
    let w = said_by c.args.witness.now in
    let after = c.check_steps.new.simulation in
    let steps = c.args.witness.now.steps.items in
    let many : length (rows_of steps) ≡ length steps = length-map steps
    (λ (list : Vec Lbool Global). list.items) in
    let all = c.in_ok-check_steps.ensures.moved
    ∙ ap (λ (s : Simulation). stepped_all s w.steps) (c.new-simulation.ensures
    ∙ ap (simulation_of circuit) (c.in_ok-state.ensures ∙ c.deref.ensures.value)) in
    let made = c.in_ok-state_after.ensures ∙ ap (map (λ (latch : AigLatch). value_in after
    latch.next))
    c.latchs.ensures.value in
    state_last circuit c.latchs.ensures.circuit w c.requires.some after all
    c.in_ok-state_after.field-0.items made ∙ ap (state_before circuit w) many

pub returns-clause-long : goal.returns-clause-long
returns-clause-long c =
    ap length c.in_ok-state_after.ensures
    ∙ length-map c.latchs.result.now (λ (latch : AigLatch). value_in c.check_steps.new.simulation
    latch.next)
    ∙ ap length c.latchs.ensures.value
