use Rattle.aig_base.proofs.Words.{◌≡◌, ◌<◌, ◌+◌, ◌∙◌, ℕ, List, [], get_or, length, length-map, map, sym, ap, subst, arith, take}
use Rattle.std.specs.Prelude.{Vec}
use Rattle.std.specs.declared.alloc.Global.{Global}
use borrow.Author.Count.{below_more}
use Rattle.aig_base.specs.declared.logic.three.Lbool.{Lbool}
use Rattle.aig_circuit.specs.declared.node.AigLatch.{AigLatch}
use Rattle.aig_circuit.specs.Circuit.{Circuit}
use Rattle.aig_ternary.specs.Ternary.{Simulation, simulation_of, value_in}
use Rattle.aig_witness.specs.Witness.{rows_of, said_by}
use Rattle.aig_witness.proofs.Simulated.{item_row, simulated-more, stepped_all-circuit}
use Rattle.aig_witness.specs.Lassos.{IsSameKnown, state_before}
use Rattle.aig_witness.proofs.States.{nexts_there, state_long, state_more}
use Rattle.aig_witness.proofs.fair.loops.find_loop.Goals as goal

pub is_same_known-requires : goal.is_same_known-requires
is_same_known-requires c =
    let circuit = c.args.circuit.now in
    let w = said_by c.args.witness.now in
    let steps = c.args.witness.now.steps.items in
    let many : length (rows_of steps) ≡ length steps = length-map steps
    (λ (list : Vec Lbool Global). list.items) in
    let items = ap length c.deref-inputs-items.ensures.value in
    let low : c.loop-t.t < length (rows_of steps) + 1 = omega (
      arith,
      many,
      items,
      c.loop-t-test.true,
    ) in
    c.requires.end
    ∙ sym (ap length (c.deref-in-loop-t.ensures.value ∙ c.loop-t.invariant.state_now)
    ∙ state_long circuit c.latchs-latchs.ensures.circuit w c.requires.state c.loop-t.t low)

pub simulate-requires : goal.simulate-requires
simulate-requires c =
    let circuit = c.args.circuit.now in
    let w = said_by c.args.witness.now in
    let steps = c.args.witness.now.steps.items in
    let row = item_row steps c.deref-inputs-items.result.now c.loop-t.t c.inputs-item.result
    c.deref-inputs-items.ensures.value c.loop-t-test.true c.inputs-item.is in
    let same : c.loop-t.simulation.circuit ≡ circuit = ap (λ (s : Simulation). s.circuit)
    c.loop-t.invariant.so_far ∙ stepped_all-circuit
    (simulation_of circuit c.args.witness.now.state.items) (take c.loop-t.t (rows_of steps)) in
    ap length (c.in_ok-copied.ensures ∙ c.deref-in-loop-t-2.ensures.value)
    ∙ sym (ap length row.1) ∙ c.requires.steps.inputs c.loop-t.t row.0
    ∙ ap (λ (d : Circuit). length d.inputs) (sym same)

pub state_after-requires : goal.state_after-requires
state_after-requires c =
    let circuit = c.args.circuit.now in
    let w = said_by c.args.witness.now in
    let steps = c.args.witness.now.steps.items in
    rw c.latchs-latchs.ensures.value
    (nexts_there circuit c.latchs-latchs.ensures.circuit w c.loop-t.t
    c.in_ok-copied.field-0.items c.loop-t.simulation c.simulate.new.self
    c.loop-t.invariant.so_far c.in_ok-simulate.ensures.ok)

pub loop-t-preserved : goal.loop-t-preserved
loop-t-preserved c =
    let circuit = c.args.circuit.now in
    let w = said_by c.args.witness.now in
    let steps = c.args.witness.now.steps.items in
    let t = c.loop-t.t in
    let row = item_row steps c.deref-inputs-items.result.now t c.inputs-item.result
    c.deref-inputs-items.ensures.value c.loop-t-test.true c.inputs-item.is in
    let copy = c.in_ok-copied.ensures ∙ c.deref-in-loop-t-2.ensures.value in
    let now = simulated-more (simulation_of circuit c.args.witness.now.state.items)
    c.loop-t.simulation c.simulate.new.self (rows_of steps) t c.in_ok-copied.field-0.items row.0
    (row.1 ∙ sym copy) c.loop-t.invariant.so_far c.in_ok-simulate.ensures.ok in
    let made = c.in_ok-state-2.ensures ∙ ap (map (λ (latch : AigLatch). value_in
    c.simulate.new.self latch.next)) c.latchs-latchs.ensures.value in
    let held = c.deref-in-loop-t.ensures.value ∙ c.loop-t.invariant.state_now in
    record {
      so_far = now;
      state_now = state_more circuit c.latchs-latchs.ensures.circuit w t row.0 c.simulate.new.self
          now c.in_ok-state-2.state.items made;
      none = below_more (λ s. ¬ IsSameKnown (state_before circuit w s) c.args.end.now) t
          c.loop-t.invariant.none (λ same. c.is_same_known.ensures.no c.if-is_same_known.false
          (subst (λ state. IsSameKnown state c.args.end.now) (sym held) same));
    }
