use Rattle.aig_base.proofs.Words.{◌≡◌, [], length, take, sym, ap, ◌∙◌, arith, slice_index_or}
use borrow.Author.Count.{below_more}
use Rattle.aig_circuit.specs.Circuit.{Circuit}
use Rattle.aig_ternary.specs.Ternary.{Simulation, simulation_of}
use Rattle.aig_witness.specs.Witness.{rows_of, said_by}
use Rattle.aig_witness.specs.Shown.{AreTrueIn, simulated}
use Rattle.aig_witness.proofs.Simulated.{item_row, simulated-more, stepped_all-circuit, true_turned, values-there}
use Rattle.aig_witness.proofs.circuit.check_steps.Goals as goal

pub simulate-requires : goal.simulate-requires
simulate-requires c =
    let circuit = c.args.circuit.now in
    let rows = rows_of c.args.witness.now.steps.items in
    let wanted : length c.inputs-count.result.now ≡ length circuit.inputs =
    ap length c.inputs-count.ensures.value in
    let long : length c.inputs-item.result.items ≡ length circuit.inputs =
    omega (arith, c.inputs-item.result.ok.0, wanted, c.len.ensures) in
    let same : c.loop-t.simulation.circuit ≡ circuit = ap (λ (s : Simulation). s.circuit)
    c.loop-t.invariant.so_far ∙ stepped_all-circuit
    (simulation_of circuit c.args.witness.now.state.items) (take c.loop-t.t rows) in
    ap length (c.in_ok-copied.ensures ∙ c.deref.ensures.value)
    ∙ long ∙ ap (λ (d : Circuit). length d.inputs) (sym same)

pub all_true-requires : goal.all_true-requires
all_true-requires c =
    let circuit = c.args.circuit.now in
    let rows = rows_of c.args.witness.now.steps.items in
    rw c.constraints-constraints.ensures.value
    (values-there circuit c.args.witness.now.state.items (take c.loop-t.t rows)
    c.in_ok-copied.field-0.items c.loop-t.simulation c.simulate.new.self
    circuit.properties.constraints
    c.constraints-constraints.ensures.circuit.properties.constraints c.loop-t.invariant.so_far
    c.in_ok-simulate.ensures.ok)

pub returns-then-not-all_true-clause-wrong : goal.returns-then-not-all_true-clause-wrong
returns-then-not-all_true-clause-wrong c =
    let circuit = c.args.circuit.now in
    let rows = rows_of c.args.witness.now.steps.items in
    let row = item_row c.args.witness.now.steps.items c.deref-inputs-items.result.now c.loop-t.t
    c.inputs-item.result c.deref-inputs-items.ensures.value c.loop-t-test.true
    c.inputs-item.is in
    let copy = c.in_ok-copied.ensures ∙ c.deref.ensures.value in
    let now = simulated-more (simulation_of circuit c.args.witness.now.state.items)
    c.loop-t.simulation c.simulate.new.self rows c.loop-t.t c.in_ok-copied.field-0.items row.0
    (row.1 ∙ sym copy) c.loop-t.invariant.so_far c.in_ok-simulate.ensures.ok in
    let wanted : length c.inputs-count.result.now ≡ length circuit.inputs =
    ap length c.inputs-count.ensures.value in
    let long : length c.inputs-item.result.items ≡ length circuit.inputs =
    omega (arith, c.inputs-item.result.ok.0, wanted, c.len.ensures) in (
      record { inputs = c.loop-t.invariant.inputs; constraints = c.loop-t.invariant.constraints },
      row.0,
      ap length row.1 ∙ long,
      λ all. c.all_true.ensures.no c.if-not-all_true.true (true_turned _ _ _ _ (sym now)
          (sym c.constraints-constraints.ensures.value) all),
    )

pub loop-t-preserved : goal.loop-t-preserved
loop-t-preserved c =
    let circuit = c.args.circuit.now in
    let rows = rows_of c.args.witness.now.steps.items in
    let row = item_row c.args.witness.now.steps.items c.deref-inputs-items.result.now c.loop-t.t
    c.inputs-item.result c.deref-inputs-items.ensures.value c.loop-t-test.true
    c.inputs-item.is in
    let copy = c.in_ok-copied.ensures ∙ c.deref.ensures.value in
    let now = simulated-more (simulation_of circuit c.args.witness.now.state.items)
    c.loop-t.simulation c.simulate.new.self rows c.loop-t.t c.in_ok-copied.field-0.items row.0
    (row.1 ∙ sym copy) c.loop-t.invariant.so_far c.in_ok-simulate.ensures.ok in
    let wanted : length c.inputs-count.result.now ≡ length circuit.inputs =
    ap length c.inputs-count.ensures.value in
    let long : length c.inputs-item.result.items ≡ length circuit.inputs =
    omega (arith, c.inputs-item.result.ok.0, wanted, c.len.ensures) in
    record {
      so_far = now;
      inputs = below_more (λ s. length (slice_index_or rows s []) ≡ length circuit.inputs)
          c.loop-t.t c.loop-t.invariant.inputs (ap length row.1 ∙ long);
      constraints = below_more (λ s. AreTrueIn (simulated circuit (said_by c.args.witness.now) s)
          circuit.properties.constraints) c.loop-t.t c.loop-t.invariant.constraints
          (true_turned _ _ _ _ now c.constraints-constraints.ensures.value
          (c.all_true.ensures.yes c.if-not-all_true.false));
    }
