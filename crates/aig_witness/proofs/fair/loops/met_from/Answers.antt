use Rattle.aig_base.proofs.Words.{◌≡◌, ◌<◌, ◌+◌, ◌∙◌, ℕ, List, [], get_or, length, length-map, refl, sym, ap, subst, arith, take}
use Rattle.std.specs.Prelude.{Vec}
use Rattle.std.specs.declared.alloc.Global.{Global}
use Rattle.aig_base.specs.declared.logic.three.Lbool.{Lbool}
use Rattle.aig_circuit.specs.Circuit.{Circuit}
use Rattle.aig_ternary.specs.Ternary.{Simulation, simulation_of}
use Rattle.aig_witness.specs.Witness.{rows_of, said_by}
use Rattle.aig_witness.proofs.Simulated.{item_row, simulated-more, stepped_all-circuit, values-there}
use Rattle.aig_witness.proofs.Marks.{AreMarksTo, marks_all, met_step, written}
use Rattle.aig_witness.proofs.fair.loops.met_from.Goals as goal

pub simulate-requires : goal.simulate-requires
simulate-requires c =
    let circuit = c.args.circuit.now in
    let w = said_by c.args.witness.now in
    let steps = c.args.witness.now.steps.items in
    let inside : c.loop-t.t < length steps = omega (
      arith,
      c.len-t-end.ensures,
      c.args.witness.now.steps.ok.0,
      c.loop-t-test.true,
    ) in
    let row = item_row steps steps c.loop-t.t c.index.result.now refl inside c.index.ensures in
    let same : c.loop-t.simulation.circuit ≡ circuit = ap (λ (s : Simulation). s.circuit)
    c.loop-t.invariant.so_far ∙ stepped_all-circuit
    (simulation_of circuit c.args.witness.now.state.items) (take c.loop-t.t (rows_of steps)) in
    ap length (c.in_ok-inputs.ensures ∙ c.deref.ensures.value)
    ∙ sym (ap length row.1) ∙ c.requires.steps.inputs c.loop-t.t row.0
    ∙ ap (λ (d : Circuit). length d.inputs) (sym same)

pub mark-requires-clause-values : goal.mark-requires-clause-values
mark-requires-clause-values c =
    values-there c.args.circuit.now c.args.witness.now.state.items
    (take c.loop-t.t (rows_of c.args.witness.now.steps.items)) c.in_ok-inputs.inputs.items
    c.loop-t.simulation c.simulate.new.self c.args.edges.now c.requires.edges
    c.loop-t.invariant.so_far c.in_ok-simulate.ensures.ok

pub loop-t-preserved : goal.loop-t-preserved
loop-t-preserved c =
    let circuit = c.args.circuit.now in
    let w = said_by c.args.witness.now in
    let steps = c.args.witness.now.steps.items in
    let t = c.loop-t.t in
    let edges = c.args.edges.now in
    let new = c.mark.new.marks in
    let old = c.loop-t.marks in
    let inside : t < length steps = omega (
      arith,
      c.len-t-end.ensures,
      c.args.witness.now.steps.ok.0,
      c.loop-t-test.true,
    ) in
    let row = item_row steps steps t c.index.result.now refl inside c.index.ensures in
    let copy = c.in_ok-inputs.ensures ∙ c.deref.ensures.value in
    let now = simulated-more (simulation_of circuit c.args.witness.now.state.items)
    c.loop-t.simulation c.simulate.new.self (rows_of steps) t c.in_ok-inputs.inputs.items row.0
    (row.1 ∙ sym copy) c.loop-t.invariant.so_far c.in_ok-simulate.ensures.ok in
    let long : length new ≡ old.len = omega (arith, c.mark.auto.marks, c.deref_mut.ensures.len) in
    let held : length old.items ≡ old.len = omega (arith, old.ok.0) in
    let same = written new old.items old.len long held in
    let each = met_step circuit w c.args.from t edges old.items c.deref_mut.result.now new
    c.simulate.new.self c.loop-t.auto.t c.loop-t.invariant.each c.deref_mut.ensures.value now
    c.mark.ensures in
    record {
      so_far = now;
      long = ap length same ∙ omega (arith, long, held, c.loop-t.invariant.long);
      each = subst (AreMarksTo circuit w c.args.from (t + 1) edges) (sym same) each;
    }

pub returns : goal.returns
returns c =
    let circuit = c.args.circuit.now in
    let w = said_by c.args.witness.now in
    let steps = c.args.witness.now.steps.items in
    let many : length (rows_of steps) ≡ length steps = length-map steps
    (λ (list : Vec Lbool Global). list.items) in
    let end : c.loop-t.t ≡ length (rows_of steps) = omega (
      arith,
      many,
      c.len-t-end.ensures,
      c.args.witness.now.steps.ok.0,
      c.loop-t-test.false,
      c.loop-t.auto.t-end,
      c.requires.within,
    ) in
    marks_all circuit w c.args.from c.loop-t.t c.args.edges.now c.loop-t.marks.items end
    c.loop-t.invariant.long c.loop-t.invariant.each
