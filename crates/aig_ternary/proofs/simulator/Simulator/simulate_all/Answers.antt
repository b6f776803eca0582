use Rattle.aig_base.proofs.Words.{◌≡◌, ◌<◌, List, [], Vec, Global, length, map, refl, sym, ap, ap₂, subst, ◌∙◌, arith, ◌++◌, length-map, with_items_is}
use Rattle.std.specs.Prelude.{◌⊎◌}
use Rattle.aig_base.specs.declared.logic.three.Lbool.{Lbool}
use Rattle.aig_ternary.specs.Step.{simulation_at}
use Rattle.aig_ternary.specs.Ternary.{Simulation, values_in}
use Rattle.aig_circuit.specs.Circuit.{IsCircuit}
use Rattle.aig_ternary.proofs.Known.{known_answers}
use Rattle.aig_ternary.proofs.Stepping.{answers-anew, moved-anew}
use Rattle.aig_ternary.proofs.simulator.Simulator.simulate_all.Goals as goal

pub returns-clause-values : goal.returns-clause-values
returns-clause-values c =
    let inside = c.self.inside in
    let list = λ (inputs : Vec Lbool Global). inputs.items in
    let steps = map list c.args.inputs.now in
    let same = ap (λ state. simulation_at inside.circuit state inside.values.items) c.deref_mut.ensures.value ∙ c.self.view_is in
    let first = ap (λ before. before ++ values_in c.args.e (simulation_at inside.circuit c.deref_mut.result.now c.deref_mut-2.result.now) steps) c.in_ok-answers.ensures.items in
    answers-anew c.args.e inside.circuit c.deref_mut.result.now c.deref_mut-2.result.now inside.values.items c.args.self.now steps c.steps.new.answers.items same (c.steps.ensures.answered ∙ first)

pub returns-clause-known : goal.returns-clause-known
returns-clause-known c =
    let inside = c.self.inside in
    let list = λ (inputs : Vec Lbool Global). inputs.items in
    let is = subst IsCircuit (ap (λ (s : Simulation). s.circuit) c.self.view_is) c.nodes.ensures.circuit in
    known_answers c.args.self.now is c.args.e c.requires.edge (map list c.args.inputs.now) c.steps.new.answers.items (returns-clause-values c)

pub returns-clause-ok : goal.returns-clause-ok
returns-clause-ok c =
    let inside = c.self.inside in
    let list = λ (inputs : Vec Lbool Global). inputs.items in
    let steps = map list c.args.inputs.now in
    let same = ap (λ state. simulation_at inside.circuit state inside.values.items) c.deref_mut.ensures.value ∙ c.self.view_is in
    let now = simulation_at inside.circuit c.steps.new.state c.steps.new.values in
    let state = with_items_is inside.state c.steps.new.state (omega (arith, inside.state.ok.0, ap length c.deref_mut.ensures.value)) in
    let values = with_items_is c.resize.new.self c.steps.new.values (omega (arith, c.resize.new.self.ok.0, ap length c.deref_mut-2.ensures.value)) in
    ap₂ (simulation_at inside.circuit) state values
    ∙ moved-anew inside.circuit c.deref_mut.result.now c.deref_mut-2.result.now inside.values.items c.args.self.now now steps (grind (arith, length-map c.args.inputs.now list)) same c.steps.ensures.moved

pub steps-requires : goal.steps-requires
steps-requires c =
    let count = ap (λ (s : Simulation). length s.circuit.inputs) c.self.view_is in
    record {
      inputs = λ k d h. c.requires.lengths k d h ∙ sym count;
      edge = subst (λ (s : Simulation). c.args.e.node_id < length s.circuit.nodes) (sym c.self.view_is) c.requires.edge;
      state = ap length c.deref_mut.ensures.value ∙ c.self.invariant.0;
      values = omega (arith, c.resize.new.self.ok.0, c.in_ok-resize.ensures.len, ap length c.nodes.ensures.value, ap length c.deref_mut-2.ensures.value);
      room = omega (arith, c.in_ok-answers.ensures.len, c.in_ok-answers.ensures.capacity);
    }

pub returns-clause-none : goal.returns-clause-none
returns-clause-none c = λ h. refl

pub returns-clause-circuit : goal.returns-clause-circuit
returns-clause-circuit c = ap (λ (s : Simulation). s.circuit) c.self.view_is

pub invariant_of-self : goal.invariant_of-self
invariant_of-self c =
    let nodes = c.self.inside.circuit.nodes in
    (c.self.invariant.0, subst (λ (items : List Lbool). (items ≡ []) ⊎ (length items ≡ length nodes)) (sym c.in_err-resize.ensures.items) c.self.invariant.1)
