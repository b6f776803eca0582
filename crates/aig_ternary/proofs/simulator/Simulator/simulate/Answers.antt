use Rattle.aig_base.proofs.Words.{◌≡◌, List, [], length, refl, sym, ap, ap₂, subst, ◌∙◌, arith, with_items_is}
use Rattle.std.specs.Prelude.{◌⊎◌}
use Rattle.aig_base.specs.declared.logic.three.Lbool.{Lbool}
use Rattle.aig_ternary.specs.Step.{simulation_at}
use Rattle.aig_ternary.specs.Ternary.{Simulation, stepped}
use Rattle.aig_ternary.proofs.simulator.Simulator.simulate.Goals as goal

pub step-requires : goal.step-requires
step-requires c =
    record {
      inputs = c.requires ∙ sym (ap (λ (s : Simulation). length s.circuit.inputs) c.self.view_is);
      state = ap length c.deref_mut.ensures.value ∙ c.self.invariant.0;
      values = omega (arith, c.resize.new.self.ok.0, c.in_ok-resize.ensures.len, ap length c.nodes.ensures.value, ap length c.deref_mut-2.ensures.value);
    }

pub returns : goal.returns
returns c =
    let inside = c.self.inside in
    let inputs = c.args.inputs.now in
    let state = with_items_is inside.state c.step.new.state (omega (arith, inside.state.ok.0, ap length c.deref_mut.ensures.value)) in
    let values = with_items_is c.resize.new.self c.step.new.values (omega (arith, c.resize.new.self.ok.0, ap length c.deref_mut-2.ensures.value)) in
    let same = ap (λ (state : List Lbool). simulation_at inside.circuit state inside.values.items) c.deref_mut.ensures.value ∙ c.self.view_is in
    record {
      ok = ap₂ (simulation_at inside.circuit) state values ∙ c.step.ensures ∙ ap (λ (s : Simulation). stepped s inputs) same;
      err = tt;
      later = λ h. refl;
      circuit = ap (λ (s : Simulation). s.circuit) c.self.view_is;
    }

pub invariant_of-self : goal.invariant_of-self
invariant_of-self c =
    let nodes = c.self.inside.circuit.nodes in
    (c.self.invariant.0, subst (λ (items : List Lbool). (items ≡ []) ⊎ (length items ≡ length nodes)) (sym c.in_err-resize.ensures.items) c.self.invariant.1)
