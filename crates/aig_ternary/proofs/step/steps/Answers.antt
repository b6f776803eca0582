use Rattle.std.proofs.Common.{◌≡◌, ◌+◌, ◌∷◌, List, Vec, Global, drop, length, map, sym, ap, ◌∙◌, arith}
use Rattle.aig_base.specs.declared.logic.three.Lbool.{Lbool}
use Rattle.aig_ternary.specs.Step.{simulation_at}
use Rattle.aig_ternary.proofs.Stepping.{StepsTo-end, StepsTo-next, drop_next}
use Rattle.aig_ternary.proofs.step.steps.Goals as goal

pub step-requires : goal.step-requires
step-requires c =
    let count = λ (list : Vec Lbool Global). length list.items in
    record {
      inputs = ap length c.deref.ensures.value ∙ ap count c.given-item.is ∙ c.requires.inputs c.loop-given.given-index c.given-item.result c.loop-given-test.true;
      state = c.loop-given.auto.state ∙ c.requires.state;
      values = c.loop-given.auto.values ∙ c.requires.values;
    }

pub edge_value-requires : goal.edge_value-requires
edge_value-requires c = omega (arith, c.requires.edge, c.requires.values, c.loop-given.auto.values, c.step.auto.values)

pub push_reserved-requires : goal.push_reserved-requires
push_reserved-requires c = omega (arith, c.loop-given.invariant.1, c.loop-given-test.true)

pub loop-given-preserved : goal.loop-given-preserved
loop-given-preserved c =
    let list = λ (inputs : Vec Lbool Global). inputs.items in
    let i = c.loop-given.given-index in
    let rest = map list (drop (i + 1) c.args.inputs.now) in
    let given = c.deref.ensures.value ∙ ap list c.given-item.is in
    let split : map list (drop i c.args.inputs.now) ≡ c.deref.result.now ∷ rest =
    ap (map list) (drop_next c.args.inputs.now i c.given-item.result c.loop-given-test.true) ∙ ap (λ (inputs : List Lbool). inputs ∷ rest) (sym given) in
    let now = simulation_at c.args.circuit.now c.loop-given.state c.loop-given.values in
    let next = simulation_at c.args.circuit.now c.step.new.state c.step.new.values in (
      StepsTo-next c.args.e now next c.loop-given.answers.items c.push_reserved.new.self.items c.edge_value.result (map list (drop i c.args.inputs.now)) c.deref.result.now rest
          split c.step.ensures c.edge_value.ensures c.push_reserved.ensures.items c.loop-given.invariant.0,
      omega (arith, c.loop-given.invariant.1, c.push_reserved.ensures.len, c.push_reserved.ensures.capacity),
    )

pub returns : goal.returns
returns c =
    let list = λ (inputs : Vec Lbool Global). inputs.items in
    let end = StepsTo-end c.loop-given.given-index c.args.inputs.now list c.loop-given-test.false c.loop-given.invariant.0 in
    record { moved = end.0; answered = end.1 }
