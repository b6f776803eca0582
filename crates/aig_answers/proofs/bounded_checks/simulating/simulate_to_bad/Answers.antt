use Rattle.aig_answers.proofs.Words.{◌≡◌, length, sym, ap, subst, ◌∙◌, arith, Vec, Global, Lbool, Circuit, HasValue, AreTrueIn, rows_of, HasNoTrueIn, IsTrueIn, after}
use Rattle.std.specs.Prelude.{All}
use borrow.Author.Count.{below_more}
use Rattle.aig_answers.proofs.Simulated.{constraint_fails, row_at, same_circuit, step_more, true_turned, values_there}
use Rattle.aig_answers.proofs.bounded_checks.simulating.simulate_to_bad.Goals as goal

pub simulate-requires : goal.simulate-requires
simulate-requires c =
    let circuit = c.args.circuit.now in
    let same = same_circuit circuit c.args.simulator.now.state (rows_of c.args.steps.now)
    c.loop-step.simulator c.loop-step.step c.loop-step.invariant.so_far in
    let wide = subst (λ (row : Vec Lbool Global). length row.items ≡ length circuit.inputs) (sym
    c.index-steps-step.is) (c.requires.inputs c.loop-step.step _ c.loop-step-test.true) in
    ap length c.deref.ensures.value ∙ wide ∙ ap (λ (d : Circuit). length d.inputs) (sym same)

pub are_true-requires : goal.are_true-requires
are_true-requires c =
    let circuit = c.args.circuit.now in
    subst (λ es. All (HasValue c.simulate.new.self) es) (sym c.constraints.ensures.value)
    (values_there circuit c.args.simulator.now.state (rows_of c.args.steps.now)
    c.loop-step.simulator c.loop-step.step c.loop-step.invariant.so_far _ c.simulate.new.self
    c.in_ok-simulate.ensures.ok circuit.properties.constraints
    c.constraints.ensures.circuit.properties.constraints)

pub returns-then-not-are_true : goal.returns-then-not-are_true
returns-then-not-are_true c =
    let circuit = c.args.circuit.now in
    let state = c.args.simulator.now.state in
    let rows = rows_of c.args.steps.now in
    let step = c.loop-step.step in
    let row = row_at c.args.steps.now step c.index-steps-step.result _ c.loop-step-test.true
    c.index-steps-step.is in
    let now = step_more circuit state rows c.loop-step.simulator step c.loop-step.invariant.so_far
    _ c.simulate.new.self c.in_ok-simulate.ensures.ok row.0 (row.1 ∙ sym c.deref.ensures.value)
    in
    constraint_fails circuit state rows step c.loop-step.invariant.none (λ all.
    c.are_true.ensures.no c.if-not-are_true.true (true_turned (after circuit state rows step)
    c.simulate.new.self circuit.properties.constraints c.constraints.result.now (sym now) (sym
    c.constraints.ensures.value) all))

pub first_true-requires : goal.first_true-requires
first_true-requires c =
    let circuit = c.args.circuit.now in
    subst (λ es. All (HasValue c.simulate.new.self) es) (sym c.bads.ensures.value)
    (values_there circuit c.args.simulator.now.state (rows_of c.args.steps.now)
    c.loop-step.simulator c.loop-step.step c.loop-step.invariant.so_far _ c.simulate.new.self
    c.in_ok-simulate.ensures.ok circuit.properties.bads c.bads.ensures.circuit.properties.bads)

pub returns-in-Some : goal.returns-in-Some
returns-in-Some c =
    let circuit = c.args.circuit.now in
    let state = c.args.simulator.now.state in
    let rows = rows_of c.args.steps.now in
    let step = c.loop-step.step in
    let row = row_at c.args.steps.now step c.index-steps-step.result _ c.loop-step-test.true
    c.index-steps-step.is in
    let now = step_more circuit state rows c.loop-step.simulator step c.loop-step.invariant.so_far
    _ c.simulate.new.self c.in_ok-simulate.ensures.ok row.0 (row.1 ∙ sym c.deref.ensures.value)
    in
    let here = true_turned c.simulate.new.self (after circuit state rows step)
    c.constraints.result.now circuit.properties.constraints now c.constraints.ensures.value
    (c.are_true.ensures.yes c.if-not-are_true.false) in
    let all = below_more (λ s. AreTrueIn (after circuit state rows s)
    circuit.properties.constraints) step c.loop-step.invariant.constraints here in (
      row.0,
      λ s le. all s (omega (arith, le)),
      subst (λ s. IsTrueIn s circuit.properties.bads c.in-Some.bad) now (subst (λ es. IsTrueIn
          c.simulate.new.self es c.in-Some.bad) c.bads.ensures.value c.in-Some.ensures.some),
    )

pub loop-step-preserved : goal.loop-step-preserved
loop-step-preserved c =
    let circuit = c.args.circuit.now in
    let state = c.args.simulator.now.state in
    let rows = rows_of c.args.steps.now in
    let step = c.loop-step.step in
    let row = row_at c.args.steps.now step c.index-steps-step.result _ c.loop-step-test.true
    c.index-steps-step.is in
    let now = step_more circuit state rows c.loop-step.simulator step c.loop-step.invariant.so_far
    _ c.simulate.new.self c.in_ok-simulate.ensures.ok row.0 (row.1 ∙ sym c.deref.ensures.value)
    in
    let here = true_turned c.simulate.new.self (after circuit state rows step)
    c.constraints.result.now circuit.properties.constraints now c.constraints.ensures.value
    (c.are_true.ensures.yes c.if-not-are_true.false) in
    let none = subst (λ s. HasNoTrueIn s circuit.properties.bads) now (subst (HasNoTrueIn
    c.simulate.new.self) c.bads.ensures.value c.in_default.ensures.none) in
    record {
      so_far = now;
      constraints = below_more (λ s. AreTrueIn (after circuit state rows s)
          circuit.properties.constraints) step c.loop-step.invariant.constraints here;
      none = below_more (λ s. HasNoTrueIn (after circuit state rows s) circuit.properties.bads)
          step c.loop-step.invariant.none none;
    }
