use Rattle.aig_base.proofs.Words.{◌≡◌, ◌+◌, ◌-◌, ◌*◌, ◌&&◌, ◌∙◌, true, eqb, refl, ap, subst, arith, common_steps, err_from_is_err_and}
use Rattle.std.proofs.Math.Bool.{beq}
use Rattle.aig_bounded.specs.Question.{step_size}
use Rattle.aig_bounded.specs.Steps.{HasStates, checks_of}
use Rattle.aig_bounded.specs.declared.steps.Sums.{Sums}
use Rattle.aig_bounded.proofs.Counted.{AddsUpTo-done, AddsUpTo-stops, steps_more, steps_within}
use Rattle.aig_bounded.proofs.Exactly.{MadeSoFar, MadeSoFar-none, next_checks, reached_made}
use Rattle.aig_bounded.proofs.Steady.{AreAllMade-from, AreMade-more}
use Rattle.aig_bounded.proofs.Stepped.{Sum-start}
use Rattle.aig_bounded.proofs.frames.Frames.add_steps.Goals as goal

pub loop-step-init : goal.loop-step-init
loop-step-init c = let all : c.args.last ≡ c.args.last - 0 = omega arith in record {
  are_made = record {
    so_far = record {
      limit = refl;
      frames = c.requires.frames;
      known = subst (λ left. HasStates c.args.circuit.now 0 c.args.depths.now left c.args.self.now
          c.args.states.now) all c.requires.states;
      sum = Sum-start c.args.circuit.now c.args.self.now c.start-sums.result
          c.requires.frames.shared.gates.sound c.start-sums.ensures;
    };
    made = MadeSoFar-none c.args.circuit.now c.args.last c.args.depths.now c.args.self.now
        c.start-sums.result c.args.states.now c.requires.net c.start-sums.ensures
        c.requires.constants;
  };
  few = omega arith;
}

pub loop-step-preserved : goal.loop-step-preserved
loop-step-preserved c = record {
  are_made = AreMade-more c.args.circuit.now c.requires.circuit c.args.last c.loop-step.step
      c.loop-step-test.true c.args.depths.now c.requires.depths c.args.self.now c.loop-step.self
      c.add_step.new.self c.loop-step.states c.advance-changed.new.states c.loop-step.sums
      c.in_ok-after.after c.add_step.new.images c.loop-step.invariant.are_made
      (record {
        has = c.in_ok-after.ensures.shows;
        extends = c.in_ok-after.ensures.extends;
        sum = c.in_ok-after.ensures.sums;
        frames = c.in_ok-after.ensures.frames;
        makes = c.in_ok-after.ensures.exact;
        sets = c.advance-changed.ensures.sets;
        count = c.advance-changed.auto.states;
      });
  few = omega (
    arith,
    c.loop-step.invariant.few,
    c.in_ok-after.ensures.size.few,
    steps_more
        c.loop-step.step (step_size c.args.circuit.now),
  );
}

-- sums that are found equal are equal
same_sums : (a b : Sums)
    → true ≡ ((eqb a.within.node_id b.within.node_id && beq a.within.compl b.within.compl) &&
    (eqb a.reached.node_id b.reached.node_id && beq a.reached.compl b.reached.compl))
    → a ≡ b
same_sums a b found = grind (arith, common_steps)

pub returns-then-len-count : goal.returns-then-len-count
returns-then-len-count c =
    let all = AreAllMade-from c.args.circuit.now c.requires.circuit c.args.last c.loop-step.step
    c.loop-step-test.true c.args.depths.now c.requires.depths c.args.self.now c.loop-step.self
    c.add_step.new.self c.loop-step.states c.advance-changed.new.states c.loop-step.sums
    c.in_ok-after.after c.add_step.new.images c.loop-step.invariant.are_made
    (record {
      has = c.in_ok-after.ensures.shows;
      extends = c.in_ok-after.ensures.extends;
      sum = c.in_ok-after.ensures.sums;
      frames = c.in_ok-after.ensures.frames;
      makes = c.in_ok-after.ensures.exact;
      sets = c.advance-changed.ensures.sets;
      count = c.advance-changed.auto.states;
    }) (omega (arith, c.if-len-count.true, c.len.ensures, c.len-count.ensures))
    (c.advance-changed.ensures.same c.if-not-changed.true)
    (same_sums c.in_ok-after.after c.loop-step.sums c.if-eq.ensures) in
    let size = step_size c.args.circuit.now in
    record {
      shows = all.shows;
      exact = all.exact;
      frames = all.frames;
      limit = c.in_ok-after.ensures.extends.limit ∙ c.loop-step.invariant.are_made.so_far.limit;
      size = AddsUpTo-done ((c.args.last + 1) * size) c.args.self.now c.add_step.new.self
          c.loop-step.sums.reached
          (omega (
            arith,
            c.loop-step.invariant.few,
            c.in_ok-after.ensures.size.few,
            steps_within
                c.loop-step.step c.args.last size c.loop-step-test.true,
          ));
    }

pub returns-clause-exact : goal.returns-clause-exact
returns-clause-exact c =
    let circuit = c.args.circuit.now in
    let last = c.args.last in
    let depths = c.args.depths.now in
    let is : c.loop-step.step ≡ last = omega (arith, c.loop-step-test.false, c.loop-step.auto) in
    let none : 0 ≡ last - last = omega arith in
    let made = subst (λ t. MadeSoFar circuit last t depths c.loop-step.self c.loop-step.sums
    c.loop-step.states) is c.loop-step.invariant.are_made.made in
    let after = checks_of c.add_step-2.new.self c.in_ok-all.all in
    reached_made circuit last depths c.add_step-2.new.self c.in_ok-all.all after refl
    (next_checks circuit 0 last last depths none c.loop-step.self c.loop-step.sums c.loop-step.states made c.add_step-2.new.images after c.in_ok-all.ensures.exact)

pub returns-in_err-after-clause-size : goal.returns-in_err-after-clause-size
returns-in_err-after-clause-size c =
    let p = err_from_is_err_and c.from_residual.result c.from_residual.ensures.1 in
    let size = step_size c.args.circuit.now in
    rw (p.1, p.2) (AddsUpTo-stops ((c.args.last + 1) * size) size c.args.self.now c.loop-step.self
    c.add_step.new.self c.in_err-after.field-0.0 c.loop-step.invariant.are_made.so_far.limit
    (omega (
      arith,
      c.loop-step.invariant.few,
      steps_within c.loop-step.step c.args.last size
          c.loop-step-test.true,
    )) c.in_err-after.ensures.size)

pub returns-in_err-all-clause-size : goal.returns-in_err-all-clause-size
returns-in_err-all-clause-size c =
    let p = err_from_is_err_and c.from_residual-in_err-all.result c.from_residual-in_err-all.ensures.1 in
    let size = step_size c.args.circuit.now in
    let is : c.loop-step.step ≡ c.args.last = omega (arith, c.loop-step-test.false, c.loop-step.auto) in
    rw (p.1, p.2) (AddsUpTo-stops ((c.args.last + 1) * size) size c.args.self.now c.loop-step.self
    c.add_step-2.new.self c.in_err-all.field-0.0 c.loop-step.invariant.are_made.so_far.limit
    (omega (
      arith,
      c.loop-step.invariant.few,
      ap (λ t. t * size) is,
      steps_more c.args.last
          size,
    )) c.in_err-all.ensures.size)

pub returns-clause-size : goal.returns-clause-size
returns-clause-size c =
    let size = step_size c.args.circuit.now in
    let is : c.loop-step.step ≡ c.args.last = omega (arith, c.loop-step-test.false, c.loop-step.auto) in
    AddsUpTo-done ((c.args.last + 1) * size) c.args.self.now c.add_step-2.new.self c.in_ok-all.all.reached (omega (arith, c.loop-step.invariant.few, c.in_ok-all.ensures.size.few, ap (λ t. t * size) is, steps_more c.args.last size))
