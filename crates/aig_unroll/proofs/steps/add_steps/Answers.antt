use Rattle.std.proofs.Common.{◌≡◌, add-one, sym, subst, arith}
use Rattle.aig_circuit.proofs.Words.{IsCircuit, lists_circuit}
use Rattle.aig_unroll.specs.Unroll.{UnrollsBySteps, UnrollsTo}
use Rattle.aig_unroll.specs.Step.{IsUnrolled}
use Rattle.aig_unroll.proofs.MoreSteps.{unrolls_more}
use Rattle.aig_unroll.proofs.NoStep.{unrolls-none}
use Rattle.aig_unroll.proofs.Stepped.{begins_unrolled}
use Rattle.aig_unroll.proofs.steps.add_steps.Goals as goal

pub loop-step-init : goal.loop-step-init
loop-step-init c =
    let same = c.requires in
    let circuit = c.in_ok-images.ensures.circuit in
    record {
      circuit = subst IsCircuit (sym same) circuit;
      steps = same;
      unrolls = subst (UnrollsTo c.args.circuit.now 0) (sym same) (unrolls-none c.args.circuit.now circuit);
    }

pub unroll-requires-clause-begins : goal.unroll-requires-clause-begins
unroll-requires-clause-begins c = begins_unrolled c.args.circuit.now c.loop-step._step (lists_circuit c.loop-step.lists) c.loop-step.invariant.unrolls

pub loop-step-preserved : goal.loop-step-preserved
loop-step-preserved c =
    let from = c.args.circuit.now in
    let old = lists_circuit c.loop-step.lists in
    let new = lists_circuit c.unroll.new.lists in
    let before = c.loop-step.invariant in
    let once = c.in_ok-unroll.ensures.unrolls in
    record {
      circuit = c.in_ok-unroll.ensures.circuit;
      steps = subst (λ k. UnrollsBySteps from k new) (sym (add-one c.loop-step._step)) (old, before.steps, once);
      unrolls = unrolls_more from old new c.loop-step._step c.in_ok-images.ensures.circuit before.circuit before.unrolls once;
    }

pub returns : goal.returns
returns c =
    let all : c.loop-step._step ≡ c.args.k = omega arith in
    subst (λ k. IsUnrolled c.args.circuit.now k (lists_circuit c.loop-step.lists)) all c.loop-step.invariant

pub unroll-requires-clause-circuit : goal.unroll-requires-clause-circuit
unroll-requires-clause-circuit c = c.loop-step.invariant.circuit
