use Rattle.std.proofs.Common.{subst}
use Rattle.aig_circuit.specs.View.{lists_circuit}
use Rattle.aig_unroll.specs.Unroll.{UnrollsBySteps}
use Rattle.aig_unroll.proofs.steps.unroll_to.Goals as goal

pub returns-clause-circuit : goal.returns-clause-circuit
returns-clause-circuit c = c.in_ok-add_steps.ensures.circuit

pub returns-clause-steps : goal.returns-clause-steps
returns-clause-steps c = c.in_ok-add_steps.ensures.steps

pub returns-clause-unrolls : goal.returns-clause-unrolls
returns-clause-unrolls c = c.in_ok-add_steps.ensures.unrolls

pub returns-clause-none : goal.returns-clause-none
returns-clause-none c = λ none. subst (λ k. UnrollsBySteps c.args.circuit.now k (lists_circuit c.add_steps.new.lists)) none c.in_ok-add_steps.ensures.steps

pub add_steps-requires : goal.add_steps-requires
add_steps-requires c = c.in_ok-lists.ensures.copy
