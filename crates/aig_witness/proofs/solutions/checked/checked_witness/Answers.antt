use Rattle.std.proofs.lemmas.Result.{err_from_is_err_and}
use Rattle.aig_witness.specs.Witness.{said_by}
use Rattle.aig_witness.proofs.Saying.{solution_refused}
use Rattle.aig_witness.proofs.solutions.checked.checked_witness.Goals as goal

pub returns-in_err-witness-clause-refusal : goal.returns-in_err-witness-clause-refusal
returns-in_err-witness-clause-refusal g c =
    let p = err_from_is_err_and c.from_residual.result c.from_residual.ensures.1 in
    rw (p.1, p.2) (solution_refused (g.P.Source.left c.args.solution.now) c.args.asked.now.encoded
    c.args.k _ c.in_err-witness.field-0.0 c.in_err-witness.ensures.refusal)

pub returns-in_err-check_circuit-clause-refusal : goal.returns-in_err-check_circuit-clause-refusal
returns-in_err-check_circuit-clause-refusal g c =
    let p = err_from_is_err_and c.from_residual-in_err-check_circuit.result
    c.from_residual-in_err-check_circuit.ensures.1 in
    rw (p.1, p.2) (
      said_by c.in_ok-witness.witness,
      c.in_ok-witness.ensures.said,
      c.in_err-check_circuit.ensures,
    )

pub returns-clause-steps : goal.returns-clause-steps
returns-clause-steps g c = c.in_ok-witness.ensures.said.is.steps.count
