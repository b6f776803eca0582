use Rattle.std.proofs.lemmas.Result.{err_from_is_err_and}
use Rattle.aig_witness.proofs.Saying.{values_refused}
use Rattle.aig_witness.proofs.solutions.checked.read_witness.Goals as goal

pub returns-in_err-values-clause-refusal : goal.returns-in_err-values-clause-refusal
returns-in_err-values-clause-refusal g c =
    let p = err_from_is_err_and c.from_residual.result c.from_residual.ensures.1 in
    rw (p.1, p.2) (values_refused (g.P.Source.left c.args.solution.now) c.args.asked.now.encoded
    c.args.k _ c.num_vars.result c.in_err-values.field-0.0 c.num_vars.ensures.count
    c.in_err-values.ensures)
