use Rattle.std.specs.Prelude.{Err, Ok}
use Rattle.std.proofs.lemmas.Result.{err_from_is_err_and}
use Rattle.aig_reader.specs.Verdicts as reading
use Rattle.aig_reader.specs.Verdicts.{Accepted}
use Rattle.aig_reader.proofs.Verdicts.{of_no_file, refused_again}
use Rattle.aig_encode.specs.Encoding.{encoded_verdict}
use Rattle.aig_encode.proofs.Promised.{answers, judged}
use Rattle.aig_encode.proofs.encoding.encode.Goals as goal

pub returns-in_err-circuit-clause-verdict : goal.returns-in_err-circuit-clause-verdict
returns-in_err-circuit-clause-verdict g c =
    let p = err_from_is_err_and c.from_residual.result c.from_residual.ensures.1 in
    let e = c.in_err-circuit.field-0.0 in
    rw (p.1, p.2) (refused_again (λ f. Accepted) (encoded_verdict c.args.limit c.args.k) c.args.limit _ _ _ (reading.verdict_of e) (of_no_file e) (λ f. tt) c.in_err-circuit.ensures.verdict)

pub returns-in_err-unrolled-clause-verdict : goal.returns-in_err-unrolled-clause-verdict
returns-in_err-unrolled-clause-verdict g c =
    let p = err_from_is_err_and c.from_residual-in_err-unrolled.result c.from_residual-in_err-unrolled.ensures.1 in
    let read = c.in_ok-circuit.ensures in
    rw (p.1, p.2) (judged c.in_ok-circuit.circuit c.args.limit c.args.k c.args.optimize _ _ read.circuit _ (Err c.in_err-unrolled.field-0.0) read.verdict c.in_err-unrolled.ensures)

pub returns-clause-answer : goal.returns-clause-answer
returns-clause-answer g c =
    answers c.in_ok-circuit.circuit c.args.limit c.args.k c.args.optimize _ _ c.in_ok-circuit.ensures.circuit (c.in_ok-unrolled.unrolled, c.in_ok-unrolled.clauses) c.in_ok-unrolled.ensures

pub returns-clause-verdict : goal.returns-clause-verdict
returns-clause-verdict g c =
    let read = c.in_ok-circuit.ensures in
    judged c.in_ok-circuit.circuit c.args.limit c.args.k c.args.optimize _ _ read.circuit _ (Ok (c.in_ok-unrolled.unrolled, c.in_ok-unrolled.clauses)) read.verdict c.in_ok-unrolled.ensures
