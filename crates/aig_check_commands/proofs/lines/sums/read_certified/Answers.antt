use Rattle.aig_check_commands.proofs.Words.{err_from_is_err_and}
use Rattle.aig_check_commands.proofs.check_lemmas.Pairing.{both_taken, first_refused, second_refused}
use Rattle.aig_check_commands.proofs.lines.sums.read_certified.Goals as goal

pub returns-in_err-circuit-clause-reads : goal.returns-in_err-circuit-clause-reads
returns-in_err-circuit-clause-reads g c =
    let p = err_from_is_err_and c.from_residual.result c.from_residual.ensures.1 in
    let a = c.args in
    let told = c.in_err-circuit.ensures.reads in
    rw (p.1, p.2) (
      told.0,
      a.certificate,
      first_refused g.S.Source.left g.S.Source.failed a.limit a.own a.file told.0 a.certificate
          c.in_err-circuit.field-0.0 told.1,
    )

pub read_beside_summed-requires-clause-circuit : goal.read_beside_summed-requires-clause-circuit
read_beside_summed-requires-clause-circuit g c = c.in_ok-circuit.ensures.ready.circuit

pub returns-clause-reads : goal.returns-clause-reads
returns-clause-reads g c =
    let a = c.args in
    let told = c.in_ok-circuit.ensures.reads in
    let also = c.in-Ok.ensures.reads in (
      told.0,
      also.0,
      both_taken g.S.Source.left g.S.Source.failed a.limit a.own a.file told.0 a.certificate
          c.in_ok-circuit.circuit c.in_ok-circuit.sum told.1 also.0 c.in-Ok.read.0 c.in-Ok.read.1
          also.1,
    )

pub returns-in-Err-clause-reads : goal.returns-in-Err-clause-reads
returns-in-Err-clause-reads g c =
    let a = c.args in
    let told = c.in_ok-circuit.ensures.reads in
    let also = c.in-Err.ensures.reads in (
      told.0,
      also.0,
      second_refused g.S.Source.left g.S.Source.failed a.limit a.own a.file told.0 a.certificate
          c.in_ok-circuit.circuit c.in_ok-circuit.sum told.1 also.0 c.in-Err.error also.1,
    )
