use Rattle.aig_base.proofs.Words.{inl, inr, refl, err_from_is_err_and}
use Rattle.aig_output.proofs.Putting.{failed_put}
use Rattle.aig_tool_commands.proofs.clauses.print_clauses.Goals as goal

pub returns-in_err-needed : goal.returns-in_err-needed
returns-in_err-needed g c =
    let p = err_from_is_err_and c.from_residual.result c.from_residual.ensures.1 in
    rw (p.1, p.2, c.in_err-needed.ensures.memory) (inl (refl, refl))

pub returns-in_err-write_circuit : goal.returns-in_err-write_circuit
returns-in_err-write_circuit g c =
    let p = err_from_is_err_and c.from_residual-in_err-write_circuit.result
    c.from_residual-in_err-write_circuit.ensures.1 in
    let told = c.in_err-write_circuit.ensures in
    rw (p.1, p.2) (inr (
      refl,
      told.0,
      told.1,
      record { writes = failed_put told.2.writes.err refl; formula = told.2.formula },
    ))

pub returns : goal.returns
returns g c =
    let told = c.in_ok-write_circuit.ensures in
    inr (
      tt,
      told.0,
      told.1,
      record {
        writes = record { ok = told.2.writes.ok; sound = told.2.writes.sound; err = tt };
        formula = told.2.formula;
      },
    )
