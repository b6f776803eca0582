use Rattle.aig_check_commands.proofs.Words.{rules, clauses_in, Stops-before, failed_put}
use Rattle.std.proofs.Common.{◌++◌, length}
use Rattle.aig_dimacs.specs.Text.{dimacs_of}
use Rattle.aig_check_commands.specs.Titles.{title_text}
use Rattle.aig_check_commands.proofs.check_lemmas.Pairing.{then_written}
use Rattle.aig_check_commands.proofs.checks.simulated.write_obligation.Goals as goal

pub returns-in_err-write_title : goal.returns-in_err-write_title
returns-in_err-write_title g c =
    let told = rw c.unrolled-circuit.ensures.value at c.tell_circuit.ensures in
    let text = dimacs_of (length told.0) (clauses_in told.0 ++ c.args.asked.now.parts.extra) in
    record {
      lists = told.0;
      has = told.1;
      formula = told.2;
      writes = failed_put (Stops-before text c.in_err-write_title.ensures.err) (search rules);
    }

pub returns : goal.returns
returns g c =
    let told = rw c.unrolled-circuit.ensures.value at c.write_circuit.ensures in
    record {
      lists = told.0;
      has = told.1;
      formula = told.2.formula;
      writes = then_written (title_text c.args.title.now) c.in_ok-write_title.ensures.ok
          told.2.writes;
    }
