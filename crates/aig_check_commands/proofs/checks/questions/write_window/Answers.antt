use Rattle.aig_check_commands.proofs.Words.{rules, clauses_in, Stops-before, failed_put}
use Rattle.std.proofs.Common.{[], ◌++◌, length, replicate}
use Rattle.aig_dimacs.specs.Text.{dimacs_of}
use Rattle.aig_check_commands.specs.Titles.{title_text}
use Rattle.aig_check_commands.proofs.check_lemmas.Pairing.{then_written}
use Rattle.aig_check_commands.proofs.checks.questions.write_window.Goals as goal

pub tell_circuit_with-requires-clause-few : goal.tell_circuit_with-requires-clause-few
tell_circuit_with-requires-clause-few g c = rw c.new-unrolled.ensures c.requires.3.few

pub tell_circuit_with-requires-clause-needed : goal.tell_circuit_with-requires-clause-needed
tell_circuit_with-requires-clause-needed g c = rw c.new-unrolled.ensures c.requires.3.needed

pub tell_circuit_with-requires-clause-below : goal.tell_circuit_with-requires-clause-below
tell_circuit_with-requires-clause-below g c = rw c.new-unrolled.ensures c.requires.3.below

pub returns-in_err-write_title : goal.returns-in_err-write_title
returns-in_err-write_title g c =
    let window = c.args.window.now in
    let told = rw c.new-unrolled.ensures at c.tell_circuit_with.ensures in
    let all = told.0 ++ replicate window.free [] in
    let text = dimacs_of (length all) (clauses_in all ++ window.extra) in
    record {
      lists = told.0;
      has = told.1;
      formula = told.2;
      writes = failed_put (Stops-before text c.in_err-write_title.ensures.err) (search rules);
    }

pub returns : goal.returns
returns g c =
    let told = rw c.new-unrolled.ensures at c.write_circuit_with.ensures in
    record {
      lists = told.0;
      has = told.1;
      formula = told.2.formula;
      writes = then_written (title_text c.args.title.now) c.in_ok-write_title.ensures.ok
          told.2.writes;
    }
