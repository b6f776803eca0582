use Rattle.aig_check_commands.proofs.Words.{rules, codes, Stops-before, failed_put, part_text, clauses_with}
use Rattle.aig_check_commands.specs.Titles.{title_text}
use Rattle.aig_check_commands.proofs.check_lemmas.Pairing.{then_written}
use Rattle.aig_check_commands.proofs.checks.pairs.write_base.Goals as goal

pub returns-in_err-write_title : goal.returns-in_err-write_title
returns-in_err-write_title g c =
    let told = c.tell_circuit.ensures in
    let text = part_text (codes "c base") (clauses_with told.0 c.args.parts.now.extra) in
    record {
      lists = told.0;
      has = told.1;
      formula = told.2;
      writes = failed_put (Stops-before text c.in_err-write_title.ensures.err) (search rules);
    }

pub returns : goal.returns
returns g c =
    let told = c.write_part.ensures in
    record {
      lists = told.lists;
      has = told.has;
      formula = told.formula;
      writes = then_written (title_text c.args.title.now) c.in_ok-write_title.ensures.ok told.writes;
    }
