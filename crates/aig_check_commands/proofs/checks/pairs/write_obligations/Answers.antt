use Rattle.aig_check_commands.proofs.Words.{◌++◌, codes, Stops-before, failed_put, part_text, clauses_with}
use Rattle.aig_base.proofs.Words.{rules}
use Rattle.aig_check_commands.specs.Titles.{title_text}
use Rattle.aig_check_commands.proofs.check_lemmas.Pairing.{then_written}
use Rattle.aig_check_commands.proofs.checks.pairs.write_obligations.Goals as goal

pub returns-in_err-write_base : goal.returns-in_err-write_base
returns-in_err-write_base g c =
    let base = rw c.unrolled-joint.ensures.value at c.in_err-write_base.ensures in
    let step = rw c.new-stepped.ensures at c.tell_circuit.ensures in
    let text = part_text (codes "c step") (clauses_with step.0 c.args.asked.now.step.extra) in
    record {
      base = base.lists;
      base_has = base.has;
      base_formula = base.formula;
      step = step.0;
      step_has = step.1;
      step_formula = step.2;
      writes = failed_put (Stops-before text base.writes.err) (search rules);
    }

pub returns : goal.returns
returns g c =
    let o = c.args.asked.now in
    let base = rw c.unrolled-joint.ensures.value at c.in_ok-write_base.ensures in
    let step = rw c.new-stepped.ensures at c.write_part.ensures in
    record {
      base = base.lists;
      base_has = base.has;
      base_formula = base.formula;
      step = step.lists;
      step_has = step.has;
      step_formula = step.formula;
      writes = then_written (title_text c.args.title.now ++ part_text (codes "c base") (clauses_with base.lists o.base.extra)) base.writes.ok step.writes;
    }
