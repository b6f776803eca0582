use Rattle.std.proofs.Common.{arith, ◌∙◌, sym}
use Rattle.aig_writer.proofs.Counts.{shortened-without, shortened-whole}
use Rattle.aig_writer.proofs.header.written_count.Goals as goal

pub loop-count-preserved : goal.loop-count-preserved
loop-count-preserved c =
    let l = c.loop-count in
    record {
      within = omega arith;
      zeros = shortened-without c.args.numbers.now l.count c.loop-count-test.true l.invariant.within c.if-numbers-count-eq0.true ∙ l.invariant.zeros;
    }

pub returns-else-numbers-count-eq0-clause-value : goal.returns-else-numbers-count-eq0-clause-value
returns-else-numbers-count-eq0-clause-value c =
    let l = c.loop-count in
    sym (shortened-whole c.args.numbers.now l.count c.loop-count-test.true l.invariant.within c.if-numbers-count-eq0.false) ∙ l.invariant.zeros
