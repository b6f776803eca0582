use Rattle.std.proofs.Common.{◌∙◌}
use Rattle.aig_refutation.specs.Propagation.{marked}
use Rattle.aig_refutation.proofs.Closing.{found_none}
use Rattle.aig_refutation.proofs.closure.follow_all.Goals as goal

pub loop-number-preserved : goal.loop-number-preserved
loop-number-preserved c =
    let before = c.loop-number.invariant in
    let then = c.follow.ensures in
    record {
      length = then.length ∙ before.length;
      kept = λ lit is. then.kept lit (before.kept lit is);
      entails = λ clause start. found_none c.args.numbered.now clause
          (marked c.follow.new.marks) c.follow.result c.in_default.not-Conflict
          (then.finds clause (before.entails clause start));
    }
