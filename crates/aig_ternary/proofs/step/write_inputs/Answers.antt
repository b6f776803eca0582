use Rattle.aig_ternary.proofs.Stepping.{with_given-next}
use Rattle.std.proofs.Common.{sym, ◌∙◌, arith}
use Rattle.aig_ternary.proofs.step.write_inputs.Goals as goal

pub loop-i-preserved : goal.loop-i-preserved
loop-i-preserved c =
    sym (with_given-next c.loop-i.values c.args.inputs.now c.args.given.now c.loop-i.i c.loop-i-test.true (omega arith)) ∙ c.loop-i.invariant
