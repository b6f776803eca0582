use Rattle.std.proofs.Common.{◌-◌, arith}
use Rattle.aig_bounded.proofs.Lowered.{lowers_all, lowers_one_less}
use Rattle.aig_bounded.proofs.depths.lower_operands.Goals as goal

pub loop-id-preserved : goal.loop-id-preserved
loop-id-preserved c = record {
  lowers = lowers_one_less c.args.nodes.now c.args.last c.loop-id.id (c.loop-id.id - 1) c.args.depths.now c.loop-id.depths c.lower_gate-lowered.new.depths c.loop-id.lowered c.lower_gate-lowered.result (omega arith) c.loop-id.invariant.lowers c.lower_gate-lowered.ensures.lowers;
  read = λ d same read. c.lower_gate-lowered.ensures.read d same (c.loop-id.invariant.read d same read);
}

pub returns-clause-lowers : goal.returns-clause-lowers
returns-clause-lowers c =
    lowers_all c.args.nodes.now c.args.last c.loop-id.id c.args.depths.now c.loop-id.depths c.loop-id.lowered (omega (arith, c.loop-id-test.false)) c.loop-id.invariant.lowers
