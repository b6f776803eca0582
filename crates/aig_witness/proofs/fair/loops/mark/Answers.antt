use Rattle.aig_base.proofs.Words.{◌≡◌, ◌<◌, ◌≤◌, length, arith}
use Rattle.aig_witness.proofs.Marks.{mark_done, mark_here, mark_rest}
use Rattle.aig_witness.proofs.fair.loops.mark.Goals as goal

pub loop-i-preserved : goal.loop-i-preserved
loop-i-preserved c =
    let s = c.args.simulation.now in
    let edges = c.args.edges.now in
    let old = c.args.marks.now in
    let marks = c.loop-i.marks in
    let i = c.loop-i.i in
    let b = c.is_met.result in
    let inside : i < length marks = omega (
      arith,
      c.requires.count,
      c.loop-i.auto.marks,
      c.loop-i-test.true,
    ) in
    let here = mark_here s edges old marks i b c.loop-i-test.true inside c.value.result
    (c.loop-i.invariant.rest i (omega arith)) c.value.ensures c.is_met.ensures in
    record {
      done = mark_done s edges old marks i b c.loop-i-test.true inside c.loop-i.invariant.done here;
      rest = mark_rest s edges old marks i b c.loop-i-test.true inside c.loop-i.invariant.rest;
    }

pub returns : goal.returns
returns c = λ k d h. c.loop-i.invariant.done k d (omega (arith, h, c.loop-i-test.false))
