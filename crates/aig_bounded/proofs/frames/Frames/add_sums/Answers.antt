use Rattle.std.proofs.Common.{◌+◌}
use Rattle.aig_bounded.specs.Frames.{AreFrames, Extends, net_of}
use Rattle.aig_bounded.proofs.Exactly.{checks_made}
use Rattle.aig_bounded.specs.Steps.{Sum}
use Rattle.aig_bounded.proofs.Stepped.{all_more}
use Rattle.aig_bounded.proofs.frames.Frames.add_sums.Goals as goal

made : (c : goal.In_ok-reached)
    → Sum c.args.circuit.now c.args.step (c.args.step + 1) c.or.new.self (record { within = c.in_ok-within.within; reached = c.in_ok-reached.reached })
    × AreFrames c.args.circuit.now (c.args.step + 1) 0 c.or.new.self
    × Extends c.args.self.now c.or.new.self
made c =
    all_more c.args.circuit.now c.args.step c.args.images.now c.args.self.now c.and_all.new.self c.or_all.new.self c.and.new.self c.or.new.self c.args.sums c.in_ok-within.within c.in_ok-bad.bad c.in_ok-now.now c.in_ok-reached.reached c.requires.constraints c.requires.bads c.requires.sums
    (rw c.constraints.ensures.value at c.in_ok-within.ensures.gives) (rw c.bads.ensures.value at c.in_ok-bad.ensures.gives)
    c.in_ok-now.ensures.gives c.in_ok-reached.ensures.gives
    (c.args.step + 1) 0 c.requires.frames

pub returns-clause-sums : goal.returns-clause-sums
returns-clause-sums c = (made c).0

pub returns-clause-frames : goal.returns-clause-frames
returns-clause-frames c = (made c).1

pub returns-clause-extends : goal.returns-clause-extends
returns-clause-extends c = (made c).2

pub returns-clause-exact : goal.returns-clause-exact
returns-clause-exact c =
    checks_made c.args.circuit.now c.args.images.now (net_of c.args.self.now) (net_of c.and_all.new.self) (net_of c.or_all.new.self) (net_of c.and.new.self) (net_of c.or.new.self) c.args.sums.within c.args.sums.reached c.in_ok-within.within c.in_ok-bad.bad c.in_ok-now.now c.in_ok-reached.reached
    (rw c.constraints.ensures.value at c.in_ok-within.ensures.exact) (rw c.bads.ensures.value at c.in_ok-bad.ensures.exact) c.in_ok-now.ensures.exact c.in_ok-reached.ensures.exact
