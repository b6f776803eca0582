use Rattle.std.proofs.Common.{arith}
use Rattle.aig_bounded.proofs.Attained.{next_read}
use Rattle.aig_bounded.proofs.depths.lower_latch.Goals as goal

pub returns-then-depth-last-clause-read : goal.returns-then-depth-last-clause-read
returns-then-depth-last-clause-read c = λ d has read.
    c.lower.ensures.read d
    (λ low. next_read d c.args.last c.args.depths.now c.args.latch.now has c.input.result c.node_id.result c.input.ensures (rw c.next.ensures at c.node_id.ensures) (omega (arith, c.input.ensures, c.requires.leaf)) read low)
    read
