use Rattle.aig_ordering.proofs.MarkedBits.{bits_after_set}
use Rattle.aig_ordering.proofs.bits.set_bit.Goals as goal

pub returns : goal.returns
returns c = bits_after_set c.args.words.now c.args.place c.requires
