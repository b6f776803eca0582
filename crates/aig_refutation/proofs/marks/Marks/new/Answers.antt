use Rattle.aig_base.proofs.Words.{arith, common_steps}
use Rattle.aig_refutation.proofs.Stamps.{map-replicate}
use Rattle.aig_refutation.proofs.marks.Marks.new.Goals as goal

pub returns : goal.returns
returns c = grind (arith, common_steps, map-replicate)
