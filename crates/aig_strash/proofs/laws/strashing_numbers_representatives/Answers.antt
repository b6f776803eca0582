use Rattle.aig_strash.proofs.Keeping.{NumbersRepresentatives-images}
use Rattle.aig_strash.proofs.laws.strashing_numbers_representatives.Goals as goal

pub returns : goal.returns
returns c = NumbersRepresentatives-images
