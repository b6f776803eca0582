use Rattle.aig_strash.proofs.Keeping.{KeepsRepresentatives-strashed}
use Rattle.aig_strash.proofs.laws.strashing_keeps_representatives.Goals as goal

pub returns : goal.returns
returns c = KeepsRepresentatives-strashed
