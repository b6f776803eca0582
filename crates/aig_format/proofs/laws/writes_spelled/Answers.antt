use Rattle.aig_format.proofs.Law.{spelling_spells}
use Rattle.aig_format.proofs.laws.writes_spelled.Goals as goal

pub returns : goal.returns
returns c = spelling_spells
