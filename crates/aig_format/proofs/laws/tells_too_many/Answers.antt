use Rattle.aig_format.proofs.TooManyAt.{too_many_exact}
use Rattle.aig_format.proofs.laws.tells_too_many.Goals as goal

pub returns : goal.returns
returns c = too_many_exact
