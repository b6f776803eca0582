use Rattle.aig_lexer.proofs.Words.{takes_pair}
use Rattle.aig_lexer.proofs.lexer.pair.Goals as goal

pub returns : goal.returns
returns g c = takes_pair _ _ _ _ _ c.in_ok-first.ensures c.in_ok-second.ensures
