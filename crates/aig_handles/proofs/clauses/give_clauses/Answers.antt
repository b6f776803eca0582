use Rattle.aig_giving.proofs.Giving.{gives}
use Rattle.aig_handles.proofs.clauses.give_clauses.Goals as goal

pub returns : goal.returns
returns c =
    gives _ _ c.numbers.result c.numbers.ensures.clauses c.numbers.ensures.refused c.give_made.ensures
