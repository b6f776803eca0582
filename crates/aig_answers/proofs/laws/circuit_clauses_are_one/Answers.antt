use Rattle.aig_answers.proofs.Alike.{query_told}
use Rattle.aig_answers.proofs.laws.circuit_clauses_are_one.Goals as goal

pub returns : goal.returns
returns c = record { query = query_told c.clauses_are_one.ensures }
