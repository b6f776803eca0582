use Rattle.aig_runs.proofs.CircuitQueries as lemma
use Rattle.aig_runs.proofs.laws.circuit_queries_ask.Goals as goal

pub returns : goal.returns
returns c = λ circuit unrolled k clauses is unrolls fixes satisfied. lemma.circuit_queries_ask circuit unrolled k clauses unrolls fixes is satisfied
