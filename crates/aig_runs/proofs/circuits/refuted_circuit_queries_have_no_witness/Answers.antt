use Rattle.aig_runs.proofs.SafetyRefuted.{refuted_both}
use Rattle.aig_runs.proofs.circuits.refuted_circuit_queries_have_no_witness.Goals as goal

pub returns : goal.returns
returns c = λ circuit unrolled k clauses extra asks none w. refuted_both clauses extra none (asks.satisfiable.1 w)
