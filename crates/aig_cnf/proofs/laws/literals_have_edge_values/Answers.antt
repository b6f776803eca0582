use Rattle.aig_cnf.proofs.Forms.{literal_value-lit_of, edge_in-inverse}
use Rattle.aig_cnf.proofs.laws.literals_have_edge_values.Goals as goal

pub returns-clause-literal : goal.returns-clause-literal
returns-clause-literal c = literal_value-lit_of

pub returns-clause-inverse : goal.returns-clause-inverse
returns-clause-inverse c = edge_in-inverse
