use Rattle.aig_cnf.proofs.Forms.{literal_value-lit_of}
use Rattle.aig_answers.proofs.Safe.{folded_circuit, refuted_circuit}
use Rattle.aig_answers.proofs.bounded_checks.laws.refuted_circuit_questions_are_safe.Goals as goal

pub returns-clause-refuted : goal.returns-clause-refuted
returns-clause-refuted g c k optimize made circuit is =
    refuted_circuit c k optimize made circuit is literal_value-lit_of

pub returns-clause-folded : goal.returns-clause-folded
returns-clause-folded g c k optimize made circuit is all =
    folded_circuit c k optimize made circuit is literal_value-lit_of all
