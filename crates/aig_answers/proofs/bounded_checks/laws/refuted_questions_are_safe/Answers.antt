use Rattle.aig_cnf.proofs.Forms.{literal_value-lit_of}
use Rattle.aig_answers.proofs.Safe.{folded_is_safe, refuted_is_safe}
use Rattle.aig_answers.proofs.bounded_checks.laws.refuted_questions_are_safe.Goals as goal

pub returns-clause-refuted : goal.returns-clause-refuted
returns-clause-refuted c f limit k optimize made fits is = refuted_is_safe f limit k fits optimize made is literal_value-lit_of

pub returns-clause-folded : goal.returns-clause-folded
returns-clause-folded c f limit k optimize made fits is all = folded_is_safe f limit k fits optimize made is literal_value-lit_of all
