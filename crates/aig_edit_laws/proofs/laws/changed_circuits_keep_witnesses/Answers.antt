use Rattle.aig_edit_laws.proofs.Compressed.{compressed_witnesses}
use Rattle.aig_edit_laws.proofs.Folded.{folded_witnesses}
use Rattle.aig_edit_laws.proofs.laws.changed_circuits_keep_witnesses.Goals as goal

pub returns-clause-compressed : goal.returns-clause-compressed
returns-clause-compressed c = compressed_witnesses

pub returns-clause-folded : goal.returns-clause-folded
returns-clause-folded c = folded_witnesses c.leaves_fix_values.ensures
