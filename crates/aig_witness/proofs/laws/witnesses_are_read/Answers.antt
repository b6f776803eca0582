use Rattle.aig_witness.specs.Witness.{witness_text}
use Rattle.aig_witness.proofs.Spelled.{spelled_next, written_spelled}
use Rattle.aig_witness.proofs.laws.witnesses_are_read.Goals as goal

pub returns-clause-spells : goal.returns-clause-spells
returns-clause-spells c = written_spelled

pub returns-clause-read : goal.returns-clause-read
returns-clause-read c = λ w rest lt. spelled_next (witness_text w) rest w (written_spelled w lt)
