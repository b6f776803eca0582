use Rattle.aig_witness.proofs.Spelled.{Reads-witness, spelled_next}
use Rattle.aig_witness.proofs.laws.witnesses_are_spelled.Goals as goal

pub returns-clause-sound : goal.returns-clause-sound
returns-clause-sound c = λ bytes rest w h. Reads-witness.sound bytes (w, rest) h

pub returns-clause-complete : goal.returns-clause-complete
returns-clause-complete c = λ front rest w h. Reads-witness.complete w front rest h

pub returns-clause-next : goal.returns-clause-next
returns-clause-next c = spelled_next
