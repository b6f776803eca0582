use Rattle.aig_witness.proofs.Spelled.{Reads-claim, spelled_claim}
use Rattle.aig_witness.proofs.laws.claims_are_spelled.Goals as goal

pub returns-clause-sound : goal.returns-clause-sound
returns-clause-sound c = λ justice bytes rest x h.
    let s = (Reads-claim justice).sound bytes (x, rest) h in (s.2.0, (s.0, s.1, s.2.1))

pub returns-clause-complete : goal.returns-clause-complete
returns-clause-complete c = λ justice front rest x taken h.
    (Reads-claim justice).complete x front rest (taken, h)

pub returns-clause-next : goal.returns-clause-next
returns-clause-next c = spelled_claim
