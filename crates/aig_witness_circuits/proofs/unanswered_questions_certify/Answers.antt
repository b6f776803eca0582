use Rattle.aig_witness_circuits.proofs.AskedCircuits.{shown_certify}
use Rattle.aig_witness_circuits.proofs.unanswered_questions_certify.Goals as goal

pub returns : goal.returns
returns c = shown_certify
