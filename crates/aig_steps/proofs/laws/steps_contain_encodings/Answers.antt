use Rattle.aig_steps.proofs.Encoded.{has_encoding}
use Rattle.aig_steps.proofs.laws.steps_contain_encodings.Goals as goal

pub returns : goal.returns
returns c = has_encoding
