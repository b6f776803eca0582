use Rattle.aig_witness_circuits.proofs.Tracking.{safe, tracked}
use Rattle.aig_witness_circuits.proofs.certified_models_are_safe.Goals as goal

pub returns-clause-runs : goal.returns-clause-runs
returns-clause-runs c = λ shared model witness is certificate k x allowed. tracked shared model
    witness is certificate x k allowed

pub returns-clause-safe : goal.returns-clause-safe
returns-clause-safe c = safe
