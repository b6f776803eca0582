use Rattle.aig_witness_circuits.proofs.Filling.{stratified_starts}
use Rattle.aig_witness_circuits.proofs.stratified_resets_can_start.Goals as goal

pub returns : goal.returns
returns c = stratified_starts
