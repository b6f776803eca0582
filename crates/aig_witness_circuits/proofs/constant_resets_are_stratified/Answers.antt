use Rattle.aig_witness_circuits.proofs.Constant.{constant_are_stratified}
use Rattle.aig_witness_circuits.proofs.constant_resets_are_stratified.Goals as goal

pub returns : goal.returns
returns c = constant_are_stratified
