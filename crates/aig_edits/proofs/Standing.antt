-- What is told of a certificate that is read, and stands beside a circuit.
use Rattle.aig_base.proofs.Words.{Result, Ok, Err, IfErr}
use Rattle.aig_circuit.proofs.Words.{Circuit}
use Rattle.aig_circuit.specs.declared.view.CircuitLists.{CircuitLists}
use Rattle.aig_edits.specs.declared.pair_error.PairError.{PairError}
use Rattle.aig_edits.specs.declared.pair_error.PairError.TheVariants as errors
use Rattle.aig_edits.specs.declared.pairing.Pairing.{Pairing}
use Rattle.aig_edits.specs.Circuits.{IsJoinOf}
use Rattle.aig_edits.specs.Joints.{IsOfBeside}

-- a joining has no error of a file that is read
pub beside_own : (pairing : Pairing) (a b : Circuit) (made : Result CircuitLists PairError)
    → IsJoinOf pairing a b made → IfErr made IsOfBeside
beside_own pairing a b (Ok lists) told = tt
beside_own pairing a b (Err (errors.Read e)) told = absurd told
beside_own pairing a b (Err (errors.Other e)) told = absurd told
beside_own pairing a b (Err errors.Write) told = absurd told
beside_own pairing a b (Err errors.TooLarge) told = tt
beside_own pairing a b (Err errors.Memory) told = tt
beside_own pairing a b (Err (errors.Misfit m)) told = tt
