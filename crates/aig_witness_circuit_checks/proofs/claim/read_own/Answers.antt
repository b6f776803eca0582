use Rattle.aig_witness_circuit_checks.proofs.Words.{sym, subst}
use Rattle.aig_circuit.proofs.Words.{IsCircuit}
use Rattle.aig_witness_circuit_checks.proofs.claim.read_own.Goals as goal

pub returns-clause-circuit : goal.returns-clause-circuit
returns-clause-circuit g c =
    let read = c.in_ok-read_numbered.ensures.circuit in
    subst IsCircuit (sym read.means.0)
    (c.files_are_circuits.ensures.circuit read.file c.args.limit read.holds.1)
