use Rattle.aig_base.proofs.Words.{subst, sym}
use Rattle.aig_circuit.specs.Circuit.{IsCircuit}
use Rattle.aig_subjects.proofs.subject.read_own.Goals as goal

pub returns-clause-circuit : goal.returns-clause-circuit
returns-clause-circuit g c =
    let read = c.in_ok-read.ensures.circuit in
    subst IsCircuit (sym read.means)
    (c.files_are_circuits.ensures.circuit read.file c.args.limit read.holds.1)
