use Rattle.aig_edit_laws.proofs.Written.{written_witnesses}
use Rattle.aig_edit_laws.proofs.laws.written_circuits_have_witnesses.Goals as goal

pub returns : goal.returns
returns c =
    let same = c.circuit_witnesses_are_file_witnesses.ensures in
    written_witnesses (record { forth = same.forth; back = same.back })
