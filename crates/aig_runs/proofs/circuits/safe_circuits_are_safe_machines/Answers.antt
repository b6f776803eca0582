use Rattle.aig_format_laws.specs.Nodes.{values_over}
use Rattle.aig_runs.proofs.circuits.safe_circuits_are_safe_machines.Goals as goal

pub returns : goal.returns
returns c = λ f limit k fits.
    let same = c.circuit_witnesses_are_file_witnesses.ensures in (
      λ safe w. let x = same.forth f limit k w.0 fits w.1 in safe (x.0, x.1),
      λ safe w. safe (values_over f w.0, same.back f limit k w.0 fits w.1),
    )
