use Rattle.aig_edit_laws.proofs.Machines.{bad_shown, bads_shown, output_shown, outputs_shown, runs_shown}
use Rattle.aig_format_laws.specs.Nodes.{values_over}
use Rattle.aig_edit_laws.proofs.laws.shown_runs_are_machine_runs.Goals as goal

pub returns-clause-outputs : goal.returns-clause-outputs
returns-clause-outputs c f limit k fits =
    let runs = c.joins_runs.ensures in
    outputs_shown (record { forth = runs.forth; back = runs.back; starts = runs.starts; literals = runs.literals; known = c.files_are_circuits.ensures.known }) f limit k fits

pub returns-clause-output : goal.returns-clause-output
returns-clause-output c f limit n k fits =
    let runs = c.joins_runs.ensures in
    output_shown (record { forth = runs.forth; back = runs.back; starts = runs.starts; literals = runs.literals; known = c.files_are_circuits.ensures.known }) f limit k fits n

pub returns-clause-bad : goal.returns-clause-bad
returns-clause-bad c f limit n k fits =
    let runs = c.joins_runs.ensures in
    bad_shown (record {
      forth = runs.forth;
      back = runs.back;
      starts = runs.starts;
      literals = runs.literals;
      known = c.files_are_circuits.ensures.known;
    }) f limit k fits n

pub returns-clause-bads : goal.returns-clause-bads
returns-clause-bads c f limit k fits =
    let runs = c.joins_runs.ensures in
    bads_shown (record { forth = runs.forth; back = runs.back; starts = runs.starts; literals = runs.literals; known = c.files_are_circuits.ensures.known }) f limit k fits

pub returns-clause-runs : goal.returns-clause-runs
returns-clause-runs c f limit k fits =
    let runs = c.joins_runs.ensures in
    runs_shown (record { forth = runs.forth; back = runs.back; starts = runs.starts; literals = runs.literals; known = c.files_are_circuits.ensures.known }) f limit k fits

pub returns-clause-witnesses : goal.returns-clause-witnesses
returns-clause-witnesses c f limit k fits =
    let same = c.circuit_witnesses_are_file_witnesses.ensures in (
      λ s. (values_over f s.0, same.back f limit k s.0 fits s.1),
      λ s. let x =
          same.forth f limit k s.0 fits s.1 in (x.0, x.1),
    )
