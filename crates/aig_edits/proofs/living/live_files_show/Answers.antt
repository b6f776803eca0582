use Rattle.aig_base.proofs.Words.{subst}
use Rattle.aig_format.specs.Circuit.{circuit_of}
use Rattle.aig_live.specs.Live.{IsLiveOf}
use Rattle.aig_edits.proofs.LiveFiles.{asked_back}
use Rattle.aig_edits.proofs.living.live_files_show.Goals as goal

pub returns : goal.returns
returns c = λ fairness limit f m fits writable is.
    let circuit = circuit_of f in
    let edges = is.0 in
    let asked = asked_back f fairness edges is.1 in
    let literals = asked.0 in
    let live = subst (λ es. IsLiveOf es circuit m) asked.2 is.3 in
    let small = c.small_live_circuits_fit.ensures edges circuit m
    (c.files_are_circuits.ensures.circuit f limit fits) writable is.3 is.2 in
    let written =
    c.written_live_circuits_show_lassos.ensures f limit fairness literals m fits writable
    asked.1 live small in
    record {
      literals = literals;
      asked = asked.1;
      live = live;
      small = small;
      again = written.0;
      shows = written.1;
    }
