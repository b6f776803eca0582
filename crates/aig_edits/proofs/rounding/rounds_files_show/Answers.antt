use Rattle.aig_base.proofs.Words.{subst}
use Rattle.aig_format.specs.Circuit.{circuit_of}
use Rattle.aig_live.specs.Rounds.{IsRoundsOf}
use Rattle.aig_edits.proofs.LiveFiles.{asked_back}
use Rattle.aig_edits.proofs.rounding.rounds_files_show.Goals as goal

pub returns : goal.returns
returns c = λ fairness count limit f m fits writable is.
    let circuit = circuit_of f in
    let edges = is.0 in
    let asked = asked_back f fairness edges is.1 in
    let literals = asked.0 in
    let counts = subst (λ es. IsRoundsOf es count circuit m) asked.2 is.3 in
    let small = c.small_rounds_circuits_fit.ensures edges count circuit m
    (c.files_are_circuits.ensures.circuit f limit fits) writable is.3 is.2 in
    let written =
    c.written_rounds_circuits_show_rounds.ensures f limit fairness count literals m fits
    writable asked.1 counts small in
    record {
      literals = literals;
      asked = asked.1;
      rounds = counts;
      small = small;
      again = written.0;
      shows = written.1;
      none = written.2;
    }
