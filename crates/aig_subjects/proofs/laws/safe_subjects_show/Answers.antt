use Rattle.aig_subjects.proofs.Safe.{Known, always_shows, step_exact, step_shows}
use Rattle.aig_subjects.proofs.laws.safe_subjects_show.Goals as goal

pub returns : goal.returns
returns c =
    let known : Known = record {
      machines = c.safe_circuits_are_safe_machines.ensures;
      written = c.written_circuits_have_witnesses.ensures;
      lassos = c.fair_runs_are_lassos.ensures;
      certify = c.witness_files_certify.ensures.step;
    } in
    record {
      step = λ subject files limit k m low are is. step_shows known limit low subject files k m are is;
      exact = λ subject files limit k m low are is. step_exact known limit low subject files k m are is;
      always = λ subject files limit m low are is. always_shows known limit low subject files m are is;
    }
