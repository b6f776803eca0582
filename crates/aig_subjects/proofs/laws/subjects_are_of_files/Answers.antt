use Rattle.aig_subjects.proofs.OfFiles.{subject_file}
use Rattle.aig_subjects.proofs.Safe.{machine_is}
use Rattle.aig_subjects.proofs.laws.subjects_are_of_files.Goals as goal

pub returns : goal.returns
returns c = λ subject files limit m low are is.
    let of = subject_file c.written_witnesses_certify.ensures limit low subject files m are is in
    (of.file, of.bound, of.accepts.1, of.of, machine_is c.safe_circuits_are_safe_machines.ensures m of)
