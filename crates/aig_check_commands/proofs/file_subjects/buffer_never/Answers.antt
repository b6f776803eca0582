use Rattle.aig_check_commands.proofs.file_subjects.buffer_never.Goals as goal

pub returns-in-Outputs : goal.returns-in-Outputs
returns-in-Outputs g c = rw c.in-Outputs.is c.write_bytes.ensures
