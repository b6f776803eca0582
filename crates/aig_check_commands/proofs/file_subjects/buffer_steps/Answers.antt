use Rattle.aig_base.proofs.Words.{inl, inr}
use Rattle.aig_check_commands.proofs.file_subjects.buffer_steps.Goals as goal

pub returns-in-Inductive : goal.returns-in-Inductive
returns-in-Inductive g c = rw c.in-Inductive.is c.buffer_line-in-Inductive.ensures

pub returns-in-Safe : goal.returns-in-Safe
returns-in-Safe g c = elim c.in-Safe.is [
  | inl safe ↦ rw safe.2 c.write_bytes.ensures
  | inr each ↦ rw each.2 c.write_bytes.ensures
]
