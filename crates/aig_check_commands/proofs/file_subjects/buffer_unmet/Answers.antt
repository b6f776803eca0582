use Rattle.aig_base.proofs.Words.{inl, inr}
use Rattle.aig_check_commands.proofs.file_subjects.buffer_unmet.Goals as goal

pub returns-in-Refuted : goal.returns-in-Refuted
returns-in-Refuted g c = rw c.in-Refuted.is c.buffer_about.ensures

pub returns-in-Inductive : goal.returns-in-Inductive
returns-in-Inductive g c = rw c.in-Inductive.is c.buffer_about-in-Inductive.ensures

pub returns-in-RefutedTo : goal.returns-in-RefutedTo
returns-in-RefutedTo g c = elim c.in-RefutedTo.is [
  | inl to ↦ rw to.1 c.write_bytes.ensures
  | inr (inl safe) ↦ rw safe.2 c.write_bytes.ensures
  | inr (inr each) ↦ rw each.2 c.write_bytes.ensures
]
