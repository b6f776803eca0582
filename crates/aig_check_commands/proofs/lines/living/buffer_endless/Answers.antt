use Rattle.aig_base.proofs.Words.{inl, inr}
use Rattle.aig_check_commands.proofs.lines.living.buffer_endless.Goals as goal

pub returns-in-Refuted : goal.returns-in-Refuted
returns-in-Refuted g c = rw c.in-Refuted.is c.buffer_about.ensures

pub returns-in-RefutedTo : goal.returns-in-RefutedTo
returns-in-RefutedTo g c = rw c.in-RefutedTo.is c.buffer_about-in-RefutedTo.ensures

pub returns-in-Inductive : goal.returns-in-Inductive
returns-in-Inductive g c = rw c.in-Inductive.is c.buffer_about-in-Inductive.ensures

pub returns-in-Safe : goal.returns-in-Safe
returns-in-Safe g c = elim c.in-Safe.is [
  | inl safe ↦ rw safe.2 c.write_bytes.ensures
  | inr each ↦ rw each.2 c.write_bytes.ensures
]
