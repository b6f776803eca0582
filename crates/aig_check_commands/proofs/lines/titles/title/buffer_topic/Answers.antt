use Rattle.aig_check_commands.proofs.lines.titles.title.buffer_topic.Goals as goal

pub returns-in-Obligations : goal.returns-in-Obligations
returns-in-Obligations g c = rw c.in-Obligations.is c.write_bytes.ensures

pub returns-in-Obligation : goal.returns-in-Obligation
returns-in-Obligation g c = rw c.in-Obligation.is c.buffer_condition.ensures
