use Rattle.aig_handles.proofs.Refusals.{none_of}
use Rattle.aig_handles.proofs.connectives.join.Goals as goal

pub returns-in-And-clause-memory : goal.returns-in-And-clause-memory
returns-in-And-clause-memory c =
    rw c.in-And.is (none_of _ c.new_and_node.result c.new_and_node.ensures.folds)

pub returns-in-Or-clause-memory : goal.returns-in-Or-clause-memory
returns-in-Or-clause-memory c =
    rw c.in-Or.is (none_of _ c.new_or_node.result c.new_or_node.ensures.folds)

pub returns-in-Imply-clause-memory : goal.returns-in-Imply-clause-memory
returns-in-Imply-clause-memory c =
    rw c.in-Imply.is (none_of _ c.new_imply_node.result c.new_imply_node.ensures.folds)
