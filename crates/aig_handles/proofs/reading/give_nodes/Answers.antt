use Rattle.aig_giving.proofs.Giving.{gives}
use Rattle.aig_handles.proofs.reading.give_nodes.Goals as goal

pub returns : goal.returns
returns c =
    gives _ _ c.node_list.result c.node_list.ensures.list c.node_list.ensures.refused c.give_made.ensures
