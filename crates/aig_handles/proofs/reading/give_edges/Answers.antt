use Rattle.aig_giving.proofs.Giving.{gives}
use Rattle.aig_handles.proofs.reading.give_edges.Goals as goal

pub returns : goal.returns
returns c =
    gives _ _ c.entry_list.result c.entry_list.ensures.list c.entry_list.ensures.refused c.give_made.ensures
