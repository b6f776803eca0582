use Rattle.aig_giving.proofs.Giving.{gives}
use Rattle.aig_handles.proofs.reading.give_ands.Goals as goal

pub returns : goal.returns
returns c =
    gives _ _ c.gate_list.result c.gate_list.ensures.list c.gate_list.ensures.refused c.give_made.ensures
