use Rattle.aig_giving.proofs.Giving.{gives}
use Rattle.aig_handles.proofs.reading.give_latchs.Goals as goal

pub returns : goal.returns
returns c =
    gives _ _ c.latch_list.result c.latch_list.ensures.list c.latch_list.ensures.refused c.give_made.ensures
