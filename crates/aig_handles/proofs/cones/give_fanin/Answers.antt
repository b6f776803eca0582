use Rattle.aig_giving.proofs.Giving.{gives}
use Rattle.aig_handles.proofs.cones.give_fanin.Goals as goal

pub returns : goal.returns
returns c =
    gives _ _ c.fanin_marks.result c.fanin_marks.ensures.marks c.fanin_marks.ensures.refused c.give_made.ensures
