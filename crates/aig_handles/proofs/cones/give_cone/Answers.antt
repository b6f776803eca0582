use Rattle.aig_giving.proofs.Giving.{gives}
use Rattle.aig_handles.proofs.cones.give_cone.Goals as goal

pub returns : goal.returns
returns c =
    gives _ _ c.cone_marks.result c.cone_marks.ensures.marks c.cone_marks.ensures.refused c.give_made.ensures
