use Rattle.aig_giving.proofs.Giving.{gives}
use Rattle.aig_handles.proofs.reading.give_justice.Goals as goal

pub returns : goal.returns
returns c =
    gives _ _ c.justice_list.result c.justice_list.ensures.list c.justice_list.ensures.refused c.give_made.ensures
