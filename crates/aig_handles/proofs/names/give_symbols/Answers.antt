use Rattle.aig_giving.proofs.Giving.{gives}
use Rattle.aig_handles.proofs.names.give_symbols.Goals as goal

pub returns : goal.returns
returns c =
    gives _ _ c.named_list.result c.named_list.ensures.list c.named_list.ensures.refused c.give_made.ensures
