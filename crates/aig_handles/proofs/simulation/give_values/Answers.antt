use Rattle.aig_giving.proofs.Giving.{gives}
use Rattle.aig_handles.proofs.simulation.give_values.Goals as goal

pub returns : goal.returns
returns c =
    gives _ _ c.value_numbers.result c.value_numbers.ensures.values c.value_numbers.ensures.refused c.give_made.ensures
