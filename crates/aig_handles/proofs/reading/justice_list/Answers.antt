use Rattle.aig_handles.proofs.Places.{justice_there}
use Rattle.aig_handles.proofs.reading.justice_list.Goals as goal

pub literal_list-requires : goal.literal_list-requires
literal_list-requires c =
    justice_there _ c.justice.ensures.circuit c.args.i c.justice_set.result.now c.justice_set.ensures
