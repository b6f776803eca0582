use Rattle.aig_base.proofs.Words.{inl}
use Rattle.aig_handles.proofs.reading.give_inputs.Goals as goal

pub returns : goal.returns
returns c =
    inl (record { items = c.inputs.result.now; are = c.inputs.ensures.value; given = c.give.ensures })
