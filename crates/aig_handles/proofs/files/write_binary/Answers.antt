use Rattle.aig_giving.proofs.Giving.{gives}
use Rattle.aig_handles.proofs.files.write_binary.Goals as goal

pub returns : goal.returns
returns c =
    gives _ _ c.binary.result c.binary.ensures.form c.binary.ensures.refused c.give_made.ensures
