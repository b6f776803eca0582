use Rattle.aig_giving.proofs.Giving.{gives}
use Rattle.aig_handles.proofs.files.write_text.Goals as goal

pub returns : goal.returns
returns c =
    gives _ _ c.text.result c.text.ensures.form c.text.ensures.refused c.give_made.ensures
