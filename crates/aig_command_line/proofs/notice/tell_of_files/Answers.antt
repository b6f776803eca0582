use Rattle.aig_command_line.specs.Notices.{tells_line}
use Rattle.aig_command_line.proofs.Telling.{folds_on}
use Rattle.aig_command_line.proofs.notice.tell_of_files.Goals as goal

pub returns : goal.returns
returns g c = folds_on (tells_line g.T.Teller.tells) _ _ _ _ _ c.tell_at.ensures c.tell_at-2.ensures
