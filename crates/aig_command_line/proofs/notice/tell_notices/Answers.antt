use Rattle.aig_command_line.specs.Notices.{tells_line}
use Rattle.aig_command_line.proofs.Telling.{folds_on}
use Rattle.aig_command_line.proofs.notice.tell_notices.Goals as goal

pub returns : goal.returns
returns g c =
    rw (c.in-Some.is, ← c.leaves_out.ensures, ← c.compares_within.ensures)
    (folds_on (tells_line g.T.Teller.tells) _ _ _ _ _ c.tell_if.ensures c.tell_if-2.ensures)
