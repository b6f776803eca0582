use Rattle.aig_base.proofs.Words.{arith}
use Rattle.aig_check_commands.proofs.Opened.{only_one}
use Rattle.aig_check_commands.proofs.checks.running.only.Goals as goal

pub returns : goal.returns
returns g c =
    only_one c.pop.new.self.items c.in-Some.file _ c.in-Some.ensures.items
    (omega (arith, c.requires))
