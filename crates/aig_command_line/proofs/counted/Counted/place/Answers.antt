use Rattle.aig_command_line.proofs.Counting.{placed}
use Rattle.aig_command_line.proofs.counted.Counted.place.Goals as goal

pub returns : goal.returns
returns g c = placed _ _ _ c.args.self.now.tally c.args.measure c.place.result c.args.self.now.came
    c.place.ensures
