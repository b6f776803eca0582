use Rattle.aig_command_line.proofs.Counting.{came_with}
use Rattle.aig_command_line.proofs.counted.CountedSource.pull.Goals as goal

pub invariant_of-self-in-Ok-Some : goal.invariant_of-self-in-Ok-Some
invariant_of-self-in-Ok-Some g c =
    let step = rw c.in-Ok-Some.field-0-is at c.in-Ok-Some.ensures.steps in
    record {
      came = came_with _ c.with-self.result _ _ _ _ c.in-Ok-Some.byte c.args.self.now.came
          c.if-self.false c.with-self.ensures step.consumed;
    }
