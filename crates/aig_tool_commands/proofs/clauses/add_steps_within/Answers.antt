use Rattle.aig_base.proofs.Words.{refl}
use Rattle.aig_tool_commands.proofs.clauses.add_steps_within.Goals as goal

pub returns : goal.returns
returns c =
    let within = rw c.new.ensures at c.if-not-is_within.ensures in
    (c.in_ok-new.ensures, within.0 refl)
