use Rattle.aig_base.proofs.Words.{arith, map, string_bytes}
use Rattle.aig_command_line.specs.Arguments.{Arguments, GivesArguments}
use Rattle.aig_command_line.proofs.Apart.{holds_more}
use Rattle.aig_command_line.proofs.command.find.Goals as goal

pub loop-action-preserved : goal.loop-action-preserved
loop-action-preserved g c =
    holds_more (λ action. (a : Arguments) → ¬ GivesArguments (g.A.HasArguments.name action)
    (g.A.HasArguments.form action) (map string_bytes c.args.words.now) a)
    c.args.all.now c.loop-action.action-index c.action-item.result c.loop-action-test.true c.action-item.is c.loop-action.invariant
    (rw (c.name.ensures, c.form.ensures) at c.in_default.ensures.none)

pub returns-clause-none : goal.returns-clause-none
returns-clause-none g c k d low =
    c.loop-action.invariant k d (omega (arith, c.loop-action-test.false, low))
