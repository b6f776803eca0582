use Rattle.aig_answers.proofs.PlanInstances.{certified_covers, each_covers, to_covers}
use Rattle.aig_answers.proofs.plans.laws.command_plans_cover.Goals as goal

pub returns-clause-to : goal.returns-clause-to
returns-clause-to c = to_covers

pub returns-clause-each : goal.returns-clause-each
returns-clause-each c = each_covers

pub returns-clause-certified : goal.returns-clause-certified
returns-clause-certified c = certified_covers
