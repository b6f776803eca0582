use Rattle.std.proofs.Common.{◌≡◌, ◌+◌, ◌≤◌, vec_capacity, vec_len}
use Rattle.aig_answers.specs.Plans.{step_questions}
use Rattle.aig_answers.proofs.goals.goal.plan_each.Given as goal

abbrev pub invariant-loop-n : goal.invariant-loop-n
invariant-loop-n l =
    (l.plan.items ≡ step_questions l.n l.base_optimize)
    × (vec_len l.plan + (l.k + 2) ≤ vec_capacity l.plan + l.n)
