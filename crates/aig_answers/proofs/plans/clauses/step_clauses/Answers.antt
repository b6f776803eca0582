use Rattle.aig_base.proofs.Words.{IfOk-weaker}
use Rattle.aig_answers.proofs.plans.clauses.step_clauses.Goals as goal

pub returns : goal.returns
returns c =
    IfOk-weaker c.query_between.result _ _ (λ made asks. (c.new.result, asks))
    c.query_between.ensures
