use Rattle.aig_base.proofs.Words.{IfOk-weaker}
use Rattle.aig_answers.proofs.plans.clauses.start_clauses.Goals as goal

pub returns : goal.returns
returns c =
    IfOk-weaker c.query_between.result _ _ (λ made asks. (c.args.unrolled.now, asks))
    c.query_between.ensures
