use Rattle.aig_base.proofs.Words.{◌≡◌, length, sym, subst, IfOk, IfOk-weaker}
use Rattle.aig_base.specs.Clauses.{AreBelow}
use Rattle.aig_runs.proofs.Below.{query_below}
use Rattle.aig_runs.specs.Queries as queries
use Rattle.aig_runs.proofs.unrolled.Unrolled.query_clauses.Goals as goal

pub returns-clause-below : goal.returns-clause-below
returns-clause-below c =
    let u = c.args.self.now in
    let is = c.last_bads.ensures.unrolled in
    let exact : IfOk c.query_clauses.result
    (λ extra. extra ≡ queries.query_clauses u.circuit u.steps u.unrolled) = rw
    (c.latchs.ensures.value, c.constraints.ensures.value, c.last_bads.ensures.value, c.circuit-circuit.ensures.value, c.unrolled-unrolled.ensures.value)
    at c.query_clauses.ensures in
    IfOk-weaker c.query_clauses.result _ _
    (λ extra same. subst (AreBelow (length u.unrolled.nodes)) (sym same)
    (query_below u.circuit u.steps u.unrolled is.circuit is.unrolled is.steps.keeps.nodes.longer)) exact
