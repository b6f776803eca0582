use Rattle.aig_answers.proofs.Words.{◌≤◌, ◌^◌, length, subst, sym, Circuit}
use Rattle.aig_answers.proofs.unrolled.unrolled_query.Goals as goal

pub query_between-requires-clause-few : goal.query_between-requires-clause-few
query_between-requires-clause-few c =
    subst (λ (d : Circuit). length d.nodes ≤ 2 ^ 31) (sym c.unrolled.ensures.value) c.requires

pub query_between-requires-clause-unrolls : goal.query_between-requires-clause-unrolls
query_between-requires-clause-unrolls c =
    rw (c.unrolled.ensures.value, c.circuit-circuit.ensures.value, c.steps.ensures.value)
    c.unrolled.ensures.unrolled.steps

pub returns : goal.returns
returns c =
    rw (c.unrolled.ensures.value, c.circuit-circuit.ensures.value, c.steps.ensures.value)
    at c.query_between.ensures
