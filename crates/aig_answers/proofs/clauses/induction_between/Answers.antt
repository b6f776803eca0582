use Rattle.aig_answers.proofs.Words.{◌≡◌, ◌+◌, ◌*◌, length, sym, ap, ◌∙◌, arith, add-mul, bads_count}
use Rattle.aig_answers.proofs.clauses.induction_between.Goals as goal

pub overflow_mul-first : goal.overflow_mul-first
overflow_mul-first c =
    let p = length c.bads.result.now in
    let same : p ≡ length c.args.circuit.now.properties.bads = ap length c.bads.ensures.value in
    let all : length c.args.unrolled.now.properties.bads ≡ (c.args.k + 1 + 1) * p = bads_count c.args.circuit.now c.args.unrolled.now (c.args.k + 1) c.requires.unrolls ∙ ap (λ n. (c.args.k + 1 + 1) * n) (sym same) in
    let long : length c.bads-bads.result.now ≡ length c.args.unrolled.now.properties.bads = ap length c.bads-bads.ensures.value in
    omega (arith, all, long, c.bads-bads.type_inv.0, add-mul (c.args.k + 1) 1 p)

pub induction_over-requires-clause-first : goal.induction_over-requires-clause-first
induction_over-requires-clause-first c =
    let p = length c.bads.result.now in
    let same : p ≡ length c.args.circuit.now.properties.bads = ap length c.bads.ensures.value in
    let all : length c.args.unrolled.now.properties.bads ≡ (c.args.k + 1 + 1) * p = bads_count c.args.circuit.now c.args.unrolled.now (c.args.k + 1) c.requires.unrolls ∙ ap (λ n. (c.args.k + 1 + 1) * n) (sym same) in
    let long : length c.bads-bads.result.now ≡ length c.args.unrolled.now.properties.bads = ap length c.bads-bads.ensures.value in
    omega (arith, all, long, add-mul (c.args.k + 1) 1 p)
