use Rattle.std.proofs.Common.{◌++◌, ◌∷◌, [], sym, ap, ◌∙◌}
use Rattle.aig_base.proofs.Cutting.{take-one}
use Rattle.aig_base.proofs.logic.clauses.to_far.Goals as goal

pub loop-i-preserved : goal.loop-i-preserved
loop-i-preserved c =
    let clause = c.clause.result.now in
    c.in_ok-push.ensures.ok
    ∙ ap (λ clauses. clauses ++ clause ∷ []) c.loop-i.invariant
    ∙ sym (take-one c.args.near.now c.loop-i.i clause c.clause.ensures)
