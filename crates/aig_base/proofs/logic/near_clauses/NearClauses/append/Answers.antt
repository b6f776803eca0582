use Rattle.std.proofs.Common.{◌++◌, ◌∷◌, [], take, sym, ap, ◌∙◌, append_assoc}
use Rattle.aig_base.proofs.Cutting.{take-one}
use Rattle.aig_base.proofs.logic.near_clauses.NearClauses.append.Goals as goal

pub loop-i-preserved : goal.loop-i-preserved
loop-i-preserved c =
    let clause = c.clause.result.now in
    let others = c.args.others.now in
    c.if-not-push.ensures
    ∙ ap (λ clauses. clauses ++ clause ∷ []) c.loop-i.invariant
    ∙ append_assoc c.args.self.now (take c.loop-i.i others) (clause ∷ [])
    ∙ ap (λ more. c.args.self.now ++ more) (sym (take-one others c.loop-i.i clause c.clause.ensures))
