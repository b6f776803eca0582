use Rattle.std.proofs.Common.{◌++◌, ◌∷◌, [], sym, ap, ◌∙◌}
use Rattle.aig_base.specs.Place.{clauses_at}
use Rattle.aig_base.proofs.logic.clauses.LitVvec.push.Goals as goal

pub returns-clause-ok : goal.returns-clause-ok
returns-clause-ok c =
    c.in_ok-push.ensures.ok
    ∙ ap (λ clauses. clauses ++ c.args.clause.now ∷ []) (c.in_ok-far-in-Near.ensures ∙ c.if-push.ensures ∙ sym (ap clauses_at c.in-Near.is) ∙ c.self.view_is)
