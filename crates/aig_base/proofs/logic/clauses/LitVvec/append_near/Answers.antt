use Rattle.std.proofs.Common.{◌++◌, sym, ap, ◌∙◌}
use Rattle.aig_base.specs.Place.{clauses_at}
use Rattle.aig_base.proofs.logic.clauses.LitVvec.append_near.Goals as goal

pub returns-clause-ok : goal.returns-clause-ok
returns-clause-ok c =
    c.if-append.ensures
    ∙ ap (λ clauses. clauses ++ c.args.others.now) (sym (ap clauses_at c.in-Near.is) ∙ c.self.view_is)
