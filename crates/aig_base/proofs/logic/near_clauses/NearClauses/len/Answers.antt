use Rattle.std.proofs.Common.{length, sym, ap, ◌∙◌}
use Rattle.aig_base.proofs.Cutting.{length-cut}
use Rattle.aig_base.proofs.logic.near_clauses.NearClauses.len.Goals as goal

pub returns-clause-count : goal.returns-clause-count
returns-clause-count c =
    let a = c.self.inside in
    sym (length-cut a.ends a.literals a.clauses a.used c.self.invariant) ∙ ap length c.self.view_is
