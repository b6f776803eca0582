use Rattle.std.proofs.Common.{length, sym, ap, ◌∙◌}
use Rattle.aig_base.proofs.Cutting.{length-cut_at}
use Rattle.aig_base.proofs.logic.far_clauses.FarClauses.len.Goals as goal

pub returns-clause-count : goal.returns-clause-count
returns-clause-count c = c.len.ensures ∙ c.self.inside.ends.ok.0 ∙ sym (length-cut_at 0 c.self.inside.ends.items c.self.inside.literals.items) ∙ ap length c.self.view_is
