use Rattle.std.proofs.Common.{◌≡◌, ◌<◌, ◌≤◌, ◌+◌, ◌++◌, ◌∷◌, [], length, ap, ◌∙◌, arith}
use Rattle.aig_base.proofs.Cutting.{cut-push, IsCut-push}
use Rattle.aig_base.proofs.logic.near_clauses.NearClauses.push.Goals as goal

pub invariant_of-self : goal.invariant_of-self
invariant_of-self c =
    let a = c.self.inside in
    let room : a.clauses < length a.ends = omega arith in
    let same : length c.write_after.new.literals ≡ length a.literals = omega arith in
    let fits : a.used + length c.args.clause.now ≤ length a.literals = omega arith in
    IsCut-push a.ends a.literals c.write_after.new.literals a.clauses a.used (length c.args.clause.now) c.self.invariant room same fits

pub returns : goal.returns
returns c =
    let a = c.self.inside in
    let room : a.clauses < length a.ends = omega arith in
    cut-push a.ends a.literals c.args.clause.now c.write_after.new.literals a.clauses a.used c.self.invariant room c.write_after.ensures
    ∙ ap (λ clauses. clauses ++ c.args.clause.now ∷ []) c.self.view_is
