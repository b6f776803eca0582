use Rattle.std.proofs.Common.{◌<◌, ◌≤◌, length, get_or, slice_get, rules, sym, ap, ◌∙◌, arith}
use Rattle.aig_base.proofs.Cutting.{length-cut, cut_bounds, get-cut}
use Rattle.aig_base.proofs.logic.near_clauses.NearClauses.clause.Goals as goal

pub start-requires : goal.start-requires
start-requires c =
    let a = c.self.inside in
    omega (arith, c.requires, ap length c.self.view_is, length-cut a.ends a.literals a.clauses a.used c.self.invariant, c.self.invariant.clauses_few)

pub bounds-self-inside-i : goal.bounds-self-inside-i
bounds-self-inside-i c =
    let a = c.self.inside in
    omega (arith, c.requires, ap length c.self.view_is, length-cut a.ends a.literals a.clauses a.used c.self.invariant, c.self.invariant.clauses_few)

pub slice_bounds-result-count : goal.slice_bounds-result-count
slice_bounds-result-count c =
    let a = c.self.inside in
    let there : c.args.i < a.clauses = omega (arith, c.requires, ap length c.self.view_is, length-cut a.ends a.literals a.clauses a.used c.self.invariant) in
    rw c.start.ensures (cut_bounds a.ends a.literals a.clauses a.used c.args.i c.self.invariant there).0

pub slice_bounds-result-start : goal.slice_bounds-result-start
slice_bounds-result-start c =
    let a = c.self.inside in
    let there : c.args.i < a.clauses = omega (arith, c.requires, ap length c.self.view_is, length-cut a.ends a.literals a.clauses a.used c.self.invariant) in
    let bounds = cut_bounds a.ends a.literals a.clauses a.used c.args.i c.self.invariant there in
    search rules

pub slice_bounds-result-end : goal.slice_bounds-result-end
slice_bounds-result-end c =
    let a = c.self.inside in
    let there : c.args.i < a.clauses = omega (arith, c.requires, ap length c.self.view_is, length-cut a.ends a.literals a.clauses a.used c.self.invariant) in
    let bounds = cut_bounds a.ends a.literals a.clauses a.used c.args.i c.self.invariant there in
    let last : get_or a.ends c.args.i 0 ≤ 12 = omega (arith, bounds.1, c.self.invariant.used_few) in
    search rules

pub returns : goal.returns
returns c =
    let a = c.self.inside in
    let there : c.args.i < a.clauses = omega (arith, c.requires, ap length c.self.view_is, length-cut a.ends a.literals a.clauses a.used c.self.invariant) in
    rw c.start.ensures (ap (λ clauses. slice_get clauses c.args.i) (sym c.self.view_is) ∙ get-cut a.ends a.literals a.clauses a.used c.args.i c.self.invariant there)
