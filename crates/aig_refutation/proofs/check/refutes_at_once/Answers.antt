use Rattle.aig_base.proofs.Words.{ℕ, ap, ◌∙◌, ◌==◌}
use Rattle.aig_refutation.proofs.Conflicts.{concludes_conflict, formula_finds}
use Rattle.aig_refutation.proofs.check.refutes_at_once.Goals as goal

pub returns-clause-conflict : goal.returns-clause-conflict
returns-clause-conflict c formula =
    let checker = c.args.checker.now in
    let hints = c.in_ok-hints.hints in
    let finds = formula_finds checker formula c.clauses.result.now c.clauses.ensures
    c.variables.result c.variables.ensures hints.items c.in_ok-hints.ensures in
    concludes_conflict checker.table.clauses hints.items finds _
    (c.is_empty.ensures ∙ ap (λ (n : ℕ). n == 0) hints.ok.0)
