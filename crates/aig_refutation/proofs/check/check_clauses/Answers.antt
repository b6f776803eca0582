use Rattle.aig_base.proofs.Words.{OnOk, ◌≡◌, ℕ, Bool, false, ◌++◌, List, Ok, length, sym, subst, ◌∙◌, err_from_is_err_and}
use Rattle.aig_base.specs.declared.logic.literal.Lit.{Lit}
use Rattle.aig_base.specs.Formula.{IsSatisfiable, clauses_in}
use Rattle.aig_refutation.specs.declared.error.RefutationError.TheVariants as errors
use Rattle.aig_refutation.specs.Checking.{IsInConflict, Shows, are_all_in}
use Rattle.aig_refutation.specs.Concluding.{ConcludesConflict}
use Rattle.aig_refutation.specs.Tokens.{TellsOfText}
use Rattle.aig_refutation.proofs.Formulas.{formula_inside, shows_conflict, shows_memory, shows_refused}
use Rattle.aig_refutation.proofs.Conflicts.{conflict_fails}
use Rattle.aig_refutation.proofs.check.check_clauses.Goals as goal

pub returns-in_err-number_clauses-clause-shown : goal.returns-in_err-number_clauses-clause-shown
returns-in_err-number_clauses-clause-shown g c formula same fresh =
    let clauses = clauses_in c.args.cnf.now ++ c.args.extra.now in
    let e = c.in_err-number_clauses.field-0.0 in
    let p = err_from_is_err_and c.from_residual.result c.from_residual.ensures.1 in
    rw (p.1, p.2)
    (shows_refused (length c.args.cnf.now) clauses (g.R.Source.left c.args.r.now) e (subst (λ (n :
    ℕ). TellsOfText e ((e ≡ errors.Variable) × (are_all_in n clauses ≡ false))) same
    (c.in_err-number_clauses.ensures.refused formula)))

pub returns-in_err-refutes_at_once-clause-shown : goal.returns-in_err-refutes_at_once-clause-shown
returns-in_err-refutes_at_once-clause-shown g c formula same fresh =
    let clauses = clauses_in c.args.cnf.now ++ c.args.extra.now in
    let e = c.in_err-refutes_at_once.field-0.0 in
    let p = err_from_is_err_and c.from_residual-in_err-refutes_at_once.result
    c.from_residual-in_err-refutes_at_once.ensures.1 in
    rw (p.1, p.2)
    (shows_memory (length c.args.cnf.now) clauses (g.R.Source.left c.args.r.now) e
    (c.in_err-refutes_at_once.ensures.conflict (c.in_ok-number_clauses.ensures.holds formula)))

pub returns-then-branch-clause-shown : goal.returns-then-branch-clause-shown
returns-then-branch-clause-shown g c formula same fresh =
    let clauses = clauses_in c.args.cnf.now ++ c.args.extra.now in
    let checker = c.number_clauses.new.checker in
    let holds = c.in_ok-number_clauses.ensures.holds formula in
    let list = c.in_ok-number_clauses.ensures.formula in
    let is : IsInConflict checker.table.clauses = subst (λ (b : Bool). ConcludesConflict
    checker.table.clauses (Ok b)) c.if-branch.true
    (c.in_ok-refutes_at_once.ensures.conflict holds) in
    let inside = formula_inside checker (length c.args.cnf.now) clauses holds
    (c.in_ok-number_clauses.ensures.variables ∙ same) list in
    shows_conflict (length c.args.cnf.now) clauses (g.R.Source.left c.args.r.now) inside
    (subst IsInConflict list is)

pub returns-clause-shown : goal.returns-clause-shown
returns-clause-shown g c formula same fresh =
    let clauses = clauses_in c.args.cnf.now ++ c.args.extra.now in
    let checker = c.number_clauses.new.checker in
    let holds = c.in_ok-number_clauses.ensures.holds formula in
    let list = c.in_ok-number_clauses.ensures.formula in
    let count = c.num_vars.ensures.count in
    let variables : checker.variables ≡ c.num_vars.result =
    c.in_ok-number_clauses.ensures.variables ∙ same ∙ sym count in
    let none : IsInConflict checker.table.clauses → ⊥ = subst (λ (b : Bool). ConcludesConflict
    checker.table.clauses (Ok b)) c.if-branch.false
    (c.in_ok-refutes_at_once.ensures.conflict holds) in
    subst (λ (n : ℕ). Shows n clauses (g.R.Source.left c.args.r.now) c.check_proof.result) count
    (c.check_proof.ensures.shown clauses fresh
    holds list variables
    (subst (λ (list : List (List Lit)). IsInConflict list → ⊥) list none))

pub returns-then-branch-clause-refuted : goal.returns-then-branch-clause-refuted
returns-then-branch-clause-refuted g c formula =
    let checker = c.number_clauses.new.checker in
    let holds = c.in_ok-number_clauses.ensures.holds formula in
    let is : IsInConflict checker.table.clauses = subst (λ (b : Bool). ConcludesConflict
    checker.table.clauses (Ok b)) c.if-branch.true
    (c.in_ok-refutes_at_once.ensures.conflict holds) in
    subst (λ (list : List (List Lit)). ¬ IsSatisfiable list)
    c.in_ok-number_clauses.ensures.formula
    (conflict_fails checker.table.clauses is)

pub returns-clause-refuted : goal.returns-clause-refuted
returns-clause-refuted g c formula =
    let holds = c.in_ok-number_clauses.ensures.holds formula in
    subst (λ (list : List (List Lit)). OnOk c.check_proof.result (¬ IsSatisfiable list))
    c.in_ok-number_clauses.ensures.formula
    (c.check_proof.ensures.refuted holds.holds)
