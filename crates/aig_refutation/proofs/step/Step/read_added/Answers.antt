use Rattle.aig_base.proofs.Words.{ℕ, Bool, List, [], Err, refl, err_from_is_err_and}
use Rattle.aig_base.specs.declared.logic.literal.Lit.{Lit}
use Rattle.aig_refutation.specs.declared.error.RefutationError.TheVariants as errors
use Rattle.aig_refutation.specs.declared.words.Word.TheVariants as words
use Rattle.aig_refutation.specs.Proofs.{Line, Plain, Numbered, adds, groups_at, hint_number, hints_at}
use Rattle.aig_refutation.specs.Reading.{reads_added, reads_clause, reads_hints, said_by}
use Rattle.aig_refutation.specs.Steps.{Step, Adds, Learns}
use Rattle.aig_refutation.specs.Tokens.{next_in, place, said_number, said_numbers}
use Rattle.aig_refutation.proofs.LineForms.{added_after, added_clause, added_clause_wrong, added_hints, added_letter, added_refused, added_wrong, numbers_step, numbers_step_err, numbers_step_ok}
use Rattle.aig_refutation.proofs.NextSteps.{clause_ends}
use Rattle.aig_refutation.proofs.ReadersInTurn.{Reader, gives_after, gives_same, gives_wrong, on_on, on_read, part_wrong}
use Rattle.aig_refutation.proofs.step.Step.read_added.Goals as goal

abbrev no_step : Line
no_step = Plain (Learns [])

-- hints and those for other clauses, and a step that has them
abbrev parted_of : List (Bool × ℕ) → List ℕ × List (Bool × ℕ)
parted_of numbers = (hints_at numbers, groups_at numbers)

abbrev adds_of : ℕ → List Lit → List ℕ × List (Bool × ℕ) → Step
adds_of k clause hints = Adds k clause hints.0 hints.1

pub returns-in_err-read_clause-clause-step : goal.returns-in_err-read_clause-clause-step
returns-in_err-read_clause-clause-step g c is_added no_clause no_numbers no_groups =
    let at = place g.R.Source.left g.R.Source.failed g.R.Source.pulls in
    let before = at c.args.words.now c.args.r.now in
    let p1 = at c.read_clause.new.words c.read_clause.new.r in
    let numbered = c.args.self.now.is_numbered in
    let variables = c.args.variables in
    let n = said_number c.args.first in
    let second = said_number c.args.second in
    let q = reads_added numbered variables n second in
    let rc = reads_clause variables second [] in
    let clause = c.read_clause.new.clause.items in
    let view = λ (done : Unit {0}). no_step in
    let e = c.in_err-read_clause.field-0.0 in
    let given = rw no_clause at c.in_err-read_clause.ensures.clause in
    let p = err_from_is_err_and c.from_residual.result c.from_residual.ensures.1 in
    rw (p.1, p.2) (part_wrong rc q before p1 p1 (λ (done : Unit {0}). clause) view e given (λ last
    ws. added_clause_wrong numbered variables n last second ws e))

pub returns-in_err-hint-clause-step : goal.returns-in_err-hint-clause-step
returns-in_err-hint-clause-step g c is_added no_clause no_numbers no_groups =
    let at = place g.R.Source.left g.R.Source.failed g.R.Source.pulls in
    let before = at c.args.words.now c.args.r.now in
    let p1 = at c.read_clause.new.words c.read_clause.new.r in
    let numbered = c.args.self.now.is_numbered in
    let variables = c.args.variables in
    let n = said_number c.args.first in
    let second = said_number c.args.second in
    let q = reads_added numbered variables n second in
    let rc = reads_clause variables second [] in
    let clause = c.read_clause.new.clause.items in
    let p2 = at c.next.new.self c.next.new.r in
    let s1 = added_after numbered variables n clause in
    let given = rw no_clause at c.in_ok-read_clause.ensures.clause in
    let goes = on_read q s1 before p1 p1 rc clause given (λ last ws more. added_clause numbered
    variables n last second ws more clause) in
    let view = λ (done : Unit {0}). no_step in
    let e = c.in_err-hint.field-0.0 in
    let p = err_from_is_err_and c.from_residual-in_err-hint.result
    c.from_residual-in_err-hint.ensures.1 in
    rw (p.1, p.2)
    (gives_after q s1 before p1 p2 view (Err e) goes (part_wrong next_in s1 p1 p2 p2 (λ w. w) view
    e c.in_err-hint.ensures.word (λ last ws. added_wrong numbered variables n last clause ws
    e)))

pub returns-in_err-self-in-Number-clause-step : goal.returns-in_err-self-in-Number-clause-step
returns-in_err-self-in-Number-clause-step g c is_added no_clause no_numbers no_groups =
    let at = place g.R.Source.left g.R.Source.failed g.R.Source.pulls in
    let before = at c.args.words.now c.args.r.now in
    let p1 = at c.read_clause.new.words c.read_clause.new.r in
    let numbered = c.args.self.now.is_numbered in
    let variables = c.args.variables in
    let n = said_number c.args.first in
    let second = said_number c.args.second in
    let q = reads_added numbered variables n second in
    let rc = reads_clause variables second [] in
    let clause = c.read_clause.new.clause.items in
    let p2 = at c.next.new.self c.next.new.r in
    let s1 = added_after numbered variables n clause in
    let given = rw no_clause at c.in_ok-read_clause.ensures.clause in
    let goes = on_read q s1 before p1 p1 rc clause given (λ last ws more. added_clause numbered
    variables n last second ws more clause) in
    let view = λ (done : Unit {0}). no_step in
    let hint = c.in-Number.hint in
    let e = c.in_err-self-in-Number.field-0.0 in
    let s : Reader Line = λ last ws. Err e in
    let p = err_from_is_err_and c.from_residual-in_err-self-in-Number.result
    c.from_residual-in_err-self-in-Number.ensures.1 in
    rw (p.1, p.2)
    (gives_after q s1 before p1 p2 view (Err e) goes
    (gives_wrong s1 s p1 p2 p2 view e
    (on_read s1 s p1 p2 p2 next_in (words.Number hint) (rw c.in-Number.is at
    c.in_ok-hint.ensures.word) (λ last ws more is. added_refused numbered variables n last
    clause ws more hint is e c.in_err-self-in-Number.ensures.number))
    (λ last ws. refl)))

pub returns-in_ok-self-in-Number-clause-step : goal.returns-in_ok-self-in-Number-clause-step
returns-in_ok-self-in-Number-clause-step g c is_added no_clause no_numbers no_groups =
    let at = place g.R.Source.left g.R.Source.failed g.R.Source.pulls in
    let before = at c.args.words.now c.args.r.now in
    let p1 = at c.read_clause.new.words c.read_clause.new.r in
    let numbered = c.args.self.now.is_numbered in
    let variables = c.args.variables in
    let n = said_number c.args.first in
    let second = said_number c.args.second in
    let q = reads_added numbered variables n second in
    let rc = reads_clause variables second [] in
    let clause = c.read_clause.new.clause.items in
    let p2 = at c.next.new.self c.next.new.r in
    let s1 = added_after numbered variables n clause in
    let given = rw no_clause at c.in_ok-read_clause.ensures.clause in
    let goes = on_read q s1 before p1 p1 rc clause given (λ last ws more. added_clause numbered
    variables n last second ws more clause) in
    let p3 = at c.read_hints.new.words c.read_hints.new.r in
    let hint = c.in-Number.hint in
    let m = said_number hint in
    let k = c.in_ok-self-in-Number.field-0 in
    let hints = c.read_hints.new.hints.items in
    let groups = said_numbers c.read_hints.new.groups.items in
    let s2 = numbers_step hint_number (adds k clause) m in
    let first : Unit {0} → List ℕ × List (Bool × ℕ) = λ done. (hints, groups) in
    let view = λ (done : Unit {0}). Numbered (Adds k clause hints groups) in
    let goes2 = on_on q s1 before p1 p2 s2 goes
    (on_read s1 s2 p1 p2 p2 next_in (words.Number hint) (rw c.in-Number.is at
    c.in_ok-hint.ensures.word) (λ last ws more is. added_hints numbered variables n last clause
    ws more hint is k c.in_ok-self-in-Number.ensures.number)) in
    rw is_added
    (gives_after q s2 before p2 p3 view c.read_hints.result goes2
    (gives_same (reads_hints m) s2 p2 p3 first view c.read_hints.result
    (c.read_hints.ensures.hints no_numbers no_groups)
    (λ last ws more done. numbers_step_ok hint_number (adds k clause) parted_of (adds_of k clause)
    (λ numbers. refl) m last ws (hints, groups) more)
    (λ last ws e. numbers_step_err hint_number (adds k clause) parted_of (adds_of k clause)
    (λ numbers. refl) m last ws e)))

pub returns-in-Deletes-clause-step : goal.returns-in-Deletes-clause-step
returns-in-Deletes-clause-step g c is_added no_clause no_numbers no_groups =
    let at = place g.R.Source.left g.R.Source.failed g.R.Source.pulls in
    let before = at c.args.words.now c.args.r.now in
    let p1 = at c.read_clause.new.words c.read_clause.new.r in
    let numbered = c.args.self.now.is_numbered in
    let variables = c.args.variables in
    let n = said_number c.args.first in
    let second = said_number c.args.second in
    let q = reads_added numbered variables n second in
    let rc = reads_clause variables second [] in
    let clause = c.read_clause.new.clause.items in
    let p2 = at c.next.new.self c.next.new.r in
    let s1 = added_after numbered variables n clause in
    let given = rw no_clause at c.in_ok-read_clause.ensures.clause in
    let goes = on_read q s1 before p1 p1 rc clause given (λ last ws more. added_clause numbered
    variables n last second ws more clause) in
    let view = λ (done : Unit {0}). no_step in
    let s : Reader Line = λ last ws. Err errors.Line in
    gives_after q s1 before p1 p2 view (Err errors.Line) goes
    (gives_wrong s1 s p1 p2 p2 view errors.Line
    (on_read s1 s p1 p2 p2 next_in words.Deletes (rw c.in-Deletes.is at c.in_ok-hint.ensures.word)
    (λ last ws more. added_letter numbered variables n last clause ws more))
    (λ last ws. refl))

pub returns-in-End-clause-step : goal.returns-in-End-clause-step
returns-in-End-clause-step g c is_added no_clause no_numbers no_groups =
    let at = place g.R.Source.left g.R.Source.failed g.R.Source.pulls in
    let before = at c.args.words.now c.args.r.now in
    let p1 = at c.read_clause.new.words c.read_clause.new.r in
    let numbered = c.args.self.now.is_numbered in
    let variables = c.args.variables in
    let n = said_number c.args.first in
    let second = said_number c.args.second in
    let q = reads_added numbered variables n second in
    let rc = reads_clause variables second [] in
    let clause = c.read_clause.new.clause.items in
    let p2 = at c.next.new.self c.next.new.r in
    let s1 = added_after numbered variables n clause in
    let given = rw no_clause at c.in_ok-read_clause.ensures.clause in
    let goes = on_read q s1 before p1 p1 rc clause given (λ last ws more. added_clause numbered
    variables n last second ws more clause) in
    let view = λ (done : Unit {0}). said_by c.end_clause.new.self in
    clause_ends numbered variables n clause c.in-End.end q before p1 p2 goes (rw c.in-End.is at
    c.in_ok-hint.ensures.word) view c.end_clause.result (c.end_clause.ensures.step is_added)
