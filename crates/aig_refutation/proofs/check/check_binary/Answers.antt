use Rattle.aig_base.proofs.Words.{Bool, true, false, Ok, subst, err_from_is_err_and}
use Rattle.aig_lexer.specs.Takes.{feed}
use Rattle.aig_refutation.specs.Kept.{KeepsOrEnds}
use Rattle.aig_refutation.specs.Taken.{CanHold}
use Rattle.aig_refutation.proofs.BinarySteps.{binary_stays}
use Rattle.aig_refutation.proofs.Showing.{ok_on}
use Rattle.aig_refutation.proofs.check.check_binary.Goals as goal

pub returns-in_err-start_search-clause-plain : goal.returns-in_err-start_search-clause-plain
returns-in_err-start_search-clause-plain g c clauses ahead =
    let before = feed g.R.Source.left g.R.Source.failed g.R.Source.pulls c.args.buffer.now
    c.args.r.now in
    let e = c.in_err-start_search.field-0.0 in
    let p = err_from_is_err_and c.from_residual-in_err-start_search.result
    c.from_residual-in_err-start_search.ensures.1 in
    rw (p.1, p.2) (binary_stays before c.args.variables clauses e
    (c.in_err-start_search.ensures.ahead clauses ahead))

pub returns-in_err-add_empty-clause-plain : goal.returns-in_err-add_empty-clause-plain
returns-in_err-add_empty-clause-plain g c clauses ahead =
    let before = feed g.R.Source.left g.R.Source.failed g.R.Source.pulls c.args.buffer.now
    c.args.r.now in
    let e = c.in_err-add_empty.field-0.0 in
    let p = err_from_is_err_and c.from_residual-in_err-add_empty.result
    c.from_residual-in_err-add_empty.ensures.1 in
    rw (p.1, p.2) (binary_stays before c.args.variables clauses e
    (c.in_err-add_empty.ensures.ahead clauses
    (c.in_ok-start_search.ensures.ahead clauses ahead)))

pub returns-clause-plain : goal.returns-clause-plain
returns-clause-plain g c clauses ahead =
    c.take_binary.ensures.plain clauses
    (c.in_ok-add_empty.ensures.ahead clauses (c.in_ok-start_search.ensures.ahead clauses ahead))

pub returns-then-branch-clause-fails : goal.returns-then-branch-clause-fails
returns-then-branch-clause-fails g c live h = λ can.
    let now = c.in_ok-start_search.ensures.keeps live h in
    let t = c.add_empty.new.checker.table in
    let ends : KeepsOrEnds now.0 t (Ok true) = subst (λ (b : Bool). KeepsOrEnds now.0 t (Ok b))
    c.if-branch.true (c.in_ok-add_empty.ensures.keeps now.0 now.1) in
    ends (now.2 can)

pub returns-clause-fails : goal.returns-clause-fails
returns-clause-fails g c live h =
    let begun = c.in_ok-start_search.ensures.keeps live h in
    let t = c.add_empty.new.checker.table in
    let now : KeepsOrEnds begun.0 t (Ok false) = subst (λ (b : Bool). KeepsOrEnds begun.0 t (Ok b))
    c.if-branch.false (c.in_ok-add_empty.ensures.keeps begun.0 begun.1) in
    ok_on c.take_binary.result (¬ CanHold now.0) (¬ CanHold live)
    (λ fails can. fails (now.2 (begun.2 can))) (c.take_binary.ensures.fails now.0 now.1)
