use Rattle.aig_base.proofs.Words.{OnOk, ◌≡◌, Bool, true, false, None, Ok, Err, sym, ap, subst, ◌∙◌, err_from_is_err_and, false≢true}
use Rattle.aig_base.specs.Formula.{IsSatisfiable}
use Rattle.aig_refutation.specs.declared.error.RefutationError.TheVariants as errors
use Rattle.aig_refutation.specs.Checking.{all_live}
use Rattle.aig_refutation.specs.Concluding.{Concludes, ConcludesPlain, ShowsPlain, ShowsText, left_outcome, plain_left, text_outcome}
use Rattle.aig_refutation.specs.Proofs.{Line}
use Rattle.aig_refutation.specs.Kept.{KeepsOrEnds}
use Rattle.aig_refutation.specs.Reading.{GivesStep, said_by}
use Rattle.aig_refutation.specs.Tables.{Checked, Holds}
use Rattle.aig_refutation.specs.Taken.{CanHold}
use Rattle.aig_refutation.specs.Tokens.{place}
use Rattle.aig_refutation.specs.declared.step.Step as held
use Rattle.aig_refutation.proofs.Outcomes.{by_truth, text_none, text_numbered, text_unnumbered, text_wrong}
use Rattle.aig_refutation.proofs.Plainly.{first_none, first_numbered, first_plain, first_wrong, numbered_said, plain_same, shows_stays}
use Rattle.aig_refutation.proofs.Showing.{formula_holds, ok_on}
use Rattle.aig_refutation.proofs.check.check_steps.Goals as goal

pub returns-in_err-there-clause-shown : goal.returns-in_err-there-clause-shown
returns-in_err-there-clause-shown g c live goes_on fresh holds =
    let at = place g.R.Source.left g.R.Source.failed g.R.Source.pulls in
    let before = at c.args.words.now c.args.r.now in
    let after = at c.read.new.words c.read.new.r in
    let variables = c.args.variables in
    let step = c.read.new.self in
    let e = c.in_err-there.field-0.0 in
    let p = err_from_is_err_and c.from_residual.result c.from_residual.ensures.1 in
    let given : GivesStep false variables (said_by step) before after (Err e) = subst (λ (b : Bool).
    GivesStep b variables (said_by step) before after (Err e)) fresh c.in_err-there.ensures.step in
    rw (p.1, p.2) (text_wrong variables live before goes_on (said_by step) after e given)

pub returns-in_err-search-clause-shown : goal.returns-in_err-search-clause-shown
returns-in_err-search-clause-shown g c live goes_on fresh holds =
    let at = place g.R.Source.left g.R.Source.failed g.R.Source.pulls in
    let before = at c.args.words.now c.args.r.now in
    let after = at c.read.new.words c.read.new.r in
    let variables = c.args.variables in
    let step = c.read.new.self in
    let given : GivesStep false variables (said_by step) before after (Ok c.in_ok-there.there) =
    subst (λ (b : Bool). GivesStep b variables (said_by step) before after (Ok
    c.in_ok-there.there)) fresh c.in_ok-there.ensures.step in
    by_truth (ShowsText before.feed (text_outcome variables live)
    c.from_residual-in_err-search.result) step.is_numbered
    (λ n. let wrong = (c.in_err-search.ensures.numbered n).1 in absurd cc)
    (λ n. text_unnumbered variables live before goes_on step after n c.in_ok-there.there given
    c.from_residual-in_err-search.result)

pub returns-in_err-refutes_at_first-clause-shown :
    goal.returns-in_err-refutes_at_first-clause-shown
returns-in_err-refutes_at_first-clause-shown g c live goes_on fresh holds =
    let at = place g.R.Source.left g.R.Source.failed g.R.Source.pulls in
    let before = at c.args.words.now c.args.r.now in
    let after = at c.read.new.words c.read.new.r in
    let variables = c.args.variables in
    let step = c.read.new.self in
    let given : GivesStep false variables (said_by step) before after (Ok c.in_ok-there.there) =
    subst (λ (b : Bool). GivesStep b variables (said_by step) before after (Ok
    c.in_ok-there.there)) fresh c.in_ok-there.ensures.step in
    let searches = λ (n : step.is_numbered ≡ true). c.in_ok-search.ensures.numbered n in
    let no_search : step.is_numbered ≡ true → c.in_ok-search.search ≡ None = λ n. let is = (searches
    n).1 in cc in
    by_truth (ShowsText before.feed (text_outcome variables live)
    c.from_residual-in_err-refutes_at_first.result) step.is_numbered
    (λ n. let wrong = (c.in_err-refutes_at_first.ensures.numbered (no_search n)).3 in absurd cc)
    (λ n. text_unnumbered variables live before goes_on step after n c.in_ok-there.there given
    c.from_residual-in_err-refutes_at_first.result)

pub returns-then-branch-clause-shown : goal.returns-then-branch-clause-shown
returns-then-branch-clause-shown g c live goes_on fresh holds =
    let at = place g.R.Source.left g.R.Source.failed g.R.Source.pulls in
    let before = at c.args.words.now c.args.r.now in
    let after = at c.read.new.words c.read.new.r in
    let variables = c.args.variables in
    let step = c.read.new.self in
    let given : GivesStep false variables (said_by step) before after (Ok c.in_ok-there.there) =
    subst (λ (b : Bool). GivesStep b variables (said_by step) before after (Ok
    c.in_ok-there.there)) fresh c.in_ok-there.ensures.step in
    let searches = λ (n : step.is_numbered ≡ true). c.in_ok-search.ensures.numbered n in
    let no_search : step.is_numbered ≡ true → c.in_ok-search.search ≡ None = λ n. let is = (searches
    n).1 in cc in
    by_truth (ShowsText before.feed (text_outcome variables live) (Ok tt)) step.is_numbered
    (λ n.
    let wrong = (c.in_ok-refutes_at_first.ensures.numbered (no_search n)).3 in
    let is : c.in_ok-refutes_at_first.field-0 ≡ false = cc in
    absurd (false≢true (sym is ∙ c.if-branch.true)))
    (λ n. text_unnumbered variables live before goes_on step after n c.in_ok-there.there given (Ok tt))

pub returns-then-not-there-clause-shown : goal.returns-then-not-there-clause-shown
returns-then-not-there-clause-shown g c live goes_on fresh holds =
    let at = place g.R.Source.left g.R.Source.failed g.R.Source.pulls in
    let before = at c.args.words.now c.args.r.now in
    let after = at c.read.new.words c.read.new.r in
    let variables = c.args.variables in
    let step = c.read.new.self in
    let given : GivesStep false variables (said_by step) before after (Ok c.in_ok-there.there) =
    subst (λ (b : Bool). GivesStep b variables (said_by step) before after (Ok
    c.in_ok-there.there)) fresh c.in_ok-there.ensures.step in
    text_none variables live before goes_on (said_by step) after (subst (λ (b : Bool). GivesStep false
    variables (said_by step) before after (Ok b)) c.if-not-there.true given) (Err errors.Unfinished)

pub returns-clause-shown : goal.returns-clause-shown
returns-clause-shown g c live goes_on fresh holds =
    let at = place g.R.Source.left g.R.Source.failed g.R.Source.pulls in
    let before = at c.args.words.now c.args.r.now in
    let after = at c.read.new.words c.read.new.r in
    let variables = c.args.variables in
    let step = c.read.new.self in
    let given : GivesStep false variables (said_by step) before after (Ok c.in_ok-there.there) =
    subst (λ (b : Bool). GivesStep b variables (said_by step) before after (Ok
    c.in_ok-there.there)) fresh c.in_ok-there.ensures.step in
    let searches = λ (n : step.is_numbered ≡ true). c.in_ok-search.ensures.numbered n in
    let no_search : step.is_numbered ≡ true → c.in_ok-search.search ≡ None = λ n. let is = (searches
    n).1 in cc in
    let r = c.take_steps.result in
    by_truth (ShowsText before.feed (text_outcome variables live) r) step.is_numbered
    (λ n.
    let first = c.in_ok-refutes_at_first.ensures.numbered (no_search n) in
    let kept : c.refutes_at_first.new.checker ≡ c.args.checker.now = first.0 ∙ (searches n).0 in
    let here : Holds c.refutes_at_first.new.checker.table live = subst (λ (h : Checked). Holds
    h.table live) (sym kept) holds in
    let concludes = c.take_steps.ensures.shown live first.1 here
    in
    text_numbered variables live before goes_on step after n (subst (λ (b : Bool). GivesStep false
    variables (said_by step) before after (Ok b)) c.if-not-there.false given) r (subst (λ (s :
    held.Step). Concludes after.feed (left_outcome variables live (said_by s) after) r) first.2
    concludes))
    (λ n. text_unnumbered variables live before goes_on step after n c.in_ok-there.there given r)

pub returns-in_err-there-clause-plain : goal.returns-in_err-there-clause-plain
returns-in_err-there-clause-plain g c clauses goes_on fresh ahead =
    let at = place g.R.Source.left g.R.Source.failed g.R.Source.pulls in
    let before = at c.args.words.now c.args.r.now in
    let after = at c.read.new.words c.read.new.r in
    let variables = c.args.variables in
    let step = c.read.new.self in
    let e = c.in_err-there.field-0.0 in
    let p = err_from_is_err_and c.from_residual.result c.from_residual.ensures.1 in
    let given : GivesStep false variables (said_by step) before after (Err e) = subst (λ (b : Bool).
    GivesStep b variables (said_by step) before after (Err e)) fresh c.in_err-there.ensures.step in
    rw (p.1, p.2) (first_wrong variables clauses before goes_on (said_by step) after e given)

pub returns-in_err-search-clause-plain : goal.returns-in_err-search-clause-plain
returns-in_err-search-clause-plain g c clauses goes_on fresh ahead =
    let at = place g.R.Source.left g.R.Source.failed g.R.Source.pulls in
    let before = at c.args.words.now c.args.r.now in
    let variables = c.args.variables in
    let e = c.in_err-search.field-0.0 in
    let p = err_from_is_err_and c.from_residual-in_err-search.result
    c.from_residual-in_err-search.ensures.1 in
    rw (p.1, p.2)
    (shows_stays before.feed variables clauses e (c.in_err-search.ensures.ahead clauses ahead))

pub returns-in_err-refutes_at_first-clause-plain :
    goal.returns-in_err-refutes_at_first-clause-plain
returns-in_err-refutes_at_first-clause-plain g c clauses goes_on fresh ahead =
    let at = place g.R.Source.left g.R.Source.failed g.R.Source.pulls in
    let before = at c.args.words.now c.args.r.now in
    let variables = c.args.variables in
    let e = c.in_err-refutes_at_first.field-0.0 in
    let p = err_from_is_err_and c.from_residual-in_err-refutes_at_first.result
    c.from_residual-in_err-refutes_at_first.ensures.1 in
    rw (p.1, p.2)
    (shows_stays before.feed variables clauses e (c.in_err-refutes_at_first.ensures.ahead clauses
    (c.in_ok-search.ensures.ahead clauses ahead)))

pub returns-then-not-there-clause-plain : goal.returns-then-not-there-clause-plain
returns-then-not-there-clause-plain g c clauses goes_on fresh ahead =
    let at = place g.R.Source.left g.R.Source.failed g.R.Source.pulls in
    let before = at c.args.words.now c.args.r.now in
    let after = at c.read.new.words c.read.new.r in
    let variables = c.args.variables in
    let step = c.read.new.self in
    let given_there : GivesStep false variables (said_by step) before after (Ok
    c.in_ok-there.there) = subst (λ (b : Bool). GivesStep b variables (said_by step) before after
    (Ok c.in_ok-there.there)) fresh c.in_ok-there.ensures.step in
    let given : GivesStep false variables (said_by step) before after (Ok false) = subst
    (λ (b : Bool). GivesStep false variables (said_by step) before after (Ok b))
    c.if-not-there.true given_there in
    first_none variables clauses before goes_on (said_by step) after given

pub returns-clause-plain : goal.returns-clause-plain
returns-clause-plain g c clauses goes_on fresh ahead =
    let at = place g.R.Source.left g.R.Source.failed g.R.Source.pulls in
    let before = at c.args.words.now c.args.r.now in
    let after = at c.read.new.words c.read.new.r in
    let variables = c.args.variables in
    let step = c.read.new.self in
    let given_there : GivesStep false variables (said_by step) before after (Ok
    c.in_ok-there.there) = subst (λ (b : Bool). GivesStep b variables (said_by step) before after
    (Ok c.in_ok-there.there)) fresh c.in_ok-there.ensures.step in
    let given : GivesStep false variables (said_by step) before after (Ok true) = subst
    (λ (b : Bool). GivesStep false variables (said_by step) before after (Ok b))
    c.if-not-there.false given_there in
    let r = c.take_steps.result in
    let first = c.in_ok-refutes_at_first.ensures in
    by_truth (ShowsPlain before.feed variables clauses r) step.is_numbered
    (λ n. first_numbered variables clauses before goes_on (said_by step) after given _
    (numbered_said step n) r)
    (λ n.
    let now = c.refutes_at_first.new.step in
    let said : said_by now ≡ said_by step = plain_same now step first.same.0 first.same.1
    (ap (λ v. v.items) first.same.2) n in
    let concludes = c.take_steps.ensures.plain clauses
    (first.same.3 (c.in_ok-search.ensures.searches n))
    (first.ahead clauses (c.in_ok-search.ensures.ahead clauses ahead)) in
    first_plain variables clauses before goes_on (said_by step) after given r
    (subst (λ (line : Line). ConcludesPlain after.feed clauses (plain_left variables line after) r)
    said concludes))

pub returns-clause-refuted : goal.returns-clause-refuted
returns-clause-refuted g c formula =
    let old = c.args.checker.now.table in
    let clauses = old.clauses in
    let step = c.read.new.self in
    let searches = λ (n : step.is_numbered ≡ true). c.in_ok-search.ensures.numbered n in
    let no_search : step.is_numbered ≡ true → c.in_ok-search.search ≡ None = λ n. let is = (searches
    n).1 in cc in
    let first = c.in_ok-refutes_at_first.ensures in
    let r = c.take_steps.result in
    by_truth (OnOk r (¬ IsSatisfiable clauses)) step.is_numbered
    (λ n.
    let begun = first.numbered (no_search n) in
    let kept : c.refutes_at_first.new.checker ≡ c.args.checker.now = begun.0 ∙ (searches n).0 in
    let here : Holds c.refutes_at_first.new.checker.table (all_live clauses) = subst
    (λ (h : Checked). Holds h.table (all_live clauses)) (sym kept) formula.holds in
    ok_on r (¬ CanHold (all_live clauses)) (¬ IsSatisfiable clauses)
    (λ fails can. fails (formula_holds clauses can))
    (c.take_steps.ensures.fails (all_live clauses) begun.1 here))
    (λ n.
    let begun = c.in_ok-search.ensures.keeps (all_live clauses) formula.holds in
    let new = c.refutes_at_first.new.checker.table in
    let now : KeepsOrEnds begun.0 new (Ok false) = subst (λ (b : Bool). KeepsOrEnds begun.0 new
    (Ok b)) c.if-branch.false (first.keeps begun.0 begun.1) in
    ok_on r (¬ CanHold now.0) (¬ IsSatisfiable clauses)
    (λ fails can. fails (now.2 (begun.2 (formula_holds clauses can))))
    (c.take_steps.ensures.searched now.0 (first.same.3 (c.in_ok-search.ensures.searches n)) now.1))

pub returns-then-branch-clause-refuted : goal.returns-then-branch-clause-refuted
returns-then-branch-clause-refuted g c formula = λ can.
    let clauses = c.args.checker.now.table.clauses in
    let begun = c.in_ok-search.ensures.keeps (all_live clauses) formula.holds in
    let new = c.refutes_at_first.new.checker.table in
    let ends : KeepsOrEnds begun.0 new (Ok true) = subst (λ (b : Bool). KeepsOrEnds begun.0 new
    (Ok b)) c.if-branch.true (c.in_ok-refutes_at_first.ensures.keeps begun.0 begun.1) in
    ends (begun.2 (formula_holds clauses can))
