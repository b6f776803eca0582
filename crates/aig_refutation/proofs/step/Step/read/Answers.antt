use Rattle.aig_base.proofs.Words.{[], Some, ap, ◌∙◌, err_from_is_err_and}
use Rattle.aig_refutation.specs.declared.words.Word.TheVariants as words
use Rattle.aig_refutation.specs.Proofs.{Line, Plain}
use Rattle.aig_refutation.specs.Reading.{reads_after, reads_dropped, said_by}
use Rattle.aig_refutation.specs.Steps.{Learns}
use Rattle.aig_refutation.specs.Tokens.{place, said_number}
use Rattle.aig_refutation.proofs.LineForms.{line_after_err, line_after_ok, line_dropped_err, line_dropped_ok}
use Rattle.aig_refutation.proofs.NextSteps.{first_fails, step_fails, step_read}
use Rattle.aig_refutation.proofs.step.Step.read.Goals as goal

abbrev no_step : Line
no_step = Plain (Learns [])

pub returns-in_err-first-clause-step : goal.returns-in_err-first-clause-step
returns-in_err-first-clause-step g c =
    let at = place g.R.Source.left g.R.Source.failed g.R.Source.pulls in
    let before = at c.args.words.now c.args.r.now in
    let mid = at c.first.new.self c.first.new.r in
    let numbered = c.args.self.now.is_numbered in
    let variables = c.args.variables in
    let e = c.in_err-first.field-0.0 in
    let p = err_from_is_err_and c.from_residual.result c.from_residual.ensures.1 in
    rw (p.1, p.2) (first_fails numbered variables (said_by (record {
      is_numbered =
          c.args.self.now.is_numbered;
      deletes = c.args.self.now.deletes;
      number =
          c.args.self.now.number;
      clause = c.clear.new.self;
      numbers = c.clear-2.new.self;
      groups = c.clear-3.new.self;
    })) before
    mid mid e c.in_err-first.ensures.first)

pub returns-in_err-read_after-in-Some-Number-clause-step :
    goal.returns-in_err-read_after-in-Some-Number-clause-step
returns-in_err-read_after-in-Some-Number-clause-step g c =
    let at = place g.R.Source.left g.R.Source.failed g.R.Source.pulls in
    let before = at c.args.words.now c.args.r.now in
    let mid = at c.first.new.self c.first.new.r in
    let numbered = c.args.self.now.is_numbered in
    let variables = c.args.variables in
    let first = rw (c.in-Some-Number.is ∙ ap (λ w. Some w) c.in-Some-Number.field-0-is) at
    c.in_ok-first.ensures.first in
    let after = at c.read_after.new.words c.read_after.new.r in
    let n = c.in-Some-Number.first in
    let e = c.in_err-read_after-in-Some-Number.field-0.0 in
    let p = err_from_is_err_and c.from_residual-in_err-read_after-in-Some-Number.result
    c.from_residual-in_err-read_after-in-Some-Number.ensures.1 in
    rw (p.1, p.2)
    (step_fails numbered variables (said_by c.read_after.new.self) before mid after (words.Number
    n) (reads_after numbered variables (said_number n)) first after e (λ last word ws is.
    line_after_err numbered variables last word ws n is e)
    (c.in_err-read_after-in-Some-Number.ensures.step c.clear.ensures.items
    c.clear-2.ensures.items c.clear-3.ensures.items))

pub returns-in_ok-read_after-in-Some-Number-clause-step :
    goal.returns-in_ok-read_after-in-Some-Number-clause-step
returns-in_ok-read_after-in-Some-Number-clause-step g c =
    let at = place g.R.Source.left g.R.Source.failed g.R.Source.pulls in
    let before = at c.args.words.now c.args.r.now in
    let mid = at c.first.new.self c.first.new.r in
    let numbered = c.args.self.now.is_numbered in
    let variables = c.args.variables in
    let first = rw (c.in-Some-Number.is ∙ ap (λ w. Some w) c.in-Some-Number.field-0-is) at
    c.in_ok-first.ensures.first in
    let after = at c.read_after.new.words c.read_after.new.r in
    let n = c.in-Some-Number.first in
    let step = said_by c.read_after.new.self in
    step_read numbered variables step before mid after (words.Number n) (reads_after numbered
    variables (said_number n)) first (λ last word ws more is. line_after_ok numbered variables
    last word ws n is step more) (c.in_ok-read_after-in-Some-Number.ensures.step
    c.clear.ensures.items c.clear-2.ensures.items c.clear-3.ensures.items)
    c.in_ok-read_after-in-Some-Number.ensures.closed

pub returns-in_err-read_deletion-in-Some-Deletes-clause-step :
    goal.returns-in_err-read_deletion-in-Some-Deletes-clause-step
returns-in_err-read_deletion-in-Some-Deletes-clause-step g c =
    let at = place g.R.Source.left g.R.Source.failed g.R.Source.pulls in
    let before = at c.args.words.now c.args.r.now in
    let mid = at c.first.new.self c.first.new.r in
    let numbered = c.args.self.now.is_numbered in
    let variables = c.args.variables in
    let first = rw (c.in-Some-Deletes.is ∙ ap (λ w. Some w) c.in-Some-Deletes.field-0-is) at
    c.in_ok-first.ensures.first in
    let after = at c.read_deletion.new.words c.read_deletion.new.r in
    let e = c.in_err-read_deletion-in-Some-Deletes.field-0.0 in
    let p = err_from_is_err_and c.from_residual-in_err-read_deletion-in-Some-Deletes.result
    c.from_residual-in_err-read_deletion-in-Some-Deletes.ensures.1 in
    rw (p.1, p.2)
    (step_fails numbered variables (said_by c.read_deletion.new.self) before mid after
    words.Deletes (reads_dropped variables) first after e (λ last word ws is. line_dropped_err
    numbered variables last word ws is e) (c.in_err-read_deletion-in-Some-Deletes.ensures.step c.clear.ensures.items))

pub returns-in_ok-read_deletion-in-Some-Deletes-clause-step :
    goal.returns-in_ok-read_deletion-in-Some-Deletes-clause-step
returns-in_ok-read_deletion-in-Some-Deletes-clause-step g c =
    let at = place g.R.Source.left g.R.Source.failed g.R.Source.pulls in
    let before = at c.args.words.now c.args.r.now in
    let mid = at c.first.new.self c.first.new.r in
    let numbered = c.args.self.now.is_numbered in
    let variables = c.args.variables in
    let first = rw (c.in-Some-Deletes.is ∙ ap (λ w. Some w) c.in-Some-Deletes.field-0-is) at
    c.in_ok-first.ensures.first in
    let after = at c.read_deletion.new.words c.read_deletion.new.r in
    let step = said_by c.read_deletion.new.self in
    step_read numbered variables step before mid after words.Deletes (reads_dropped variables)
    first (λ last word ws more is. line_dropped_ok numbered variables last word ws is step
    more) (c.in_ok-read_deletion-in-Some-Deletes.ensures.step c.clear.ensures.items)
    c.in_ok-read_deletion-in-Some-Deletes.ensures.closed
