use Rattle.std.proofs.Common.{sym, ap, Some, ◌∙◌}
use Rattle.aig_lexer.specs.Takes.{feed}
use Rattle.aig_witness.proofs.ValueLines.{line_ends, line_goes, line_none, line_wrong, no_word}
use Rattle.aig_witness.proofs.solutions.values.read_values.Goals as goal

pub returns-in_default-clause-values : goal.returns-in_default-clause-values
returns-in_default-clause-values g c = line_none
    (feed g.R.Source.left g.R.Source.failed g.R.Source.pulls c.args.buffer.now c.args.r.now)
    c.args.values.now (feed g.R.Source.left g.R.Source.failed g.R.Source.pulls c.next.new.self
    c.next.new.r) c.in_ok-b.field-0 c.in_ok-b.ensures.steps c.in_default.is

pub returns-in_default-end_of-clause-values : goal.returns-in_default-end_of-clause-values
returns-in_default-end_of-clause-values g c = line_wrong
    (feed g.R.Source.left g.R.Source.failed g.R.Source.pulls c.args.buffer.now c.args.r.now)
    c.args.values.now (feed g.R.Source.left g.R.Source.failed g.R.Source.pulls c.next.new.self
    c.next.new.r) c.in_ok-b.field-0 c.in-Some.b c.in_ok-b.ensures.steps c.in-Some.is
    (sym c.end_of.ensures ∙ c.in_default-end_of.is)

pub returns-in-Blank-clause-values : goal.returns-in-Blank-clause-values
returns-in-Blank-clause-values g c =
    line_goes (feed g.R.Source.left g.R.Source.failed g.R.Source.pulls c.args.buffer.now
    c.args.r.now) c.args.values.now (feed g.R.Source.left g.R.Source.failed g.R.Source.pulls
    c.next.new.self c.next.new.r) c.in_ok-b.field-0 c.in-Some.b c.in_ok-b.ensures.steps
    c.in-Some.is (sym c.end_of.ensures ∙ c.in-Some-end_of.is ∙ ap (λ e. Some e) c.in-Blank.is)
    (feed g.R.Source.left g.R.Source.failed g.R.Source.pulls c.read_literals.new.buffer
    c.read_literals.new.r) c.read_literals.new.values c.read_literals.result
    c.read_literals.ensures.values

pub returns-in_default-end : goal.returns-in_default-end
returns-in_default-end g c = record {
  values =
      rw c.reached_by.ensures
      (line_ends (feed g.R.Source.left g.R.Source.failed g.R.Source.pulls c.args.buffer.now
      c.args.r.now) c.args.values.now (feed g.R.Source.left g.R.Source.failed g.R.Source.pulls
      c.next.new.self c.next.new.r) c.in_ok-b.field-0 c.in-Some.b c.in_ok-b.ensures.steps
      c.in-Some.is c.in-Some-end_of.end (sym c.end_of.ensures ∙ c.in-Some-end_of.is));
  ends = λ is. no_word c.in-Some-end_of.end c.in_default-end.not-Blank (sym c.reached_by.ensures
      ∙ is);
}
