use Rattle.aig_base.proofs.Words.{ℕ, Bool, true, false, Ok, Err, sym, subst, err_from_is_err_and}
use Rattle.aig_lexer.specs.Takes.{feed}
use Rattle.aig_refutation.specs.Ahead.{TakesPlain}
use Rattle.aig_refutation.specs.Binary.{binary_steps_in}
use Rattle.aig_refutation.specs.Kept.{KeepsOrEnds}
use Rattle.aig_refutation.specs.Reading.{plain_by}
use Rattle.aig_refutation.specs.ReadingBinary.{GivesNext}
use Rattle.aig_refutation.proofs.Kept.{kept_on}
use Rattle.aig_refutation.proofs.BinarySteps.{GoesBinary, binary_more, binary_none, binary_unread, binary_wrong}
use Rattle.aig_refutation.proofs.check.take_binary.Goals as goal

pub returns-in_err-read_step-clause-plain : goal.returns-in_err-read_step-clause-plain
returns-in_err-read_step-clause-plain g c clauses ahead =
    let at = feed g.R.Source.left g.R.Source.failed g.R.Source.pulls in
    let before = at c.args.buffer.now c.args.r.now in
    let mid = at c.steps.buffer c.steps.r in
    let after = at c.read_step.new.buffer c.read_step.new.r in
    let s = c.steps.invariant.plain clauses ahead in
    let e = c.in_err-read_step.field-0.0 in
    let p = err_from_is_err_and c.from_residual.result c.from_residual.ensures.1 in
    rw (p.1, p.2) (binary_unread c.args.variables clauses before c.steps.bound s.now mid s.goes
    (plain_by c.read_step.new.step) after e c.in_err-read_step.ensures.step)

pub returns-in_err-take_searched-clause-plain : goal.returns-in_err-take_searched-clause-plain
returns-in_err-take_searched-clause-plain g c clauses ahead =
    let at = feed g.R.Source.left g.R.Source.failed g.R.Source.pulls in
    let before = at c.args.buffer.now c.args.r.now in
    let mid = at c.steps.buffer c.steps.r in
    let after = at c.read_step.new.buffer c.read_step.new.r in
    let variables = c.args.variables in
    let bound = c.steps.bound in
    let step = c.read_step.new.step in
    let t = c.take_searched.new.checker.table in
    let s = c.steps.invariant.plain clauses ahead in
    let given : GivesNext binary_steps_in bound (plain_by step) mid after (Ok true) = subst (λ (b : Bool).
    GivesNext binary_steps_in bound (plain_by step) mid after (Ok b)) c.if-branch.true
    c.in_ok-read_step.ensures.step in
    let e = c.in_err-take_searched.field-0.0 in
    let p = err_from_is_err_and c.from_residual-in_err-take_searched.result
    c.from_residual-in_err-take_searched.ensures.1 in
    let wrong : TakesPlain s.now (plain_by step) t (Err e) = c.in_err-take_searched.ensures.ahead
    s.now s.ahead in
    rw (p.1, p.2) (binary_wrong variables clauses before bound s.now mid s.goes step after given t e
    wrong)

pub steps-preserved : goal.steps-preserved
steps-preserved g c = record {
  most = c.widened-bound.ensures.most;
  keeps = λ live h.
      let now = c.steps.invariant.keeps live h in
      let t = c.take_searched.new.checker.table in
      let on : KeepsOrEnds now.0 t (Ok false) = subst (λ (b : Bool). KeepsOrEnds now.0 t (Ok b))
      c.if-branch-2.false (c.in_ok-take_searched.ensures.keeps now.0 now.1) in
      kept_on live now.0 t now.2 on;
  plain = λ clauses ahead.
      let at = feed g.R.Source.left g.R.Source.failed g.R.Source.pulls in
      let before = at c.args.buffer.now c.args.r.now in
      let mid = at c.steps.buffer c.steps.r in
      let after = at c.read_step.new.buffer c.read_step.new.r in
      let variables = c.args.variables in
      let bound = c.steps.bound in
      let step = c.read_step.new.step in
      let t = c.take_searched.new.checker.table in
      let s = c.steps.invariant.plain clauses ahead in
      let given : GivesNext binary_steps_in bound (plain_by step) mid after (Ok true) = subst (λ (b : Bool).
      GivesNext binary_steps_in bound (plain_by step) mid after (Ok b)) c.if-branch.true
      c.in_ok-read_step.ensures.step in
      let on : TakesPlain s.now (plain_by step) t (Ok false) = subst (λ (b : Bool).
      TakesPlain s.now (plain_by step) t (Ok b)) c.if-branch-2.false
      (c.in_ok-take_searched.ensures.ahead s.now s.ahead) in
      let more = binary_more variables clauses before bound s.now mid s.goes step after given t on
      in
      record {
        now = more.0;
        ahead = more.1;
        goes = subst (λ (n : ℕ). GoesBinary variables clauses before n more.0 after)
            (sym c.widened-bound.ensures.widened) more.2;
      };
}

pub returns-clause-plain : goal.returns-clause-plain
returns-clause-plain g c clauses ahead =
    let at = feed g.R.Source.left g.R.Source.failed g.R.Source.pulls in
    let before = at c.args.buffer.now c.args.r.now in
    let mid = at c.steps.buffer c.steps.r in
    let after = at c.read_step.new.buffer c.read_step.new.r in
    let variables = c.args.variables in
    let bound = c.steps.bound in
    let step = plain_by c.read_step.new.step in
    let s = c.steps.invariant.plain clauses ahead in
    let given : GivesNext binary_steps_in bound step mid after (Ok false) = subst (λ (b : Bool).
    GivesNext binary_steps_in bound step mid after (Ok b)) c.if-branch.false c.in_ok-read_step.ensures.step in
    binary_none variables clauses before bound s.now mid s.goes step after given

pub returns-then-branch-2-clause-fails : goal.returns-then-branch-2-clause-fails
returns-then-branch-2-clause-fails g c live h = λ can.
    let now = c.steps.invariant.keeps live h in
    let t = c.take_searched.new.checker.table in
    let ends : KeepsOrEnds now.0 t (Ok true) = subst (λ (b : Bool). KeepsOrEnds now.0 t (Ok b))
    c.if-branch-2.true (c.in_ok-take_searched.ensures.keeps now.0 now.1) in
    ends (now.2 can)
