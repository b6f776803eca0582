use Rattle.aig_base.proofs.Words.{Bool, true, false, Ok, Err, subst, ◌∙◌, err_from_is_err_and}
use Rattle.aig_refutation.specs.Concluding.{TakesLine, TakesStep}
use Rattle.aig_refutation.specs.Kept.{KeepsOrEnds}
use Rattle.aig_refutation.specs.Reading.{GivesStep, said_by}
use Rattle.aig_refutation.specs.Tokens.{place}
use Rattle.aig_refutation.proofs.Kept.{kept_on}
use Rattle.aig_refutation.proofs.Outcomes.{loop_last, loop_more, loop_none, loop_unread, loop_wrong, step_fails}
use Rattle.aig_refutation.proofs.Plainly.{is_plain, plain_more, plain_none, plain_unread, plain_wrong}
use Rattle.aig_refutation.proofs.check.take_steps.Goals as goal

pub returns-in_err-take_step-clause-shown : goal.returns-in_err-take_step-clause-shown
returns-in_err-take_step-clause-shown g c live none holds =
    let at = place g.R.Source.left g.R.Source.failed g.R.Source.pulls in
    let before = at c.args.words.now c.args.r.now in
    let mid = at c.steps.words c.steps.r in
    let variables = c.args.variables in
    let bound = c.steps.bound in
    let first = said_by c.args.step.now in
    let step = said_by c.steps.step in
    let t = c.take_step.new.checker.table in
    let s = c.steps.invariant.shown live none holds in
    let e = c.in_err-take_step.field-0.0 in
    let p = err_from_is_err_and c.from_residual.result c.from_residual.ensures.1 in
    let wrong : TakesStep s.now t (Err e) step = c.in_err-take_step.ensures.takes s.now s.search
    s.holds in
    rw (p.1, p.2) (loop_wrong variables live first before bound s.now step mid s.goes t e wrong)

pub returns-in_err-read-clause-shown : goal.returns-in_err-read-clause-shown
returns-in_err-read-clause-shown g c live none holds =
    let at = place g.R.Source.left g.R.Source.failed g.R.Source.pulls in
    let before = at c.args.words.now c.args.r.now in
    let mid = at c.steps.words c.steps.r in
    let variables = c.args.variables in
    let bound = c.steps.bound in
    let wider = c.widened-bound.result in
    let is_wider = c.widened-bound.ensures.widened in
    let first = said_by c.args.step.now in
    let step = said_by c.steps.step in
    let t = c.take_step.new.checker.table in
    let s = c.steps.invariant.shown live none holds in
    let on : TakesStep s.now t (Ok false) step = subst (λ (b : Bool). TakesStep s.now t (Ok b)
    step) c.if-not-branch.true (c.in_ok-take_step.ensures.takes s.now s.search
    s.holds) in
    let after = at c.read.new.words c.read.new.r in
    let other = said_by c.read.new.self in
    let numbered = c.in_ok-take_step.ensures.numbered s.search in
    let e = c.in_err-read.field-0.0 in
    let p = err_from_is_err_and c.from_residual-in_err-read.result
    c.from_residual-in_err-read.ensures.1 in
    let given : GivesStep true wider other mid after (Err e) = subst (λ (b : Bool). GivesStep b
    wider other mid after (Err e)) numbered.1 c.in_err-read.ensures.step in
    rw (p.1, p.2)
    (loop_unread variables live first before bound s.now step mid s.goes t on wider is_wider other
    after e given)

pub returns-then-not-branch-2-clause-shown : goal.returns-then-not-branch-2-clause-shown
returns-then-not-branch-2-clause-shown g c live none holds =
    let at = place g.R.Source.left g.R.Source.failed g.R.Source.pulls in
    let before = at c.args.words.now c.args.r.now in
    let mid = at c.steps.words c.steps.r in
    let variables = c.args.variables in
    let bound = c.steps.bound in
    let wider = c.widened-bound.result in
    let is_wider = c.widened-bound.ensures.widened in
    let first = said_by c.args.step.now in
    let step = said_by c.steps.step in
    let t = c.take_step.new.checker.table in
    let s = c.steps.invariant.shown live none holds in
    let on : TakesStep s.now t (Ok false) step = subst (λ (b : Bool). TakesStep s.now t (Ok b)
    step) c.if-not-branch.true (c.in_ok-take_step.ensures.takes s.now s.search
    s.holds) in
    let after = at c.read.new.words c.read.new.r in
    let other = said_by c.read.new.self in
    let numbered = c.in_ok-take_step.ensures.numbered s.search in
    let given : GivesStep true wider other mid after (Ok false) = subst (λ (b : Bool). GivesStep
    true wider other mid after (Ok b)) c.if-not-branch-2.true (subst (λ (b : Bool). GivesStep b
    wider other mid after (Ok c.in_ok-read.field-0)) numbered.1 c.in_ok-read.ensures.step) in
    loop_none variables live first before bound s.now step mid s.goes t on wider is_wider other
    after given

pub steps-preserved : goal.steps-preserved
steps-preserved g c = record {
  most = c.widened-bound.ensures.most;
  keeps = λ live searching h.
      let before = c.steps.invariant.keeps live searching h in
      let now = before.1 in
      let t = c.take_step.new.checker.table in
      let on : KeepsOrEnds now.0 t (Ok false) = subst (λ (b : Bool). KeepsOrEnds now.0 t (Ok b))
      c.if-not-branch.true (c.in_ok-take_step.ensures.keeps now.0 before.0 now.1) in
      (c.in_ok-take_step.ensures.searches before.0, kept_on live now.0 t now.2 on);
  shown = λ live none holds.
      let at = place g.R.Source.left g.R.Source.failed g.R.Source.pulls in
      let before = at c.args.words.now c.args.r.now in
      let mid = at c.steps.words c.steps.r in
      let variables = c.args.variables in
      let bound = c.steps.bound in
      let wider = c.widened-bound.result in
      let is_wider = c.widened-bound.ensures.widened in
      let first = said_by c.args.step.now in
      let step = said_by c.steps.step in
      let t = c.take_step.new.checker.table in
      let s = c.steps.invariant.shown live none holds in
      let on : TakesStep s.now t (Ok false) step = subst (λ (b : Bool). TakesStep s.now t (Ok b)
      step) c.if-not-branch.true (c.in_ok-take_step.ensures.takes s.now s.search
      s.holds) in
      let after = at c.read.new.words c.read.new.r in
      let other = said_by c.read.new.self in
      let numbered = c.in_ok-take_step.ensures.numbered s.search in
      let given : GivesStep true wider other mid after (Ok true) = subst (λ (b : Bool). GivesStep
      true wider other mid after (Ok b)) c.if-not-branch-2.false (subst (λ (b : Bool). GivesStep b
      wider other mid after (Ok c.in_ok-read.field-0)) numbered.1 c.in_ok-read.ensures.step) in
      let more = loop_more variables live first before bound s.now step mid s.goes t on wider
      is_wider other after given
      in
      record {
        search = numbered.0;
        now = more.0;
        holds = more.1;
        keeps = λ can. more.2 (s.keeps can);
        goes = more.3;
      };
  plain = λ clauses searching ahead.
      let at = place g.R.Source.left g.R.Source.failed g.R.Source.pulls in
      let before = at c.args.words.now c.args.r.now in
      let mid = at c.steps.words c.steps.r in
      let variables = c.args.variables in
      let bound = c.steps.bound in
      let wider = c.widened-bound.result in
      let is_wider = c.widened-bound.ensures.widened in
      let first = said_by c.args.step.now in
      let t = c.take_step.new.checker.table in
      let s = c.steps.invariant.plain clauses searching ahead in
      let on : TakesLine s.now (said_by c.steps.step) t (Ok false) = subst (λ (b : Bool).
      TakesLine s.now (said_by c.steps.step) t (Ok b)) c.if-not-branch.true
      (c.in_ok-take_step.ensures.plain s.now s.search s.ahead) in
      let after = at c.read.new.words c.read.new.r in
      let other = said_by c.read.new.self in
      let plain = c.in_ok-take_step.ensures.same ∙ is_plain s.now c.steps.step t false on in
      let given : GivesStep false wider other mid after (Ok true) = subst (λ (b : Bool).
      GivesStep false wider other mid after (Ok b)) c.if-not-branch-2.false
      (subst (λ (b : Bool). GivesStep b wider other mid after (Ok c.in_ok-read.field-0)) plain
      c.in_ok-read.ensures.step) in
      let more = plain_more variables clauses first before bound s.now c.steps.step mid s.goes t on
      wider is_wider other
      after given in
      record {
        search = c.in_ok-take_step.ensures.searches s.search;
        now = more.0;
        ahead = more.1;
        goes = more.2;
      };
}

pub returns-clause-shown : goal.returns-clause-shown
returns-clause-shown g c live none holds =
    let at = place g.R.Source.left g.R.Source.failed g.R.Source.pulls in
    let before = at c.args.words.now c.args.r.now in
    let mid = at c.steps.words c.steps.r in
    let variables = c.args.variables in
    let bound = c.steps.bound in
    let first = said_by c.args.step.now in
    let step = said_by c.steps.step in
    let t = c.take_step.new.checker.table in
    let s = c.steps.invariant.shown live none holds in
    let on : TakesStep s.now t (Ok true) step = subst (λ (b : Bool). TakesStep s.now t (Ok b) step)
    c.if-not-branch.false (c.in_ok-take_step.ensures.takes s.now s.search
    s.holds) in
    loop_last variables live first before bound s.now step mid s.goes t on

pub returns-in_err-take_step-clause-plain : goal.returns-in_err-take_step-clause-plain
returns-in_err-take_step-clause-plain g c clauses searching ahead =
    let at = place g.R.Source.left g.R.Source.failed g.R.Source.pulls in
    let before = at c.args.words.now c.args.r.now in
    let mid = at c.steps.words c.steps.r in
    let variables = c.args.variables in
    let bound = c.steps.bound in
    let first = said_by c.args.step.now in
    let t = c.take_step.new.checker.table in
    let s = c.steps.invariant.plain clauses searching ahead in
    let e = c.in_err-take_step.field-0.0 in
    let p = err_from_is_err_and c.from_residual.result c.from_residual.ensures.1 in
    let wrong : TakesLine s.now (said_by c.steps.step) t (Err e) = c.in_err-take_step.ensures.plain
    s.now s.search s.ahead in
    rw (p.1, p.2)
    (plain_wrong variables clauses first before bound s.now c.steps.step mid s.goes t e wrong)

pub returns-in_err-read-clause-plain : goal.returns-in_err-read-clause-plain
returns-in_err-read-clause-plain g c clauses searching ahead =
    let at = place g.R.Source.left g.R.Source.failed g.R.Source.pulls in
    let before = at c.args.words.now c.args.r.now in
    let mid = at c.steps.words c.steps.r in
    let variables = c.args.variables in
    let bound = c.steps.bound in
    let wider = c.widened-bound.result in
    let is_wider = c.widened-bound.ensures.widened in
    let first = said_by c.args.step.now in
    let t = c.take_step.new.checker.table in
    let s = c.steps.invariant.plain clauses searching ahead in
    let on : TakesLine s.now (said_by c.steps.step) t (Ok false) = subst (λ (b : Bool).
    TakesLine s.now (said_by c.steps.step) t (Ok b)) c.if-not-branch.true
    (c.in_ok-take_step.ensures.plain s.now s.search s.ahead) in
    let after = at c.read.new.words c.read.new.r in
    let other = said_by c.read.new.self in
    let plain = c.in_ok-take_step.ensures.same ∙ is_plain s.now c.steps.step t false on in
    let e = c.in_err-read.field-0.0 in
    let p = err_from_is_err_and c.from_residual-in_err-read.result
    c.from_residual-in_err-read.ensures.1 in
    let given : GivesStep false wider other mid after (Err e) = subst (λ (b : Bool). GivesStep b
    wider other mid after (Err e)) plain c.in_err-read.ensures.step in
    rw (p.1, p.2)
    (plain_unread variables clauses first before bound s.now c.steps.step mid s.goes t on wider
    is_wider other after e
    given)

pub returns-then-not-branch-2-clause-plain : goal.returns-then-not-branch-2-clause-plain
returns-then-not-branch-2-clause-plain g c clauses searching ahead =
    let at = place g.R.Source.left g.R.Source.failed g.R.Source.pulls in
    let before = at c.args.words.now c.args.r.now in
    let mid = at c.steps.words c.steps.r in
    let variables = c.args.variables in
    let bound = c.steps.bound in
    let wider = c.widened-bound.result in
    let is_wider = c.widened-bound.ensures.widened in
    let first = said_by c.args.step.now in
    let t = c.take_step.new.checker.table in
    let s = c.steps.invariant.plain clauses searching ahead in
    let on : TakesLine s.now (said_by c.steps.step) t (Ok false) = subst (λ (b : Bool).
    TakesLine s.now (said_by c.steps.step) t (Ok b)) c.if-not-branch.true
    (c.in_ok-take_step.ensures.plain s.now s.search s.ahead) in
    let after = at c.read.new.words c.read.new.r in
    let other = said_by c.read.new.self in
    let plain = c.in_ok-take_step.ensures.same ∙ is_plain s.now c.steps.step t false on in
    let given : GivesStep false wider other mid after (Ok false) = subst (λ (b : Bool).
    GivesStep false wider other mid after (Ok b)) c.if-not-branch-2.true (subst (λ (b : Bool).
    GivesStep b wider other mid after (Ok c.in_ok-read.field-0)) plain
    c.in_ok-read.ensures.step) in
    plain_none variables clauses first before bound s.now c.steps.step mid s.goes t on wider
    is_wider other after given

pub returns-clause-fails : goal.returns-clause-fails
returns-clause-fails g c live none holds = λ can.
    let step = said_by c.steps.step in
    let t = c.take_step.new.checker.table in
    let s = c.steps.invariant.shown live none holds in
    let on : TakesStep s.now t (Ok true) step = subst (λ (b : Bool). TakesStep s.now t (Ok b) step)
    c.if-not-branch.false (c.in_ok-take_step.ensures.takes s.now s.search
    s.holds) in
    step_fails t s.now step on (s.keeps can)

pub returns-clause-searched : goal.returns-clause-searched
returns-clause-searched g c live searching h = λ can.
    let before = c.steps.invariant.keeps live searching h in
    let now = before.1 in
    let t = c.take_step.new.checker.table in
    let ends : KeepsOrEnds now.0 t (Ok true) = subst (λ (b : Bool). KeepsOrEnds now.0 t (Ok b))
    c.if-not-branch.false (c.in_ok-take_step.ensures.keeps now.0 before.0 now.1) in
    ends (now.2 can)
