use Rattle.aig_base.proofs.Words.{ℕ, Bool, true, false, Ok, sym, subst, err_from_is_err_and}
use Rattle.aig_lexer.specs.Takes.{feed}
use Rattle.aig_refutation.specs.BinaryNumbered.{numbered_steps_in}
use Rattle.aig_refutation.specs.Checking.{is_last_step, taken}
use Rattle.aig_refutation.specs.Concluding.{MovesStep}
use Rattle.aig_refutation.specs.Reading.{step_by}
use Rattle.aig_refutation.specs.ReadingBinary.{GivesNext, Passes}
use Rattle.aig_refutation.proofs.NumberedSteps.{numbered_shown, shown_fails, shown_last, shown_more, shown_none, shown_unread, shown_wrong}
use Rattle.aig_refutation.proofs.BinarySteps.{passes_start}
use Rattle.aig_refutation.proofs.Plainly.{numbered_said}
use Rattle.aig_refutation.proofs.check.take_binary_numbered.Goals as goal

pub steps-init : goal.steps-init
steps-init g c = record {
  most = c.requires;
  shown = λ live holds. record {
    now = live;
    holds = holds;
    keeps = λ can. can;
    goes = passes_start (numbered_shown c.args.variables live) (feed g.R.Source.left
        g.R.Source.failed g.R.Source.pulls c.args.buffer.now c.args.r.now);
  };
}

pub returns-in_err-read_numbered_step-clause-shown : goal.returns-in_err-read_numbered_step-clause-shown
returns-in_err-read_numbered_step-clause-shown g c live h =
    let at = feed g.R.Source.left g.R.Source.failed g.R.Source.pulls in
    let before = at c.args.buffer.now c.args.r.now in
    let mid = at c.steps.buffer c.steps.r in
    let after = at c.read_numbered_step.new.buffer c.read_numbered_step.new.r in
    let s = c.steps.invariant.shown live h in
    let e = c.in_err-read_numbered_step.field-0.0 in
    let p = err_from_is_err_and c.from_residual.result c.from_residual.ensures.1 in
    rw (p.1, p.2) (shown_unread c.args.variables live before c.steps.bound s.now mid s.goes
    (step_by c.read_numbered_step.new.step) after e c.in_err-read_numbered_step.ensures.step)

pub returns-in_err-take_numbered-clause-shown : goal.returns-in_err-take_numbered-clause-shown
returns-in_err-take_numbered-clause-shown g c live h =
    let at = feed g.R.Source.left g.R.Source.failed g.R.Source.pulls in
    let before = at c.args.buffer.now c.args.r.now in
    let mid = at c.steps.buffer c.steps.r in
    let after = at c.read_numbered_step.new.buffer c.read_numbered_step.new.r in
    let held = c.read_numbered_step.new.step in
    let step = step_by held in
    let t = c.take_numbered.new.checker.table in
    let s = c.steps.invariant.shown live h in
    let given : GivesNext numbered_steps_in c.steps.bound step mid after (Ok true) = subst
    (λ (b : Bool). GivesNext numbered_steps_in c.steps.bound step mid after (Ok b))
    c.if-branch.true c.in_ok-read_numbered_step.ensures.step in
    let e = c.in_err-take_numbered.field-0.0 in
    let p = err_from_is_err_and c.from_residual-in_err-take_numbered.result
    c.from_residual-in_err-take_numbered.ensures.1 in
    rw (p.1, p.2) (shown_wrong c.args.variables live before c.steps.bound s.now mid s.goes step
    after given t e (c.in_err-take_numbered.ensures.moves s.now step
    (numbered_said held c.in_ok-read_numbered_step.ensures.numbered) s.holds))

pub returns-then-branch-2-clause-shown : goal.returns-then-branch-2-clause-shown
returns-then-branch-2-clause-shown g c live h =
    let at = feed g.R.Source.left g.R.Source.failed g.R.Source.pulls in
    let before = at c.args.buffer.now c.args.r.now in
    let mid = at c.steps.buffer c.steps.r in
    let after = at c.read_numbered_step.new.buffer c.read_numbered_step.new.r in
    let held = c.read_numbered_step.new.step in
    let step = step_by held in
    let t = c.take_numbered.new.checker.table in
    let s = c.steps.invariant.shown live h in
    let given : GivesNext numbered_steps_in c.steps.bound step mid after (Ok true) = subst
    (λ (b : Bool). GivesNext numbered_steps_in c.steps.bound step mid after (Ok b))
    c.if-branch.true c.in_ok-read_numbered_step.ensures.step in
    let moves : MovesStep t (Ok true) (taken s.now step) (is_last_step step) = subst
    (λ (b : Bool). MovesStep t (Ok b) (taken s.now step) (is_last_step step)) c.if-branch-2.true
    (c.in_ok-take_numbered.ensures.moves s.now step
    (numbered_said held c.in_ok-read_numbered_step.ensures.numbered) s.holds) in
    shown_last c.args.variables live before c.steps.bound s.now mid s.goes step after given t moves

pub steps-preserved : goal.steps-preserved
steps-preserved g c = record {
  most = c.widened-bound.ensures.most;
  shown = λ live h.
      let at = feed g.R.Source.left g.R.Source.failed g.R.Source.pulls in
      let before = at c.args.buffer.now c.args.r.now in
      let mid = at c.steps.buffer c.steps.r in
      let after = at c.read_numbered_step.new.buffer c.read_numbered_step.new.r in
      let held = c.read_numbered_step.new.step in
      let step = step_by held in
      let t = c.take_numbered.new.checker.table in
      let variables = c.args.variables in
      let s = c.steps.invariant.shown live h in
      let given : GivesNext numbered_steps_in c.steps.bound step mid after (Ok true) = subst
      (λ (b : Bool). GivesNext numbered_steps_in c.steps.bound step mid after (Ok b))
      c.if-branch.true c.in_ok-read_numbered_step.ensures.step in
      let moves : MovesStep t (Ok false) (taken s.now step) (is_last_step step) = subst
      (λ (b : Bool). MovesStep t (Ok b) (taken s.now step) (is_last_step step)) c.if-branch-2.false
      (c.in_ok-take_numbered.ensures.moves s.now step
      (numbered_said held c.in_ok-read_numbered_step.ensures.numbered) s.holds) in
      let more = shown_more variables live before c.steps.bound s.now mid s.goes step after given t
      moves in
      record {
        now = more.0;
        holds = more.1;
        keeps = λ can. more.2 (s.keeps can);
        goes = subst (λ (n : ℕ). Passes (numbered_shown variables live) (numbered_shown n more.0)
            before after) (sym c.widened-bound.ensures.widened) more.3;
      };
}

pub returns-clause-shown : goal.returns-clause-shown
returns-clause-shown g c live h =
    let at = feed g.R.Source.left g.R.Source.failed g.R.Source.pulls in
    let before = at c.args.buffer.now c.args.r.now in
    let mid = at c.steps.buffer c.steps.r in
    let after = at c.read_numbered_step.new.buffer c.read_numbered_step.new.r in
    let step = step_by c.read_numbered_step.new.step in
    let s = c.steps.invariant.shown live h in
    let given : GivesNext numbered_steps_in c.steps.bound step mid after (Ok false) = subst
    (λ (b : Bool). GivesNext numbered_steps_in c.steps.bound step mid after (Ok b))
    c.if-branch.false c.in_ok-read_numbered_step.ensures.step in
    shown_none c.args.variables live before c.steps.bound s.now mid s.goes step after given

pub returns-then-branch-2-clause-fails : goal.returns-then-branch-2-clause-fails
returns-then-branch-2-clause-fails g c live h = λ can.
    let at = feed g.R.Source.left g.R.Source.failed g.R.Source.pulls in
    let before = at c.args.buffer.now c.args.r.now in
    let mid = at c.steps.buffer c.steps.r in
    let after = at c.read_numbered_step.new.buffer c.read_numbered_step.new.r in
    let held = c.read_numbered_step.new.step in
    let step = step_by held in
    let t = c.take_numbered.new.checker.table in
    let s = c.steps.invariant.shown live h in
    let given : GivesNext numbered_steps_in c.steps.bound step mid after (Ok true) = subst
    (λ (b : Bool). GivesNext numbered_steps_in c.steps.bound step mid after (Ok b))
    c.if-branch.true c.in_ok-read_numbered_step.ensures.step in
    let moves : MovesStep t (Ok true) (taken s.now step) (is_last_step step) = subst
    (λ (b : Bool). MovesStep t (Ok b) (taken s.now step) (is_last_step step)) c.if-branch-2.true
    (c.in_ok-take_numbered.ensures.moves s.now step
    (numbered_said held c.in_ok-read_numbered_step.ensures.numbered) s.holds) in
    shown_fails c.args.variables live before c.steps.bound s.now mid s.goes step after given t moves
    (s.keeps can)
