use Rattle.aig_base.proofs.Words.{◌≡◌, List, [], ℕ, ap, false≢true, subst, ◌∙◌}
use Rattle.aig_answers.specs.Answers.{IsAsked}
use Rattle.aig_answers.specs.declared.goals.error.GoalFault.TheVariants as faults
use Rattle.aig_answers.specs.declared.plans.errors.PlanError.TheVariants as plans
use Rattle.aig_format.specs.File.{File}
use Rattle.aig_format.specs.Fits.{Accepts}
use Rattle.aig_callers.proofs.Asking.{nothing_asked, refused_asked, taken_asked}
use Rattle.aig_callers.proofs.shown.is_shown_safe.Goals as goal

pub returns-in-Ok-clause-asked : goal.returns-in-Ok-clause-asked
returns-in-Ok-clause-asked c = λ ok.
    subst (λ (b : List ℕ). (f : File) × IsAsked 16777216 c.args.k b f) c.new.ensures
    (taken_asked _ _ _ 16777216 c.args.k c.new.result _ _ _ c.in-Ok.ensures.checks)

pub returns-in-Plan-Refused-Refutation-clause-asked :
    goal.returns-in-Plan-Refused-Refutation-clause-asked
returns-in-Plan-Refused-Refutation-clause-asked c = λ ok.
    let refused = c.in-Plan-Refused-Refutation in
    let same = refused.is ∙ ap faults.Plan (rw refused.is at refused.field-0-is) in
    subst (λ (b : List ℕ). (f : File) × IsAsked 16777216 c.args.k b f) c.new.ensures
    (refused_asked _ _ _ 16777216 c.args.k c.new.result _ _ _ _ _ same c.in-Err.ensures.checks)

pub returns-in_default-2 : goal.returns-in_default-2
returns-in_default-2 c = record {
  safe = tt;
  asked = λ no. absurd (false≢true no);
  nothing = λ is.
      let same : c.in-Err.error.fault ≡ faults.Plan plans.NoBads = cc in
      subst (λ (b : List ℕ). (f : File) × Accepts b 16777216 f × (f.properties.bads ≡ []))
      c.new.ensures
      (nothing_asked _ _ _ 16777216 c.args.k c.new.result _ _ _ _ same c.in-Err.ensures.checks);
}
