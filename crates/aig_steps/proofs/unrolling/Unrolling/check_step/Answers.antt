use Rattle.aig_base.proofs.Words.{List, length, on_ok_weaker, subst}
use Rattle.aig_base.specs.declared.logic.literal.Lit.{Lit}
use Rattle.aig_base.specs.Formula.{IsSatisfiable}
use Rattle.aig_refutation.specs.Checking.{Shows}
use Rattle.aig_unroll.specs.Frame.{with_steps}
use Rattle.aig_steps.proofs.Ends.{query_is}
use Rattle.aig_steps.proofs.Kept.{refuted_safe}
use Rattle.aig_steps.proofs.unrolling.Unrolling.check_step.Goals as goal

pub returns-clause-safe : goal.returns-clause-safe
returns-clause-safe g c =
    let stepped = c.check.ensures.stepped in
    let formula = query_is c.args.self.now.circuit stepped.circuit c.args.step
    c.in_ok-clauses.clauses c.in_ok-clauses.ensures in
    on_ok_weaker c.check.result (λ none. refuted_safe c.args.self.now stepped c.args.step c.requires
    (subst (λ (cs : List (List Lit)). ¬ IsSatisfiable cs) formula none)) c.check.ensures.refuted

pub returns-clause-shown : goal.returns-clause-shown
returns-clause-shown g c =
    let circuit = c.args.self.now.circuit in
    let formula = query_is circuit c.check.ensures.stepped.circuit c.args.step
    c.in_ok-clauses.clauses c.in_ok-clauses.ensures in
    subst (λ (cs : List (List Lit)). Shows (length (with_steps circuit c.args.step).nodes) cs
    (g.R.Source.left c.args.r.now) c.check.result) formula c.check.ensures.shown
