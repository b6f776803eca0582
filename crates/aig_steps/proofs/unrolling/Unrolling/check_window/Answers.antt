use Rattle.aig_base.proofs.Words.{◌≡◌, ◌+◌, ◌-◌, List, arith, length, on_ok_weaker, subst}
use Rattle.aig_base.specs.declared.logic.literal.Lit.{Lit}
use Rattle.aig_base.specs.Formula.{IsSatisfiable}
use Rattle.aig_refutation.specs.Checking.{Shows}
use Rattle.aig_unroll.specs.Frame.{with_steps}
use Rattle.aig_steps.proofs.Ends.{window_is}
use Rattle.aig_steps.proofs.Kept.{refuted_inductive}
use Rattle.aig_steps.proofs.unrolling.Unrolling.check_window.Goals as goal

pub returns-clause-inductive : goal.returns-clause-inductive
returns-clause-inductive g c =
    let stepped = c.check.ensures.stepped in
    let k = c.args.last - 1 in
    let same : k + 1 ≡ c.args.last = omega (arith, c.requires.first) in
    let formula = window_is c.args.self.now.circuit stepped.circuit k c.args.last
    c.in_ok-clauses.clauses same c.in_ok-clauses.ensures in
    on_ok_weaker c.check.result (λ none. refuted_inductive c.args.self.now stepped c.args.last
    c.requires.last k same (subst (λ (cs : List (List Lit)). ¬ IsSatisfiable cs) formula none))
    c.check.ensures.refuted

pub returns-clause-shown : goal.returns-clause-shown
returns-clause-shown g c =
    let circuit = c.args.self.now.circuit in
    let k = c.args.last - 1 in
    let same : k + 1 ≡ c.args.last = omega (arith, c.requires.first) in
    let formula = window_is circuit c.check.ensures.stepped.circuit k c.args.last
    c.in_ok-clauses.clauses same c.in_ok-clauses.ensures in
    subst (λ (cs : List (List Lit)). Shows (length (with_steps circuit c.args.last).nodes) cs
    (g.R.Source.left c.args.r.now) c.check.result) formula c.check.ensures.shown
