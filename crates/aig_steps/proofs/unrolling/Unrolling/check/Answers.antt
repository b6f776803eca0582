use Rattle.aig_base.proofs.Words.{◌≡◌, ◌++◌, ◌-◌, List, ℕ, subst, ◌∙◌, arith, length, on_ok_weaker}
use Rattle.aig_base.specs.declared.logic.literal.Lit.{Lit}
use Rattle.aig_base.specs.Formula.{IsSatisfiable}
use Rattle.aig_refutation.specs.Checking.{Shows}
use Rattle.aig_steps.specs.Ends.{first_clauses}
use Rattle.aig_steps.specs.Unrolling.{IsStepped}
use Rattle.aig_unroll.specs.Frame.{with_steps}
use Rattle.aig_steps.proofs.Ends.{checked_is, names_long}
use Rattle.aig_steps.proofs.Kept.{end_is, few_nodes, one_node}
use Rattle.aig_steps.proofs.unrolling.Unrolling.check.Goals as goal

pub variables-requires-clause-some : goal.variables-requires-clause-some
variables-requires-clause-some g c =
    let inside = c.self.inside in
    omega (
      arith,
      c.index.ensures ∙ end_is inside.circuit inside.unrolled inside.ends.items
          c.args.self.now c.self.invariant c.self.view_is c.args.last _ c.requires,
      one_node
          c.args.self.now (subst IsStepped c.self.view_is c.self.invariant.stepped) c.args.last
          c.requires,
    )

pub variables-requires-clause-few : goal.variables-requires-clause-few
variables-requires-clause-few g c =
    let inside = c.self.inside in
    omega (
      arith,
      c.index.ensures ∙ end_is inside.circuit inside.unrolled inside.ends.items
          c.args.self.now c.self.invariant c.self.view_is c.args.last _ c.requires,
      few_nodes
          c.args.self.now (subst IsStepped c.self.view_is c.self.invariant.stepped) c.args.last
          c.requires,
    )

pub returns-clause-refuted : goal.returns-clause-refuted
returns-clause-refuted g c =
    let formula = checked_is c.in_ok-names.names c.args.clauses.now (c.index.result.now - 1)
    c.in_ok-names.ensures in
    on_ok_weaker c.check_refutation.result (subst (λ (cs : List (List Lit)). ¬ IsSatisfiable cs)
    formula) c.check_refutation.ensures.refuted

pub returns-clause-shown : goal.returns-clause-shown
returns-clause-shown g c =
    let inside = c.self.inside in
    let clauses = c.args.clauses.now in
    let formula = checked_is c.in_ok-names.names clauses (c.index.result.now - 1)
    c.in_ok-names.ensures in
    let end = c.index.ensures ∙ end_is inside.circuit inside.unrolled inside.ends.items
    c.args.self.now c.self.invariant c.self.view_is c.args.last _ c.requires in
    let some = one_node c.args.self.now (subst IsStepped c.self.view_is c.self.invariant.stepped)
    c.args.last c.requires in
    let count : length c.in_ok-names.names ≡ length (with_steps c.args.self.now.circuit
    c.args.last).nodes =
    names_long c.in_ok-names.names c.index.result.now
    (omega (arith, end, some)) c.in_ok-names.ensures ∙ end in
    subst (λ (n : ℕ). Shows n (first_clauses 0 ++ clauses)
    (g.R.Source.left c.args.r.now) c.check_refutation.result) count
    (subst (λ (cs : List (List Lit)). Shows (length c.in_ok-names.names) cs (g.R.Source.left
    c.args.r.now) c.check_refutation.result) formula c.check_refutation.ensures.shown)
