use Rattle.aig_base.proofs.Words.{◌<◌, ℕ, sym, ap, subst, ◌∙◌, All}
use Rattle.std.specs.List.{Contains}
use Rattle.aig_base.specs.Clauses.{variable_of}
use Rattle.aig_refutation.proofs.Following.{below_either, kept_literals}
use Rattle.aig_refutation.proofs.checker.Checker.put.Goals as goal

pub invariant_of-self-2 : goal.invariant_of-self-2
invariant_of-self-2 c =
    let inside = c.self.inside in
    let clause = c.args.clause.now in
    let kept = c.deref.result.now in
    let from : All (Contains clause) kept = rw c.deref.ensures.value
    c.in_ok-keep_once.ensures.from in
    let within : All (λ lit. variable_of lit < inside.variables) clause =
    subst (λ (n : ℕ). All (λ lit. variable_of lit < n) clause)
    (sym (ap (λ v. v.variables) c.self.view_is)) c.requires.inside in
    let below = kept_literals (λ lit. variable_of lit < inside.variables) clause kept within from in (
      c.keep_once.ensures.length ∙ c.self.invariant.0,
      below_either c.add.result inside.variables inside.numbered.clauses c.add.new.self.clauses
          kept c.add.ensures.ok c.add.ensures.err c.self.invariant.1 below,
    )
