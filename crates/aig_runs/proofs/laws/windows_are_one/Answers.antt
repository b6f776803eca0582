use Rattle.aig_base.proofs.Words.{◌≡◌, sym, ap, ap₂, subst, ◌∙◌, [], ◌++◌, length, replicate}
use Rattle.aig_cnf.specs.Cnf.{HasClauses}
use Rattle.aig_runs.specs.WindowClauses.{count_free, window_clauses}
use Rattle.aig_runs.proofs.laws.windows_are_one.Goals as goal

pub returns : goal.returns
returns c form circuit k optimize lists others extra more a b =
    let steps : a.unrolled ≡ b.unrolled = a.steps.exact ∙ sym b.steps.exact in
    let clauses : a.clauses ≡ b.clauses = c.clauses_are_one.ensures b.unrolled optimize a.clauses b.clauses (subst (λ u. HasClauses u optimize a.clauses) steps a.has_clauses) b.has_clauses in (
      a.exact ∙ ap (λ ls. ls ++ replicate (count_free form circuit k) []) clauses ∙ sym b.exact,
      a.further_exact ∙ ap₂ (λ ls u. window_clauses form (length ls) circuit k u) clauses steps ∙ sym b.further_exact,
    )
