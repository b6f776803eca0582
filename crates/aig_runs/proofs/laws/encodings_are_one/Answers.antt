use Rattle.aig_base.proofs.Words.{◌≡◌, sym, ap, ap₂, subst, ◌∙◌, [], ◌++◌, length, replicate}
use Rattle.aig_cnf.specs.Cnf.{HasClauses}
use Rattle.aig_unroll.specs.Frame.{with_steps}
use Rattle.aig_runs.proofs.laws.encodings_are_one.Goals as goal

pub returns : goal.returns
returns c f k optimize circuit unrolled other extra clauses others a b =
    let same : circuit ≡ other = a.of_file ∙ sym b.of_file in
    let steps : unrolled ≡ extra = a.steps.exact ∙ ap (λ d. with_steps d k) same ∙ sym b.steps.exact in
    (same, steps, c.clauses_are_one.ensures extra optimize clauses others (subst (λ u. HasClauses u optimize clauses) steps a.has_clauses) b.has_clauses)
