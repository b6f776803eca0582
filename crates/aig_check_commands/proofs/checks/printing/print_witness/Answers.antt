use Rattle.aig_check_commands.proofs.Words.{refl, subst, err_from_is_err_and, Circuit}
use Rattle.aig_witness.specs.Shown.{IsKnownWitness}
use Rattle.aig_check_commands.proofs.check_lemmas.Outcomes.{query_refused, read_again, solution_ends}
use Rattle.aig_check_commands.proofs.checks.printing.print_witness.Goals as goal

pub print_solution-requires-clause-steps : goal.print_solution-requires-clause-steps
print_solution-requires-clause-steps g c = c.in_ok-asked.ensures.answer.means.0.steps

pub returns-in_err-asked : goal.returns-in_err-asked
returns-in_err-asked g c =
    let p = err_from_is_err_and c.from_residual.result c.from_residual.ensures.1 in
    let told = c.in_err-asked.ensures in
    let e = c.in_err-asked.field-0.0 in
    rw (p.1, p.2) (query_refused e told.verdict told.own told.own refl refl)

pub returns : goal.returns
returns g c =
    let read = c.in_ok-asked.ensures in
    let q = c.in_ok-asked.asked in
    let told = c.print_solution.ensures in
    solution_ends c.print_solution.result q.encoded c.args.k read.verdict
    (λ text is. read_again read.answer (λ bytes f holds asks.
    let known = subst (λ (d : Circuit). IsKnownWitness d is.witness) asks.0.of_file is.known in
    record {
      witness = is.witness;
      steps = is.steps;
      shows = c.known_witnesses_show.ensures f c.args.limit is.witness holds.0.0.1 known;
      exact = is.exact;
      query = q;
      asks = asks;
      said = is.said;
    })) told (λ e. tt)
    (λ e refuses. read_again read.answer (λ bytes f holds asks. record {
      query = q;
      asks = asks;
      refusal = refuses;
    }))
