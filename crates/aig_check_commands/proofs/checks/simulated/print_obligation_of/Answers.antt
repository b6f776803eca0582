use Rattle.aig_check_commands.proofs.Words.{refl, ap, sym, subst, ◌∙◌, err_from_is_err_and, lists_circuit, source_of, summed_text, IsSum}
use Rattle.aig_check_commands.specs.declared.error.CheckError.TheVariants as errors
use Rattle.aig_check_commands.proofs.check_lemmas.Outcomes.{error_printed, printed_on}
use Rattle.aig_check_commands.proofs.check_lemmas.Simulating.{claim_answered, claim_refused, model_fits, reads_under, sum_refused}
use Rattle.aig_check_commands.proofs.checks.simulated.print_obligation_of.Goals as goal

pub returns-in_err-claim : goal.returns-in_err-claim
returns-in_err-claim g c =
    let p = err_from_is_err_and c.from_residual.result c.from_residual.ensures.1 in
    let a = c.args in
    let e = c.in_err-claim.field-0.0 in
    let reads = reads_under g.R.Source.left g.R.Source.failed g.S.Source.left g.S.Source.failed
    source_of source_of c.in_err-claim.ensures.reads in
    rw (sym c.new-first.ensures, sym c.new-second.ensures, p.1, p.2) (
      c.read_simulation.new.file.source,
      c.read_simulation.new.witness.source,
      error_printed (errors.Simulation e) (claim_refused g.R.Source.left g.R.Source.failed
          g.S.Source.left g.S.Source.failed a.limit a.own a.condition a.optimize _ _ _ _ e reads) refl,
    )

pub model_sum-requires-clause-circuit : goal.model_sum-requires-clause-circuit
model_sum-requires-clause-circuit g c = c.in_ok-claim.ensures.claim.model

pub model_sum-requires-clause-small : goal.model_sum-requires-clause-small
model_sum-requires-clause-small g c = λ made.
    let f = c.in_ok-claim.ensures.reads.answer refl refl in
    model_fits c.args.own f.file f.means.file c.in_ok-claim.claim f.means.means made

pub returns-in-Ok : goal.returns-in-Ok
returns-in-Ok g c =
    let a = c.args in
    let claim = c.in_ok-claim.claim in
    let reads = reads_under g.R.Source.left g.R.Source.failed g.S.Source.left g.S.Source.failed
    source_of source_of c.in_ok-claim.ensures.reads in
    let read = reads.verdict.whole tt in
    let whole = reads.whole refl refl in
    let start = ap g.R.Source.left c.new-first.ensures ∙ c.requires.origin in
    let start_beside = ap g.S.Source.left c.new-second.ensures ∙ c.requires.beside in
    let sums = subst (λ bytes. IsSum (summed_text a.own bytes (lists_circuit claim.model)) c.in-Ok.sum)
    (sym start) (c.in-Ok.ensures read.0 read.1) in
    let sums_beside = subst (λ bytes. IsSum bytes c.finish-beside.result) (sym start_beside)
    (c.finish-beside.ensures whole.0 whole.1) in
    rw (sym c.new-first.ensures, sym c.new-second.ensures) (
      c.read_simulation.new.file.source,
      c.read_simulation.new.witness.source,
      printed_on (claim_answered g.R.Source.left g.R.Source.failed g.S.Source.left
          g.S.Source.failed a.limit a.own a.condition a.optimize _ _ _ _ claim reads c.in-Ok.sum
          c.finish-beside.result sums sums_beside) (λ x ends. ends) c.print_claim.ensures,
    )

pub returns-in-Err : goal.returns-in-Err
returns-in-Err g c =
    let a = c.args in
    let claim = c.in_ok-claim.claim in
    let reads = reads_under g.R.Source.left g.R.Source.failed g.S.Source.left g.S.Source.failed
    source_of source_of c.in_ok-claim.ensures.reads in
    rw (sym c.new-first.ensures, sym c.new-second.ensures, c.from.ensures) (
      c.read_simulation.new.file.source,
      c.read_simulation.new.witness.source,
      error_printed _ (sum_refused g.R.Source.left g.R.Source.failed g.S.Source.left
          g.S.Source.failed a.limit a.own a.condition a.optimize _ _ _ _ claim reads) refl,
    )
