use Rattle.aig_witness_circuit_checks.proofs.Words.{ℕ, Err, List, Option, err_from_is_err_and, refl, Condition, Certifies, IsOwn, file_error, proof_for, proofs_of, refusal_of}
use Rattle.aig_witness_circuit_checks.proofs.Reading.{reads_on}
use Rattle.aig_witness_circuit_checks.proofs.Telling.{Known, certifies, check_said, not_certified, own_of_claim}
use Rattle.aig_witness_circuit_checks.proofs.checking.check_simulated.Goals as goal

pub returns-in_err-claim-clause-reads : goal.returns-in_err-claim-clause-reads
returns-in_err-claim-clause-reads g c =
    let p = err_from_is_err_and c.from_residual.result c.from_residual.ensures.1 in
    let e = c.in_err-claim.field-0.0 in
    let told = c.in_err-claim.ensures.reads in
    let limit = c.args.limit in
    let optimize = c.args.optimize in
    let own = c.args.own in
    let proofs = proofs_of c.args.reset.now c.args.transition.now c.args.property.now
    c.args.base.now c.args.step.now in
    let texts : Condition → Option (List ℕ) =
    λ condition. g.P.Source.left (proof_for proofs condition) in
    rw (p.1, p.2) (reads_on g.R.Source.left g.R.Source.failed g.S.Source.left g.S.Source.failed
    limit own c.args.file.now c.args.witness.now _ _ (Certifies limit optimize texts own) file_error
    refusal_of IsOwn (Err e) told refl refl (own_of_claim e told.errors)
    (λ f h bytes others is also none. not_certified limit optimize texts own f h e none))

pub returns-clause-reads : goal.returns-clause-reads
returns-clause-reads g c =
    let limit = c.args.limit in
    let optimize = c.args.optimize in
    let own = c.args.own in
    let left = g.P.Source.left in
    let proofs = proofs_of c.args.reset.now c.args.transition.now c.args.property.now
    c.args.base.now c.args.step.now in
    let claim = c.in_ok-claim.claim in
    let made = c.check_claim.result in
    let told = c.check_claim.ensures.checks in
    let said = check_said limit optimize left proofs claim made told in
    let known : Known = record {
      certified = c.certified_models_are_safe.ensures.safe;
      always = c.safe_subjects_show.ensures.always;
    } in
    reads_on g.R.Source.left g.R.Source.failed g.S.Source.left g.S.Source.failed limit own
    c.args.file.now c.args.witness.now _ _
    (Certifies limit optimize (λ condition. left (proof_for proofs condition)) own) file_error
    refusal_of IsOwn made c.in_ok-claim.ensures.reads said.0 said.1 said.2
    (λ f h bytes others is also claims.
    certifies known limit c.requires.few optimize left proofs own
    f h bytes claim is c.in_ok-claim.ensures.claim claims made told)
