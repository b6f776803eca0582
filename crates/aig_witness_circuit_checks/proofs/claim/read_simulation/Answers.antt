use Rattle.aig_witness_circuit_checks.proofs.Words.{err_from_is_err_and, refl, sym, subst, lists_circuit, node_told, Claims, IsOfClaim, MakesClaim, file_error, refusal_of, AcceptsWithResets, SaysWhy}
use Rattle.aig_circuit.proofs.Words.{IsCircuit}
use Rattle.aig_reader.proofs.ResetCircuits.{IsCircuit-with_resets}
use Rattle.aig_witness_circuit_checks.specs.declared.error.SimulationError.TheVariants as errors
use Rattle.aig_witness_circuit_checks.proofs.Claiming.{claim_said, of_model}
use Rattle.aig_witness_circuit_checks.proofs.Reading.{both_taken, file_alone, witness_refused}
use Rattle.aig_witness_circuit_checks.proofs.claim.read_simulation.Goals as goal

pub returns-in_err-model-clause-reads : goal.returns-in_err-model-clause-reads
returns-in_err-model-clause-reads g c =
    let p = err_from_is_err_and c.from_residual.result c.from_residual.ensures.1 in
    let e = c.in_err-model.field-0.0 in
    rw (p.1, p.2) (file_alone g.R.Source.left g.R.Source.failed g.S.Source.left g.S.Source.failed
    c.args.limit c.args.own c.args.file.now c.args.witness.now _ c.args.witness.now
    (Claims c.args.own)
    file_error refusal_of IsOfClaim (errors.File e) e refl refl c.in_err-model.ensures.reads
    c.in_err-model.ensures.reads.own)

pub claim_of-requires-clause-witness : goal.claim_of-requires-clause-witness
claim_of-requires-clause-witness g c =
    let read = c.in-Ok.ensures.circuit in
    subst IsCircuit (sym read.means) (IsCircuit-with_resets read.file c.args.limit read.holds.1)

pub returns-in-Err-clause-reads : goal.returns-in-Err-clause-reads
returns-in-Err-clause-reads g c =
    let e = c.in-Err.error in
    let why = c.in-Err.ensures.refusal in
    witness_refused g.R.Source.left g.R.Source.failed g.S.Source.left g.S.Source.failed c.args.limit
    c.args.own c.args.file.now c.args.witness.now _ _ c.in_ok-model.model (Claims c.args.own)
    file_error refusal_of IsOfClaim (errors.Witness e) e refl refl c.in_ok-model.ensures.reads
    why (λ is. subst (SaysWhy (AcceptsWithResets c.args.limit) c.args.limit
    (g.S.Source.left c.args.witness.now) _) is why)

pub returns-clause-reads : goal.returns-clause-reads
returns-clause-reads g c =
    let own = c.in_ok-model.ensures.reads in
    let other = c.in-Ok.ensures in
    let node = node_told c.in_ok-model.model.variables in
    let model = lists_circuit c.in_ok-model.model.lists in
    let witness = lists_circuit c.in-Ok.witness in
    let made = c.claim_of.result in
    let told = c.claim_of.ensures.makes in
    let said = claim_said node model witness made told in
    both_taken g.R.Source.left g.R.Source.failed g.S.Source.left g.S.Source.failed c.args.limit
    c.args.own c.args.file.now c.args.witness.now _ _ c.in_ok-model.model c.in-Ok.witness
    (Claims c.args.own) file_error refusal_of IsOfClaim made own other.whole other.circuit said.0
    said.1 said.2
    (λ f h is also. of_model (λ n m w. MakesClaim n m w made) c.args.own f h node model witness is.0
    is.1 also told)
