use Rattle.aig_base.proofs.Words.{sym, subst, err_from_is_err_and}
use Rattle.aig_circuit.specs.Circuit.{IsCircuit}
use Rattle.aig_format.proofs.Circuits.{IsCircuit-of_file}
use Rattle.aig_reader.specs.Verdicts as reading
use Rattle.aig_reader.specs.Verdicts.{Accepted}
use Rattle.aig_reader.proofs.Verdicts.{of_no_file, refused_again}
use Rattle.aig_encode.specs.Encoding.{encoded_verdict}
use Rattle.aig_tool_commands.proofs.Unrolling.{answered, judged, never_read}
use Rattle.aig_tool_commands.proofs.clauses.read_unrolled.Goals as goal

pub returns-in_err-lists-clause-verdict : goal.returns-in_err-lists-clause-verdict
returns-in_err-lists-clause-verdict g c =
    let p = err_from_is_err_and c.from_residual.result c.from_residual.ensures.1 in
    let e = c.in_err-lists.field-0.0 in
    rw (p.1, p.2) (refused_again (λ f. Accepted) (encoded_verdict c.args.limit c.args.k)
    c.args.limit _ _ _ (reading.verdict_of e) (of_no_file e) (λ f. tt)
    c.in_err-lists.ensures.verdict)

pub add_steps_within-requires : goal.add_steps_within-requires
add_steps_within-requires g c =
    let read = c.in_ok-lists.ensures.circuit in
    subst IsCircuit (sym read.means) (IsCircuit-of_file read.file c.args.limit read.holds.1)

pub returns-clause-answer : goal.returns-clause-answer
returns-clause-answer g c =
    answered c.in_ok-lists.lists c.args.limit c.args.k _ _ c.in_ok-lists.ensures.circuit
    c.add_steps_within.result c.add_steps_within.ensures

pub returns-clause-verdict : goal.returns-clause-verdict
returns-clause-verdict g c =
    judged c.in_ok-lists.lists c.args.limit c.args.k _ _ c.in_ok-lists.ensures.circuit _
    c.add_steps_within.result c.in_ok-lists.ensures.verdict c.add_steps_within.ensures

pub returns-clause-never_open : goal.returns-clause-never_open
returns-clause-never_open g c = never_read c.in_ok-lists.lists c.args.limit c.args.k
    c.add_steps_within.result c.add_steps_within.ensures
