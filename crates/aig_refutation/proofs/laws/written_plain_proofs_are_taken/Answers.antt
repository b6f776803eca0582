use Rattle.std.proofs.Common.{map}
use Rattle.aig_refutation.specs.declared.error.RefutationError.TheVariants as errors
use Rattle.aig_refutation.specs.Written.{as_read, binary_text, plain_text}
use Rattle.aig_refutation.proofs.Turned.{plain_not_refused, refute_turned}
use Rattle.aig_refutation.proofs.WrittenBinary.{binary_read}
use Rattle.aig_refutation.proofs.WrittenPlain.{plain_steps_in-written}
use Rattle.aig_refutation.proofs.laws.written_plain_proofs_are_taken.Goals as goal

pub returns-clause-text : goal.returns-clause-text
returns-clause-text c variables clauses steps e are fits refutes =
    let read = plain_steps_in-written variables steps are in
    plain_not_refused variables clauses (plain_text steps) (record { steps = map as_read steps; fault = errors.Unfinished }) fits read.0 read.1 (refute_turned clauses steps refutes) e

pub returns-clause-binary : goal.returns-clause-binary
returns-clause-binary c variables clauses steps e are small told fits refutes =
    let read = binary_read variables steps are small told in
    plain_not_refused variables clauses (binary_text steps) (record { steps = steps; fault = errors.Unfinished }) fits read.0 read.1 refutes e
