use Rattle.std.proofs.Common.{rules}
use Rattle.std.proofs.Output.{writes_in_calls_nil}
use Rattle.aig_output.proofs.Writing.{all_done, calls_laws, failed_turn, then_turn}
use Rattle.aig_writer.specs.Numbering.{written_number}
use Rattle.aig_writer.proofs.Items.{input_line, numbered_inputs}
use Rattle.aig_writer.proofs.Small.{input_small}
use Rattle.aig_writer.proofs.sections.write_inputs.Goals as goal

pub loop-n-init : goal.loop-n-init
loop-n-init g c = writes_in_calls_nil _ _

pub node_literal-requires : goal.node_literal-requires
node_literal-requires g c =
    input_small c.args.circuit.now c.inputs-n-items.ensures.circuit c.args.numbers.now c.requires c.inputs-n-items.result.now c.loop-n.n-index c.inputs-n-items.ensures.value c.loop-n-test.true

pub returns-in_err-write_line : goal.returns-in_err-write_line
returns-in_err-write_line g c =
    rw (c.in-Text.is, ← c.inputs-n-items.ensures.value, numbered_inputs (written_number c.args.numbers.now) c.inputs-n-items.result.now)
    (failed_turn calls_laws {c = c.write_line.new.out} (λ n. input_line (written_number c.args.numbers.now n)) c.inputs-n-items.result.now c.loop-n.n-index _ c.loop-n-test.true c.loop-n.invariant (rw c.node_literal.ensures at c.in_err-write_line.ensures) (search rules))

pub loop-n-preserved : goal.loop-n-preserved
loop-n-preserved g c =
    then_turn (λ n. input_line (written_number c.args.numbers.now n)) c.inputs-n-items.result.now c.loop-n.n-index _ c.loop-n-test.true c.loop-n.invariant (rw c.node_literal.ensures at c.in_ok-write_line.ensures.ok)

pub returns : goal.returns
returns g c =
    rw (c.in-Text.is, ← c.inputs-n-items.ensures.value, numbered_inputs (written_number c.args.numbers.now) c.inputs-n-items.result.now)
    (all_done (λ n. input_line (written_number c.args.numbers.now n)) c.inputs-n-items.result.now c.loop-n.n-index c.loop-n-test.false c.loop-n.invariant)
