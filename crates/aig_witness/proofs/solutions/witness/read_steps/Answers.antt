use Rattle.std.proofs.Common.{◌≡◌, ◌+◌, ◌∙◌, arith}
use Rattle.aig_witness.specs.Solutions.{inputs_in}
use Rattle.aig_witness.proofs.Steps.{rows_more}
use Rattle.aig_witness.proofs.solutions.witness.read_steps.Goals as goal

pub loop-t-preserved : goal.loop-t-preserved
loop-t-preserved c =
    rows_more (inputs_in c.args.circuit.now c.args.unrolled.now c.args.values.now) c.loop-t.t c.loop-t.steps.items c.push.new.self.items c.in_ok-read_inputs.field-0 c.loop-t.invariant c.in_ok-push.ensures.items c.in_ok-read_inputs.ensures

pub returns : goal.returns
returns c =
    let rows = c.loop-t.invariant in
    let end : c.loop-t.t ≡ c.args.k + 1 = omega (arith, c.loop-t-test.false) in
    record { count = rows.count ∙ end; each = λ t low. rows.each t (omega arith) }
