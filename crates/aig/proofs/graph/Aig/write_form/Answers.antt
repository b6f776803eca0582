-- The form that was asked for is written.
use Rattle.std.proofs.Common.{subst}
use Rattle.aig_circuit.specs.Circuit.{Circuit}
use Rattle.aig_format.specs.Circuit.{binary_of}
use Rattle.aig_output.specs.Sinks.{WritesOrStops}
use Rattle.aig.proofs.graph.Aig.write_form.Goals as goal

pub returns-else-ascii : goal.returns-else-ascii
returns-else-ascii g c =
    rw c.if-ascii.false
    (subst (λ (v : Circuit). WritesOrStops g.W.Sink.held g.W.Sink.failed c.args.w.now c.write_binary.result (binary_of v) c.write_binary.new.w) c.view-else-ascii.ensures.value c.write_binary.ensures)
