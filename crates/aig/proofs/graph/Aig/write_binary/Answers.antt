-- What was written is the binary form of a circuit that has a written form, which is read again.
use Rattle.std.proofs.Common.{subst}
use Rattle.aig_circuit.proofs.Words.{Circuit, new_number}
use Rattle.aig_format.specs.Circuit.{binary_of}
use Rattle.aig_output.specs.Sinks.{AppendsBeginning}
use Rattle.aig_format_laws.proofs.Reencoded.{binary_is_read_again}
use Rattle.aig.proofs.Texts.{AreTexts-renumbered}
use Rattle.aig.proofs.graph.Aig.write_binary.Goals as goal

pub returns-in_err-write_binary-clause-stream : goal.returns-in_err-write_binary-clause-stream
returns-in_err-write_binary-clause-stream g c = λ _.
    let told = c.in_err-write_binary.ensures.err in
    (subst (λ (v : Circuit). AppendsBeginning (g.W.Sink.held c.args.w.now) (g.W.Sink.held c.write_binary.new.w) (binary_of v)) c.view-circuit.ensures.value told.beginning, told.has_failed)

pub returns-clause-again : goal.returns-clause-again
returns-clause-again g c =
    let circuit = c.args.self.now in
    binary_is_read_again circuit c.view-circuit.ensures.circuit c.in_ok-check_writable.ensures.tells (AreTexts-renumbered (new_number circuit) circuit.names c.view-circuit.ensures.texts)
