use Rattle.aig_writer.proofs.Small.{FitsForm-binary}
use Rattle.aig_writer.proofs.form.write_binary.Goals as goal

pub write_form-requires : goal.write_form-requires
write_form-requires g c = FitsForm-binary c.args.circuit.now c.args.numbers.now c.requires.closed c.requires.few c.requires.numbers
