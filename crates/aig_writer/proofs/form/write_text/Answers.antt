use Rattle.aig_writer.proofs.Small.{FitsForm-text}
use Rattle.aig_writer.proofs.form.write_text.Goals as goal

pub write_form-requires : goal.write_form-requires
write_form-requires g c = FitsForm-text c.args.circuit.now c.requires
