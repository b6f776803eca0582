use Rattle.aig_output.proofs.Printing.{WritesStyledOnOk-from_pieces}
use Rattle.aig_writer.proofs.Small.{FitsForm-text}
use Rattle.aig_writer.proofs.display.fmt_text.Goals as goal

pub write_sections-requires : goal.write_sections-requires
write_sections-requires g c = FitsForm-text c.args.circuit.now c.requires

pub returns : goal.returns
returns g c = WritesStyledOnOk-from_pieces _ c.write_sections.ensures.ok
