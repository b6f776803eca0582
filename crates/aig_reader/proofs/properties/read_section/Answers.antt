use Rattle.aig_reader.specs.Faults.{error_in}
use Rattle.aig_reader.proofs.Body.{in_section, makes_in}
use Rattle.aig_reader.proofs.properties.read_section.Goals as goal

pub returns : goal.returns
returns g c = makes_in (error_in c.args.section) (in_section c.args.section) _ _ _ _ c.read_edges-lines.result c.result_of.result c.result_of.ensures c.read_edges-lines.ensures
