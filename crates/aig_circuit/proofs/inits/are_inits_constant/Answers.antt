use Rattle.aig_circuit.proofs.InitialEdges.{all_plain}
use Rattle.aig_circuit.proofs.inits.are_inits_constant.Goals as goal

pub returns-clause-plain : goal.returns-clause-plain
returns-clause-plain c = all_plain c.args.latchs.now c.has_non_constant_init.result c.has_non_constant_init.ensures
