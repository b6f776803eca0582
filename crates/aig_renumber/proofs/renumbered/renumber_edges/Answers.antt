use Rattle.aig_base.proofs.Words.{arith, common_steps, map_over_more}
use Rattle.aig_circuit.specs.Renumber.{renumbered_edge}
use Rattle.aig_renumber.proofs.renumbered.renumber_edges.Goals as goal

pub loop-e-preserved : goal.loop-e-preserved
loop-e-preserved g c = grind (arith, common_steps, map_over_more (renumbered_edge (g.N.Numbering.number_of c.args.numbers.now)))
