use Rattle.aig_edit_laws.proofs.Cones.{cone_shows}
use Rattle.aig_edit_laws.proofs.laws.cones_show_their_output.Goals as goal

pub returns : goal.returns
returns c = cone_shows (record {
  circuit = c.refining_is_circuit.ensures;
  cuts = c.refining_keeps_runs.ensures;
  keeps = c.runs_keep_witnesses.ensures.cut;
})
