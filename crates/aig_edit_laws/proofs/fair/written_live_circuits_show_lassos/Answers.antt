use Rattle.aig_edit_laws.proofs.WrittenLive.{written-live}
use Rattle.aig_edit_laws.proofs.fair.written_live_circuits_show_lassos.Goals as goal

pub returns : goal.returns
returns c = written-live c.written_circuits_have_witnesses.ensures
