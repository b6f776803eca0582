use Rattle.aig_edit_laws.proofs.WrittenLive.{written-rounds}
use Rattle.aig_edit_laws.proofs.fair.written_rounds_circuits_show_rounds.Goals as goal

pub returns : goal.returns
returns c = written-rounds c.written_circuits_have_witnesses.ensures
