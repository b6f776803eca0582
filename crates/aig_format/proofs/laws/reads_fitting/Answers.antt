use Rattle.aig_format.proofs.FittingFiles.{fitting_sound, fitting_complete}
use Rattle.aig_format.proofs.laws.reads_fitting.Goals as goal

pub returns-clause-sound : goal.returns-clause-sound
returns-clause-sound c = fitting_sound

pub returns-clause-complete : goal.returns-clause-complete
returns-clause-complete c = fitting_complete
