use Rattle.aig_runs.proofs.Certificates as lemma
use Rattle.aig_runs.proofs.safety.extended_files_have_runs.Goals as goal

pub returns-clause-forth : goal.returns-clause-forth
returns-clause-forth c = λ g f bound limit last run fits fits_too extends is start. lemma.run_forth g f bound limit fits fits_too extends last run is start

pub returns-clause-back : goal.returns-clause-back
returns-clause-back c = λ g f last run extends is. lemma.run_back g f extends last run is

pub returns-clause-starts : goal.returns-clause-starts
returns-clause-starts c = λ g f run extends start. lemma.start_back g f extends run start
