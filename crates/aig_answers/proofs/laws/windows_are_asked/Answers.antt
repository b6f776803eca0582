use Rattle.aig_answers.proofs.BadWindows as lemma
use Rattle.aig_answers.proofs.laws.windows_are_asked.Goals as goal

pub returns-clause-asked : goal.returns-clause-asked
returns-clause-asked c = lemma.windows_asked c.refuted_windows_are_inductive.ensures

pub returns-clause-bad : goal.returns-clause-bad
returns-clause-bad c = lemma.bad_is
