use Rattle.aig_format_laws.proofs.Joining.{back_run, forth_run, forth_values, leaves_of, literal_is}
use Rattle.aig_format_laws.proofs.Starts.{starts_agree}
use Rattle.aig_format_laws.proofs.reading.joins_runs.Goals as goal

pub returns-clause-forth : goal.returns-clause-forth
returns-clause-forth c = λ f limit last run fits r. (leaves_of f run, forth_run f limit last run fits r, forth_values f limit last run fits r)

pub returns-clause-back : goal.returns-clause-back
returns-clause-back c = λ f limit last x fits r. back_run f limit last x fits r

pub returns-clause-starts : goal.returns-clause-starts
returns-clause-starts c = starts_agree

pub returns-clause-literals : goal.returns-clause-literals
returns-clause-literals c = literal_is
