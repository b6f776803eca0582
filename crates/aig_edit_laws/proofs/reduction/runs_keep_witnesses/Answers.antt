use Rattle.aig_edit_laws.proofs.Dropped.{asked_witnesses}
use Rattle.aig_edit_laws.proofs.Witnesses.{both_witnesses, cut_witnesses, renumbered_witnesses}
use Rattle.aig_edit_laws.proofs.reduction.runs_keep_witnesses.Goals as goal

pub returns-clause-renumbered : goal.returns-clause-renumbered
returns-clause-renumbered c = renumbered_witnesses

pub returns-clause-cut : goal.returns-clause-cut
returns-clause-cut c = cut_witnesses

pub returns-clause-others : goal.returns-clause-others
returns-clause-others c circuit cone is is_cone = asked_witnesses circuit is cone is_cone

pub returns-clause-both : goal.returns-clause-both
returns-clause-both c = both_witnesses
