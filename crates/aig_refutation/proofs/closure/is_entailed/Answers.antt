use Rattle.std.proofs.Common.{sym, ◌∙◌}
use Rattle.aig_refutation.proofs.Tautologies.{tautology_is_true}
use Rattle.aig_refutation.proofs.closure.is_entailed.Goals as goal

pub returns-else-refutes_inverses-clause-implied :
    goal.returns-else-refutes_inverses-clause-implied
returns-else-refutes_inverses-clause-implied c always v holds =
    tautology_is_true v c.args.clause.now (sym c.is_tautology.ensures.always ∙ always)
