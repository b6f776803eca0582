use Rattle.std.proofs.Common.{rules}
use Rattle.aig_edits.proofs.joining.miter_of.Goals as goal

pub returns-in_err-miter_by : goal.returns-in_err-miter_by
returns-in_err-miter_by c =
    let fits = c.miter_misfit.ensures c.args.comparison in
    search rules
