use Rattle.aig_command_line.proofs.Fronts.{kept}
use Rattle.std.proofs.Common.{rules}
use Rattle.aig_command_line.proofs.beginning.Beginning.with.Goals as goal

pub returns : goal.returns
returns c =
    let b = c.args.self in
    rw c.copy_from_slice.ensures.after
    (kept b.bytes c.args.piece.now _ b.len _ (search rules) b.few c.front-piece.ensures.exact)
