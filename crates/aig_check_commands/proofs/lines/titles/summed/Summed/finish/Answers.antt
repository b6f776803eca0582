use Rattle.std.proofs.Math.Logic.{∥∥₁_map}
use Rattle.aig_check_commands.proofs.line_lemmas.Summing.{known_sum, whole}
use Rattle.aig_check_commands.proofs.lines.titles.summed.Summed.finish.Goals as goal

pub returns : goal.returns
returns g c =
    let s = c.args.self in
    let start = g.B.Origin.bytes in
    let sum = c.finalize.result in
    λ sound end. known_sum start sum
    (∥∥₁_map s.sums (whole start (g.R.Source.left s.source) (g.R.Source.failed s.source) s.hasher
    sum sound end c.finalize.ensures))
