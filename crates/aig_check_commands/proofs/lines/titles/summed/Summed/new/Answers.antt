use Rattle.aig_check_commands.proofs.line_lemmas.Summing.{begun}
use Rattle.aig_check_commands.proofs.lines.titles.summed.Summed.new.Goals as goal

pub invariant_of-result : goal.invariant_of-result
invariant_of-result g c = record {
  sums = ∣ begun g.B.Origin.bytes (g.R.Source.left c.args.source)
      (g.R.Source.failed c.args.source) c.new.result c.requires c.new.ensures ∣₁;
}
