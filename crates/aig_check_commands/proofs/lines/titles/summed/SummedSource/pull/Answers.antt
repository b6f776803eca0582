use Rattle.std.proofs.Common.{take}
use Rattle.aig_check_commands.proofs.Words.{false_from_ne_true, false≢true, ∥∥₁_map}
use Rattle.aig_check_commands.proofs.line_lemmas.Summing.{failing, more}
use Rattle.aig_check_commands.proofs.lines.titles.summed.SummedSource.pull.Goals as goal

pub invariant_of-self : goal.invariant_of-self
invariant_of-self g c =
    let s = c.args.self.now in
    let left = g.R.Source.left in
    let failed = g.R.Source.failed in
    record {
      sums = ∥∥₁_map s.sums (failing g.B.Origin.bytes (left s.source) (left c.pull.new.self)
          (failed s.source) (failed c.pull.new.self) s.hasher c.in_err-count.ensures.tells);
    }

pub invariant_of-self-2 : goal.invariant_of-self-2
invariant_of-self-2 g c =
    let s = c.args.self.now in
    let left = g.R.Source.left in
    let failed = g.R.Source.failed in
    let piece = take c.in_ok-count.count c.pull.new.buf in
    let sound = false_from_ne_true (failed s.source)
    (λ lost. false≢true (c.in_ok-count.ensures.for_good lost)) in
    record {
      sums = ∥∥₁_map s.sums (more g.B.Origin.bytes (left s.source) (left c.pull.new.self)
          (failed s.source) (failed c.pull.new.self) s.hasher c.update.new.self piece
          c.update.ensures sound c.in_ok-count.ensures.moved);
    }
