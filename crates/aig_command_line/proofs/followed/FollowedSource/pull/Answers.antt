use Rattle.aig_base.proofs.Words.{Consumes, false≢true, subst, sym}
use Rattle.aig_command_line.proofs.Following.{follows_with}
use Rattle.aig_command_line.proofs.followed.FollowedSource.pull.Goals as goal

pub invariant_of-self-2 : goal.invariant_of-self-2
invariant_of-self-2 g c =
    let s = c.args.self.now in
    let left = g.R.Source.left in
    let failed = g.R.Source.failed in
    let came = subst (Consumes (left s.source) (left c.pull_piece.new.r)) (sym c.set.ensures)
    c.in_ok-count.ensures.moved in
    record {
      came = follows_with g.B.Origin.bytes (left s.source) (left c.pull_piece.new.r) (failed s.source)
          (failed c.pull_piece.new.r) s.before c.with_last-self.result s.piece c.set.new.self s.came
          (rw c.bytes.ensures.value at c.with_last-self.ensures)
          (λ lost. false≢true (c.in_ok-count.ensures.for_good lost))
          c.in_ok-count.ensures.tells came;
    }
